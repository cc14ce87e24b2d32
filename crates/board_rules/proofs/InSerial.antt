-- What is ahead of what in the serial order: by version, and within a version by the last closing act.
use Rattle.std.proofs.Common.{◌≡◌, ◌⊎◌, inl, inr, ℕ, zero, suc, ◌<◌, ◌≤◌, ◌&&◌, Bool, true, false, List, ◌++◌, refl, ap, sym, ◌∙◌, arith, Option, Some, None, take, drop, take-append-drop}
use Rattle.std.specs.Prelude.{◌||◌, filter}
use Rattle.std.specs.List.{list_any}
use Rattle.std.proofs.lemmas.Bool.Decides.{nat_tests}
use Rattle.std.proofs.lemmas.Bool.{and_from, cases_lt}
use Rattle.tv_base.specs.declared.numbers.Version.{Version}
use Rattle.script_parts.specs.ScriptData.{ScriptData}
use Rattle.board_rules.specs.Histories.{Place, version_in}
use Rattle.board_rules.specs.Serial.{commits_by, commit_order, is_in, is_member_in, is_settled_in, is_version, members_in, serial_in}
use Rattle.board_rules.proofs.Closings.{closings-append, is_in-closings, is_out, is_tree}
use Rattle.board_rules.proofs.Once.{ahead, ahead_append, ahead_early, ahead_later, clash, has_append, kept_ahead, numbers_equal, same_number}
use Rattle.board_rules.proofs.SerialOrder.{is_in-members_in, is_in-serial_in, is_up_to}

-- the act closes tree t
abbrev pub closes_tree : ScriptData → ℕ → Place → Bool
closes_tree s t x = is_tree t (commits_by s x.act)

-- who is closed for the last time below n is ahead of who is closed from n on
pub closed_ahead : (s : ScriptData) (zs : List Place) (t k n : ℕ) → is_in t (commit_order s zs) ≡ true
    → list_any (closes_tree s t) (drop n zs) ≡ false → list_any (closes_tree s k) (drop n zs) ≡ true
    → ahead same_number t k (commit_order s zs) ≡ true
closed_ahead s zs t k n one none two =
    let a = take n zs in
    let b = drop n zs in
    let parts : commit_order s zs ≡ filter (is_out (commit_order s b)) (commit_order s a) ++ commit_order s b
    = sym (ap (commit_order s) (take-append-drop n zs)) ∙ closings-append s a b in
    let late : is_in t (commit_order s b) ≡ false = is_in-closings s t b ∙ none in
    let all : (is_in t (filter (is_out (commit_order s b)) (commit_order s a)) || is_in t (commit_order s b)) ≡ true
    = sym (has_append same_number numbers_equal t (filter (is_out (commit_order s b)) (commit_order s a)) (commit_order s b)) ∙ sym (ap (is_in t) parts) ∙ one in
    sym (ap (λ (ts : List ℕ). ahead same_number t k ts) (sym parts))
    ∙ ahead_append same_number numbers_equal t k (filter (is_out (commit_order s b)) (commit_order s a)) (commit_order s b)
    (first (is_in t (filter (is_out (commit_order s b)) (commit_order s a))) (is_in t (commit_order s b)) all late) (is_in-closings s k b ∙ two) where
      first : (c d : Bool) → (c || d) ≡ true → d ≡ false → c ≡ true
      first true d e f = refl
      first false d e f = clash d e f

-- members of one version
members_ahead : (s : ScriptData) (xs : List Place) (v t k : ℕ) → is_member_in s xs v t ≡ true → is_member_in s xs v k ≡ true
    → ahead same_number t k (commit_order s xs) ≡ true → ahead same_number t k (members_in s xs v) ≡ true
members_ahead s xs v t k one two is = kept_ahead same_number numbers_equal (is_member_in s xs v) t k (commit_order s xs) is one two

-- what is known of a tree that is in the order
pub record IsPlaced (s : ScriptData) (xs : List Place) (t : ℕ) (w : Version) : Type 0 where
  pub version : version_in t xs ≡ Some w
  pub settled : is_settled_in s xs t ≡ true
  pub closed : is_in t (commit_order s xs) ≡ true

pub up_to : (v : ℕ) (w : Version) (o : Option Version) → o ≡ Some w → w.0 ≤ v → is_up_to v o ≡ true
up_to v w None is le = absurd (cc is)
up_to v w (Some u) is le = let same : u ≡ w = cc is in let f : u.0 ≡ w.0 = ap (λ (z : Version). z.0) same in grind (arith, nat_tests)

of_version : (v : ℕ) (w : Version) (o : Option Version) → o ≡ Some w → w.0 ≡ v → is_version v o ≡ true
of_version v w None is e = absurd (cc is)
of_version v w (Some u) is e = let same : u ≡ w = cc is in let f : u.0 ≡ w.0 = ap (λ (z : Version). z.0) same in grind (arith, nat_tests)

pub placed_in : (s : ScriptData) (xs : List Place) (v t : ℕ) (w : Version) → IsPlaced s xs t w → w.0 ≤ v → is_in t (serial_in s xs v) ≡ true
placed_in s xs v t w c le =
    is_in-serial_in s xs v t
    ∙ and_from (is_up_to v (version_in t xs) && is_settled_in s xs t) (is_in t (commit_order s xs))
    (and_from (is_up_to v (version_in t xs)) (is_settled_in s xs t) (up_to v w (version_in t xs) c.version le) c.settled) c.closed

member_at : (s : ScriptData) (xs : List Place) (v t : ℕ) (w : Version) → IsPlaced s xs t w → w.0 ≡ v → is_member_in s xs v t ≡ true
member_at s xs v t w c e =
    and_from (is_version v (version_in t xs)) (is_settled_in s xs t) (of_version v w (version_in t xs) c.version e) c.settled

in_members : (s : ScriptData) (xs : List Place) (v t : ℕ) (w : Version) → IsPlaced s xs t w → w.0 ≡ v → is_in t (members_in s xs v) ≡ true
in_members s xs v t w c e =
    is_in-members_in s xs v t ∙ and_from (is_member_in s xs v t) (is_in t (commit_order s xs)) (member_at s xs v t w c e) c.closed

-- tree t of version w comes before tree k of version u: by version, and within a version by closing
abbrev pub IsBefore : ScriptData → List Place → ℕ → ℕ → Version → Version → Type 0
IsBefore s xs t k w u = (w.0 < u.0) ⊎ ((w.0 ≡ u.0) × (ahead same_number t k (commit_order s xs) ≡ true))

-- who comes before is ahead
pub serial_ahead : (s : ScriptData) (xs : List Place) (v t k : ℕ) (w u : Version) → IsPlaced s xs t w → IsPlaced s xs k u → w.0 ≤ v → u.0 ≤ v
    → IsBefore s xs t k w u → ahead same_number t k (serial_in s xs v) ≡ true
serial_ahead s xs zero t k w u one two wv uv (inl lt) = absurd (omega (arith, wv, uv, lt))
serial_ahead s xs zero t k w u one two wv uv (inr e) =
    members_ahead s xs zero t k (member_at s xs zero t w one (omega (arith, wv))) (member_at s xs zero k u two (omega (arith, uv))) e.1
serial_ahead s xs (suc v) t k w u one two wv uv order =
    step (serial_ahead s xs v t k w u one two) order (cases_lt v u.0) where
      step : (w.0 ≤ v → u.0 ≤ v → IsBefore s xs t k w u → ahead same_number t k (serial_in s xs v) ≡ true)
          → IsBefore s xs t k w u → (v < u.0) ⊎ (u.0 ≤ v)
          → ahead same_number t k (serial_in s xs v ++ members_in s xs (suc v)) ≡ true
      step rest (inl lt) (inr le) =
          ahead_early same_number numbers_equal t k (serial_in s xs v) (members_in s xs (suc v)) (rest (omega (arith, lt, le)) le (inl lt))
      step rest (inr e) (inr le) =
          ahead_early same_number numbers_equal t k (serial_in s xs v) (members_in s xs (suc v)) (rest (omega (arith, e.0, le)) le (inr e))
      step rest (inl lt) (inl last) =
          ahead_append same_number numbers_equal t k (serial_in s xs v) (members_in s xs (suc v))
          (placed_in s xs v t w one (omega (arith, lt, uv))) (in_members s xs (suc v) k u two (omega (arith, uv, last)))
      step rest (inr e) (inl last) =
          ahead_later same_number numbers_equal t k (serial_in s xs v) (members_in s xs (suc v))
          (members_ahead s xs (suc v) t k (member_at s xs (suc v) t w one (omega (arith, e.0, uv, last)))
          (member_at s xs (suc v) k u two (omega (arith, uv, last))) e.1)
