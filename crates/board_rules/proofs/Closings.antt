-- The transactions in order of their last closing act: each occurs there once.
use Rattle.std.proofs.Common.{◌≡◌, ℕ, Bool, true, false, List, [], ◌∷◌, ◌++◌, refl, ap, sym, ◌∙◌, arith}
use Rattle.std.specs.Prelude.{if◌then◌else◌, cond, not, ◌||◌, ◌&&◌, ◌==◌, filter, Option, Some, None}
use Rattle.std.specs.List.{list_any}
use Rattle.std.proofs.lemmas.Bool.Decides.{nat_tests}
use Rattle.script_parts.specs.ScriptData.{ScriptData}
use Rattle.board_rules.specs.Histories.{Place}
use Rattle.board_rules.specs.Serial.{commits_by, commit_order, is_in, with_closed}
use Rattle.board_rules.proofs.Once.{AreOnce, has_append, has_filter, numbers_equal, same_number}

passes_same : (p : ℕ → Bool) (t u : ℕ) → (u == t) ≡ true → p u ≡ p t
passes_same p t u e = ap p (let same : u ≡ t = grind (arith, nat_tests) in same)

-- the tree is this one
abbrev pub is_tree : ℕ → Option ℕ → Bool
is_tree t None = false
is_tree t (Some u) = u == t

in_choice : (t u : ℕ) (ts : List ℕ) (b : Bool) → is_in u ts ≡ b → is_in t (if b then ts else u ∷ ts) ≡ ((u == t) || is_in t ts)
in_choice t u ts false e = refl
in_choice t u ts true e = in_twice t u ts (u == t) refl e where
  in_twice : (t u : ℕ) (ts : List ℕ) (b : Bool) → (u == t) ≡ b → is_in u ts ≡ true → is_in t ts ≡ (b || is_in t ts)
  in_twice t u ts false e h = refl
  in_twice t u ts true e h = sym (passes_same (λ (k : ℕ). is_in k ts) t u e) ∙ h

pub is_in-with_closed : (t : ℕ) (o : Option ℕ) (ts : List ℕ) → is_in t (with_closed o ts) ≡ (is_tree t o || is_in t ts)
is_in-with_closed t None ts = refl
is_in-with_closed t (Some u) ts = in_choice t u ts (is_in u ts) refl

-- a tree is there where an act closes it
pub is_in-closings : (s : ScriptData) (t : ℕ) (xs : List Place)
    → is_in t (commit_order s xs) ≡ list_any (λ (x : Place). is_tree t (commits_by s x.act)) xs
is_in-closings s t [] = refl
is_in-closings s t (x ∷ xs) =
    is_in-with_closed t (commits_by s x.act) (commit_order s xs)
    ∙ ap (λ (b : Bool). is_tree t (commits_by s x.act) || b) (is_in-closings s t xs)

-- not among these
abbrev pub is_out : List ℕ → ℕ → Bool
is_out ts t = not (is_in t ts)

filter_choice : (p : ℕ → Bool) (t : ℕ) (a : List ℕ) (m : Bool)
    → filter p (if m then a else t ∷ a) ≡ (if m then filter p a else cond (p t) (t ∷ filter p a) (filter p a))
filter_choice p t a true = refl
filter_choice p t a false = refl

by_cases : (m n : Bool) (t : ℕ) (f b : List ℕ)
    → (if (not n && m) || n then f ++ b else t ∷ (f ++ b)) ≡ (if m then f else cond (not n) (t ∷ f) f) ++ b
by_cases true true t f b = refl
by_cases true false t f b = refl
by_cases false true t f b = refl
by_cases false false t f b = refl

closed_before : (o : Option ℕ) (a b : List ℕ)
    → with_closed o (filter (is_out b) a ++ b) ≡ filter (is_out b) (with_closed o a) ++ b
closed_before None a b = refl
closed_before (Some t) a b =
    let f : List ℕ = filter (is_out b) a in
    let e : is_in t (f ++ b) ≡ ((is_out b t && is_in t a) || is_in t b)
    = has_append same_number numbers_equal t f b
    ∙ ap (λ (c : Bool). c || is_in t b) (has_filter same_number numbers_equal (is_out b) t a) in
    ap (λ (c : Bool). if c then f ++ b else t ∷ (f ++ b)) e
    ∙ by_cases (is_in t a) (is_in t b) t f b
    ∙ ap (λ (z : List ℕ). z ++ b) (sym (filter_choice (is_out b) t a (is_in t a)))

-- what is closed later again comes after
pub closings-append : (s : ScriptData) (a b : List Place)
    → commit_order s (a ++ b) ≡ filter (is_out (commit_order s b)) (commit_order s a) ++ commit_order s b
closings-append s [] b = refl
closings-append s (x ∷ a) b =
    ap (λ (ts : List ℕ). with_closed (commits_by s x.act) ts) (closings-append s a b)
    ∙ closed_before (commits_by s x.act) (commit_order s a) (commit_order s b)

-- each number occurs once
abbrev pub AreApart : List ℕ → Type 0
AreApart ts = AreOnce same_number ts

apart_choice : (t : ℕ) (ts : List ℕ) (b : Bool) → is_in t ts ≡ b → AreApart ts → AreApart (if b then ts else t ∷ ts)
apart_choice t ts true e h = h
apart_choice t ts false e h = (e, h)

apart_closed : (o : Option ℕ) (ts : List ℕ) → AreApart ts → AreApart (with_closed o ts)
apart_closed None ts h = h
apart_closed (Some t) ts h = apart_choice t ts (is_in t ts) refl h

pub closings_apart : (s : ScriptData) (xs : List Place) → AreApart (commit_order s xs)
closings_apart s [] = tt
closings_apart s (x ∷ xs) = apart_closed (commits_by s x.act) (commit_order s xs) (closings_apart s xs)
