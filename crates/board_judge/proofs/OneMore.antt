-- The transactions that take effect, in order of closing, with one act more that is a move: the order is the one
-- before, and the transaction that the act closes, if it does, comes last. What is done, has voted or takes effect is
-- born.
use Rattle.std.proofs.Common.{take-take, ◌≡◌, ◌⊎◌, inl, inr, ◌==◌, ◌&&◌, ◌||◌, ℕ, zero, suc, ◌<◌, Bool, true, false, List, [], ◌∷◌, ◌++◌, length, refl, sym, ap, subst, ◌∙◌, arith, append-nil, Option, Some, None, take}
use Rattle.std.specs.Prelude.{if◌then◌else◌, cond, filter, not, slice_get, is_some}
use Rattle.std.specs.List.{AllByRecursion}
use Rattle.std.specs.Option.{option_or}
use Rattle.std.proofs.lemmas.Bool.{and_from, and_parts, eqb-true, false_from_ne_true, or_cases, or_left, or_right}
use Rattle.std.proofs.lemmas.List.Elements.{filter-append}
use Rattle.std.proofs.lemmas.Option.{slice_get_within, cond_some}
use Rattle.tv_base.proofs.Truths.{left_true, right_true, same_test}
use Rattle.letter_types.specs.declared.acts.Act.{Act}
use Rattle.letter_types.specs.declared.acts.Act.TheVariants.{Born, Did, Turned, Showed, Swept, Finished, Waits, Parked, Voted, Freed, Decided, Applied}
use Rattle.script_parts.specs.ScriptData.{ScriptData, subs_at, updates}
use Rattle.script_parts.specs.Valid.{IsTree, IsValid}
use Rattle.script_parts.specs.declared.parts.Sub.{Sub}
use Rattle.script_parts.specs.declared.parts.Tree.{Tree}
use Rattle.script_parts.proofs.SubsOf.{has_root}
use Rattle.board_rules.specs.ButCause.{IsMoveButCause, IsMoveButCauseAt}
use Rattle.board_rules.specs.Histories.{Place, all_done, born_as, decides_as, does, is_complete, is_strict_tree, is_whole_in, version_in, was_born, was_decided_as, was_done}
use Rattle.board_rules.specs.Moves.{IsAskedBy}
use Rattle.board_rules.specs.Serial.{commit_order, commits_by, is_settled_in, with_closed}
use Rattle.board_judge.specs.Settled.{IsMoveRun, closes_in, if_settled, settled_order}
use Rattle.board_rules.specs.Stands.{votes, was_voted}
use Rattle.board_rules.proofs.ActTests.{decides_as_is, does_is}
use Rattle.board_rules.proofs.Closings.{closings-append, is_out}
use Rattle.board_rules.proofs.Once.{clash, same_tests}
use Rattle.board_rules.proofs.Places.{version_in-append, was_decided_as-append, was_done-append}
use Rattle.board_rules.proofs.Positions.{found_all, taken_is}
use Rattle.board_rules.proofs.SerialOrder.{done_of}
use Rattle.board_rules.proofs.Wholes.{any_more, born_version, strict_there, update_not_strict, updates_there, version_more, whole_done, whole_more}
use Rattle.board_rules.proofs.ReadDids.{filter_same}

-- A tree of a valid script has a root.
abbrev subs_in : Option Tree → List Sub
subs_in found = elim found [ Some tree ↦ tree.subs | None ↦ [] ]

rooted_by : (s : ScriptData) (t : ℕ) (ts : List Tree) → t < length ts → AllByRecursion (IsTree s.nodes s.items) ts
    → (found : Option Tree) → slice_get ts t ≡ found → 0 < length (subs_in found)
rooted_by s t [] lt all found is = absurd (omega (arith, lt))
rooted_by s zero (tree ∷ ts) lt all (Some u) is = let same : tree ≡ u = cc is in subst (λ (x : Tree). 0 < length x.subs) same all.0.root
rooted_by s zero (tree ∷ ts) lt all None is = absurd (cc is)
rooted_by s (suc t) (tree ∷ ts) lt all found is = rooted_by s t ts (omega (arith, lt)) all.1 found is

-- What is done, or has voted, or is committed, is born.
born_at : (t i : ℕ) (xs : List Place) → is_some (version_in t (take i xs)) ≡ true → was_born xs t ≡ true
born_at t i xs born =
    let b = born_version (version_in t (take i xs)) born in ap is_some (version_more t i b.0 xs b.1)

pub done_born : (s : ScriptData) (xs : List Place) (t k : ℕ) → IsMoveRun s xs → was_done t k xs ≡ true → was_born xs t ≡ true
done_born s xs t k run is =
    let f = found_all (λ (x : Place). does t k x.act) xs is in
    let d = does_is t k f.item.act f.passes in
    let move = subst (IsMoveButCauseAt s [] (take f.place xs) f.item.node) d.1 (run f.place f.item f.is) in
    born_at t f.place xs move.born

vote_born : (s : ScriptData) (xs : List Place) (p t k : ℕ) (a : Act) → votes t k a ≡ true → IsMoveButCauseAt s [] xs p a
    → is_some (version_in t xs) ≡ true
vote_born s xs p t k (Voted u j vote) is move =
    let e : u.0 ≡ t = eqb-true u.0 t (left_true (u.0 == t) (j.0 == k) is) in subst (λ (m : ℕ). is_some (version_in m xs) ≡ true) e move.born
vote_born s xs p t k (Born u v) is move = absurd (cc is)
vote_born s xs p t k (Did u j values) is move = absurd (cc is)
vote_born s xs p t k (Turned v) is move = absurd (cc is)
vote_born s xs p t k (Showed v) is move = absurd (cc is)
vote_born s xs p t k (Swept v) is move = absurd (cc is)
vote_born s xs p t k Finished is move = absurd (cc is)
vote_born s xs p t k (Waits u a b) is move = absurd (cc is)
vote_born s xs p t k (Parked u a b h) is move = absurd (cc is)
vote_born s xs p t k (Freed u) is move = absurd (cc is)
vote_born s xs p t k (Decided u d) is move = absurd (cc is)
vote_born s xs p t k (Applied u d) is move = absurd (cc is)

pub voted_born : (s : ScriptData) (xs : List Place) (t k : ℕ) → IsMoveRun s xs → was_voted t k xs ≡ true → was_born xs t ≡ true
voted_born s xs t k run is =
    let f = found_all (λ (x : Place). votes t k x.act) xs is in
    born_at t f.place xs (vote_born s (take f.place xs) f.item.node t k f.item.act f.passes (run f.place f.item f.is))

pub run_before : (s : ScriptData) (xs : List Place) (n : ℕ) → IsMoveRun s xs → IsMoveRun s (take n xs)
run_before s xs n run i y is =
    let old = taken_is xs n i y is in
    subst (λ (zs : List Place). IsMoveButCause s [] zs y) (sym (take-take i n xs (omega (arith, old.0)))) (run i y old.1)

pub committed_born : (s : ScriptData) (xs : List Place) (t : ℕ) → IsValid s → IsMoveRun s xs → was_decided_as t true xs ≡ true
    → was_born xs t ≡ true
committed_born s xs t valid run is =
    let f = found_all (λ (x : Place). decides_as t true x.act) xs is in
    let d = decides_as_is t true f.item.act f.passes in
    let move = subst (IsMoveButCauseAt s [] (take f.place xs) f.item.node) d (run f.place f.item f.is) in
    let root = has_root s t valid (strict_there s t move.strict) in
    born_at t f.place xs (voted_born s (take f.place xs) t 0 (run_before s xs f.place run) (move.voted 0 root))

-- A tree that takes effect is born.
pub settled_born : (s : ScriptData) (xs : List Place) (t : ℕ) → IsValid s → IsMoveRun s xs → is_settled_in s xs t ≡ true
    → was_born xs t ≡ true
settled_born s xs t valid run is =
    elim (or_cases (updates s t && is_whole_in s xs t) (is_strict_tree s t && was_decided_as t true xs) is) [
      | inl up ↦ left_true (was_born xs t) (is_complete s xs t) (right_true (updates s t) (is_whole_in s xs t) up)
      | inr strict ↦ committed_born s xs t valid run (right_true (is_strict_tree s t) (was_decided_as t true xs) strict)
    ]

-- It goes on to take effect.
settled_more : (s : ScriptData) (xs ys : List Place) (t : ℕ) → is_settled_in s xs t ≡ true → is_settled_in s (xs ++ ys) t ≡ true
settled_more s xs ys t is =
    elim (or_cases (updates s t && is_whole_in s xs t) (is_strict_tree s t && was_decided_as t true xs) is) [
      | inl up ↦
          let parts = and_parts (updates s t) (is_whole_in s xs t) up in
          or_left (updates s t && is_whole_in s (xs ++ ys) t) (is_strict_tree s t && was_decided_as t true (xs ++ ys))
          (and_from (updates s t) (is_whole_in s (xs ++ ys) t) parts.0 (whole_more s xs ys t parts.1))
      | inr strict ↦
          let parts = and_parts (is_strict_tree s t) (was_decided_as t true xs) strict in
          or_right (updates s t && is_whole_in s (xs ++ ys) t) (is_strict_tree s t && was_decided_as t true (xs ++ ys))
          (and_from (is_strict_tree s t) (was_decided_as t true (xs ++ ys)) parts.0 (any_more (λ (x : Place). decides_as t true x.act) xs ys parts.1))
    ]

-- An act that neither bears the tree nor does a part of it leaves it as it is.
or_false : (a b : Bool) → (a || (b || false)) ≡ true → b ≡ false → a ≡ true
or_false true b is none = refl
or_false false true is none = clash true refl none
or_false false false is none = is

done_less : (t n : ℕ) (xs : List Place) (x : Place) → ((k : ℕ) → does t k x.act ≡ false) → all_done t n (xs ++ x ∷ []) ≡ true
    → all_done t n xs ≡ true
done_less t zero xs x none is = refl
done_less t (suc n) xs x none is =
    let parts = and_parts (all_done t n (xs ++ x ∷ [])) (was_done t n (xs ++ x ∷ [])) is in
    and_from (all_done t n xs) (was_done t n xs) (done_less t n xs x none parts.0)
    (or_false (was_done t n xs) (does t n x.act) (sym (was_done-append t n xs (x ∷ [])) ∙ parts.1) (none n))

or_none : {T : Type 0} (a b : Option T) → b ≡ None → option_or a (option_or b None) ≡ a
or_none (Some x) b is = refl
or_none None (Some y) is = absurd (cc is)
or_none None None is = refl

pub version_kept : (t : ℕ) (xs : List Place) (x : Place) → born_as t x.act ≡ None → version_in t (xs ++ x ∷ []) ≡ version_in t xs
version_kept t xs x none = version_in-append t xs (x ∷ []) ∙ or_none (version_in t xs) (born_as t x.act) none

whole_less : (s : ScriptData) (t : ℕ) (xs : List Place) (x : Place) → updates s t ≡ true → ((k : ℕ) → does t k x.act ≡ false)
    → born_as t x.act ≡ None → is_whole_in s (xs ++ x ∷ []) t ≡ true → is_whole_in s xs t ≡ true
whole_less s t xs x up none unborn is =
    let parts = and_parts (was_born (xs ++ x ∷ []) t) (is_complete s (xs ++ x ∷ []) t) is in
    let plain = update_not_strict s t up in
    let done : all_done t (length (subs_at s t)) (xs ++ x ∷ []) ≡ true = rw plain at parts.1 in
    and_from (was_born xs t) (is_complete s xs t) (ap is_some (sym (version_kept t xs x unborn)) ∙ parts.0)
    (rw plain (done_less t (length (subs_at s t)) xs x none done))

-- an act closes a tree that takes effect after it, and that it may close
closed_here : (s : ScriptData) (xs : List Place) (t : ℕ) → (o : Option ℕ) → o ≡ Some t → is_settled_in s xs t ≡ true
    → if_settled s xs o ≡ Some t
closed_here s xs t None is settled = absurd (cc is)
closed_here s xs t (Some u) is settled =
    let same : u ≡ t = cc is in
    subst (λ (m : ℕ). (if is_settled_in s xs m then Some m else None) ≡ Some t) (sym same) (rw settled refl)

-- the birth of a tree doesn't make it whole
born_whole : (s : ScriptData) (xs : List Place) (x : Place) (t : ℕ) → IsValid s → IsMoveRun s xs → updates s t ≡ true
    → version_in t xs ≡ None → ((k : ℕ) → does t k x.act ≡ false) → is_whole_in s (xs ++ x ∷ []) t ≡ true → ⊥
born_whole s xs x t valid run up unborn none is =
    let all : all_done t (length (subs_at s t)) (xs ++ x ∷ []) ≡ true =
    rw (update_not_strict s t up) at (right_true (was_born (xs ++ x ∷ []) t) (is_complete s (xs ++ x ∷ []) t) is) in
    let done : was_done t 0 xs ≡ true =
    done_of t (length (subs_at s t)) 0 xs (has_root s t valid (updates_there s t up)) (done_less t (length (subs_at s t)) xs x none all) in
    clash (was_born xs t) (done_born s xs t 0 run done) (ap is_some unborn)

-- What takes effect after the act did so before, or is closed by it.
tree_before : (s : ScriptData) (xs : List Place) (p : ℕ) (a : Act) (t : ℕ) → IsValid s → IsMoveRun s xs → IsMoveButCauseAt s [] xs p a
    → updates s t ≡ true → is_settled_in s (xs ++ record { node = p; act = a } ∷ []) t ≡ true
    → is_whole_in s (xs ++ record { node = p; act = a } ∷ []) t ≡ true
    → (is_whole_in s xs t ≡ true) ⊎ (commits_by s a ≡ Some t)
tree_before s xs p (Did u j values) t valid run move up settled whole = by (u.0 == t) refl where
  by : (here : Bool) → (u.0 == t) ≡ here → (is_whole_in s xs t ≡ true) ⊎ (commits_by s (Did u j values) ≡ Some t)
  by true is =
      let same : u.0 ≡ t = eqb-true u.0 t is in
      inr (rw (ap (updates s) same ∙ up) (ap (λ (m : ℕ). Some m) same))
  by false is = inl (whole_less s t xs (record { node = p; act = Did u j values }) up (λ k. rw is refl) refl whole)
tree_before s xs p (Born u v) t valid run move up settled whole = by (u.0 == t) refl where
  by : (here : Bool) → (u.0 == t) ≡ here → (is_whole_in s xs t ≡ true) ⊎ (commits_by s (Born u v) ≡ Some t)
  by true is =
      let same : u.0 ≡ t = eqb-true u.0 t is in
      absurd (born_whole s xs (record { node = p; act = Born u v }) t valid run up (subst (λ (m : ℕ). version_in m xs ≡ None) same move.unborn) (λ k. refl) whole)
  by false is = inl (whole_less s t xs (record { node = p; act = Born u v }) up (λ k. refl) (rw is refl) whole)
tree_before s xs p (Turned v) t valid run move up settled whole = inl (whole_less s t xs (record { node = p; act = Turned v }) up (λ k. refl) refl whole)
tree_before s xs p (Showed v) t valid run move up settled whole = inl (whole_less s t xs (record { node = p; act = Showed v }) up (λ k. refl) refl whole)
tree_before s xs p (Swept v) t valid run move up settled whole = inl (whole_less s t xs (record { node = p; act = Swept v }) up (λ k. refl) refl whole)
tree_before s xs p Finished t valid run move up settled whole = inl (whole_less s t xs (record { node = p; act = Finished }) up (λ k. refl) refl whole)
tree_before s xs p (Waits u b c) t valid run move up settled whole = inl (whole_less s t xs (record { node = p; act = Waits u b c }) up (λ k. refl) refl whole)
tree_before s xs p (Parked u b c h) t valid run move up settled whole = inl (whole_less s t xs (record { node = p; act = Parked u b c h }) up (λ k. refl) refl whole)
tree_before s xs p (Voted u b c) t valid run move up settled whole = inl (whole_less s t xs (record { node = p; act = Voted u b c }) up (λ k. refl) refl whole)
tree_before s xs p (Freed u) t valid run move up settled whole = inl (whole_less s t xs (record { node = p; act = Freed u }) up (λ k. refl) refl whole)
tree_before s xs p (Decided u d) t valid run move up settled whole = inl (whole_less s t xs (record { node = p; act = Decided u d }) up (λ k. refl) refl whole)
tree_before s xs p (Applied u d) t valid run move up settled whole = inl (whole_less s t xs (record { node = p; act = Applied u d }) up (λ k. refl) refl whole)

decided_by : (s : ScriptData) (t : ℕ) (a : Act) → is_strict_tree s t ≡ true → decides_as t true a ≡ true → commits_by s a ≡ Some t
decided_by s t a strict is =
    let d = decides_as_is t true a is in rw (d, strict) refl

settled_before : (s : ScriptData) (xs : List Place) (x : Place) (t : ℕ) → IsValid s → IsMoveRun s xs → IsMoveButCause s [] xs x
    → is_settled_in s (xs ++ x ∷ []) t ≡ true → (is_settled_in s xs t ≡ true) ⊎ (commits_by s x.act ≡ Some t)
settled_before s xs x t valid run move is = by (or_cases (updates s t && is_whole_in s ys t) (is_strict_tree s t && was_decided_as t true ys) is) where
  ys : List Place
  ys = xs ++ x ∷ []

  more : (is_whole_in s xs t ≡ true) ⊎ (commits_by s x.act ≡ Some t) → updates s t ≡ true
      → (is_settled_in s xs t ≡ true) ⊎ (commits_by s x.act ≡ Some t)
  more (inl whole) up = inl (or_left (updates s t && is_whole_in s xs t) (is_strict_tree s t && was_decided_as t true xs) (and_from (updates s t) (is_whole_in s xs t) up whole))
  more (inr closed) up = inr closed

  last : (was_decided_as t true xs ≡ true) ⊎ ((decides_as t true x.act || false) ≡ true) → is_strict_tree s t ≡ true
      → (is_settled_in s xs t ≡ true) ⊎ (commits_by s x.act ≡ Some t)
  last (inl old) strict = inl (or_right (updates s t && is_whole_in s xs t) (is_strict_tree s t && was_decided_as t true xs) (and_from (is_strict_tree s t) (was_decided_as t true xs) strict old))
  last (inr new) strict = inr (decided_by s t x.act strict (elim (or_cases (decides_as t true x.act) false new) [ inl so ↦ so | inr none ↦ absurd (cc none) ]))

  by : ((updates s t && is_whole_in s ys t) ≡ true) ⊎ ((is_strict_tree s t && was_decided_as t true ys) ≡ true)
      → (is_settled_in s xs t ≡ true) ⊎ (commits_by s x.act ≡ Some t)
  by (inl up) =
      let parts = and_parts (updates s t) (is_whole_in s ys t) up in
      more (tree_before s xs x.node x.act t valid run move parts.0 is parts.1) parts.0
  by (inr strict) =
      let parts = and_parts (is_strict_tree s t) (was_decided_as t true ys) strict in
      last (or_cases (was_decided_as t true xs) (decides_as t true x.act || false) (sym (was_decided_as-append t true xs (x ∷ [])) ∙ parts.1)) parts.0

-- a tree that the act doesn't close takes effect after it as before
pub settled_kept : (s : ScriptData) (xs : List Place) (x : Place) (t : ℕ) → IsValid s → IsMoveRun s xs → IsMoveButCause s [] xs x
    → (commits_by s x.act ≡ Some t → ⊥) → is_settled_in s (xs ++ x ∷ []) t ≡ is_settled_in s xs t
settled_kept s xs x t valid run move never =
    same_tests (is_settled_in s (xs ++ x ∷ []) t) (is_settled_in s xs t)
    (λ now. elim (settled_before s xs x t valid run move now) [ inl old ↦ old | inr closed ↦ absurd (never closed) ])
    (settled_more s xs (x ∷ []) t)

-- The tree that the act closes didn't take effect before.
pub asked_there : (had : ℕ → Bool) (k : ℕ) (ks : List Sub) → IsAskedBy had k (slice_get ks k) → k < length ks
asked_there had k ks is = by (slice_get ks k) refl is where
  by : (found : Option Sub) → slice_get ks k ≡ found → IsAskedBy had k found → k < length ks
  by None at none = absurd none
  by (Some sub) at some = slice_get_within ks k sub at

not_yet_by : (s : ScriptData) (xs : List Place) (p : ℕ) (a : Act) (t : ℕ) → IsMoveButCauseAt s [] xs p a → commits_by s a ≡ Some t
    → is_settled_in s xs t ≡ true → ⊥
not_yet_by s xs p (Did u j values) t move is settled =
    let c = cond_some (updates s u.0) u.0 t is in
    let up : updates s t ≡ true = ap (updates s) (sym c.1) ∙ c.0 in
    let lt = asked_there (λ (k : ℕ). was_done u.0 k xs) j.0 (subs_at s u.0) move.asked in
    elim (or_cases (updates s t && is_whole_in s xs t) (is_strict_tree s t && was_decided_as t true xs) settled) [
      | inl whole ↦
          let done = whole_done s xs t j.0 up (right_true (updates s t) (is_whole_in s xs t) whole) (subst (λ (m : ℕ). j.0 < length (subs_at s m)) c.1 lt) in
          clash (was_done t j.0 xs) done (subst (λ (m : ℕ). was_done m j.0 xs ≡ false) c.1 move.once)
      | inr strict ↦ clash (is_strict_tree s t) (left_true (is_strict_tree s t) (was_decided_as t true xs) strict) (update_not_strict s t up)
    ]
not_yet_by s xs p (Decided u commit) t move is settled =
    let c = cond_some (is_strict_tree s u.0 && commit) u.0 t is in
    let strict : is_strict_tree s t ≡ true = ap (is_strict_tree s) (sym c.1) ∙ left_true (is_strict_tree s u.0) commit c.0 in
    let none : was_decided_as t true xs ≡ false = subst (λ (m : ℕ). was_decided_as m true xs ≡ false) c.1 (move.once true) in
    elim (or_cases (updates s t && is_whole_in s xs t) (is_strict_tree s t && was_decided_as t true xs) settled) [
      | inl whole ↦ clash (is_strict_tree s t) strict (update_not_strict s t (left_true (updates s t) (is_whole_in s xs t) whole))
      | inr committed ↦ clash (was_decided_as t true xs) (right_true (is_strict_tree s t) (was_decided_as t true xs) committed) none
    ]
not_yet_by s xs p (Born u v) t move is settled = absurd (cc is)
not_yet_by s xs p (Turned v) t move is settled = absurd (cc is)
not_yet_by s xs p (Showed v) t move is settled = absurd (cc is)
not_yet_by s xs p (Swept v) t move is settled = absurd (cc is)
not_yet_by s xs p Finished t move is settled = absurd (cc is)
not_yet_by s xs p (Waits u b c) t move is settled = absurd (cc is)
not_yet_by s xs p (Parked u b c h) t move is settled = absurd (cc is)
not_yet_by s xs p (Voted u b c) t move is settled = absurd (cc is)
not_yet_by s xs p (Freed u) t move is settled = absurd (cc is)
not_yet_by s xs p (Applied u d) t move is settled = absurd (cc is)

pub not_yet : (s : ScriptData) (xs : List Place) (x : Place) (t : ℕ) → IsMoveButCause s [] xs x → commits_by s x.act ≡ Some t
    → is_settled_in s xs t ≡ false
not_yet s xs x t move is = false_from_ne_true (is_settled_in s xs t) (not_yet_by s xs x.node x.act t move is)

-- The order with one act more.
pub filter_twice : (p r : ℕ → Bool) (ts : List ℕ) → filter p (filter r ts) ≡ filter (λ (u : ℕ). r u && p u) ts
filter_twice p r [] = refl
filter_twice p r (t ∷ ts) = by (r t) (filter (λ (u : ℕ). r u && p u) ts) (filter_twice p r ts) where
  by : (b : Bool) (both : List ℕ) → filter p (filter r ts) ≡ both
      → filter p (cond b (t ∷ filter r ts) (filter r ts)) ≡ cond (b && p t) (t ∷ both) both
  by true both same = ap (λ (us : List ℕ). cond (p t) (t ∷ us) us) same
  by false both same = same

filter_every : (p : ℕ → Bool) (ts : List ℕ) → ((t : ℕ) → p t ≡ true) → filter p ts ≡ ts
filter_every p [] all = refl
filter_every p (t ∷ ts) all = rw (all t) (ap (λ (us : List ℕ). t ∷ us) (filter_every p ts all))

-- the trees with one more, if there is one
abbrev pub with_last : List ℕ → Option ℕ → List ℕ
with_last ts None = ts
with_last ts (Some t) = ts ++ t ∷ []

module _ (s : ScriptData) (xs : List Place) (x : Place) (valid : IsValid s) (run : IsMoveRun s xs) (move : IsMoveButCause s [] xs x) where
  abbrev order : List ℕ
  order = commit_order s xs

  abbrev after : ℕ → Bool
  after t = is_settled_in s (xs ++ x ∷ []) t

  abbrev before : ℕ → Bool
  before t = is_settled_in s xs t

  none_more : (o : Option ℕ) → commits_by s x.act ≡ o → o ≡ None
      → filter after (filter (is_out (with_closed o [])) order ++ with_closed o []) ≡ with_last (filter before order) (if_settled s (xs ++ x ∷ []) o)
  none_more (Some t) is none = absurd (cc none)
  none_more None is none =
      ap (filter after) (append-nil (filter (is_out []) order) ∙ filter_every (is_out []) order (λ t. refl))
      ∙ filter_same after before order (λ t. settled_kept s xs x t valid run move (λ closed. absurd (let no_one : None ≡ Some t = sym is ∙ closed in cc no_one)))

  -- but for the tree that the act may close, the same take effect after it as before
  others : (t u : ℕ) → commits_by s x.act ≡ Some t → (is_out (t ∷ []) u && after u) ≡ before u
  others t u is = by (t == u) refl where
    by : (here : Bool) → (t == u) ≡ here → (not (here || false) && after u) ≡ before u
    by true same =
        let one : t ≡ u = eqb-true t u same in sym (not_yet s xs x u move (is ∙ ap (λ (m : ℕ). Some m) one))
    by false apart =
        settled_kept s xs x u valid run move
        (λ closed. let one : Some t ≡ Some u = sym is ∙ closed in let same : t ≡ u = cc one in clash (t == u) (ap (λ (m : ℕ). t == m) (sym same) ∙ same_test t) apart)

  one_more : (t : ℕ) → commits_by s x.act ≡ Some t → (closed : Bool) → after t ≡ closed
      → filter after (filter (is_out (t ∷ [])) order ++ t ∷ []) ≡ with_last (filter before order) (if closed then Some t else None)
  one_more t is closed now =
      filter-append after (filter (is_out (t ∷ [])) order) (t ∷ [])
      ∙ ap (λ (ts : List ℕ). ts ++ filter after (t ∷ [])) (filter_twice after (is_out (t ∷ [])) order ∙ filter_same (λ (u : ℕ). is_out (t ∷ []) u && after u) before order (λ u. others t u is))
      ∙ last closed now where
        last : (b : Bool) → after t ≡ b → filter before order ++ filter after (t ∷ []) ≡ with_last (filter before order) (if b then Some t else None)
        last true now = rw now refl
        last false now = rw now (append-nil (filter before order))

  by_closing : (o : Option ℕ) → commits_by s x.act ≡ o
      → filter after (filter (is_out (with_closed o [])) order ++ with_closed o []) ≡ with_last (filter before order) (if_settled s (xs ++ x ∷ []) o)
  by_closing None is = none_more None is refl
  by_closing (Some t) is = one_more t is (after t) refl

  pub settled_order_more : settled_order s (xs ++ x ∷ []) ≡ with_last (settled_order s xs) (closes_in s (xs ++ x ∷ []) x.act)
  settled_order_more = ap (filter after) (closings-append s xs (x ∷ [])) ∙ by_closing (commits_by s x.act) refl
