-- Which transactions are complete, by their states.
use Rattle.std.proofs.Common.{◌≡◌, ◌⊎◌, inl, inr, ℕ, zero, suc, ◌<◌, ◌≤◌, Bool, true, false, List, [], ◌∷◌, ◌++◌, length, refl, sym, ap, ◌∙◌, arith, Option, Some, None}
use Rattle.std.specs.Prelude.{if◌then◌else◌, ◌&&◌, slice_get, is_some}
use Rattle.std.proofs.lemmas.Bool.{cases_lt}
use Rattle.std.proofs.lemmas.List.{get_or_past}
use Rattle.std.proofs.lemmas.Option.{slice_get_cases}
use Rattle.tv_base.specs.declared.numbers.Version.{Version}
use Rattle.board_tallies.proofs.Marks.{whole_beyond}
use Rattle.script_parts.specs.ScriptData.{ScriptData, is_strict, subs_at}
use Rattle.script_parts.specs.declared.parts.Sub.{Sub}
use Rattle.script_parts.specs.declared.parts.Tree.{Tree}
use Rattle.board_rules.specs.Histories.{Place, all_applied, all_done, is_complete, is_strict_tree, is_whole_in, version_in, was_applied, was_done}
use Rattle.board_rules.proofs.Wholes.{whole_more}
use Rattle.board_tallies.specs.Board.{AreMarks, ArePassed, ShowsTree, first_state, is_through, is_whole_by, marked_for, marked_to, state_at, whole_at}
use Rattle.board_tallies.specs.inside.Noting.{GoesOn}
use Rattle.board_tallies.specs.declared.states.TreeState.{TreeState}

marked_is : (t n : ℕ) (xs : List Place) (marks : List Bool) → AreMarks marks (λ (k : ℕ). was_done t k xs)
    → marked_to n marks ≡ all_done t n xs
marked_is t zero xs marks are = refl
marked_is t (suc n) xs marks are = λ i. marked_is t n xs marks are i && are.each n i

met_is : (t : ℕ) (subs : List Sub) (xs : List Place) (marks : List Bool) → AreMarks marks (λ (p : ℕ). was_applied t p xs)
    → marked_for subs marks ≡ all_applied t subs xs
met_is t [] xs marks are = refl
met_is t (k ∷ ks) xs marks are = λ i. are.each k.node.0 i && met_is t ks xs marks are i

through_either : (strict : Bool) (a b c d : Bool) → a ≡ c → b ≡ d → (if strict then a else b) ≡ (if strict then c else d)
through_either strict a b c d one two = λ i. if strict then one i else two i

-- a tree is whole where its state says so
pub whole_is : (s : ScriptData) (xs : List Place) (t : ℕ) (tree : Tree) (st : TreeState) → slice_get s.trees t ≡ Some tree
    → ShowsTree t xs st → is_whole_by tree st ≡ is_whole_in s xs t
whole_is s xs t tree st at shows =
    let all : is_through tree st
    ≡ (if is_strict tree.kind then all_applied t tree.subs xs else all_done t (length tree.subs) xs)
    = through_either (is_strict tree.kind) (marked_for tree.subs st.applied) (marked_to (length tree.subs) st.done)
    (all_applied t tree.subs xs) (all_done t (length tree.subs) xs) (met_is t tree.subs xs st.applied shows.applied)
    (marked_is t (length tree.subs) xs st.done shows.done) in
    let found : is_complete s xs t
    ≡ (if is_strict tree.kind then all_applied t tree.subs xs else all_done t (length tree.subs) xs)
    = rw (at, is_strict_tree, subs_at) refl in
    let through : is_through tree st ≡ is_complete s xs t = all ∙ sym found in
    λ i. is_some (shows.born i) && through i

-- a tree that is there
pub tree_there : (s : ScriptData) (t : ℕ) → t < length s.trees → (tree : Tree) × (slice_get s.trees t ≡ Some tree)
tree_there s t lt =
    elim (slice_get_cases s.trees t).1 [
      | inl found ↦ (found.0, found.2)
      | inr past ↦ absurd (omega (arith, lt, past.0))
    ]

whole_found : (s : ScriptData) (xs : List Place) (states : List TreeState) (t : ℕ) (tree : Tree) → slice_get s.trees t ≡ Some tree
    → ShowsTree t xs (state_at states t) → whole_at s.trees states t ≡ is_whole_in s xs t
whole_found s xs states t tree at shows =
    ap (λ (found : Option Tree). elim found [ Some one ↦ is_whole_by one (state_at states t) | None ↦ false ]) at
    ∙ whole_is s xs t tree (state_at states t) at shows

-- the same of the tree of a place
pub whole_there : (s : ScriptData) (xs : List Place) (states : List TreeState) (t : ℕ) → t < length s.trees
    → ShowsTree t xs (state_at states t) → whole_at s.trees states t ≡ is_whole_in s xs t
whole_there s xs states t lt shows = let (tree, at) = tree_there s t lt in whole_found s xs states t tree at shows

-- how many trees from the first on are whole, after acts more
pub passed_next : (s : ScriptData) (xs ys : List Place) (states : List TreeState) (since until : ℕ) → length states ≡ length s.trees
    → ArePassed s xs since → GoesOn s.trees states since until → ((t : ℕ) → ShowsTree t (xs ++ ys) (state_at states t))
    → ArePassed s (xs ++ ys) until
passed_next s xs ys states since until many passed on shows =
    let small : until ≤ length s.trees
    = (let h = on.within (omega (arith, passed.within, many)) in omega (arith, h, many)) in
    record {
      within = small;
      each = λ t lt. each t lt small (cases_lt t since);
      next = λ lt. sym (whole_there s (xs ++ ys) states until lt (shows until)) ∙ on.next (omega (arith, lt, many));
    } where
      each : (t : ℕ) → t < until → until ≤ length s.trees → (t < since) ⊎ (since ≤ t) → is_whole_in s (xs ++ ys) t ≡ true
      each t lt small (inl early) = whole_more s xs ys t (passed.each t early)
      each t lt small (inr late) =
          sym (whole_there s (xs ++ ys) states t (omega (arith, lt, small)) (shows t)) ∙ on.whole t late lt

none_born : (o : Option Version) (complete : Bool) → o ≡ None → (is_some o && complete) ≡ false
none_born None complete is = refl
none_born (Some v) complete is = absurd (cc is)

-- a tree is whole where its place says so, also where it isn't there: then it isn't born
pub whole_any : (s : ScriptData) (xs : List Place) (states : List TreeState) (t : ℕ) → length states ≡ length s.trees
    → ShowsTree t xs (state_at states t) → whole_at s.trees states t ≡ is_whole_in s xs t
whole_any s xs states t many shows = by (cases_lt t (length s.trees)) where
  by : (t < length s.trees) ⊎ (length s.trees ≤ t) → whole_at s.trees states t ≡ is_whole_in s xs t
  by (inl lt) = whole_there s xs states t lt shows
  by (inr past) =
      let first : state_at states t ≡ first_state = get_or_past states t first_state (omega (arith, past, many)) in
      let unborn : version_in t xs ≡ None = sym shows.born ∙ ap (λ (st : TreeState). st.born) first in
      whole_beyond s.trees states t (inl past) ∙ sym (none_born (version_in t xs) (is_complete s xs t) unborn)
