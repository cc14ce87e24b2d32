-- Lists of which one place is changed, and marks.
use Rattle.std.proofs.Common.{◌≡◌, ◌⊎◌, inl, inr, Option, Some, None, ℕ, zero, suc, ◌<◌, ◌≤◌, Bool, false, List, length, refl, ap, ◌∙◌, slice_set, get_or, arith}
use Rattle.std.specs.Prelude.{if◌then◌else◌, slice_get}
use Rattle.std.proofs.lemmas.List.{get_or_past, set-get_or, set-set}
use Rattle.std.proofs.lemmas.Option.{slice_get_past}
use Rattle.script_parts.specs.declared.parts.Tree.{Tree}
use Rattle.script_parts.proofs.Lists.{get_replicate}
use Rattle.std.proofs.lemmas.Bool.Decides.{nat_tests}
use Rattle.board_tallies.specs.Board.{first_state, is_whole_by, marked_to, state_at, whole_at}
use Rattle.board_tallies.specs.inside.Marks.{marked_as}
use Rattle.board_tallies.specs.declared.states.Marked.{Marked}
use Rattle.board_tallies.specs.declared.states.Marked.TheVariants as marked
use Rattle.board_tallies.specs.declared.states.TreeState.{TreeState}

-- one for a test that holds
abbrev pub one_when : Bool → ℕ
one_when b = if b then 1 else 0

-- a place that was changed, with what was there
pub set_back : {A : Type 0} (xs : List A) (i : ℕ) (y d : A) → slice_set (slice_set xs i y) i (get_or xs i d) ≡ xs
set_back xs i y d = set-set xs i y (get_or xs i d) ∙ set-get_or xs i d

-- where one isn't marked, not each is
pub marked_to_not : (n k : ℕ) (marks : List Bool) → k < n → get_or marks k false ≡ false → marked_to n marks ≡ false
marked_to_not zero k marks small h = absurd (omega arith)
marked_to_not (suc n) k marks small h =
    let rest : k < n → get_or marks k false ≡ false → marked_to n marks ≡ false = marked_to_not n k marks in grind (arith, nat_tests)

-- a tree that isn't there, or of which nothing is kept, isn't whole
pub whole_beyond : (trees : List Tree) (states : List TreeState) (t : ℕ) → (length trees ≤ t) ⊎ (length states ≤ t)
    → whole_at trees states t ≡ false
whole_beyond trees states t (inl past) = by (slice_get trees t) (slice_get_past trees t past) where
  by : (found : Option Tree) → found ≡ None
      → elim found [ Some tree ↦ is_whole_by tree (state_at states t) | None ↦ false ] ≡ false
  by None is = refl
  by (Some tree) is = absurd (cc is)
whole_beyond trees states t (inr past) = by (slice_get trees t) where
  first : state_at states t ≡ first_state
  first = get_or_past states t first_state past

  by : (found : Option Tree) → elim found [ Some tree ↦ is_whole_by tree (state_at states t) | None ↦ false ] ≡ false
  by None = refl
  by (Some tree) = ap (λ (state : TreeState). is_whole_by tree state) first

-- a list that was so changed, with what was there
pub set_back_by : {A : Type 0} (xs ys : List A) (i : ℕ) (y was d : A) → ys ≡ slice_set xs i y → was ≡ get_or xs i d
    → slice_set ys i was ≡ xs
set_back_by xs ys i y was d is so = (λ k. slice_set (is k) i (so k)) ∙ set_back xs i y d

first_unmarked : (of : Marked) (k : ℕ) → get_or (marked_as of first_state) k false ≡ false
first_unmarked marked.Done k = get_replicate 64 k false
first_unmarked marked.Yes k = get_replicate 64 k false
first_unmarked marked.Applied k = get_replicate 64 k false
first_unmarked marked.Freed k = get_replicate 64 k false

-- a tree that isn't there has no mark
pub mark_beyond : (states : List TreeState) (t : ℕ) (of : Marked) (k : ℕ) → length states ≤ t
    → get_or (marked_as of (state_at states t)) k false ≡ false
mark_beyond states t of k past =
    ap (λ (st : TreeState). get_or (marked_as of st) k false) (get_or_past states t first_state past) ∙ first_unmarked of k
