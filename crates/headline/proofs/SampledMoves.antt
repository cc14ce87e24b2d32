-- The acts of the small run, and of a run of the same script with an advancement at its end: the numbers that they give
-- the nodes, and which of their acts are moves.
use Rattle.std.proofs.Common.{◌≡◌, true, false, arith, [], ◌∷◌, ◌++◌, reverse, refl}
use Rattle.letter_types.specs.declared.acts.Act.TheVariants.{Born}
use Rattle.tx_trees.specs.ScriptData.{ScriptData}
use Rattle.tx_trees.specs.declared.parts.ScriptRow.TheVariants.{Advance, Settle}
use Rattle.board_rules.specs.Histories.{is_whole_in, places_of, was_done}
use Rattle.board_rules.specs.Moves.{IsDeed, IsShowing, IsTurn, low_after, read_after, update_after}
use Rattle.world_model.specs.Runs.{in_flight}
use Rattle.world_model.specs.Sample.{sample, small}

-- without an advancement a node keeps its first numbers
pub first_update : update_after (places_of (reverse (sample small 10))) 0 ≡ 1
first_update = refl

pub first_low : low_after (places_of (reverse (sample small 10))) 1 ≡ 0
first_low = refl

-- the parent is done before the child, and the tree is whole after both
pub parent_first : was_done 0 0 (places_of (reverse (sample small 2))) ≡ true
parent_first = refl

pub child_later : was_done 0 1 (places_of (reverse (sample small 2))) ≡ false
child_later = refl

pub not_whole : is_whole_in small (places_of (reverse (sample small 2))) 0 ≡ false
not_whole = refl

pub whole : is_whole_in small (places_of (reverse (sample small 3))) 0 ≡ true
whole = refl

-- once the tree is answered, all nodes advance
abbrev advanced : ScriptData
advanced = record small { rows = small.rows ++ Settle ∷ Advance ∷ [] }

pub all_taken : in_flight advanced (sample advanced 40) ≡ []
all_taken = refl

pub next_update : update_after (places_of (reverse (sample advanced 40))) 0 ≡ 2
next_update = refl

pub next_read : read_after (places_of (reverse (sample advanced 40))) 0 ≡ 1
next_read = refl

pub next_low : low_after (places_of (reverse (sample advanced 40))) 1 ≡ 1
next_low = refl

-- What is no move: to leap over a version, to show what is still updated, to do a child before its parent.
pub no_leap : IsTurn small [] 0 3 → ⊥
no_leap turn = omega (arith, turn.next)

pub no_early_show : IsShowing small [] 0 1 → ⊥
no_early_show showing = omega (arith, showing.below 0 (omega arith))

pub no_early_child : IsDeed small (record { node = 0; act = Born (record { 0 = 0 }) (record { 0 = 1 }) } ∷ []) 1 0 1 [] → ⊥
no_early_child deed = let asked : false ≡ true = deed.asked in cc asked
