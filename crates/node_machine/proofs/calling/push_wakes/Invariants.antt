use Rattle.std.proofs.Common.{◌≡◌, ◌++◌}
use Rattle.std.specs.Map.{values_of}
use Rattle.letter_types.specs.Kept.{wakes}
use Rattle.node_machine.specs.inside.Arrivals.{wakes_in}
use Rattle.node_machine.specs.inside.Places.{is_why}
use Rattle.node_machine.proofs.calling.push_wakes.Given as goal

abbrev pub invariant-loop-place : goal.invariant-loop-place
invariant-loop-place l =
    (l.sent ++ wakes_in l.letters.entries l.place-iterator
    ≡ l.initial.sent ++ wakes (is_why l.fn.key) (values_of l.letters.entries))
    × (goal.iterator-loop-place).can_next l.place-iterator
    × (goal.iterator-loop-place).is_finite l.place-iterator
