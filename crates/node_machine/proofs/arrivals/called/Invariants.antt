use Rattle.std.proofs.Common.{◌≡◌}
use Rattle.node_machine.specs.inside.Arrivals.{called_at, called_in}
use Rattle.node_machine.proofs.arrivals.called.Given as goal

abbrev pub invariant-loop-place : goal.invariant-loop-place
invariant-loop-place l =
    (called_in l.letters.entries l.place-iterator ≡ called_at l.fn.tree l.fn.sub l.letters.entries)
    × (goal.iterator-loop-place).can_next l.place-iterator
    × (goal.iterator-loop-place).is_finite l.place-iterator
