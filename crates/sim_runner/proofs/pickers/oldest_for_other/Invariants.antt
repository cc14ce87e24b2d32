use Rattle.std.proofs.Common.{◌==◌, not}
use Rattle.letter_types.specs.declared.entries.Letter.{Letter}
use Rattle.sim_runner.proofs.OldestPlaces.{NoneBefore}
use Rattle.sim_runner.proofs.pickers.oldest_for_other.Given as goal

abbrev pub invariant-loop-place : goal.invariant-loop-place
invariant-loop-place l = NoneBefore (λ (x : Letter). not (x.to.0 == l.actor.0)) l.world.bag l.place
