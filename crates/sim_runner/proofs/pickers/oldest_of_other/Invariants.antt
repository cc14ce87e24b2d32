use Rattle.std.proofs.Common.{not}
use Rattle.letter_types.specs.declared.entries.Letter.{Letter}
use Rattle.letter_types.specs.Letters.{same_id}
use Rattle.sim_runner.proofs.OldestPlaces.{NoneBefore}
use Rattle.sim_runner.proofs.pickers.oldest_of_other.Given as goal

abbrev pub invariant-loop-place : goal.invariant-loop-place
invariant-loop-place l = NoneBefore (λ (x : Letter). not (same_id l.id x.id)) l.world.bag l.place
