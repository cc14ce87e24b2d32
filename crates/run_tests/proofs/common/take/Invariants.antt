use Rattle.world_core.specs.Actors.{IsWorldOf}
use Rattle.run_tests.proofs.common.take.Given as goal

abbrev pub invariant-loop : goal.invariant-loop
invariant-loop g l = IsWorldOf l.script l.world
