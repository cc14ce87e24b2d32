use Rattle.std.proofs.Common.{◌≡◌, length}
use Rattle.board_judge.specs.inside.Steps.{board_before}
use Rattle.board_judge.proofs.noting.restore.Given as goal

abbrev pub invariant-loop-step : goal.invariant-loop-step
invariant-loop-step l = board_before l.tallies ≡ board_before l.fn.tallies

abbrev pub decreases-loop-step : goal.decreases-loop-step
decreases-loop-step l = length l.tallies.steps.items
