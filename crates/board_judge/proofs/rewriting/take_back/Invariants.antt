use Rattle.std.proofs.Common.{◌≡◌, length}
use Rattle.board_judge.specs.inside.Rewriting.{worths_before}
use Rattle.board_judge.proofs.rewriting.take_back.Given as goal

abbrev pub invariant-loop-altered : goal.invariant-loop-altered
invariant-loop-altered l = worths_before l.kept ≡ worths_before l.fn.kept

abbrev pub decreases-loop-altered : goal.decreases-loop-altered
decreases-loop-altered l = length l.kept.trail.items
