use Rattle.std.proofs.Common.{◌≡◌, drop}
use Rattle.board_tallies.specs.Board.{marked_for}
use Rattle.board_tallies.proofs.states.marked_for.Given as goal

abbrev pub invariant-loop-sub : goal.invariant-loop-sub
invariant-loop-sub l = marked_for (drop l.sub-index l.subs) l.marks ≡ marked_for l.subs l.marks
