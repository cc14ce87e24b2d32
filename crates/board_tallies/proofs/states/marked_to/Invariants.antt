use Rattle.std.proofs.Common.{◌≡◌, true}
use Rattle.board_tallies.specs.Board.{marked_to}
use Rattle.board_tallies.proofs.states.marked_to.Given as goal

abbrev pub invariant-loop-place : goal.invariant-loop-place
invariant-loop-place l = marked_to l.place l.marks ≡ true
