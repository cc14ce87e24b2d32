use Rattle.std.proofs.Common.{◌≡◌, ◌≤◌, ◌<◌, ℕ, true}
use Rattle.board_tallies.specs.Board.{whole_at}
use Rattle.board_tallies.proofs.noting.passed_on.Given as goal

abbrev pub invariant-loop-place : goal.invariant-loop-place
invariant-loop-place l = (t : ℕ) → l.since ≤ t → t < l.place → whole_at l.trees l.states t ≡ true
