use Rattle.std.proofs.Common.{◌≡◌, take}
use Rattle.board_tallies.specs.Board.{pending_of}
use Rattle.board_tallies.proofs.pending.counted_place.Given as goal

abbrev pub invariant-loop-k : goal.invariant-loop-k
invariant-loop-k l = pending_of l.reads l.version.0 (take l.k l.pending) ≡ 0
