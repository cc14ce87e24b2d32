use Rattle.std.proofs.Common.{take}
use Rattle.board_tallies.proofs.Gating.{IsGated}
use Rattle.board_tallies.proofs.gates.Gates.new.Given as goal

abbrev pub invariant-loop-row : goal.invariant-loop-row
invariant-loop-row l = IsGated (take l.row-index l.row-items) l.trees.items l.advances.items l.gate
