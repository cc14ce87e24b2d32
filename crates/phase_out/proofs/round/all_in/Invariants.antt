use Rattle.std.proofs.Common.{◌≡◌, drop}
use Rattle.phase_out.specs.Rounds.{all_in}
use Rattle.phase_out.proofs.round.all_in.Given as goal

abbrev pub invariant-loop-row : goal.invariant-loop-row
invariant-loop-row l = all_in (drop l.row-index l.kept) ≡ all_in l.kept
