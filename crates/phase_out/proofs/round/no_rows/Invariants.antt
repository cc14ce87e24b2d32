use Rattle.std.proofs.Common.{◌≡◌, replicate, None}
use Rattle.phase_out.proofs.round.no_rows.Given as goal

abbrev pub invariant-loop : goal.invariant-loop
invariant-loop l = l.kept ≡ replicate l.counter None
