use Rattle.std.proofs.Common.{◌≡◌, ◌+◌, drop}
use Rattle.worth_steps.specs.inside.Editing.{put_rank}
use Rattle.worth_steps.proofs.puts.place.Given as goal

abbrev pub invariant-loop-i : goal.invariant-loop-i
invariant-loop-i l = l.i + put_rank l.number (drop l.i l.puts) ≡ put_rank l.number l.puts
