use Rattle.std.proofs.Common.{◌≡◌, ◌+◌, drop}
use Rattle.script_parts.specs.Counts.{subs_ops}
use Rattle.script_parts.proofs.failing.count_ops.Given as goal

abbrev pub invariant-loop-sub : goal.invariant-loop-sub
invariant-loop-sub l = l.count + subs_ops (drop l.sub-index l.subs) ≡ subs_ops l.subs
