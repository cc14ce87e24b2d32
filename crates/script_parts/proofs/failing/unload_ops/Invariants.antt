use Rattle.std.proofs.Common.{drop}
use Rattle.script_parts.proofs.Loading.{OpsUnloaded}
use Rattle.script_parts.proofs.failing.unload_ops.Given as goal

abbrev pub invariant-loop-op : goal.invariant-loop-op
invariant-loop-op l = OpsUnloaded l.fn.totals.items l.totals.items l.ops (drop l.op-index l.ops)
