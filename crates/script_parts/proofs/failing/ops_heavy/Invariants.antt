use Rattle.std.proofs.Common.{◌≡◌, drop}
use Rattle.script_parts.specs.Loads.{ops_heavy}
use Rattle.script_parts.proofs.failing.ops_heavy.Given as goal

abbrev pub invariant-loop-op : goal.invariant-loop-op
invariant-loop-op l = ops_heavy l.most l.totals l.ops ≡ ops_heavy l.most l.totals (drop l.op-index l.ops)
