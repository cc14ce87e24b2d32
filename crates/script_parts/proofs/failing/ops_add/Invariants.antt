use Rattle.std.proofs.Common.{◌≡◌, drop}
use Rattle.script_parts.specs.Undone.{ops_add}
use Rattle.script_parts.proofs.failing.ops_add.Given as goal

abbrev pub invariant-loop-op : goal.invariant-loop-op
invariant-loop-op l = ops_add l.ops ≡ ops_add (drop l.op-index l.ops)
