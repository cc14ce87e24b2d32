use Rattle.std.proofs.Common.{◌≡◌, ◌++◌, drop}
use Rattle.script_reader.specs.Written.{lines, ops_rows}
use Rattle.script_reader.proofs.writing.push_ops.Given as goal

abbrev pub invariant-loop-op : goal.invariant-loop-op
invariant-loop-op l = l.text ++ lines (ops_rows l.items (drop l.op-index l.ops)) ≡ l.initial.text ++ lines (ops_rows l.items l.ops)
