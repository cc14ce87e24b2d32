use Rattle.std.proofs.Common.{◌≡◌, ◌++◌, drop}
use Rattle.report_text.specs.inside.Lines.{ops_texts}
use Rattle.report_text.proofs.reads.push_ops.Given as goal

abbrev pub invariant-loop-op : goal.invariant-loop-op
invariant-loop-op l = l.text ++ ops_texts l.rows l.values (drop l.op-index l.ops) ≡ l.initial.text ++ ops_texts l.rows l.values l.ops
