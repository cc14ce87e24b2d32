use Rattle.std.proofs.Common.{◌≡◌, ◌≤◌, ◌*◌, drop}
use Rattle.std.specs.Prelude.{◌+ℤ◌, unsigned_abs}
use Rattle.commute_ops.specs.declared.kinds.TheConstants.{MOST_AMOUNT}
use Rattle.report_text.specs.inside.Totals.{AreAmounts, kind_total}
use Rattle.report_text.proofs.run_summary.total_of.Given as goal

abbrev pub invariant-loop-item : goal.invariant-loop-item
invariant-loop-item l = record {
  total : l.total +ℤ kind_total l.kind (drop l.item l.rows) (drop l.item l.values) ≡ kind_total l.kind l.rows l.values;
  bound : unsigned_abs l.total ≤ l.item * MOST_AMOUNT;
  small : AreAmounts (drop l.item l.values);
}
