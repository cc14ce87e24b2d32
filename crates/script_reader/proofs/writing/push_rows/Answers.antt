use Rattle.script_reader.proofs.Pushed.{row_pushed}
use Rattle.script_reader.proofs.writing.push_rows.Goals as goal

pub loop-row-preserved : goal.loop-row-preserved
loop-row-preserved c =
    row_pushed c.args.items.now c.args.trees.now c.args.rows.now c.loop-row.row-index _ c.loop-row.text c.push_row.new.text _ c.loop-row-test.true c.in_ok-push_row.ensures c.loop-row.invariant
