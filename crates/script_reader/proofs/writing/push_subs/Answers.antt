use Rattle.script_reader.proofs.Pushed.{sub_pushed}
use Rattle.script_reader.proofs.writing.push_subs.Goals as goal

pub loop-sub-preserved : goal.loop-sub-preserved
loop-sub-preserved c =
    sub_pushed c.args.items.now c.args.subs.now c.loop-sub.sub-index c.sub-item.result c.items.result.now c.loop-sub.text c.push_sub.new.text c.push_ops.new.text _ c.loop-sub-test.true
    c.sub-item.is c.items.ensures.items c.in_ok-push_sub.ensures c.in_ok-push_ops.ensures c.loop-sub.invariant
