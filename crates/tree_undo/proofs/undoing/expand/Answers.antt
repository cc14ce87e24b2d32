use Rattle.tree_undo.proofs.Steps.{few_marks}
use Rattle.tree_undo.proofs.undoing.expand.Goals as goal

pub push_staying-requires : goal.push_staying-requires
push_staying-requires c = few_marks c.args.failed.0 c.deref.result.now _ _ c.args.subs.now c.deref.ensures.value c.in_ok-goes.ensures c.items.ensures.items c.requires.few

pub push_inverses-requires-clause-few : goal.push_inverses-requires-clause-few
push_inverses-requires-clause-few c = few_marks c.args.failed.0 c.deref-2.result.now _ _ c.args.subs.now c.deref-2.ensures.value c.in_ok-goes.ensures c.items.ensures.items c.requires.few
