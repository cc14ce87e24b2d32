use Rattle.std.proofs.Common.{refl}
use Rattle.script_reader.proofs.Pushed.{tree_pushed}
use Rattle.script_reader.proofs.writing.push_rooted.Goals as goal

pub returns : goal.returns
returns c =
    tree_pushed c.args.items.now c.args.tree.now.kind c.args.tree.now.name c.args.subs.now c.args.subs.now c.root-item.result c.items.result.now c.args.text.now c.push_root.new.text c.push_ops.new.text c.push_subs.new.text c.push_subs.result
    c.in-len1-up.len_at_least refl c.root-item.is c.items.ensures.items c.in_ok-push_root.ensures c.in_ok-push_ops.ensures c.push_subs.ensures
