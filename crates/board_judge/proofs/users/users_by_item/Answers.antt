use Rattle.std.proofs.Common.{ap, List, length}
use Rattle.script_parts.specs.declared.parts.ItemRow.{ItemRow}
use Rattle.board_judge.proofs.Listing.{trees_on, trees_none, trees_all}
use Rattle.board_judge.proofs.users.users_by_item.Goals as goal

pub loop-t-init : goal.loop-t-init
loop-t-init c =
    trees_none c.args.script.now c.args.strict (length c.items.result.now) c.in_ok-users.users.items
    (ap (λ (rows : List ItemRow). length rows) c.items.ensures.items) c.in_ok-users.ensures

pub loop-t-preserved : goal.loop-t-preserved
loop-t-preserved c =
    trees_on c.args.script.now c.args.strict c.loop-t.t c.trees-tree-items.result.now c.tree-item.result c.loop-t.users.items c.add_tree.new.users.items
    c.trees-tree-items.ensures.trees c.loop-t-test.true c.tree-item.is c.loop-t.invariant c.in_ok-add_tree.ensures

pub returns : goal.returns
returns c =
    trees_all c.args.script.now c.args.strict c.trees-tree-items.result.now c.loop-t.t c.loop-t.users.items
    c.trees-tree-items.ensures.trees c.loop-t-test.false c.loop-t.invariant
