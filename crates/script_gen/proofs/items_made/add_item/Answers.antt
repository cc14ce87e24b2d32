use Rattle.std.proofs.Common.{sym, subst}
use Rattle.tx_trees.specs.Passing.{MayAddItem}
use Rattle.tx_trees.specs.ScriptData.{ScriptData}
use Rattle.tx_trees.specs.declared.parts.ItemRow.{ItemRow}
use Rattle.script_gen.specs.inside.Within.{with_items}
use Rattle.script_gen.proofs.Items.{item_may}
use Rattle.script_gen.proofs.items_made.add_item.Goals as goal

pub take_item-requires : goal.take_item-requires
take_item-requires c =
    subst (λ (s : ScriptData). MayAddItem s c.item_row-row.result) (sym c.requires.so_far)
    (subst (λ (r : ItemRow). MayAddItem (with_items c.args.k) r) (sym c.item_row-row.ensures) (item_may c.args.k c.requires.small))
