use Rattle.std.proofs.Common.{sym, subst}
use Rattle.tx_trees.specs.AsciiNames.{AreAsciiItems}
use Rattle.tx_trees.specs.ScriptData.{ScriptData}
use Rattle.tx_trees.proofs.AsciiNames.{items_ascii}
use Rattle.report_text.proofs.reads.values_of.Goals as goal

pub values_in-requires : goal.values_in-requires
values_in-requires c =
    let s : ScriptData = c.args.script.now in
    subst AreAsciiItems (sym c.items.ensures.items) (items_ascii s.nodes s.items c.items.ensures.valid.items)
