use Rattle.std.proofs.Common.{sym, subst}
use Rattle.tx_trees.specs.AsciiNames.{AreAsciiTrees}
use Rattle.tx_trees.specs.ScriptData.{ScriptData}
use Rattle.tx_trees.proofs.AsciiNames.{trees_ascii}
use Rattle.report_text.proofs.replies.Replies.push_lines.Goals as goal

pub push_rest-added-requires-clause-names : goal.push_rest-added-requires-clause-names
push_rest-added-requires-clause-names c =
    let s : ScriptData = c.args.script.now in
    subst AreAsciiTrees (sym c.trees.ensures.trees) (trees_ascii s.nodes s.items s.trees c.trees.ensures.valid.trees)
