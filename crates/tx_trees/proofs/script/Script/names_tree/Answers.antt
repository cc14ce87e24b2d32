use Rattle.std.proofs.Common.{◌∙◌, ap}
use Rattle.std.specs.List.{list_any}
use Rattle.std.specs.Str.{bytes_eq}
use Rattle.script_parts.specs.ScriptData.{ScriptData}
use Rattle.script_parts.specs.Adding.{names_tree}
use Rattle.script_parts.proofs.Named.{has_tree}
use Rattle.tx_trees.proofs.script.Script.names_tree.Goals as goal

pub returns : goal.returns
returns c =
    let name = c.args.name.now in
    c.has.ensures
    ∙ ap (list_any (bytes_eq name)) c.self.invariant.tree_names
    ∙ has_tree name c.self.inside.trees.items
    ∙ ap (λ (h : ScriptData). names_tree name h.trees) c.self.view_is
