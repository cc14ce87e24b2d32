use Rattle.std.proofs.Common.{◌∙◌, ap}
use Rattle.std.specs.Prelude.{position}
use Rattle.std.specs.Str.{bytes_eq}
use Rattle.script_parts.specs.ScriptData.{ScriptData}
use Rattle.tx_trees.specs.Found.{tree_place}
use Rattle.tx_trees.proofs.FoundTrees.{tree_place_is}
use Rattle.tx_trees.proofs.script.Script.tree_number.Goals as goal

pub returns-clause-number : goal.returns-clause-number
returns-clause-number c =
    let name = c.args.name.now in
    c.number.ensures.number
    ∙ ap (position (bytes_eq name)) c.self.invariant.tree_names
    ∙ tree_place_is name c.self.inside.trees.items
    ∙ ap (λ (h : ScriptData). tree_place name h.trees) c.self.view_is
