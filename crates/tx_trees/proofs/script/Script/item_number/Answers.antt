use Rattle.std.proofs.Common.{◌∙◌, ap}
use Rattle.std.specs.Prelude.{position}
use Rattle.std.specs.Str.{bytes_eq}
use Rattle.script_parts.specs.ScriptData.{ScriptData}
use Rattle.script_parts.specs.Adding.{place_of}
use Rattle.script_parts.proofs.Named.{place_is}
use Rattle.tx_trees.proofs.script.Script.item_number.Goals as goal

pub returns-clause-number : goal.returns-clause-number
returns-clause-number c =
    let name = c.args.name.now in
    c.number.ensures.number
    ∙ ap (position (bytes_eq name)) c.self.invariant.item_names
    ∙ place_is name c.self.inside.items.items
    ∙ ap (λ (h : ScriptData). place_of name h.items) c.self.view_is
