use Rattle.std.proofs.Common.{if◌then◌else◌, ◌∙◌, Bool, [], ◌∷◌, sym, ap}
use Rattle.letter_types.specs.declared.acts.Act.TheVariants.{Finished}
use Rattle.letter_types.specs.Steps.{Out}
use Rattle.world_model.specs.Client.{Client}
use Rattle.client_rows.specs.inside.Heard.{heard_row}
use Rattle.client_rows.proofs.Submits.{row-heard}
use Rattle.client_rows.proofs.client.Client.ends_with.Goals as goal

pub returns-in-Told : goal.returns-in-Told
returns-in-Told c =
    let k = c.args.self.now in
    ap (λ (o : Out Client). o.acts) (row-heard c.args.script.now k.client c.args.letter.now.body
    ∙ ap (heard_row c.args.script.now k.client) (sym c.heard_of.ensures ∙ c.in-Told.is))
    ∙ ap (λ (b : Bool). if b then Finished ∷ [] else []) (sym c.finishes_at.ensures)
