use Rattle.std.proofs.Common.{◌≡◌, ◌∙◌, IfOk, sym, ap, subst}
use Rattle.letter_types.specs.Steps.{Out}
use Rattle.world_model.specs.Client.{Client, client_row}
use Rattle.client_rows.specs.Changes.{client_step, IsClientStepOf}
use Rattle.client_rows.specs.inside.Heard.{heard_row}
use Rattle.client_rows.proofs.Submits.{row-heard}
use Rattle.client_rows.proofs.client.Client.prepare.Goals as goal

pub returns-in-Told : goal.returns-in-Told
returns-in-Told c =
    let s = c.args.script.now in
    let k = c.args.self.now in
    let body = c.args.letter.now.body in
    let row : client_row s k.client body ≡ heard_row s k.client c.heard_of.result =
    row-heard s k.client body ∙ ap (heard_row s k.client) (sym c.heard_of.ensures) in
    let told = row ∙ ap (heard_row s k.client) c.in-Told.is in
    subst (λ (o : Out Client). IfOk c.submit.result (λ change. IsClientStepOf s o k (client_step change c.submit.new.sent c.submit.new.acts))) (sym told) c.submit.ensures
