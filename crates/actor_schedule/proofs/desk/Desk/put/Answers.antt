use Rattle.std.proofs.Common.{◌≡◌, ◌<◌, ◌∷◌, ◌++◌, [], ap, arith, get_or, length, set, ◌∙◌}
use Rattle.std.proofs.lemmas.List.{get_or_default}
use Rattle.std.proofs.lemmas.Result.{on_ok_weaker}
use Rattle.actor_schedule.specs.Desks.{DeskData, sorted_in}
use Rattle.actor_schedule.proofs.desk.Desk.put.Goals as goal

pub returns-clause-ok : goal.returns-clause-ok
returns-clause-ok g c =
    let e = c.args.envelope in
    let to = c.letter.result.now.to.0 in
    let trays = c.self.inside.trays.items in
    let tray = c.index_mut.result.now in
    let addressee : to ≡ e.letter.to.0 = ap (λ l. l.to.0) c.letter.ensures.letter in
    let within : to < length trays = omega (arith, c.self.invariant, c.letter.ensures.addressed, addressee, ap (λ p. p.actors) c.requires) in
    let there : tray ≡ get_or trays to [] = c.index_mut.ensures.value ∙ get_or_default trays to tray [] within in
    let at : set trays to (get_or trays to [] ++ e ∷ []) ≡ sorted_in e trays =
    ap (λ k. set trays k (get_or trays k [] ++ e ∷ [])) addressee in
    let whole : sorted_in e trays ≡ sorted_in e c.args.self.now.trays = ap (λ (d : DeskData). sorted_in e d.trays) c.self.view_is in
    on_ok_weaker c.put.result (λ put. ap (λ t. set trays to t) (put ∙ ap (λ t. t ++ e ∷ []) there) ∙ at ∙ whole) c.put.ensures.ok
