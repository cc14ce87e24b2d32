use Rattle.std.proofs.Common.{◌≡◌, ◌∙◌, sym, subst}
use Rattle.client_rows.specs.Kept.{Kept}
use Rattle.client_rows.specs.Held.{kept_here}
use Rattle.client_rows.specs.inside.Heard.{finishes_with_news}
use Rattle.client_rows.specs.inside.Places.{place_reached}
use Rattle.client_rows.proofs.Submits.{finish_at, same_finish}
use Rattle.client_rows.proofs.client.Client.finishes_at.Goals as goal

pub returns : goal.returns
returns c =
    let s = c.args.script.now in
    let news = c.args.news in
    let at = c.reaches-at.result in
    let held : Kept = kept_here c.self.inside in
    let place = subst
    (λ (k : Kept). at ≡ place_reached s.rows news k.client)
    (sym c.self.view_is) c.reaches-at.ensures.place in
    let finish = c.finishes.ensures ∙ same_finish at held.client.finished c.rows.ensures c.ended_after-ended.ensures in
    subst
    (λ (k : Kept). c.finishes.result ≡ finishes_with_news s news k.client)
    c.self.view_is
    (finish_at s news held.client at c.finishes.result place finish)
