use Rattle.std.proofs.Common.{◌≡◌, ◌∙◌, ◌^◌, ◌<◌, ◌≤◌, length, sym, ap, subst, List, arith}
use Rattle.tx_trees.specs.Adding.{advances_in}
use Rattle.tx_trees.specs.declared.parts.ScriptRow.{ScriptRow}
use Rattle.client_rows.specs.Kept.{Kept}
use Rattle.client_rows.specs.Held.{kept_here}
use Rattle.client_rows.specs.inside.Places.{place_reached}
use Rattle.client_rows.specs.declared.places.RowPlace.{RowPlace}
use Rattle.client_rows.proofs.Submits.{same_place}
use Rattle.client_rows.proofs.client.Client.reaches.Goals as goal

pub furthest-requires-clause-few : goal.furthest-requires-clause-few
furthest-requires-clause-few c =
    let few : advances_in c.args.script.now.rows < 2 ^ 32 = omega (arith, c.nodes-valid.ensures.valid.limited.advances) in
    subst (λ (rows : List ScriptRow). advances_in rows < 2 ^ 32) (sym c.rows-rows.ensures) few

pub returns-clause-forward : goal.returns-clause-forward
returns-clause-forward c =
    let held : Kept = kept_here c.self.inside in
    let from : c.with_news-known.result.next ≡ held.client.next = ap (λ (p : RowPlace). p.next) c.with_news-known.ensures in
    subst (λ (k : Kept). k.client.next ≤ c.furthest.result.next) c.self.view_is (omega (arith, from, c.furthest.ensures.forward))

pub returns-clause-within : goal.returns-clause-within
returns-clause-within c =
    subst (λ (rows : List ScriptRow). c.furthest.result.next ≤ length rows) c.rows-rows.ensures c.furthest.ensures.within

pub returns-clause-place : goal.returns-clause-place
returns-clause-place c =
    let s = c.args.script.now in
    let news = c.args.news in
    let held : Kept = kept_here c.self.inside in
    let from : c.with_news-known.result.next ≡ held.client.next = ap (λ (p : RowPlace). p.next) c.with_news-known.ensures in
    subst
    (λ (k : Kept). c.furthest.result
    ≡ place_reached s.rows news k.client)
    c.self.view_is
    (c.furthest.ensures.place ∙ same_place news c.rows-rows.ensures c.deref-2.ensures.value c.ended_after-ended.ensures from)
