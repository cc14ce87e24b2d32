use Rattle.std.proofs.Common.{◌≡◌, ◌+◌, ◌∙◌, sym, ap, arith}
use Rattle.client_rows.specs.News.{answered_after}
use Rattle.client_rows.specs.inside.Places.{place_at}
use Rattle.client_rows.specs.declared.places.RowPlace.{RowPlace}
use Rattle.client_rows.proofs.Further.{furthest-goes, furthest-waits}
use Rattle.client_rows.proofs.places.furthest.Goals as goal

pub returns-then-waits-clause-place : goal.returns-then-waits-clause-place
returns-then-waits-clause-place c =
    let here = furthest-waits _ _ c.args.rows.now c.loop-at.at _ c.loop-at-test.true c.loop-at.invariant.place (sym c.if-waits.ensures) in
    c.loop-at.invariant.place
    ∙ ap (place_at c.args.rows.now (answered_after c.args.news c.args.answered.now)) (sym here ∙ c.loop-at.invariant.same)

pub loop-at-preserved : goal.loop-at-preserved
loop-at-preserved c =
    let next : c.behind_next-at.result.next ≡ c.loop-at.at.next + 1 = ap (λ (p : RowPlace). p.next) c.behind_next-at.ensures in
    let further = furthest-goes _ _ c.args.rows.now c.loop-at.at _ c.loop-at-test.true c.loop-at.invariant.place (sym c.if-waits.ensures) in
    record {
      within = omega arith;
      forward = omega arith;
      place = c.behind_next-at.ensures ∙ ap (place_at c.args.rows.now (answered_after c.args.news c.args.answered.now)) (sym next);
      same = rw next (further ∙ c.loop-at.invariant.same);
    }
