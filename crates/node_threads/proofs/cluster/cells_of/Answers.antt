use Rattle.std.proofs.Common.{◌≡◌, ◌+◌, ◌-◌, refl, ap, sym, ◌∙◌, arith, rules}
use Rattle.stamp_post.specs.Shown.{new_seats}
use Rattle.stamp_post.proofs.Known.{new_seats_first}
use Rattle.node_threads.proofs.Seats.{no_seats}
use Rattle.node_threads.proofs.cluster.cells_of.Goals as goal

pub unreachable-requires : goal.unreachable-requires
unreachable-requires g c =
    let n = c.loop-number.number in
    no_seats g.K.PostName.post n (c.args.actors - n) (sym c.loop-number.invariant.seats ∙ c.in_default.ensures.none.0 refl) (omega (arith, c.loop-number-test.true))

pub start-requires-clause-seat : goal.start-requires-clause-seat
start-requires-clause-seat g c =
    let n = c.loop-number.number in
    let f = new_seats_first g.K.PostName.post n (c.args.actors - n) c.in-Some.seat _
    (sym c.loop-number.invariant.seats ∙ c.in-Some.ensures.first) in f.0

pub loop-number-preserved : goal.loop-number-preserved
loop-number-preserved g c =
    let n = c.loop-number.number in
    let f = new_seats_first g.K.PostName.post n (c.args.actors - n) c.in-Some.seat _
    (sym c.loop-number.invariant.seats ∙ c.in-Some.ensures.first) in
    let on : c.args.actors - n - 1 ≡ c.args.actors - (n + 1) = omega arith in record {
      seats = f.1 ∙ ap (new_seats g.K.PostName.post (n + 1)) on;
      count = search rules;
    }
