use Rattle.std.proofs.Common.{◌≤◌, ◌+◌, refl, ap, arith}
use Rattle.pair_counters.specs.Rows.{CounterRows}
use Rattle.pair_counters.proofs.Rows.{counts-are}
use Rattle.pair_counters.proofs.counters.Counters.asked.Goals as goal

pub returns : goal.returns
returns c =
    let low = c.self.inside.low.0 in
    let same = ap (λ (n : CounterRows). n.low) c.self.view_is in
    let from : low ≤ c.args.v.0 = omega (arith, same) in
    let up_to : c.args.v.0 ≤ low + 2 = omega (arith, same) in
    rw (← c.self.view_is)
    (counts-are _ _ low low c.count_asked.new.rows _ _ refl refl
    (c.count_asked.ensures.asked low from up_to) (c.count_asked.ensures.done low from up_to))
