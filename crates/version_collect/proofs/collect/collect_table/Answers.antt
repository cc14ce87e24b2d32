use Rattle.std.proofs.Common.{arith}
use Rattle.version_collect.proofs.Collected.{can-next, step-items, walked, numbers-all, seen-all}
use Rattle.version_collect.proofs.collect.collect_table.Goals as goal

pub collect_at-requires-clause-can : goal.collect_at-requires-clause-can
collect_at-requires-clause-can c =
    can-next c.args.f c.args.items.now c.loop-place.items c.loop-place.place c.requires c.loop-place.invariant

pub loop-place-preserved : goal.loop-place-preserved
loop-place-preserved c =
    step-items c.args.f c.args.items.now c.loop-place.items _ c.loop-place.place (omega arith) c.loop-place.invariant
    c.collect_at.ensures

pub returns-clause-numbers : goal.returns-clause-numbers
returns-clause-numbers c =
    rw (walked c.args.f c.args.items.now c.loop-place.items c.loop-place.place (omega arith) c.loop-place.invariant)
    (numbers-all c.args.f c.args.items.now)

pub returns-clause-seen : goal.returns-clause-seen
returns-clause-seen c =
    rw (walked c.args.f c.args.items.now c.loop-place.items c.loop-place.place (omega arith) c.loop-place.invariant)
    (λ v le. seen-all c.args.f v c.args.items.now c.count-count.ensures.held le)
