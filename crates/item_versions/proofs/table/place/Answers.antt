use Rattle.std.proofs.Common.{◌+◌, ◌-◌, ◌/◌, ◌<◌, length, arith, rules}
use Rattle.item_versions.proofs.Halving.{before-middle}
use Rattle.item_versions.proofs.table.place.Goals as goal

pub loop-low-preserved-then-lt : goal.loop-low-preserved-then-lt
loop-low-preserved-then-lt c =
    let m = c.loop-low.low + (c.loop-low.high - c.loop-low.low) / 2 in
    let x = c.index-entries-middle.result in
    let below : x.0.0 < c.args.item.0 = search rules in
    let within : m < length c.args.entries.now = omega arith in
    record {
      within = c.loop-low.invariant.within;
      before = before-middle c.args.entries.now m c.args.item.0 x c.requires within c.index-entries-middle.is below;
      after = c.loop-low.invariant.after;
    }
