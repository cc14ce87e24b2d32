use Rattle.std.proofs.Common.{◌<◌, ◌≤◌, ◌-◌, ℕ, length, get_or}
use Rattle.tv_base.specs.declared.numbers.ItemNo.{ItemNo}
use Rattle.item_versions.specs.Item.{Held}
use Rattle.item_versions.proofs.table.place.Given as goal

abbrev pub invariant-loop-low : goal.invariant-loop-low
invariant-loop-low l = record {
  within : l.high ≤ length l.entries;
  before : (k : ℕ) (d : ItemNo × Held) → k < l.low → (get_or l.entries k d).0.0 < l.item.0;
  after : (k : ℕ) (d : ItemNo × Held) → l.high ≤ k → k < length l.entries → l.item.0 < (get_or l.entries k d).0.0;
}

abbrev pub decreases-loop-low : goal.decreases-loop-low
decreases-loop-low l = l.high - l.low
