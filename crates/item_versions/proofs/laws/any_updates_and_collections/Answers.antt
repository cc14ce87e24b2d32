use Rattle.item_versions.proofs.History.{sees_updates, holds_updated, stays_held}
use Rattle.item_versions.proofs.laws.any_updates_and_collections.Goals as goal

pub returns : goal.returns
returns c = record {
  seen = sees_updates;
  versions = holds_updated;
  ascending = stays_held;
}
