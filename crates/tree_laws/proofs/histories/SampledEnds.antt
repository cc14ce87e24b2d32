-- The small runs have as many entries as their scripts say, and their client finishes once.
use Rattle.std.proofs.Common.{◌≡◌, reverse, refl}
use Rattle.world_model.specs.Sample.{sample, small, with_read}
use Rattle.tree_laws.specs.Ends.{finishes_in}
use Rattle.tree_laws.specs.Entries.{entries_of}

pub entries : entries_of small 0 ≡ 6
entries = refl

pub more_entries : entries_of with_read 0 ≡ 11
more_entries = refl

pub finishes : finishes_in (reverse (sample small 10)) ≡ 1
finishes = refl

pub finishes_too : finishes_in (reverse (sample with_read 20)) ≡ 1
finishes_too = refl

-- before the last answer is heard it hasn't finished
pub not_before : finishes_in (reverse (sample small 4)) ≡ 0
not_before = refl
