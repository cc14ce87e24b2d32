-- The small run with a read transaction: after the update transaction is complete, the read transaction still shows the
-- initial values.
use Rattle.std.proofs.Common.{◌≡◌, true, [], ◌∷◌, reverse, refl, Some}
use Rattle.std.specs.Prelude.{pos}
use Rattle.commute_ops.specs.declared.value.Value.TheVariants.{Sum}
use Rattle.tx_trees.specs.ScriptData.{ops_of}
use Rattle.board_rules.specs.Histories.{is_whole, version_of}
use Rattle.board_rules.specs.Right.{shown}
use Rattle.board_rules.specs.Worth.{worth}
use Rattle.world_model.specs.Sample.{sample, with_read}

pub update_is_whole : is_whole with_read (reverse (sample with_read 20)) 0 ≡ true
update_is_whole = refl

pub read_is_whole : is_whole with_read (reverse (sample with_read 20)) 1 ≡ true
read_is_whole = refl

pub read_in_first : version_of (reverse (sample with_read 20)) 1 ≡ Some (record { 0 = 0 })
read_in_first = refl

pub update_in_next : version_of (reverse (sample with_read 20)) 0 ≡ Some (record { 0 = 1 })
update_in_next = refl

pub shown_first : shown with_read (reverse (sample with_read 20)) 0 (ops_of with_read 1 0) ≡ (record { 0 = 1 }, Sum (record { 0 = pos 0 })) ∷ []
shown_first = refl

pub worth_next : worth with_read (reverse (sample with_read 20)) 1 1 ≡ Sum (record { 0 = pos 7 })
worth_next = refl
