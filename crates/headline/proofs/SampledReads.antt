-- A small run with two update transactions, of which the first is compensated, and after an advancement a read. Both
-- are complete and are in the serial order; what the read is shown is the work of the second alone, with the first and
-- without it.
use Rattle.std.proofs.Common.{◌≡◌, ℕ, true, List, [], ◌∷◌, reverse, refl, Some}
use Rattle.std.specs.Prelude.{pos}
use Rattle.commute_ops.specs.declared.value.Value.TheVariants.{Sum}
use Rattle.letter_types.specs.declared.entries.Entry.{Entry}
use Rattle.tx_trees.specs.ScriptData.{ScriptData, ops_of, subs_at}
use Rattle.tx_trees.specs.Undone.{undone}
use Rattle.tx_trees.specs.declared.parts.Form.TheVariants.{Two}
use Rattle.tx_trees.specs.declared.parts.ScriptRow.TheVariants.{Tree, Advance, Settle}
use Rattle.tx_trees.specs.declared.parts.Sub.{Sub}
use Rattle.tx_trees.specs.declared.parts.TreeKind.TheVariants.{Update}
use Rattle.board_rules.specs.Histories.{is_whole, version_of}
use Rattle.board_rules.specs.Right.{shown, with_worths}
use Rattle.board_rules.specs.Serial.{serial_to}
use Rattle.world_model.specs.Sample.{sample, with_read}
use Rattle.headline.specs.Undone.{is_undone, worth_kept}

-- the small script with a read, and before its trees one that is undone, since its child that adds 7 to item b fails
abbrev failing : ScriptData
failing =
    let subs : List Sub = subs_at with_read 0 in
    record with_read {
      form = Two;
      trees = record {
        name = 117 ∷ [];
        kind = Update;
        subs = undone subs 1;
        written = Some (record { failed = record { 0 = 1 }; subs = subs });
      } ∷ with_read.trees;
      rows = Tree (record { 0 = 0 }) ∷ Tree (record { 0 = 1 }) ∷ Advance ∷ Settle ∷ Tree (record { 0 = 2 }) ∷ [];
    }

abbrev ran : List Entry
ran = reverse (sample failing 64)

first_is_undone : is_undone failing 0 ≡ true
first_is_undone = refl

first_is_whole : is_whole failing ran 0 ≡ true
first_is_whole = refl

both_are_serial : serial_to failing ran 1 ≡ 1 ∷ 0 ∷ []
both_are_serial = refl

read_in_next : version_of ran 2 ≡ Some (record { 0 = 1 })
read_in_next = refl

shown_with : shown failing ran 1 (ops_of failing 2 1) ≡ (record { 0 = 0 }, Sum (record { 0 = pos 15 })) ∷ []
shown_with = refl

shown_without : with_worths (λ (x : ℕ). worth_kept failing ran x 1) (ops_of failing 2 1) ≡ (record { 0 = 0 }, Sum (record { 0 = pos 15 })) ∷ []
shown_without = refl
