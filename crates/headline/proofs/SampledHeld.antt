-- The small run, and what its nodes hold at its end: each item in version 0, which no advancement has left, and in
-- version 1, which the transaction wrote. In the same run with an advancement after the transaction, version 1 alone is
-- left.
use Rattle.std.proofs.Common.{◌≡◌, ℤ, true, [], ◌∷◌, ◌++◌, reverse, refl}
use Rattle.std.specs.Prelude.{pos}
use Rattle.commute_ops.specs.declared.value.Value.TheVariants.{Sum}
use Rattle.item_versions.specs.Item.{Held}
use Rattle.tx_trees.specs.ScriptData.{ScriptData}
use Rattle.tx_trees.specs.declared.parts.ScriptRow.TheVariants.{Advance}
use Rattle.board_rules.specs.Worth.{is_written}
use Rattle.world_model.specs.Sample.{sample, small}
use Rattle.headline.specs.Held.{held_after, worth_at_end}

-- two sums, of versions 0 and 1
abbrev two_sums : ℤ → ℤ → Held
two_sums a b = (record { 0 = 0 }, Sum (record { 0 = a })) ∷ (record { 0 = 1 }, Sum (record { 0 = b })) ∷ []

pub first_held : held_after small (reverse (sample small 10)) 0 0 ≡ two_sums (pos 10) (pos 15)
first_held = refl

pub second_held : held_after small (reverse (sample small 10)) 1 1 ≡ two_sums (pos 0) (pos 7)
second_held = refl

pub first_worth : worth_at_end small (reverse (sample small 10)) 0 0 ≡ two_sums (pos 10) (pos 15)
first_worth = refl

pub second_worth : worth_at_end small (reverse (sample small 10)) 1 0 ≡ two_sums (pos 0) (pos 7)
second_worth = refl

-- before its child is done, the tree has written the child's item, which its node holds in version 0 alone
pub not_held_before : held_after small (reverse (sample small 2)) 1 1 ≡ (record { 0 = 0 }, Sum (record { 0 = pos 0 })) ∷ []
not_held_before = refl

pub written_before : is_written small (reverse (sample small 2)) 1 1 ≡ true
written_before = refl

-- an advancement after the tree
abbrev pub advanced : ScriptData
advanced = record small { rows = small.rows ++ Advance ∷ [] }

-- one sum, of version 1
abbrev one_sum : ℤ → Held
one_sum a = (record { 0 = 1 }, Sum (record { 0 = a })) ∷ []

pub first_left : held_after advanced (reverse (sample advanced 44)) 0 0 ≡ one_sum (pos 15)
first_left = refl

pub second_left : held_after advanced (reverse (sample advanced 44)) 1 1 ≡ one_sum (pos 7)
second_left = refl

pub first_worth_left : worth_at_end advanced (reverse (sample advanced 44)) 0 1 ≡ one_sum (pos 15)
first_worth_left = refl

pub second_worth_left : worth_at_end advanced (reverse (sample advanced 44)) 1 1 ≡ one_sum (pos 7)
second_worth_left = refl
