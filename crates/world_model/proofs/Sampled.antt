-- The small run ends, and each node then holds what it was to.
use Rattle.std.proofs.Common.{◌≡◌, ℤ, true, [], ◌∷◌, length, refl, Some}
use Rattle.std.specs.Prelude.{pos}
use Rattle.commute_ops.specs.declared.value.Value.TheVariants.{Sum}
use Rattle.item_versions.specs.Item.{Held}
use Rattle.item_versions.specs.Table.{item_in}
use Rattle.world_model.specs.Runs.{in_flight, node_in, client_in}
use Rattle.world_model.specs.Sample.{sample, small, with_read}

-- two sums, of versions 0 and 1
abbrev two_sums : ℤ → ℤ → Held
two_sums a b = (record { 0 = 0 }, Sum (record { 0 = a })) ∷ (record { 0 = 1 }, Sum (record { 0 = b })) ∷ []

pub entries : length (sample small 10) ≡ 6
entries = refl

pub all_taken : in_flight small (sample small 10) ≡ []
all_taken = refl

pub first_item : item_in (record { 0 = 0 }) (node_in small (sample small 10) 0).items ≡ Some (two_sums (pos 10) (pos 15))
first_item = refl

pub second_item : item_in (record { 0 = 1 }) (node_in small (sample small 10) 1).items ≡ Some (two_sums (pos 0) (pos 7))
second_item = refl

-- the run with a read: a settle, an answer and a finished client
pub more_entries : length (sample with_read 20) ≡ 11
more_entries = refl

pub all_taken_too : in_flight with_read (sample with_read 20) ≡ []
all_taken_too = refl

pub finished : (client_in with_read (sample with_read 20)).finished ≡ true
finished = refl

-- before the settle is passed the read isn't sent
pub waits_at_settle : (client_in with_read (sample with_read 1)).next ≡ 1
waits_at_settle = refl

-- each pair's requests are its completions in the end
pub first_pair : (node_in with_read (sample with_read 20) 0).counts.asked 1 1 ≡ (node_in with_read (sample with_read 20) 1).counts.done 1 0
first_pair = refl

pub second_pair : (node_in with_read (sample with_read 20) 1).counts.asked 1 0 ≡ 1
second_pair = refl

-- while the child is in flight, its request has no completion
pub asked_before : (node_in small (sample small 2) 0).counts.asked 1 1 ≡ 1
asked_before = refl

pub not_done_before : (node_in small (sample small 2) 1).counts.done 1 0 ≡ 0
not_done_before = refl
