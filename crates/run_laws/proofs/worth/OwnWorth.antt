-- What a node sees of its item is what the item is worth, if all that changed the item is closed; and it is closed up
-- to a version if each writer of the versions up to it is complete.
use Rattle.std.proofs.Common.{◌≡◌, ℕ, ◌<◌, ◌≤◌, List, reverse, refl, ap, ◌∙◌, Some}
use Rattle.std.specs.Prelude.{slice_get}
use Rattle.commute_ops.specs.declared.value.Value.{Value}
use Rattle.letter_types.specs.declared.entries.Entry.{Entry}
use Rattle.script_parts.specs.declared.parts.ItemRow.{ItemRow}
use Rattle.script_parts.specs.ScriptData.{ScriptData}
use Rattle.script_parts.specs.Valid.{IsValid}
use Rattle.world_model.specs.Runs.{IsStepRun, node_in}
use Rattle.board_rules.specs.Histories.{places_of}
use Rattle.board_rules.specs.Moves.{AllWholeTo}
use Rattle.board_rules.specs.Rules.{is_writer}
use Rattle.board_rules.specs.Worth.{worth}
use Rattle.board_rules.proofs.ClosedWorth.{IsClosed, made_is_worth}
use Rattle.board_rules.proofs.Effects.{made_in}
use Rattle.board_rules.proofs.ItemAt.{item_at}
use Rattle.board_rules.proofs.Shown.{closed_if_whole}
use Rattle.tree_laws.specs.SeenAt.{seen_at}
use Rattle.tree_laws.proofs.apt.AptVersions.{before}
use Rattle.run_laws.proofs.worth.OtherValues.{values_are_made}
use Rattle.run_laws.proofs.items.SeenByActs.{sees_by_acts}
use Rattle.run_laws.specs.Shown.{WritersAreWhole}
use Rattle.run_laws.proofs.each_tree.EveryApt.{all_apt}
use Rattle.run_laws.proofs.each_tree.Late.{no_reader, writer_there}
use Rattle.run_laws.proofs.act_order.Rules.{follows_rules}

-- what a node sees of its item, from its low version up, is what its acts have made of it
pub seen_is_made : (s : ScriptData) (past : List Entry) (p x v : ℕ) (r : ItemRow) → IsValid s → IsStepRun s past → p < s.nodes
    → slice_get s.items x ≡ Some r → r.node.0 ≡ p → (node_in s past p).turns.low.0 ≤ v → seen_at s past p x v ≡ Some (made_in s (before past) p x v)
seen_is_made s past p x v r valid run lt at node low =
    sees_by_acts s past p x v r valid (all_apt s past valid run) run lt at node low
    ∙ ap (λ (w : Value). Some w) (values_are_made s (before past) p x v)

-- so it is what the item is worth, where the item is closed
pub own_is_worth : (s : ScriptData) (past : List Entry) (p x v : ℕ) (r : ItemRow) → IsValid s → IsStepRun s past → p < s.nodes
    → slice_get s.items x ≡ Some r → r.node.0 ≡ p → (node_in s past p).turns.low.0 ≤ v → IsClosed s (before past) p x v
    → seen_at s past p x v ≡ Some (worth s (reverse past) x v)
own_is_worth s past p x v r valid run lt at node low closed =
    seen_is_made s past p x v r valid run lt at node low
    ∙ ap (λ (w : Value). Some w)
    (made_is_worth s (before past) p x v valid (follows_rules s past valid run) (item_at s p x r valid at node) closed)

-- a writer is a tree that doesn't read
pub writers_are_whole : (s : ScriptData) (h : List Entry) (v : ℕ) → WritersAreWhole s h v → AllWholeTo (is_writer s) s (places_of h) v
writers_are_whole s h v whole = λ t w writes born le.
    whole t w (writer_there s t writes) (no_reader s t (slice_get s.trees t) refl writes) born le

-- where each writer of version at most v is whole, the item is closed
pub shown_is_closed : (s : ScriptData) (past : List Entry) (p x v : ℕ) (r : ItemRow) → IsValid s → slice_get s.items x ≡ Some r → r.node.0 ≡ p
    → WritersAreWhole s (reverse past) v → IsClosed s (before past) p x v
shown_is_closed s past p x v r valid at node whole =
    closed_if_whole s (before past) p x v (item_at s p x r valid at node) (writers_are_whole s (reverse past) v whole)
