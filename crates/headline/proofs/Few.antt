-- An item's versions ascend from the low version to at most the update version, so of each item at most three are held,
-- after each part of a history.
use Rattle.std.proofs.Common.{◌≡◌, inl, inr, ℕ, ◌+◌, ◌-◌, ◌<◌, ◌≤◌, List, [], ◌∷◌, length, take, drop, reverse, refl, ap, ◌∙◌, arith, Option, Some, None}
use Rattle.std.specs.Prelude.{slice_get}
use Rattle.std.proofs.lemmas.Bool.{cases_lt}
use Rattle.std.proofs.lemmas.List.{length-reverse, take_all}
use Rattle.tv_base.specs.declared.numbers.ItemNo.{ItemNo}
use Rattle.item_versions.specs.Item.{Held, IsHeld}
use Rattle.item_versions.specs.Window.{first_version}
use Rattle.item_versions.specs.Table.{item_in}
use Rattle.item_versions.proofs.Holding.{IsHeld-item_in}
use Rattle.item_versions.proofs.Tables.{each-item}
use Rattle.item_versions.proofs.Window.{AllUpTo, IsWindowed-item_in, few-above}
use Rattle.letter_types.specs.declared.entries.Entry.{Entry}
use Rattle.node_versions.specs.declared.turns.Turns.{Turns}
use Rattle.tx_trees.specs.ScriptData.{ScriptData}
use Rattle.tx_trees.specs.Valid.{IsItem, IsValid}
use Rattle.tx_trees.specs.declared.parts.ItemRow.{ItemRow}
use Rattle.tx_trees.proofs.SubsOf.{all_at}
use Rattle.world_model.specs.Runs.{IsStepRun, actor_after, node_in}
use Rattle.world_model.specs.Tables.{ActorData}
use Rattle.world_model.proofs.Back.{node_leads}
use Rattle.run_laws.proofs.each_tree.EveryApt.{all_apt}
use Rattle.run_laws.proofs.each_tree.InTime.{advancing_run}
use Rattle.tree_laws.proofs.histories.Histories.{first_of, run_before}
use Rattle.tree_laws.proofs.apt.AptBounds.{effect_bound, tables_keep}
use Rattle.tree_laws.proofs.apt.AptWindows.{tables_ascend, tables_in_window}
use Rattle.run_laws.proofs.strict.YesVotes.{there_held}
use Rattle.headline.specs.Held.{HasHeldThree, HoldsThree, held_after, items_of, turns_of}
use Rattle.headline.proofs.Highest.{highest_run}

-- The versions held ascend, the first is low, and none is above up
pub record IsKept (low up : ℕ) (h : Held) : Type 0 where
  pub order : IsHeld h
  pub least : (0 < length h) × (first_version h ≡ low)
  pub most : AllUpTo up h

-- strictly ascending numbers from low to at most two above it are at most three
three : (turns : Turns) (h : Held) → turns.update.0 ≤ turns.low.0 + 2 → IsKept turns.low.0 turns.update.0 h → HoldsThree h turns
three turns [] near kept = absurd kept.order
three turns (x ∷ xs) near kept = record {
  few = omega (arith, kept.least.1, few-above x.0.0 turns.update.0 xs kept.most.0 kept.order kept.most.1);
  ascending = kept.order;
  least = kept.least.1;
  most = kept.most;
  update = near;
}

-- each item is at a node of the script
pub item_node : (s : ScriptData) (x : ℕ) (r : ItemRow) → IsValid s → slice_get s.items x ≡ Some r → r.node.0 < s.nodes
item_node s x r valid at = (all_at (IsItem s.nodes) s.items x r valid.items at).node

-- what the node of an item holds of it
pub record HeldAt (s : ScriptData) (past : List Entry) (x : ℕ) (r : ItemRow) : Type 0 where
  pub held : Held
  pub is : item_in (record { 0 = x }) (node_in s past r.node.0).items ≡ Some held
  pub kept : IsKept (node_in s past r.node.0).turns.low.0 (node_in s past r.node.0).turns.update.0 held
  pub after : held_after s (reverse past) r.node.0 x ≡ held

pub held_at : (s : ScriptData) (past : List Entry) (x : ℕ) (r : ItemRow) → IsValid s → IsStepRun s past → slice_get s.items x ≡ Some r
    → HeldAt s past x r
held_at s past x r valid run at =
    let p = r.node.0 in
    let n : ItemNo = record { 0 = x } in
    let lt = item_node s x r valid at in
    let st = node_in s past p in
    let apt = all_apt s past valid run in
    let found = there_held r.kind (effect_bound s past x) (item_in n st.items) (tables_keep s past valid apt run p lt x r at refl) in
    record {
      held = found.0;
      is = found.1;
      kept = record {
        order = IsHeld-item_in n st.items found.0 found.1 (tables_ascend s past p valid apt run lt);
        least = (IsWindowed-item_in st.turns.low.0 n st.items found.0 found.1 (tables_in_window s past p valid apt run lt)).least;
        most = each-item (AllUpTo st.turns.update.0) n st.items found.0 found.1 (highest_run s past p valid run lt);
      };
      after = ap (λ (d : ActorData). elim (item_in n (items_of d)) [ Some held ↦ held | None ↦ [] ]) (node_leads s past p lt)
          ∙ ap (λ (o : Option Held). elim o [ Some held ↦ held | None ↦ [] ]) found.1;
    }

-- in every run
three_at : (s : ScriptData) (past : List Entry) (x : ℕ) (r : ItemRow) → IsValid s → IsStepRun s past → slice_get s.items x ≡ Some r
    → HoldsThree (held_after s (reverse past) r.node.0 x) (turns_of (actor_after s (reverse past) r.node.0))
three_at s past x r valid run at =
    let p = r.node.0 in
    let lt = item_node s x r valid at in
    let held = held_at s past x r valid run at in
    let at = (advancing_run s past valid run).within p lt in
    let near : (node_in s past p).turns.update.0 ≤ (node_in s past p).turns.low.0 + 2 = omega (arith, at.update_turned, at.turned_low) in
    rw (held.after, node_leads s past p lt) (three (node_in s past p).turns held.held near held.kept)

-- a part of a history is the history of a shorter past
front : (past : List Entry) (n : ℕ) → (k : ℕ) × (take n (reverse past) ≡ reverse (drop k past))
front past n =
    elim (cases_lt (length past) n) [
      | inl more ↦ (0, take_all n (reverse past) (omega (arith, length-reverse past)))
      | inr less ↦ (length past - n, first_of past n less)
    ]

pub held_three : (s : ScriptData) (past : List Entry) → IsValid s → IsStepRun s past → HasHeldThree s (reverse past)
held_three s past valid run = λ n x r at.
    let (k, is) = front past n in
    rw is (three_at s (drop k past) x r valid (run_before s past k run) at)
