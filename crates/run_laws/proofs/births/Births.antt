-- In every run of every valid script a transaction is born at its home, once, in the version that its home gives to
-- transactions of its kind; and if a strict transaction waits, it isn't born, and its home's numbers are those that are
-- told.
use Rattle.std.proofs.Common.{◌≡◌, ℕ, ◌+◌, ◌≤◌, ◌==◌, true, List, ◌∷◌, refl, sym, ap, subst, ◌∙◌, arith, Some}
use Rattle.std.specs.Prelude.{slice_get}
use Rattle.tv_base.proofs.Truths.{same_test}
use Rattle.tv_base.specs.declared.numbers.TreeNo.{TreeNo}
use Rattle.tv_base.specs.declared.numbers.Version.{Version}
use Rattle.letter_types.specs.declared.acts.Act.TheVariants as acts
use Rattle.letter_types.specs.declared.bodies.Body.{Body}
use Rattle.letter_types.specs.declared.bodies.Body.TheVariants.{Root}
use Rattle.letter_types.specs.declared.entries.Entry.{Entry}
use Rattle.letter_types.specs.declared.entries.Letter.{Letter}
use Rattle.script_parts.specs.ScriptData.{ScriptData}
use Rattle.script_parts.specs.Valid.{IsValid}
use Rattle.world_model.specs.Counts.{one_if, tally}
use Rattle.world_model.specs.Runs.{IsStepRun, node_in}
use Rattle.world_model.proofs.Bags.{one_if_both}
use Rattle.board_rules.specs.Histories.{Place, born_as}
use Rattle.board_rules.specs.Moves.{IsBirth, IsWaiting}
use Rattle.world_model.specs.Meant.{IsMeant, IsMeantRoot}
use Rattle.tree_laws.specs.Dids.{asks, is_born, letters_asking}
use Rattle.tree_laws.proofs.histories.Acts.{of_act}
use Rattle.tree_laws.proofs.apt.AptVersions.{before, not_born}
use Rattle.tree_laws.proofs.homes.Counted.{unborn}
use Rattle.advance_laws.proofs.governed.Brought.{BringsTo, brought_meant, brought_outstanding}
use Rattle.advance_laws.proofs.phases.LevelAt.{unread}
use Rattle.run_laws.proofs.each_tree.EveryApt.{all_apt}
use Rattle.run_laws.proofs.each_tree.EveryWhole.{strict_is}
use Rattle.run_laws.proofs.act_order.Fronts.{counted_front, front, place_of, placed}
use Rattle.run_laws.proofs.each_tree.Late.{births_once, born_here, no_reader, strict_writes}
use Rattle.run_laws.proofs.births.NodeNumbers.{node_numbers}
use Rattle.run_laws.proofs.act_order.Openings.{first_front, opens_as}

-- A root is brought to its tree's home.
root_meant : (s : ScriptData) (past : List Entry) (e : Entry) (p : ℕ) (r : Letter) (t : TreeNo) → IsValid s → BringsTo s past e p r
    → IsStepRun s (e ∷ past) → r.body ≡ Root t → IsMeantRoot s p t
root_meant s past e p r t valid b run is = subst (λ (x : Body). IsMeant s r.from.0 p x) is (brought_meant s past e p r valid b run)

born_own : (t : TreeNo) (v : Version) → born_as t.0 (acts.Born t v) ≡ Some v
born_own t v = let same : (t.0 == t.0) ≡ true = same_test t.0 in rw same refl

pub birth_is : (s : ScriptData) (past : List Entry) (e : Entry) (j : ℕ) (t : TreeNo) (v : Version) → IsValid s → IsStepRun s (e ∷ past)
    → slice_get e.acts j ≡ Some (acts.Born t v) → IsBirth s (front past e j) e.actor.0 t.0 v.0
birth_is s past e j t v valid run at =
    let o = opens_as s past e j (acts.Born t v) valid run at refl in
    let meant = root_meant s past e o.node o.letter t valid o.brings run o.is in
    let y : Place = placed e.actor.0 (acts.Born t v) in
    let there : slice_get _ j ≡ Some y = place_of e j (acts.Born t v) at in
    let born = born_here s past e t.0 j y v valid run meant.tree there (born_own t v) in
    let n = node_numbers s past valid run.1 e.actor.0 born.node in
    let here : front past e j ≡ before past = first_front past e j o.first in
    let one : is_born t.0 (acts.Born t v) ≡ 1 = ap one_if (same_test t.0) in
    let none : tally (of_act (is_born t.0)) (before past) ≡ 0 =
    omega (
      arith,
      one,
      ap (λ (xs : List Place). tally (of_act (is_born t.0)) xs) here,
      counted_front (of_act (is_born t.0)) past e j y there,
      births_once s (e ∷ past) t.0 valid run meant.tree,
    ) in
    subst (λ (xs : List Place). IsBirth s xs e.actor.0 t.0 v.0) (sym here) (record {
      unborn = unborn t.0 (before past) none;
      home = (born.node, sym (o.brings.at ∙ meant.home));
      update = λ up. born.update (unread s t.0 (slice_get s.trees t.0) refl up) ∙ sym n.update;
      read = λ read. born.read read ∙ sym n.read;
      strict = λ strict.
          let plain = no_reader s t.0 (slice_get s.trees t.0) refl (strict_writes s t.0 strict) in
          let next = born.strict (sym (strict_is s t.0 (slice_get s.trees t.0) refl) ∙ strict) in
          (born.update plain ∙ sym n.update, born.update plain ∙ next ∙ ap (λ (m : ℕ). m + 1) (sym n.read));
    })

pub waiting_is : (s : ScriptData) (past : List Entry) (e : Entry) (j : ℕ) (t : TreeNo) (u r : Version) → IsValid s → IsStepRun s (e ∷ past)
    → slice_get e.acts j ≡ Some (acts.Waits t u r) → IsWaiting s (front past e j) e.actor.0 t.0 u.0 r.0
waiting_is s past e j t u r valid run at =
    let o = opens_as s past e j (acts.Waits t u r) valid run at refl in
    let w = o.is in
    let meant = root_meant s past e o.node o.letter t valid o.brings run w.root in
    let n = node_numbers s past valid run.1 o.node o.brings.below in
    let turns = (node_in s past o.node).turns in
    let waits : 1 ≤ letters_asking s past t.0 0 =
    omega (
      arith,
      ap (asks t.0 0) w.root,
      one_if_both t.0 0,
      brought_outstanding s past e o.node o.letter o.brings run.0 (λ (l : Letter). asks t.0 0 l.body),
    ) in
    subst (λ (xs : List Place). IsWaiting s xs e.actor.0 t.0 u.0 r.0) (sym (first_front past e j o.first))
    (subst (λ (q : ℕ). IsWaiting s (before past) q t.0 u.0 r.0) (sym o.brings.at) (record {
      strict = strict_is s t.0 (slice_get s.trees t.0) refl ∙ w.strict;
      unborn = not_born s past t.0 valid (all_apt s (e ∷ past) valid run).1 run.1 waits;
      home = (o.brings.below, sym meant.home);
      update = ap (λ (x : Version). x.0) w.update ∙ sym n.update;
      read = ap (λ (x : Version). x.0) w.read ∙ sym n.read;
      apart =
          ap (λ (x : Version). x.0 == r.0 + 1) w.update ∙ ap (λ (x : Version). turns.update.0 == x.0 + 1) w.read ∙ w.apart;
    }))
