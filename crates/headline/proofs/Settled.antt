-- Once the client has finished, each node holds of its items their worth in the last version that was shown, and in the
-- next one if that is written.
use Rattle.std.proofs.Common.{◌≡◌, ℕ, ◌+◌, ◌<◌, ◌≤◌, ◌==◌, ◌||◌, Bool, true, false, [], ◌∷◌, List, reverse, refl, sym, ap, subst, ◌∙◌, arith, Option, Some, None}
use Rattle.std.specs.Prelude.{if◌then◌else◌, nat_le, slice_get}
use Rattle.std.proofs.lemmas.Bool.Decides.{nat_tests}
use Rattle.tv_base.specs.declared.numbers.Version.{Version}
use Rattle.commute_ops.specs.declared.value.Value.{Value}
use Rattle.item_versions.specs.Item.{Held, holds, seen}
use Rattle.item_versions.specs.Table.{item_in}
use Rattle.letter_types.specs.declared.entries.Entry.{Entry}
use Rattle.node_versions.specs.declared.turns.Turns.{Turns}
use Rattle.tx_trees.specs.Counts.{advances_in}
use Rattle.tx_trees.specs.ScriptData.{ScriptData}
use Rattle.tx_trees.specs.Valid.{IsValid}
use Rattle.tx_trees.specs.declared.parts.ItemRow.{ItemRow}
use Rattle.board_rules.specs.Right.{HasFinished}
use Rattle.board_rules.specs.Worth.{is_written, worth}
use Rattle.tree_laws.specs.SeenAt.{seen_at}
use Rattle.world_model.specs.Runs.{IsStepRun, node_in}
use Rattle.run_laws.specs.Shown.{WritersAreWhole}
use Rattle.run_laws.proofs.worth.OwnWorth.{own_is_worth, shown_is_closed}
use Rattle.run_laws.specs.Written.{holds_of}
use Rattle.run_laws.proofs.items.HeldWritten.{held_is_written}
use Rattle.run_laws.proofs.items.WrittenAtEnd.{written_at_end}
use Rattle.headline.specs.Held.{HoldsBalances}
use Rattle.headline.proofs.Few.{IsKept, held_at, item_node}
use Rattle.headline.proofs.Finished.{at_end, whole_at_end}

-- What is held of an item from version a to at most the next one.

-- a version with its value, by its number
version_is : (x : Version × Value) (n : ℕ) (v : Value) → x.0.0 ≡ n → x.1 ≡ v → x ≡ (record { 0 = n }, v)
version_is x n v number value = λ i. (record { 0 = number i }, value i)

two_held : (a : ℕ) (va vb : Value) (h : Held) (test : Bool) → IsKept a (a + 1) h → holds (record { 0 = a + 1 }) h ≡ test
    → seen (record { 0 = a }) h ≡ Some va → seen (record { 0 = a + 1 }) h ≡ Some vb
    → h ≡ (record { 0 = a }, va) ∷ (if test then (record { 0 = a + 1 }, vb) ∷ [] else [])
two_held a va vb [] test kept is now next = absurd kept.order
two_held a va vb (x ∷ []) test kept is now next =
    let first : x.0.0 ≡ a = kept.least.1 in
    let one : x ≡ (record { 0 = a }, va) = version_is x a va first (cc now) in
    let none : (x.0.0 == a + 1 || false) ≡ false = grind (arith, nat_tests) in
    let no : test ≡ false = sym is ∙ none in
    rw no (ap (λ (z : Version × Value). z ∷ []) one)
two_held a va vb (x ∷ y ∷ []) test kept is now next =
    let first : x.0.0 ≡ a = kept.least.1 in
    let second : y.0.0 ≡ a + 1 = omega (arith, kept.order.0, kept.most.1.0, first) in
    let later : nat_le y.0.0 a ≡ false = grind (arith, nat_tests) in
    let there : nat_le y.0.0 (a + 1) ≡ true = grind (arith, nat_tests) in
    let old : Some x.1 ≡ Some va = rw later at now in
    let new : Some y.1 ≡ Some vb = rw there at next in
    let one : x ≡ (record { 0 = a }, va) = version_is x a va first (cc old) in
    let two : y ≡ (record { 0 = a + 1 }, vb) = version_is y (a + 1) vb second (cc new) in
    let both : (x.0.0 == a + 1 || (y.0.0 == a + 1 || false)) ≡ true = grind (arith, nat_tests) in
    let held : test ≡ true = sym is ∙ both in
    rw held (λ i. one i ∷ two i ∷ [])
two_held a va vb (x ∷ y ∷ z ∷ zs) test kept is now next =
    absurd (omega (arith, kept.least.1, kept.order.0, kept.order.1.0, kept.most.1.1.0))

-- Where the client has finished, every node's low version is the last one shown, and its update version the next.
record Stands (s : ScriptData) (turns : Turns) : Type 0 where
  low : turns.low.0 ≡ advances_in s.rows
  update : turns.update.0 ≡ advances_in s.rows + 1

stands : (s : ScriptData) (past : List Entry) (p : ℕ) → IsValid s → IsStepRun s past → HasFinished (reverse past) → p < s.nodes
    → Stands s (node_in s past p).turns
stands s past p valid run finished lt =
    let rest = (at_end s past valid run finished).turns p lt in record { low = rest.low; update = rest.update }

-- every writer is whole
all_whole : (s : ScriptData) (past : List Entry) (v : ℕ) → IsValid s → IsStepRun s past → HasFinished (reverse past)
    → WritersAreWhole s (reverse past) v
all_whole s past v valid run finished = λ t w lt writes born le. whole_at_end s past t valid run finished lt

-- what a node sees of its item is what the item is worth
worth_seen : (s : ScriptData) (past : List Entry) (x v : ℕ) (r : ItemRow) (h : Held) → IsValid s → IsStepRun s past
    → HasFinished (reverse past) → slice_get s.items x ≡ Some r → (node_in s past r.node.0).turns.low.0 ≤ v
    → item_in (record { 0 = x }) (node_in s past r.node.0).items ≡ Some h
    → seen (record { 0 = v }) h ≡ Some (worth s (reverse past) x v)
worth_seen s past x v r h valid run finished at low is =
    let p = r.node.0 in
    let lt = item_node s x r valid at in
    let found : seen_at s past p x v ≡ seen (record { 0 = v }) h =
    ap (λ (o : Option Held). elim o [ None ↦ None | Some g ↦ seen (record { 0 = v }) g ]) is in
    sym found
    ∙ own_is_worth s past p x v r valid run lt at refl low
    (shown_is_closed s past p x v r valid at refl (all_whole s past v valid run finished))

pub settled : (s : ScriptData) (past : List Entry) → IsValid s → IsStepRun s past → HasFinished (reverse past) → HoldsBalances s (reverse past)
settled s past valid run finished = λ x r at.
    let p = r.node.0 in
    let a = advances_in s.rows in
    let h = reverse past in
    let lt = item_node s x r valid at in
    let st = node_in s past p in
    let now = stands s past p valid run finished lt in
    let there = held_at s past x r valid run at in
    let kept : IsKept a (a + 1) there.held =
    subst (λ (n : ℕ). IsKept a n there.held) now.update (subst (λ (n : ℕ). IsKept n st.turns.update.0 there.held) now.low there.kept) in
    let written : holds (record { 0 = a + 1 }) there.held ≡ is_written s h x (a + 1) =
    sym (ap (holds_of (record { 0 = a + 1 })) there.is)
    ∙ held_is_written s past p x (a + 1) r valid run lt at refl (omega (arith, now.low))
    ∙ written_at_end s past p x (a + 1) r valid run at refl (λ t less. whole_at_end s past t valid run finished less) in
    there.after
    ∙ two_held a (worth s h x a) (worth s h x (a + 1)) there.held (is_written s h x (a + 1)) kept written
    (worth_seen s past x a r there.held valid run finished at (omega (arith, now.low)) there.is)
    (worth_seen s past x (a + 1) r there.held valid run finished at (omega (arith, now.low)) there.is)
