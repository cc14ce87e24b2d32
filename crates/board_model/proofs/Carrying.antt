-- The values of all items, carried along the serial order: one member more, and where the pass stops.
use Rattle.std.proofs.Common.{◌≡◌, ℕ, zero, suc, ◌<◌, ◌≤◌, ◌+◌, Bool, true, cond, IsTrue, List, [], ◌∷◌, ◌++◌, length, take, drop, get_or, refl, ap, sym, ◌∙◌, subst, arith}
use Rattle.std.specs.Prelude.{fold, filter, nat_le}
use Rattle.std.proofs.lemmas.Bool.Decides.{nat_tests}
use Rattle.std.proofs.lemmas.List.{map-append}
use Rattle.std.proofs.lemmas.List.Sums.{fold-append}
use Rattle.tv_base.proofs.Truths.{left_true, right_true}
use Rattle.commute_ops.specs.declared.value.Value.{Value}
use Rattle.letter_types.specs.declared.entries.Entry.{Entry}
use Rattle.tx_trees.specs.ScriptData.{ScriptData, subs_at}
use Rattle.tx_trees.specs.Valid.{IsValid}
use Rattle.board_model.specs.declared.serial.Member.{Member}
use Rattle.board_model.specs.Balances.{all_after_tree, first_values, worths}
use Rattle.board_model.specs.Carried.{after_members}
use Rattle.board_model.specs.inside.May.{all_subs_may, all_trees_may}
use Rattle.board_model.specs.SerialList.{IsSerial, is_below, trees_of_members}
use Rattle.board_model.proofs.AllItems.{all_may, worth_all}
use Rattle.board_model.proofs.ByVersion.{cut, version_no}
use Rattle.board_rules.proofs.Closings.{AreApart}
use Rattle.board_rules.proofs.SerialOrder.{serial_to_apart}

-- a version that none passes
greatest : (ms : List Member) → ℕ
greatest [] = 0
greatest (m ∷ ms) = m.version.0 + greatest ms

all_below : (ms : List Member) (v : ℕ) → greatest ms ≤ v → filter (is_below v) ms ≡ ms
unfolding greatest
all_below [] v small = refl
all_below (m ∷ ms) v small =
    let yes : nat_le m.version.0 v ≡ true = grind (arith, nat_tests) in
    ap (λ (b : Bool). cond b (m ∷ filter (is_below v) ms) (filter (is_below v) ms)) yes
    ∙ ap (λ (z : List Member). m ∷ z) (all_below ms v (omega arith))

-- the trees of a serial order occur there once
pub serial_apart : (s : ScriptData) (h : List Entry) (ms : List Member) → IsSerial s h ms → AreApart (trees_of_members ms)
serial_apart s h ms serial =
    let v : ℕ = greatest ms in
    subst AreApart (sym (serial.each v) ∙ ap trees_of_members (all_below ms v (omega arith))) (serial_to_apart s h v)

rest_may : (s : ScriptData) (a b : List ℕ) (ws : List Value) → IsTrue (all_trees_may s (a ++ b) ws)
    → IsTrue (all_trees_may s b (fold (all_after_tree s) ws a))
rest_may s [] b ws h = h
rest_may s (t ∷ a) b ws h =
    rest_may s a b (all_after_tree s ws t) (right_true (all_subs_may (subs_at s t) ws) (all_trees_may s (a ++ b) (all_after_tree s ws t)) h)

-- a list at a place
parts : (ms : List Member) (p : ℕ) (d : Member) → p < length ms → trees_of_members ms ≡ trees_of_members (take p ms) ++ (get_or ms p d).tree.0 ∷ trees_of_members (drop (p + 1) ms)
parts [] p d small = absurd (omega arith)
parts (m ∷ ms) zero d small = refl
parts (m ∷ ms) (suc p) d small =
    let e : suc (p + 1) ≡ suc p + 1 = omega arith in
    ap (λ (z : List ℕ). m.tree.0 ∷ z) (parts ms p d (omega arith))
    ∙ ap (λ (k : ℕ). m.tree.0 ∷ (trees_of_members (take p ms) ++ (get_or ms p d).tree.0 ∷ trees_of_members (drop k (m ∷ ms)))) e

-- the deeds of the member at the place may be done
pub member_may : (s : ScriptData) (h : List Entry) (ms : List Member) (p : ℕ) (d : Member) (ws : List Value) → IsValid s → IsSerial s h ms
    → p < length ms → ws ≡ after_members s ms p → IsTrue (all_subs_may (subs_at s (get_or ms p d).tree.0) ws)
member_may s h ms p d ws valid serial small is =
    let t : ℕ = (get_or ms p d).tree.0 in
    let front : List ℕ = trees_of_members (take p ms) in
    let more : List ℕ = trees_of_members (drop (p + 1) ms) in
    let all : IsTrue (all_trees_may s (trees_of_members ms) (first_values s.items)) = all_may s (trees_of_members ms) valid (serial_apart s h ms serial) in
    let whole : IsTrue (all_trees_may s (front ++ t ∷ more) (first_values s.items))
    = subst (λ (z : List ℕ). IsTrue (all_trees_may s z (first_values s.items))) (parts ms p d small) all in
    subst (λ (z : List Value). IsTrue (all_subs_may (subs_at s t) z)) (sym is)
    (left_true (all_subs_may (subs_at s t) (after_members s ms p)) (all_trees_may s more (all_after_tree s (after_members s ms p) t))
    (rest_may s front (t ∷ more) (first_values s.items) whole))

taken : (ms : List Member) (p : ℕ) (d : Member) → p < length ms → take (p + 1) ms ≡ take p ms ++ get_or ms p d ∷ []
taken [] p d small = absurd (omega arith)
taken (m ∷ ms) zero d small = refl
taken (m ∷ ms) (suc p) d small =
    let e : suc p + 1 ≡ suc (p + 1) = omega arith in
    ap (λ (k : ℕ). take k (m ∷ ms)) e ∙ ap (λ (z : List Member). m ∷ z) (taken ms p d (omega arith))

-- the values after it
pub member_more : (s : ScriptData) (ms : List Member) (p : ℕ) (d : Member) (ws : List Value) → p < length ms → ws ≡ after_members s ms p
    → all_after_tree s ws (get_or ms p d).tree.0 ≡ after_members s ms (p + 1)
member_more s ms p d ws small is =
    ap (λ (z : List Value). all_after_tree s z (get_or ms p d).tree.0) is
    ∙ sym (ap (λ (z : List Member). fold (all_after_tree s) (first_values s.items) (trees_of_members z)) (taken ms p d small)
    ∙ ap (λ (z : List ℕ). fold (all_after_tree s) (first_values s.items) z) (map-append (λ (m : Member). m.tree.0) (take p ms) (get_or ms p d ∷ []))
    ∙ fold-append (all_after_tree s) (first_values s.items) (trees_of_members (take p ms)) ((get_or ms p d).tree.0 ∷ []))

-- where the pass stops, the values are those of the version
pub stops : (s : ScriptData) (h : List Entry) (ms : List Member) (p v : ℕ) (ws : List Value) → IsSerial s h ms → ws ≡ after_members s ms p
    → ((i : ℕ) (d : Member) → i < p → (get_or ms i d).version.0 ≤ v)
    → ((d : Member) → p < length ms → v < (get_or ms p d).version.0) → ws ≡ worths s h v
stops s h ms p v ws serial is low high =
    is
    ∙ ap (λ (z : List Member). fold (all_after_tree s) (first_values s.items) (trees_of_members z))
    (cut v p ms serial.ascending (λ (i : ℕ) (d : Member) a b. low i d a) high)
    ∙ ap (λ (z : List ℕ). fold (all_after_tree s) (first_values s.items) z) (serial.each v)
    ∙ worth_all s h v

same_at : (ms : List Member) (p : ℕ) (d e : Member) → p < length ms → get_or ms p d ≡ get_or ms p e
same_at [] p d e small = absurd (omega arith)
same_at (m ∷ ms) zero d e small = refl
same_at (m ∷ ms) (suc p) d e small = same_at ms p d e (omega arith)

-- the member at the place is of a later version, whatever is past the end
pub above : (ms : List Member) (p v : ℕ) (d e : Member) → p < length ms → v < (get_or ms p d).version.0 → v < (get_or ms p e).version.0
above ms p v d e small later = omega (arith, ap version_no (same_at ms p d e small), later)

pub ruleset carrying = (member_may, member_more)
