-- What each item is worth keeps to the bound on magnitudes, since in a valid script all that is done to it does; and
-- the total by the values of all items is that of the summary.
use Rattle.std.proofs.Common.{◌≡◌, ℕ, suc, ◌+◌, ◌≤◌, ℤ, List, [], ◌∷◌, refl, ap, ◌∙◌, subst, arith}
use Rattle.std.specs.Prelude.{◌+ℤ◌, unsigned_abs, Option, Some, slice_get}
use Rattle.std.proofs.lemmas.Int.{ints}
use Rattle.commute_ops.specs.declared.kinds.Kind.{Kind}
use Rattle.commute_ops.specs.declared.kinds.Kind.TheVariants.{Sum as SumKind, Top as TopKind, Bag as BagKind}
use Rattle.commute_ops.specs.declared.kinds.TheConstants.{MOST_AMOUNT}
use Rattle.commute_ops.specs.declared.value.Value.{Value}
use Rattle.commute_ops.specs.declared.value.Value.TheVariants.{Sum, Top, Bag}
use Rattle.letter_types.specs.declared.entries.Entry.{Entry}
use Rattle.tx_trees.specs.ScriptData.{ScriptData}
use Rattle.tx_trees.specs.Valid.{IsValid}
use Rattle.tx_trees.specs.declared.parts.ItemRow.{ItemRow}
use Rattle.board_model.specs.Balances.{by_number, worths}
use Rattle.board_rules.specs.Serial.{serial_to}
use Rattle.board_rules.specs.Worth.{worth}
use Rattle.board_model.proofs.Bounds.{IsHeld, OfKind, worth_held}
use Rattle.board_rules.proofs.SerialOrder.{serial_to_apart}
use Rattle.report_text.specs.Summary.{kind_worth, number_of, part_of}
use Rattle.report_text.specs.inside.Totals.{AreAmounts, kind_total}

-- a value of the kind
kind_small : (kind : Kind) (w : Value) → OfKind kind w 0 → unsigned_abs (number_of w) ≤ MOST_AMOUNT
kind_small SumKind (Sum n) h = omega arith
kind_small SumKind (Top n) h = absurd h
kind_small SumKind (Bag ns) h = absurd h
kind_small TopKind (Sum n) h = absurd h
kind_small TopKind (Top n) h = omega arith
kind_small TopKind (Bag ns) h = absurd h
kind_small BagKind (Sum n) h = absurd h
kind_small BagKind (Top n) h = absurd h
kind_small BagKind (Bag ns) h = omega (arith, ints)

held_small : (r : Option ItemRow) (row : ItemRow) (w : Value) → r ≡ Some row → IsHeld r w 0 → unsigned_abs (number_of w) ≤ MOST_AMOUNT
held_small r row w e h = kind_small row.kind w (subst (λ (o : Option ItemRow). IsHeld o w 0) e h)

worth_small : (s : ScriptData) (h : List Entry) (v x : ℕ) (row : ItemRow) → IsValid s → slice_get s.items x ≡ Some row
    → unsigned_abs (number_of (worth s h x v)) ≤ MOST_AMOUNT
worth_small s h v x row valid e =
    held_small (slice_get s.items x) row (worth s h x v) e (worth_held s x (serial_to s h v) valid (serial_to_apart s h v))

small_from : (s : ScriptData) (h : List Entry) (v k : ℕ) (rows : List ItemRow) → IsValid s
    → ((i : ℕ) (row : ItemRow) → slice_get rows i ≡ Some row → slice_get s.items (k + i) ≡ Some row)
    → AreAmounts (by_number (λ (x : ℕ). worth s h x v) k rows)
small_from s h v k [] valid there = tt
small_from s h v k (row ∷ rows) valid there = (
  worth_small s h v k row valid (at_zero k (there 0 row refl)),
  small_from s h v (k + 1) rows valid (λ (i : ℕ) (one : ItemRow) e. at_next i k one (there (suc i) one e)),
) where
  at_zero : (k : ℕ) → slice_get s.items (k + 0) ≡ Some row → slice_get s.items k ≡ Some row
  at_zero k e = let same : k ≡ k + 0 = omega arith in ap (λ (n : ℕ). slice_get s.items n) same ∙ e

  at_next : (i k : ℕ) (one : ItemRow) → slice_get s.items (k + suc i) ≡ Some one → slice_get s.items (k + 1 + i) ≡ Some one
  at_next i k one e = let same : k + 1 + i ≡ k + suc i = omega arith in ap (λ (n : ℕ). slice_get s.items n) same ∙ e

pub worths_small : (s : ScriptData) (h : List Entry) (v : ℕ) → IsValid s → AreAmounts (worths s h v)
worths_small s h v valid =
    small_from s h v 0 s.items valid
    (λ (i : ℕ) (row : ItemRow) e. let same : 0 + i ≡ i = omega arith in ap (λ (n : ℕ). slice_get s.items n) same ∙ e)

total_from : (s : ScriptData) (h : List Entry) (kind : Kind) (v x : ℕ) (rows : List ItemRow)
    → kind_total kind rows (by_number (λ (y : ℕ). worth s h y v) x rows) ≡ kind_worth s h kind v x rows
total_from s h kind v x [] = refl
total_from s h kind v x (row ∷ rows) =
    ap (λ (z : ℤ). part_of kind row.kind (worth s h x v) +ℤ z) (total_from s h kind v (x + 1) rows)

pub total_all : (s : ScriptData) (h : List Entry) (kind : Kind) (v : ℕ) → kind_total kind s.items (worths s h v) ≡ kind_worth s h kind v 0 s.items
total_all s h kind v = total_from s h kind v 0 s.items
