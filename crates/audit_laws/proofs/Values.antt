-- Values of tops and bags that keep to the greatest magnitude, and what operations make of them.
use Rattle.std.proofs.Common.{ℕ, ◌≤◌, Bool, true, false, List, [], ◌∷◌, arith}
use Rattle.std.specs.Prelude.{if◌then◌else◌, ℤ, int_le, int_lt, nat_le, nat_lt, unsigned_abs}
use Rattle.std.specs.Int.{int_max}
use Rattle.std.specs.List.{AllByRecursion, filter}
use Rattle.tv_base.specs.declared.numbers.Version.{Version}
use Rattle.commute_ops.proofs.Ascending.{IsAscending-with_number}
use Rattle.commute_ops.specs.Numbers.{IsAscending, with_number}
use Rattle.commute_ops.specs.Ops.{applied, value_start}
use Rattle.commute_ops.specs.declared.kinds.Kind.{Kind}
use Rattle.commute_ops.specs.declared.kinds.Kind.TheVariants as kinds
use Rattle.commute_ops.specs.declared.kinds.Op.{Op}
use Rattle.commute_ops.specs.declared.kinds.Op.TheVariants.{Add, Top as Raise, Put}
use Rattle.commute_ops.specs.declared.kinds.TheConstants.{MOST_AMOUNT}
use Rattle.commute_ops.specs.declared.value.Value.{Value}
use Rattle.commute_ops.specs.declared.value.Value.TheVariants.{Sum, Top, Bag}
use Rattle.item_versions.specs.Item.{Held, above, applied_to_all, below, collected, put_value, seen_after, touched}
use Rattle.script_parts.specs.Amounts.{magnitude, op_magnitude}
use Rattle.script_parts.specs.Deeds.{after_deed}
use Rattle.script_parts.specs.declared.parts.Deed.{Deed}
use Rattle.script_parts.specs.declared.parts.Deed.TheVariants as deeds
use Rattle.world_model.specs.Counts.{Each}
use Rattle.world_model.proofs.Every.{each_append}
use Rattle.history_text.specs.Printable.{IsAmount, IsOfKind}
use Rattle.tree_laws.proofs.loads.Values.{ValueIn}

-- what is said of a top and of a bag; a sum keeps to the bound of its item
abbrev pub IsSmall : Value → Type 0
IsSmall (Sum n) = Unit {0}
IsSmall (Top n) = IsAmount n.0
IsSmall (Bag ns) = IsAscending ns × AllByRecursion IsAmount ns

pub of_kind : (kind : Kind) (w : Value) → ValueIn kind MOST_AMOUNT w → IsSmall w → IsOfKind kind w
of_kind kinds.Sum (Sum n) in_bound small = in_bound
of_kind kinds.Sum (Top n) in_bound small = absurd in_bound
of_kind kinds.Sum (Bag ns) in_bound small = absurd in_bound
of_kind kinds.Top (Sum n) in_bound small = absurd in_bound
of_kind kinds.Top (Top n) in_bound small = small
of_kind kinds.Top (Bag ns) in_bound small = absurd in_bound
of_kind kinds.Bag (Sum n) in_bound small = absurd in_bound
of_kind kinds.Bag (Top n) in_bound small = absurd in_bound
of_kind kinds.Bag (Bag ns) in_bound small = small

-- A number more.
greater : (m : ℕ) (n a : ℤ) → unsigned_abs n ≤ m → unsigned_abs a ≤ m → unsigned_abs (int_max n a) ≤ m
greater m n a of_n of_a = by (int_lt a n) where
  by : (b : Bool) → unsigned_abs (if b then n else a) ≤ m
  by true = of_n
  by false = of_a

with_one : (n x : ℤ) (xs : List ℤ) (b : Bool) → IsAmount n → AllByRecursion IsAmount (x ∷ xs) → AllByRecursion IsAmount (with_number n xs)
    → AllByRecursion IsAmount (if b then n ∷ x ∷ xs else x ∷ with_number n xs)
with_one n x xs true one all rest = (one, all)
with_one n x xs false one all rest = (all.0, rest)

with_amount : (n : ℤ) (xs : List ℤ) → IsAmount n → AllByRecursion IsAmount xs → AllByRecursion IsAmount (with_number n xs)
with_amount n [] one all = (one, tt)
with_amount n (x ∷ xs) one all = with_one n x xs (int_le n x) one all (with_amount n xs one all.1)

-- What an operation makes of a value.
small_op : (op : Op) (w : Value) → op_magnitude op ≤ MOST_AMOUNT → IsSmall w → IsSmall (applied w op)
small_op (Add a) (Sum n) le small = tt
small_op (Add a) (Top n) le small = small
small_op (Add a) (Bag ns) le small = small
small_op (Raise a) (Sum n) le small = tt
small_op (Raise a) (Top n) le small = greater MOST_AMOUNT n.0 a small le
small_op (Raise a) (Bag ns) le small = small
small_op (Put a) (Sum n) le small = tt
small_op (Put a) (Top n) le small = small
small_op (Put a) (Bag ns) le small = (IsAscending-with_number a ns small.0, with_amount a ns le small.1)

pub small_deed : (deed : Deed) (w : Value) → magnitude deed ≤ MOST_AMOUNT → IsSmall w → IsSmall (after_deed deed w)
small_deed (deeds.Apply op) w le small = small_op op w le small
small_deed deeds.Get w le small = small
small_deed (deeds.Set a) (Sum n) le small = tt
small_deed (deeds.Set a) (Top n) le small = le
small_deed (deeds.Set a) (Bag ns) le small = small
small_deed (deeds.Draw a) (Sum n) le small = tt
small_deed (deeds.Draw a) (Top n) le small = small
small_deed (deeds.Draw a) (Bag ns) le small = small

pub small_start : (kind : Kind) (n : ℤ) → unsigned_abs n ≤ MOST_AMOUNT → IsSmall (value_start kind n)
small_start kinds.Sum n le = tt
small_start kinds.Top n le = le
small_start kinds.Bag n le = ((λ i j d lt within. absurd (omega arith)), tt)

-- What is held of an item.
abbrev pub AreSmall : Held → Type 0
AreSmall xs = Each (λ (x : Version × Value). IsSmall x.1) xs

pick_value : (b : Bool) (x y : Value) → IsSmall x → IsSmall y → IsSmall (if b then x else y)
pick_value true x y p q = p
pick_value false x y p q = q

pub small_seen : (v : Version) (w : Value) (xs : Held) → IsSmall w → AreSmall xs → IsSmall (seen_after w v xs)
small_seen v w [] one all = one
small_seen v w (x ∷ xs) one all =
    small_seen v (if nat_le x.0.0 v.0 then x.1 else w) xs (pick_value (nat_le x.0.0 v.0) x.1 w all.0 one) all.1

pick_more : (b : Bool) (x : Version × Value) (xs : Held) → IsSmall x.1 → AreSmall xs → AreSmall (if b then x ∷ xs else xs)
pick_more true x xs one all = (one, all)
pick_more false x xs one all = all

small_filter : (test : Version × Value → Bool) (xs : Held) → AreSmall xs → AreSmall (filter test xs)
small_filter test [] all = tt
small_filter test (x ∷ xs) all = pick_more (test x) x (filter test xs) all.0 (small_filter test xs all.1)

small_all : (op : Op) (xs : Held) → op_magnitude op ≤ MOST_AMOUNT → AreSmall xs → AreSmall (applied_to_all op xs)
small_all op [] le all = tt
small_all op (x ∷ xs) le all = (small_op op x.1 le all.0, small_all op xs le all.1)

pub small_touched : (v : Version) (op : Op) (h : Held) → op_magnitude op ≤ MOST_AMOUNT → AreSmall h → AreSmall (touched v op h)
small_touched v op [] le all = tt
small_touched v op (x ∷ xs) le all =
    each_append (λ (y : Version × Value). IsSmall y.1) (below v (x ∷ xs))
    ((v, applied (seen_after x.1 v xs) op) ∷ applied_to_all op (above v (x ∷ xs)))
    (small_filter (λ y. nat_lt y.0.0 v.0) (x ∷ xs) all) (
      small_op op (seen_after x.1 v xs) le (small_seen v x.1 xs all.0 all.1),
      small_all op (above v (x ∷ xs)) le (small_filter (λ y. nat_lt v.0 y.0.0) (x ∷ xs) all),
    )

pub small_put : (v : Version) (w : Value) (h : Held) → IsSmall w → AreSmall h → AreSmall (put_value v w h)
small_put v w h one all =
    each_append (λ (y : Version × Value). IsSmall y.1) (below v h) ((v, w) ∷ above v h)
    (small_filter (λ y. nat_lt y.0.0 v.0) h all) (one, small_filter (λ y. nat_lt v.0 y.0.0) h all)

pub small_collected : (f : Version) (h : Held) → AreSmall h → AreSmall (collected f h)
small_collected f [] all = tt
small_collected f (x ∷ xs) all =
    (small_seen f x.1 xs all.0 all.1, small_filter (λ y. nat_lt f.0 y.0.0) (x ∷ xs) all)
