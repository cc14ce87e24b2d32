-- Values of a kind that keep to a bound, and what an operation makes of them.
use Rattle.std.proofs.Common.{◌≡◌, ℕ, ◌+◌, ◌≤◌, Bool, true, false, [], ◌∷◌, ◌++◌, refl, arith}
use Rattle.std.specs.Prelude.{ℤ, ◌+ℤ◌, if◌then◌else◌, nat_le, nat_lt, not, ◌||◌, unsigned_abs}
use Rattle.std.specs.List.{filter}
use Rattle.std.proofs.lemmas.Bool.Decides.{nat_tests}
use Rattle.std.proofs.lemmas.Bool.{and_from, or_right}
use Rattle.std.proofs.lemmas.Int.{ints}
use Rattle.tv_base.specs.declared.numbers.Version.{Version}
use Rattle.commute_ops.specs.Numbers.{is_within}
use Rattle.commute_ops.specs.Ops.{applied, may_apply, value_start}
use Rattle.commute_ops.specs.declared.kinds.Kind.{Kind}
use Rattle.commute_ops.specs.declared.kinds.Kind.TheVariants.{Sum as SumKind, Top as TopKind, Bag as BagKind}
use Rattle.commute_ops.specs.declared.kinds.Op.{Op}
use Rattle.commute_ops.specs.declared.kinds.Op.TheVariants.{Add, Top as Raise, Put}
use Rattle.commute_ops.specs.declared.kinds.TheConstants.{MOST_AMOUNT}
use Rattle.commute_ops.specs.declared.value.Value.{Value}
use Rattle.commute_ops.specs.declared.value.Value.TheVariants.{Sum, Top, Bag}
use Rattle.item_versions.specs.Item.{Held, seen_after, below, above, applied_to_all, collected, touched, may_apply_above, may_touch}
use Rattle.tx_trees.specs.Valid.{op_fits, op_magnitude}
use Rattle.world_model.specs.Counts.{Each}
use Rattle.world_model.proofs.Every.{each_append, each_map}

-- a value of the kind, and where it is a sum no greater than b
abbrev pub ValueIn : Kind → ℕ → Value → Type 0
ValueIn SumKind b (Sum z) = unsigned_abs z.0 ≤ b
ValueIn TopKind b (Top z) = Unit {0}
ValueIn BagKind b (Bag zs) = Unit {0}
ValueIn _ b _ = ⊥

pub within : (z a : ℤ) (b : ℕ) → unsigned_abs z ≤ b → b + unsigned_abs a ≤ MOST_AMOUNT → is_within z a ≡ true
within z a b le most = grind (arith, nat_tests)

pub value_more : (kind : Kind) (b c : ℕ) (w : Value) → b ≤ c → ValueIn kind b w → ValueIn kind c w
value_more SumKind b c (Sum z) le ok = omega arith
value_more SumKind b c (Top z) le ok = absurd ok
value_more SumKind b c (Bag zs) le ok = absurd ok
value_more TopKind b c (Sum z) le ok = absurd ok
value_more TopKind b c (Top z) le ok = tt
value_more TopKind b c (Bag zs) le ok = absurd ok
value_more BagKind b c (Sum z) le ok = absurd ok
value_more BagKind b c (Top z) le ok = absurd ok
value_more BagKind b c (Bag zs) le ok = tt

-- an operation that fits may be applied, and the value then keeps to the greater bound
pub may_apply_value : (kind : Kind) (op : Op) (b : ℕ) (w : Value) → op_fits kind op ≡ true → ValueIn kind b w
    → b + op_magnitude op ≤ MOST_AMOUNT
    → may_apply w op ≡ true
may_apply_value SumKind (Add a) b (Sum z) fit ok most = within z.0 a b ok most
may_apply_value TopKind (Raise a) b (Top z) fit ok most = refl
may_apply_value BagKind (Put a) b (Bag zs) fit ok most = refl
may_apply_value SumKind (Raise a) b w fit ok most = absurd (cc fit)
may_apply_value SumKind (Put a) b w fit ok most = absurd (cc fit)
may_apply_value TopKind (Add a) b w fit ok most = absurd (cc fit)
may_apply_value TopKind (Put a) b w fit ok most = absurd (cc fit)
may_apply_value BagKind (Add a) b w fit ok most = absurd (cc fit)
may_apply_value BagKind (Raise a) b w fit ok most = absurd (cc fit)
may_apply_value SumKind op b (Top z) fit ok most = absurd ok
may_apply_value SumKind op b (Bag zs) fit ok most = absurd ok
may_apply_value TopKind op b (Sum z) fit ok most = absurd ok
may_apply_value TopKind op b (Bag zs) fit ok most = absurd ok
may_apply_value BagKind op b (Sum z) fit ok most = absurd ok
may_apply_value BagKind op b (Top z) fit ok most = absurd ok

sum_more : (z a : ℤ) (b : ℕ) → unsigned_abs z ≤ b → unsigned_abs (z +ℤ a) ≤ b + unsigned_abs a
sum_more z a b le = omega (arith, ints)

pub applied_value : (kind : Kind) (op : Op) (b : ℕ) (w : Value) → op_fits kind op ≡ true → ValueIn kind b w
    → ValueIn kind (b + op_magnitude op) (applied w op)
applied_value SumKind (Add a) b (Sum z) fit ok = sum_more z.0 a b ok
applied_value TopKind (Raise a) b (Top z) fit ok = tt
applied_value BagKind (Put a) b (Bag zs) fit ok = tt
applied_value SumKind (Raise a) b w fit ok = absurd (cc fit)
applied_value SumKind (Put a) b w fit ok = absurd (cc fit)
applied_value TopKind (Add a) b w fit ok = absurd (cc fit)
applied_value TopKind (Put a) b w fit ok = absurd (cc fit)
applied_value BagKind (Add a) b w fit ok = absurd (cc fit)
applied_value BagKind (Raise a) b w fit ok = absurd (cc fit)
applied_value SumKind op b (Top z) fit ok = absurd ok
applied_value SumKind op b (Bag zs) fit ok = absurd ok
applied_value TopKind op b (Sum z) fit ok = absurd ok
applied_value TopKind op b (Bag zs) fit ok = absurd ok
applied_value BagKind op b (Sum z) fit ok = absurd ok
applied_value BagKind op b (Top z) fit ok = absurd ok

pub start_value : (kind : Kind) (n : ℤ) → ValueIn kind (unsigned_abs n) (value_start kind n)
start_value SumKind n = omega arith
start_value TopKind n = tt
start_value BagKind n = tt

-- each value that is held
abbrev pub AllIn : Kind → ℕ → Held → Type 0
AllIn kind b xs = Each (λ (x : Version × Value). ValueIn kind b x.1) xs

-- some version is held, and each value keeps to the bound
abbrev pub HeldIn : Kind → ℕ → Held → Type 0
HeldIn kind b [] = ⊥
HeldIn kind b (x ∷ xs) = AllIn kind b (x ∷ xs)

pick_value : (kind : Kind) (b : ℕ) (test : Bool) (x y : Value) → ValueIn kind b x → ValueIn kind b y
    → ValueIn kind b (if test then x else y)
pick_value kind b true x y p q = p
pick_value kind b false x y p q = q

pub seen_in : (kind : Kind) (b : ℕ) (v : Version) (w : Value) (xs : Held) → ValueIn kind b w → AllIn kind b xs
    → ValueIn kind b (seen_after w v xs)
seen_in kind b v w [] ok all = ok
seen_in kind b v w (x ∷ xs) ok all =
    seen_in kind b v (if nat_le x.0.0 v.0 then x.1 else w) xs (pick_value kind b (nat_le x.0.0 v.0) x.1 w all.0 ok) all.1

above_may : (kind : Kind) (op : Op) (b : ℕ) (v : Version) (xs : Held) → op_fits kind op ≡ true → b + op_magnitude op ≤ MOST_AMOUNT
    → AllIn kind b xs
    → may_apply_above v op xs ≡ true
above_may kind op b v [] fit most all = refl
above_may kind op b v (x ∷ xs) fit most all =
    and_from (not (nat_lt v.0 x.0.0) || may_apply x.1 op) (may_apply_above v op xs)
    (or_right (not (nat_lt v.0 x.0.0)) (may_apply x.1 op) (may_apply_value kind op b x.1 fit all.0 most)) (above_may kind op b v xs fit most all.1)

-- an update with an operation that fits may be made
pub held_may : (kind : Kind) (op : Op) (b : ℕ) (v : Version) (h : Held) → op_fits kind op ≡ true → b + op_magnitude op ≤ MOST_AMOUNT
    → HeldIn kind b h
    → may_touch v op h ≡ true
held_may kind op b v [] fit most all = absurd all
held_may kind op b v (x ∷ xs) fit most all =
    and_from (may_apply (seen_after x.1 v xs) op) (may_apply_above v op (x ∷ xs))
    (may_apply_value kind op b (seen_after x.1 v xs) fit (seen_in kind b v x.1 xs all.0 all.1) most) (above_may kind op b v (x ∷ xs) fit most all)

pick_all : (kind : Kind) (b : ℕ) (test : Bool) (x : Version × Value) (xs : Held) → ValueIn kind b x.1 → AllIn kind b xs
    → AllIn kind b (if test then x ∷ xs else xs)
pick_all kind b true x xs p q = (p, q)
pick_all kind b false x xs p q = q

pub filter_in : (kind : Kind) (b : ℕ) (test : Version × Value → Bool) (xs : Held) → AllIn kind b xs → AllIn kind b (filter test xs)
filter_in kind b test [] all = tt
filter_in kind b test (x ∷ xs) all = pick_all kind b (test x) x (filter test xs) all.0 (filter_in kind b test xs all.1)

applied_in : (kind : Kind) (op : Op) (b : ℕ) (xs : Held) → op_fits kind op ≡ true → AllIn kind b xs
    → AllIn kind (b + op_magnitude op) (applied_to_all op xs)
applied_in kind op b [] fit all = tt
applied_in kind op b (x ∷ xs) fit all = (applied_value kind op b x.1 fit all.0, applied_in kind op b xs fit all.1)

pub all_more : (kind : Kind) (b c : ℕ) (xs : Held) → b ≤ c → AllIn kind b xs → AllIn kind c xs
all_more kind b c xs le all =
    each_map (λ (x : Version × Value). ValueIn kind b x.1) (λ (x : Version × Value). ValueIn kind c x.1) xs (λ x ok. value_more kind b c x.1 le ok) all

pub held_of_all : (kind : Kind) (b : ℕ) (xs ys : Held) (x : Version × Value) → AllIn kind b (xs ++ x ∷ ys) → HeldIn kind b (xs ++ x ∷ ys)
held_of_all kind b [] ys x all = all
held_of_all kind b (z ∷ xs) ys x all = all

-- and what is held after it keeps to the greater bound
pub touched_held : (kind : Kind) (op : Op) (b : ℕ) (v : Version) (h : Held) → op_fits kind op ≡ true → HeldIn kind b h
    → HeldIn kind (b + op_magnitude op) (touched v op h)
touched_held kind op b v [] fit all = absurd all
touched_held kind op b v (x ∷ xs) fit all =
    let more = b + op_magnitude op in
    let new : Version × Value = (v, applied (seen_after x.1 v xs) op) in
    held_of_all kind more (below v (x ∷ xs)) (applied_to_all op (above v (x ∷ xs))) new
    (each_append (λ (y : Version × Value). ValueIn kind more y.1) (below v (x ∷ xs)) (new ∷ applied_to_all op (above v (x ∷ xs)))
    (all_more kind b more (below v (x ∷ xs)) (omega arith) (filter_in kind b (λ y. nat_lt y.0.0 v.0) (x ∷ xs) all)) (
      applied_value kind op b (seen_after x.1 v xs) fit (seen_in kind b v x.1 xs all.0 all.1),
      applied_in kind op b (above v (x ∷ xs)) fit (filter_in kind b (λ y. nat_lt v.0 y.0.0) (x ∷ xs) all),
    ))

-- a collection keeps to the bound
pub collected_held : (kind : Kind) (b : ℕ) (f : Version) (h : Held) → HeldIn kind b h → HeldIn kind b (collected f h)
collected_held kind b f [] all = absurd all
collected_held kind b f (x ∷ xs) all =
    (seen_in kind b f x.1 xs all.0 all.1, filter_in kind b (λ y. nat_lt f.0 y.0.0) (x ∷ xs) all)

pub held_more : (kind : Kind) (b c : ℕ) (h : Held) → b ≤ c → HeldIn kind b h → HeldIn kind c h
held_more kind b c [] le all = all
held_more kind b c (x ∷ xs) le all = all_more kind b c (x ∷ xs) le all
