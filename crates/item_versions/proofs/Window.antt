-- Items whose versions lie in a window have room for each version of it, stay in a window, and may be collected.
use Rattle.std.specs.List.{AllByRecursion, filter}
use Rattle.std.proofs.Common.{◌≡◌, ℕ, Bool, true, ◌+◌, ◌<◌, ◌≤◌, [], ◌∷◌, ◌++◌, length, ltb, refl, inl, inr, arith, Option, Some, None}
use Rattle.std.proofs.lemmas.Bool.{cases_lt, cond_both, lt-ltb, le-ltb}
use Rattle.std.proofs.lemmas.Bool.Decides.{nat_tests}
use Rattle.tv_base.specs.declared.numbers.Version.{Version}
use Rattle.tv_base.specs.declared.numbers.ItemNo.{ItemNo}
use Rattle.commute_ops.specs.declared.value.Value.{Value}
use Rattle.commute_ops.specs.declared.kinds.Op.{Op}
use Rattle.commute_ops.specs.Ops.{applied}
use Rattle.item_versions.specs.Item.{Held, AscendsAbove, IsHeld, below, above, applied_to_all, seen_after, touched, holds, has_room, put_value, collected, CanCollect}
use Rattle.item_versions.specs.History.{new_held}
use Rattle.item_versions.specs.Table.{Table, IsHeldTable, item_in, replaced, updated, valued, touched_in, has_room_in, may_touch_in, put_value_in}
use Rattle.item_versions.specs.Window.{in_window, first_version, IsWindowed, IsWindowedTable}
use Rattle.item_versions.proofs.Order.{below-nil}
use Rattle.item_versions.proofs.Staging.{touch-there}
use Rattle.item_versions.proofs.Holding.{IsHeld-item_in}
use Rattle.item_versions.proofs.Tables.{each-replaced, each-append, each-item}
use Rattle.item_versions.specs.Collecting.{may_collect, may_collect_all}

-- what the test says
pub in_window-low : (low v : ℕ) → in_window low v ≡ true → low ≤ v
in_window-low low v is = grind (arith, nat_tests)

pub in_window-high : (low v : ℕ) → in_window low v ≡ true → v ≤ low + 2
in_window-high low v is = grind (arith, nat_tests)

pub in_window-is : (low v : ℕ) → low ≤ v → v ≤ low + 2 → in_window low v ≡ true
in_window-is low v least most = grind (arith, nat_tests)

-- no version of a list is above m
abbrev pub AllUpTo : ℕ → Held → Type 0
AllUpTo m xs = AllByRecursion (λ x. x.0.0 ≤ m) xs

-- so many versions above n are not more than the numbers there
pub few-above : (n m : ℕ) (xs : Held) → n ≤ m → AscendsAbove n xs → AllUpTo m xs → length xs + n ≤ m
few-above n m [] le up most = omega arith
few-above n m (x ∷ xs) le up most =
    let rest = few-above x.0.0 m xs most.0 up.1 most.1 in
    let less = up.0 in
    omega arith

-- where they are as many as the numbers there, each number is held
all-held : (n m : ℕ) (v : Version) (xs : Held) → AscendsAbove n xs → AllUpTo m xs → m ≤ length xs + n
    → n < v.0 → v.0 ≤ m
    → holds v xs ≡ true
all-held n m v [] up most full lt le = absurd (omega arith)
all-held n m v (x ∷ xs) up most full lt le =
    let few = few-above x.0.0 m xs most.0 up.1 most.1 in
    let less = up.0 in
    let next : x.0.0 ≡ n + 1 = omega arith in
    let rest : x.0.0 < v.0 → holds v xs ≡ true = λ past. all-held x.0.0 m v xs up.1 most.1 (omega arith) past le in
    grind (arith, nat_tests)

-- there is room for each version of the window
pub has_room-windowed : (low : ℕ) (v : Version) (h : Held) → IsHeld h → IsWindowed low h → in_window low v.0 ≡ true
    → has_room v h ≡ true
has_room-windowed low v [] held win is = absurd held
has_room-windowed low v (x ∷ xs) held win is =
    let first : x.0.0 ≡ low = win.least.1 in
    let few : length xs + x.0.0 ≤ low + 2 = few-above x.0.0 (low + 2) xs (omega arith) held win.most.1 in
    let least = in_window-low low v.0 is in
    let most = in_window-high low v.0 is in
    let all : low + 2 ≤ length xs + x.0.0 → x.0.0 < v.0 → holds v xs ≡ true =
    λ full past. all-held x.0.0 (low + 2) v xs held win.most.1 full past most in
    grind (arith, nat_tests)

-- no version above m, in parts of a list and in lists put together
pub up_to-append : (m : ℕ) (xs ys : Held) → AllUpTo m xs → AllUpTo m ys → AllUpTo m (xs ++ ys)
up_to-append m [] ys most most' = most'
up_to-append m (x ∷ xs) ys most most' = (most.0, up_to-append m xs ys most.1 most')

pub up_to-filter : (m : ℕ) (p : Version × Value → Bool) (xs : Held) → AllUpTo m xs → AllUpTo m (filter p xs)
up_to-filter m p [] most = tt
up_to-filter m p (x ∷ xs) most =
    cond_both (p x) (x ∷ filter p xs) (filter p xs) (AllUpTo m)
    (λ _. (most.0, up_to-filter m p xs most.1))
    (λ _. up_to-filter m p xs most.1)

pub up_to-applied : (m : ℕ) (op : Op) (xs : Held) → AllUpTo m xs → AllUpTo m (applied_to_all op xs)
up_to-applied m op [] most = tt
up_to-applied m op (x ∷ xs) most = (most.0, up_to-applied m op xs most.1)

pub up_to-more : (m n : ℕ) (xs : Held) → m ≤ n → AllUpTo m xs → AllUpTo n xs
up_to-more m n [] le most = tt
up_to-more m n (x ∷ xs) le most = (omega (arith, most.0), up_to-more m n xs le most.1)

-- version v with a value, between the versions below it and others of the window
pub first-joined : (low : ℕ) (v : Version) (w : Value) (x : Version × Value) (xs ys : Held)
    → AscendsAbove x.0.0 xs → x.0.0 ≡ low → low ≤ v.0
    → (0 < length (below v (x ∷ xs) ++ (v, w) ∷ ys)) × (first_version (below v (x ∷ xs) ++ (v, w) ∷ ys) ≡ low)
first-joined low v w x xs ys up is le =
    elim (cases_lt x.0.0 v.0) [
      | inl less ↦ rw (lt-ltb x.0.0 v.0 less) (omega arith, is)
      | inr more ↦ rw (le-ltb x.0.0 v.0 more, below-nil v x.0.0 xs more up) (omega arith, omega arith)
    ]

windowed-joined : (low : ℕ) (v : Version) (w : Value) (xs ys : Held) → IsHeld xs
    → IsWindowed low xs → in_window low v.0 ≡ true → AllUpTo (low + 2) ys → IsWindowed low (below v xs ++ (v, w) ∷ ys)
windowed-joined low v w [] ys held win is most = absurd held
windowed-joined low v w (x ∷ xs) ys held win is most = record {
  least = first-joined low v w x xs ys held win.least.1 (in_window-low low v.0 is);
  most = up_to-append (low + 2) (below v (x ∷ xs)) ((v, w) ∷ ys)
      (up_to-filter (low + 2) (λ y. ltb y.0.0 v.0) (x ∷ xs) win.most) (in_window-high low v.0 is, most);
}

-- an update in the window, a value put there, and a collection leave an item in its window
pub IsWindowed-touched : (low : ℕ) (v : Version) (op : Op) (h : Held) → IsHeld h → IsWindowed low h
    → in_window low v.0 ≡ true → IsWindowed low (touched v op h)
IsWindowed-touched low v op [] held win is = absurd held
IsWindowed-touched low v op (x ∷ xs) held win is =
    windowed-joined low v (applied (seen_after x.1 v xs) op) (x ∷ xs) (applied_to_all op (above v (x ∷ xs))) held win is
    (up_to-applied (low + 2) op (above v (x ∷ xs)) (up_to-filter (low + 2) (λ y. ltb v.0 y.0.0) (x ∷ xs) win.most))

pub IsWindowed-put_value : (low : ℕ) (v : Version) (w : Value) (h : Held) → IsHeld h → IsWindowed low h
    → in_window low v.0 ≡ true → IsWindowed low (put_value v w h)
IsWindowed-put_value low v w h held win is =
    windowed-joined low v w h (above v h) held win is (up_to-filter (low + 2) (λ y. ltb v.0 y.0.0) h win.most)

pub IsWindowed-collected : (low : ℕ) (f : Version) (h : Held) → low ≤ f.0 → CanCollect f h → IsWindowed low h
    → IsWindowed f.0 (collected f h)
IsWindowed-collected low f [] le can win = absurd can
IsWindowed-collected low f (x ∷ xs) le can win = record {
  least = (omega arith, refl);
  most = (
    omega arith,
    up_to-filter (f.0 + 2) (λ y. ltb f.0 y.0.0) (x ∷ xs)
        (up_to-more (low + 2) (f.0 + 2) (x ∷ xs) (omega arith) win.most),
  );
}

-- a windowed item may be collected to its low version, and to any later one
pub CanCollect-windowed : (low : ℕ) (f : Version) (h : Held) → IsWindowed low h → low ≤ f.0 → CanCollect f h
CanCollect-windowed low f [] win le = omega (arith, win.least.0)
CanCollect-windowed low f (x ∷ xs) win le = omega (arith, win.least.1)

pub IsWindowed-new : (w : Value) → IsWindowed 0 (new_held w)
IsWindowed-new w = record { least = (omega arith, refl); most = (omega arith, tt) }

-- the same of tables
pub IsWindowedTable-replaced : (low : ℕ) (n : ItemNo) (h : Held) (t : Table) → IsWindowed low h
    → IsWindowedTable low t → IsWindowedTable low (replaced n h t)
IsWindowedTable-replaced low n h t win all = each-replaced (IsWindowed low) n h t win all

pub IsWindowed-item_in : (low : ℕ) (n : ItemNo) (t : Table) (h : Held) → item_in n t ≡ Some h
    → IsWindowedTable low t → IsWindowed low h
IsWindowed-item_in low n t h is all = each-item (IsWindowed low) n t h is all

-- an item added in version 0
pub IsWindowedTable-added : (n : ItemNo) (w : Value) (t : Table) → IsWindowedTable 0 t
    → IsWindowedTable 0 (t ++ (n, new_held w) ∷ [])
IsWindowedTable-added n w t all = each-append (IsWindowed 0) t ((n, new_held w) ∷ []) all (IsWindowed-new w, tt)

-- an update of one item
windowed-updated : (low : ℕ) (v : Version) (op : Op) (n : ItemNo) (t : Table) (o : Option Held) → item_in n t ≡ o
    → IsHeldTable t → IsWindowedTable low t → in_window low v.0 ≡ true → IsWindowedTable low (updated v op o n t)
windowed-updated low v op n t None is held all within = all
windowed-updated low v op n t (Some h) is held all within =
    IsWindowedTable-replaced low n (touched v op h) t
    (IsWindowed-touched low v op h (IsHeld-item_in n t h is held) (IsWindowed-item_in low n t h is all) within) all

pub IsWindowedTable-touched_in : (low : ℕ) (v : Version) (n : ItemNo) (op : Op) (t : Table) → IsHeldTable t
    → IsWindowedTable low t → in_window low v.0 ≡ true → IsWindowedTable low (touched_in v n op t)
IsWindowedTable-touched_in low v n op t held all within =
    windowed-updated low v op n t (item_in n t) refl held all within

-- a value put in one item
windowed-valued : (low : ℕ) (v : Version) (w : Value) (n : ItemNo) (t : Table) (o : Option Held) → item_in n t ≡ o
    → IsHeldTable t → IsWindowedTable low t → in_window low v.0 ≡ true → IsWindowedTable low (valued v w o n t)
windowed-valued low v w n t None is held all within = all
windowed-valued low v w n t (Some h) is held all within =
    IsWindowedTable-replaced low n (put_value v w h) t
    (IsWindowed-put_value low v w h (IsHeld-item_in n t h is held) (IsWindowed-item_in low n t h is all) within) all

pub IsWindowedTable-put_value_in : (low : ℕ) (v : Version) (n : ItemNo) (w : Value) (t : Table) → IsHeldTable t
    → IsWindowedTable low t → in_window low v.0 ≡ true → IsWindowedTable low (put_value_in v n w t)
IsWindowedTable-put_value_in low v n w t held all within =
    windowed-valued low v w n t (item_in n t) refl held all within

-- an item of the table has room for each version of the window
pub has_room_in-windowed : (low : ℕ) (v : Version) (n : ItemNo) (h : Held) (t : Table) → item_in n t ≡ Some h
    → IsHeldTable t → IsWindowedTable low t → in_window low v.0 ≡ true → has_room_in v n t ≡ true
has_room_in-windowed low v n h t is held all within =
    rw (is, has_room_in)
    (has_room-windowed low v h (IsHeld-item_in n t h is held) (IsWindowed-item_in low n t h is all) within)

-- so has one that may be updated
pub has_room_in-may_touch : (low : ℕ) (v : Version) (n : ItemNo) (op : Op) (t : Table) → may_touch_in v n op t ≡ true
    → IsHeldTable t → IsWindowedTable low t → in_window low v.0 ≡ true → has_room_in v n t ≡ true
has_room_in-may_touch low v n op t may held all within =
    let (h, is, can) = touch-there v op n t may in has_room_in-windowed low v n h t is held all within

-- a windowed item may be collected to its low version, and to any later one
pub may-windowed : (low : ℕ) (f : Version) (h : Held) → IsWindowed low h → low ≤ f.0 → may_collect f h ≡ true
may-windowed low f [] win le = absurd (omega (arith, win.least.0))
may-windowed low f (x ∷ xs) win le = let first = win.least.1 in grind (arith, nat_tests)

pub may_collect_all-windowed : (low : ℕ) (f : Version) (t : Table) → low ≤ f.0 → IsWindowedTable low t
    → may_collect_all f t ≡ true
may_collect_all-windowed low f [] le win = refl
may_collect_all-windowed low f (e ∷ es) le win =
    rw (may-windowed low f e.1 win.0 le) (may_collect_all-windowed low f es le win.1)
