-- Operations that are made where their items are, and what is known of an item that takes one.
use Rattle.std.specs.Prelude.{ℤ, ◌+ℤ◌, unsigned_abs, nat_lt, not, if◌then◌else◌}
use Rattle.std.proofs.Common.{◌≡◌, ℕ, ◌+◌, ◌<◌, ◌≤◌, ◌||◌, ◌==◌, Bool, true, false, List, [], ◌∷◌, ◌++◌, leb, length, refl, ap, ◌∙◌, arith, inl, inr}
use Rattle.std.proofs.lemmas.Bool.{cases_lt, cond_both, and_from, le-leb, lt-leb, le-ltb, lt-ltb}
use Rattle.std.proofs.lemmas.Bool.Decides.{nat_tests}
use Rattle.std.proofs.lemmas.Int.{ints}
use Rattle.std.proofs.lemmas.List.{length-map}
use Rattle.tv_base.specs.declared.numbers.ItemNo.{ItemNo}
use Rattle.tv_base.specs.declared.numbers.Version.{Version}
use Rattle.tv_base.proofs.Truths.{left_true, right_true}
use Rattle.commute_ops.specs.declared.kinds.Op.{Op}
use Rattle.commute_ops.specs.declared.kinds.Op.TheVariants.{Add, Top as Raise, Put}
use Rattle.commute_ops.specs.declared.kinds.TheConstants.{MOST_AMOUNT}
use Rattle.commute_ops.specs.declared.value.Value.{Value}
use Rattle.commute_ops.specs.declared.value.Value.TheVariants.{Sum, Top, Bag}
use Rattle.commute_ops.specs.Ops.{applied, is_bag, may_apply}
use Rattle.item_versions.specs.declared.item.TheConstants.{MOST_VERSIONS}
use Rattle.item_versions.specs.declared.table.StagedOp.{StagedOp}
use Rattle.item_versions.specs.Item.{Held, AscendsAbove, IsHeld, applied_to_all, entry_in_place, held_in_place, has_room, holds, may_apply_above, may_touch, touched, value_in_place}
use Rattle.item_versions.specs.inside.StagedOps.{all_take, amounts_of, has_op, held_after_staged, op_amount, takes_in_place, takes_op}
use Rattle.item_versions.proofs.Order.{IsHeld-in_place, below-nil, entry-version}
use Rattle.item_versions.proofs.Rooms.{holds-later}
use Rattle.item_versions.proofs.Seen.{above-later, seen_after-later}

-- A value that takes an operation.
takes_more : (w : Value) (op : Op) (m n : ℕ) → m ≤ n → takes_op w op m ≡ true → takes_op w op n ≡ true
takes_more (Sum s) (Add a) m n le is = grind (arith, nat_tests)
takes_more (Sum s) (Raise a) m n le is = is
takes_more (Sum s) (Put a) m n le is = is
takes_more (Top t) (Add a) m n le is = is
takes_more (Top t) (Raise a) m n le is = is
takes_more (Top t) (Put a) m n le is = is
takes_more (Bag b) (Add a) m n le is = is
takes_more (Bag b) (Raise a) m n le is = is
takes_more (Bag b) (Put a) m n le is = is

sum_by : (s b a : ℤ) (m : ℕ) (test : Bool) → takes_op (Sum (record { 0 = s })) (Add a) m ≡ true
    → takes_op (if test then Sum (record { 0 = s +ℤ b }) else Sum (record { 0 = s })) (Add a) (m + unsigned_abs b) ≡ true
sum_by s b a m true is =
    let le : unsigned_abs s ≤ m = grind (arith, nat_tests) in
    let more : unsigned_abs (s +ℤ b) ≤ m + unsigned_abs b = omega (arith, ints) in
    le-leb (unsigned_abs (s +ℤ b)) (m + unsigned_abs b) more
sum_by s b a m false is = takes_more (Sum (record { 0 = s })) (Add a) m (m + unsigned_abs b) (omega arith) is

takes_after : (w : Value) (op : Op) (m : ℕ) (o : Op) → takes_op w op m ≡ true
    → takes_op (value_in_place w o) op (m + op_amount o) ≡ true
takes_after (Sum s) (Add a) m (Add b) is = sum_by s.0 b a m (may_apply (Sum s) (Add b)) is
takes_after (Sum s) (Add a) m (Raise b) is = takes_more (Sum s) (Add a) m (m + 0) (omega arith) is
takes_after (Sum s) (Add a) m (Put b) is = takes_more (Sum s) (Add a) m (m + 0) (omega arith) is
takes_after (Top t) (Raise a) m (Add b) is = refl
takes_after (Top t) (Raise a) m (Raise b) is = refl
takes_after (Top t) (Raise a) m (Put b) is = refl
takes_after (Sum s) (Raise a) m o is = absurd (cc is)
takes_after (Sum s) (Put a) m o is = absurd (cc is)
takes_after (Top t) (Add a) m o is = absurd (cc is)
takes_after (Top t) (Put a) m o is = absurd (cc is)
takes_after (Bag b) (Add a) m o is = absurd (cc is)
takes_after (Bag b) (Raise a) m o is = absurd (cc is)
takes_after (Bag b) (Put a) m o is = absurd (cc is)

takes_no_bag : (w : Value) (op : Op) (m : ℕ) → takes_op w op m ≡ true → is_bag w ≡ false
takes_no_bag (Sum s) op m is = refl
takes_no_bag (Top t) op m is = refl
takes_no_bag (Bag b) (Add a) m is = absurd (cc is)
takes_no_bag (Bag b) (Raise a) m is = absurd (cc is)
takes_no_bag (Bag b) (Put a) m is = absurd (cc is)

takes_may : (w : Value) (op : Op) (m : ℕ) → op_amount op + m ≤ MOST_AMOUNT → takes_op w op m ≡ true → may_apply w op ≡ true
takes_may (Sum s) (Add a) m most is = grind (arith, nat_tests)
takes_may (Top t) (Raise a) m most is = refl
takes_may (Sum s) (Raise a) m most is = absurd (cc is)
takes_may (Sum s) (Put a) m most is = absurd (cc is)
takes_may (Top t) (Add a) m most is = absurd (cc is)
takes_may (Top t) (Put a) m most is = absurd (cc is)
takes_may (Bag b) (Add a) m most is = absurd (cc is)
takes_may (Bag b) (Raise a) m most is = absurd (cc is)
takes_may (Bag b) (Put a) m most is = absurd (cc is)

same_value : (w : Value) (op : Op) → is_bag w ≡ false → may_apply w op ≡ true → value_in_place w op ≡ applied w op
same_value w op number may = rw (number, may) refl

-- where one of two tests is true, and the second gives a third, one of the first and the third is
pub or_more : (a b c : Bool) → (b ≡ true → c ≡ true) → (a || b) ≡ true → (a || c) ≡ true
or_more true b c f is = refl
or_more false b c f is = f is

-- Each version of an item takes it, also after others.
all_more : (v : Version) (op : Op) (m n : ℕ) (xs : Held) → m ≤ n → all_take v op m xs ≡ true → all_take v op n xs ≡ true
all_more v op m n [] le is = refl
all_more v op m n (x ∷ xs) le is =
    and_from _ _
    (or_more (not (leb v.0 x.0.0)) (takes_op x.1 op m) (takes_op x.1 op n) (takes_more x.1 op m n le)
    (left_true (not (leb v.0 x.0.0) || takes_op x.1 op m) (all_take v op m xs) is))
    (all_more v op m n xs le (right_true (not (leb v.0 x.0.0) || takes_op x.1 op m) (all_take v op m xs) is))

abbrev Takes : Version → Op → ℕ → Version × Value → Type 0
Takes v op m x = (not (leb v.0 x.0.0) || takes_op x.1 op m) ≡ true

entry_after : (v u : Version) (op : Op) (m : ℕ) (o : Op) (x : Version × Value) → Takes v op m x
    → Takes v op (m + op_amount o) (entry_in_place u o x)
entry_after v u op m o x is =
    cond_both (leb u.0 x.0.0) (x.0, value_in_place x.1 o) x (Takes v op (m + op_amount o))
    (λ _. or_more (not (leb v.0 x.0.0)) (takes_op x.1 op m) (takes_op (value_in_place x.1 o) op (m + op_amount o))
    (takes_after x.1 op m o) is)
    (λ _. or_more (not (leb v.0 x.0.0)) (takes_op x.1 op m) (takes_op x.1 op (m + op_amount o))
    (takes_more x.1 op m (m + op_amount o) (omega arith)) is)

all_after : (v u : Version) (op : Op) (m : ℕ) (o : Op) (xs : Held) → all_take v op m xs ≡ true
    → all_take v op (m + op_amount o) (held_in_place u o xs) ≡ true
all_after v u op m o [] is = refl
all_after v u op m o (x ∷ xs) is =
    and_from _ _
    (entry_after v u op m o x (left_true (not (leb v.0 x.0.0) || takes_op x.1 op m) (all_take v op m xs) is))
    (all_after v u op m o xs (right_true (not (leb v.0 x.0.0) || takes_op x.1 op m) (all_take v op m xs) is))

pub all_after_staged : (v : Version) (op : Op) (n : ItemNo) (os : List StagedOp) (m : ℕ) (h : Held)
    → all_take v op m h ≡ true → all_take v op (m + amounts_of os) (held_after_staged n os h) ≡ true
all_after_staged v op n [] m h is = all_more v op m (m + 0) h (omega arith) is
all_after_staged v op n (o ∷ os) m h is =
    cond_both (o.item.0 == n.0) (held_in_place o.version o.op h) h
    (λ (k : Held). all_take v op (m + (op_amount o.op + amounts_of os)) (held_after_staged n os k) ≡ true)
    (λ _. all_more v op (m + op_amount o.op + amounts_of os) (m + (op_amount o.op + amounts_of os)) _ (omega arith)
    (all_after_staged v op n os (m + op_amount o.op) (held_in_place o.version o.op h) (all_after v o.version op m o.op h is)))
    (λ _. all_more v op (m + amounts_of os) (m + (op_amount o.op + amounts_of os)) _ (omega arith)
    (all_after_staged v op n os m h is))

-- What one operation leaves as it is, all do.
staged-keep : (P : Held → Type 0) (n : ItemNo) (os : List StagedOp) (h : Held)
    → ((u : Version) (o : Op) (k : Held) → P k → P (held_in_place u o k)) → P h → P (held_after_staged n os h)
staged-keep P n [] h keep is = is
staged-keep P n (o ∷ os) h keep is =
    cond_both (o.item.0 == n.0) (held_in_place o.version o.op h) h (λ (k : Held). P (held_after_staged n os k))
    (λ _. staged-keep P n os (held_in_place o.version o.op h) keep (keep o.version o.op h is))
    (λ _. staged-keep P n os h keep is)

pub IsHeld-after_staged : (n : ItemNo) (os : List StagedOp) (h : Held) → IsHeld h → IsHeld (held_after_staged n os h)
IsHeld-after_staged n os h held = staged-keep IsHeld n os h (λ u o k. IsHeld-in_place u o k) held

holds-in_place : (w u : Version) (op : Op) (xs : Held) → holds w (held_in_place u op xs) ≡ holds w xs
holds-in_place w u op [] = refl
holds-in_place w u op (x ∷ xs) = λ i. ((entry-version u op x i).0 == w.0) || holds-in_place w u op xs i

pub holds-after_staged : (w : Version) (n : ItemNo) (os : List StagedOp) (h : Held)
    → holds w (held_after_staged n os h) ≡ holds w h
holds-after_staged w n os h =
    staged-keep (λ (k : Held). holds w k ≡ holds w h) n os h (λ u o k is. holds-in_place w u o k ∙ is) refl

length-after_staged : (n : ItemNo) (os : List StagedOp) (h : Held) → length (held_after_staged n os h) ≡ length h
length-after_staged n os h =
    staged-keep (λ (k : Held). length k ≡ length h) n os h
    (λ u o k is. length-map k (λ x. entry_in_place u o x) ∙ is) refl

pub room-after_staged : (w : Version) (n : ItemNo) (os : List StagedOp) (h : Held)
    → has_room w (held_after_staged n os h) ≡ has_room w h
room-after_staged w n os h =
    λ i. holds-after_staged w n os h i || nat_lt (length-after_staged n os h i) MOST_VERSIONS

none-by : (n : ItemNo) (o : StagedOp) (os : List StagedOp) (h : Held) (test : Bool) → (test || has_op n os) ≡ false
    → (has_op n os ≡ false → held_after_staged n os h ≡ h)
    → held_after_staged n os (if test then held_in_place o.version o.op h else h) ≡ h
none-by n o os h true none rest = absurd (cc none)
none-by n o os h false none rest = rest none

pub none-after_staged : (n : ItemNo) (os : List StagedOp) (h : Held) → has_op n os ≡ false → held_after_staged n os h ≡ h
none-after_staged n [] h none = refl
none-after_staged n (o ∷ os) h none = none-by n o os h (o.item.0 == n.0) none (none-after_staged n os h)

-- An item that takes an operation where it is may be updated, and is then what it is after the update.
above-same : (v : Version) (op : Op) (m n : ℕ) (xs : Held) → v.0 ≤ n → AscendsAbove n xs → op_amount op + m ≤ MOST_AMOUNT
    → all_take v op m xs ≡ true
    → (may_apply_above v op xs ≡ true) × (held_in_place v op xs ≡ applied_to_all op xs)
above-same v op m n [] le up most is = (refl, refl)
above-same v op m n (x ∷ xs) le up most is =
    let lt : v.0 < x.0.0 = omega (arith, up.0) in
    let test = lt-ltb v.0 x.0.0 lt in
    let test' = le-leb v.0 x.0.0 (omega arith) in
    let one : takes_op x.1 op m ≡ true = rw test' at (left_true (not (leb v.0 x.0.0) || takes_op x.1 op m) (all_take v op m xs) is) in
    let may = takes_may x.1 op m most one in
    let same = same_value x.1 op (takes_no_bag x.1 op m one) may in
    let (may', same') = above-same v op m x.0.0 xs (omega arith) up.1 most (right_true (not (leb v.0 x.0.0) || takes_op x.1 op m) (all_take v op m xs) is) in
    (rw (test, may) may', rw test' (λ i. (x.0, same i) ∷ same' i))

first-held : (v : Version) (x : Version × Value) (xs : Held) → AscendsAbove x.0.0 xs → holds v (x ∷ xs) ≡ true → x.0.0 ≤ v.0
first-held v x xs up is =
    let past : v.0 ≤ x.0.0 → holds v xs ≡ false = λ le. holds-later v x.0.0 xs le up in
    grind (arith, nat_tests)

abbrev IsUpdated : Version → Op → Held → Type 0
IsUpdated v op h = (may_touch v op h ≡ true) × (held_in_place v op h ≡ touched v op h)

updated-here : (v : Version) (op : Op) (m : ℕ) (x : Version × Value) (xs : Held) → x.0.0 ≡ v.0 → AscendsAbove x.0.0 xs
    → op_amount op + m ≤ MOST_AMOUNT → all_take v op m (x ∷ xs) ≡ true → IsUpdated v op (x ∷ xs)
updated-here v op m x xs eq up most is =
    let le : v.0 ≤ x.0.0 = omega arith in
    let test = le-ltb x.0.0 v.0 le in
    let test' = le-leb v.0 x.0.0 le in
    let test'' = le-ltb v.0 x.0.0 (omega arith) in
    let at : x.0 ≡ v = λ i. record { 0 = eq i } in
    let one : takes_op x.1 op m ≡ true = rw test' at (left_true (not (leb v.0 x.0.0) || takes_op x.1 op m) (all_take v op m xs) is) in
    let may = takes_may x.1 op m most one in
    let same = same_value x.1 op (takes_no_bag x.1 op m one) may in
    let (may', same') = above-same v op m x.0.0 xs le up most (right_true (not (leb v.0 x.0.0) || takes_op x.1 op m) (all_take v op m xs) is) in
    let seen = seen_after-later x.1 v x.0.0 xs le up in
    let none = below-nil v x.0.0 xs le up in
    let all = above-later v x.0.0 xs le up in
    (rw (seen, may, test'') may', rw (test, test', test'', seen, none, all) (λ i. (at i, same i) ∷ same' i))

updated-later : (v : Version) (op : Op) (x y : Version × Value) (ys : Held) → x.0.0 < v.0 → y.0.0 ≤ v.0
    → IsUpdated v op (y ∷ ys) → IsUpdated v op (x ∷ y ∷ ys)
updated-later v op x y ys lt le is =
    let test = lt-ltb x.0.0 v.0 lt in
    let test' = lt-leb v.0 x.0.0 lt in
    let test'' = le-ltb v.0 x.0.0 (omega arith) in
    let first = le-leb y.0.0 v.0 le in
    (rw (first, test'') is.0, rw (test, test', test'', first) (ap (λ (zs : Held). x ∷ zs) is.1))

updated-in_place : (v : Version) (op : Op) (m : ℕ) (x : Version × Value) (xs : Held) → AscendsAbove x.0.0 xs
    → holds v (x ∷ xs) ≡ true → op_amount op + m ≤ MOST_AMOUNT → all_take v op m (x ∷ xs) ≡ true
    → IsUpdated v op (x ∷ xs)
updated-in_place v op m x [] up is most all =
    let eq : x.0.0 ≡ v.0 = grind (arith, nat_tests) in updated-here v op m x [] eq up most all
updated-in_place v op m x (y ∷ ys) up is most all =
    elim (cases_lt x.0.0 v.0) [
      | inl lt ↦
          let rest : holds v (y ∷ ys) ≡ true = grind (arith, nat_tests) in
          updated-later v op x y ys lt (first-held v y ys up.1 rest)
          (updated-in_place v op m y ys up.1 rest most (right_true (not (leb v.0 x.0.0) || takes_op x.1 op m) (all_take v op m (y ∷ ys)) all))
      | inr ge ↦
          let first = first-held v x (y ∷ ys) up is in
          updated-here v op m x (y ∷ ys) (omega arith) up most all
    ]

pub updated-held : (v : Version) (op : Op) (m : ℕ) (h : Held) → IsHeld h → op_amount op + m ≤ MOST_AMOUNT
    → takes_in_place v op m h ≡ true → (may_touch v op h ≡ true) × (held_in_place v op h ≡ touched v op h)
updated-held v op m [] held most is = absurd held
updated-held v op m (x ∷ xs) held most is =
    updated-in_place v op m x xs held (left_true (holds v (x ∷ xs)) (all_take v op m (x ∷ xs)) is) most
    (right_true (holds v (x ∷ xs)) (all_take v op m (x ∷ xs)) is)

-- so it is after other operations, if there is room for them all
pub updated-after_staged : (v : Version) (op : Op) (m : ℕ) (n : ItemNo) (os : List StagedOp) (h : Held) → IsHeld h
    → op_amount op + (m + amounts_of os) ≤ MOST_AMOUNT → takes_in_place v op m h ≡ true
    → (may_touch v op (held_after_staged n os h) ≡ true)
    × (held_in_place v op (held_after_staged n os h) ≡ touched v op (held_after_staged n os h))
updated-after_staged v op m n os h held most is =
    updated-held v op (m + amounts_of os) (held_after_staged n os h) (IsHeld-after_staged n os h held) most
    (and_from _ _ (holds-after_staged v n os h ∙ left_true (holds v h) (all_take v op m h) is)
    (all_after_staged v op n os m h (right_true (holds v h) (all_take v op m h) is)))

pub amounts-last : (os : List StagedOp) (o : StagedOp) → amounts_of (os ++ o ∷ []) ≡ op_amount o.op + amounts_of os
amounts-last [] o = refl
amounts-last (p ∷ os) o = let rest = amounts-last os o in omega arith
