-- What a subtransaction and the client send, by what it asks for.
use Rattle.std.proofs.Common.{◌≡◌, ◌≢◌, ℕ, zero, suc, ◌+◌, ◌<◌, ◌≤◌, ◌==◌, ◌&&◌, Bool, true, false, List, ◌∷◌, take, drop, ◌++◌, refl, sym, ap, subst, ◌∙◌, arith, Some, []}
use Rattle.std.specs.Prelude.{nat_lt, slice_get}
use Rattle.std.proofs.lemmas.Bool.Decides.{nat_tests}
use Rattle.std.proofs.lemmas.List.{take-take, drop-take, take-append-drop}
use Rattle.tx_trees.specs.ScriptData.{ScriptData}
use Rattle.tx_trees.specs.Valid.{NamesInOrder}
use Rattle.tx_trees.specs.declared.parts.ScriptRow.{ScriptRow}
use Rattle.tx_trees.specs.declared.parts.ScriptRow.TheVariants.{Tree as TreeRow, Advance, Settle, Lose}
use Rattle.tx_trees.specs.declared.parts.Sub.{Sub}
use Rattle.world_model.specs.Counts.{tally, one_if}
use Rattle.world_model.proofs.Bags.{tally-append}
use Rattle.world_model.specs.Children.{sub_letters}
use Rattle.world_model.specs.Client.{advance_letter, rows_letters}
use Rattle.world_model.proofs.Sends.{on, roots_none, advance_each}
use Rattle.tree_laws.specs.Dids.{asks, roots_sent}

-- The children of a subtransaction.
pub other_tree : (t u k i : ℕ) → u ≢ t → one_if ((u == t) && (i == k)) ≡ 0
other_tree t u k i ne = grind (arith, nat_tests)

pub other_sub : (t u k i : ℕ) → i ≢ k → one_if ((u == t) && (i == k)) ≡ 0
other_sub t u k i ne = grind (arith, nat_tests)

-- another number
pub not_here : (t u : ℕ) → u ≢ t → one_if (u == t) ≡ 0
not_here t u ne = grind (arith, nat_tests)

later_at : (t k u v parent i : ℕ) (x : Sub) (xs : List Sub) → k < i → (test : Bool) → (nat_lt parent i && (x.parent.0 == parent)) ≡ test
    → tally (on (asks t k)) (sub_letters u v parent (i + 1) xs) ≡ 0 → tally (on (asks t k)) (sub_letters u v parent i (x ∷ xs)) ≡ 0
later_at t k u v parent i x xs lt true is rest = rw is (omega (arith, other_sub t u k i (omega arith), rest))
later_at t k u v parent i x xs lt false is rest = rw is rest

-- places after it
later : (t k u v parent i : ℕ) (xs : List Sub) → k < i → tally (on (asks t k)) (sub_letters u v parent i xs) ≡ 0
later t k u v parent i [] lt = refl
later t k u v parent i (x ∷ xs) lt =
    later_at t k u v parent i x xs lt (nat_lt parent i && (x.parent.0 == parent)) refl (later t k u v parent (i + 1) xs (omega arith))

other_at : (t k u v parent i : ℕ) (x : Sub) (xs : List Sub) → u ≢ t → (test : Bool) → (nat_lt parent i && (x.parent.0 == parent)) ≡ test
    → tally (on (asks t k)) (sub_letters u v parent (i + 1) xs) ≡ 0 → tally (on (asks t k)) (sub_letters u v parent i (x ∷ xs)) ≡ 0
other_at t k u v parent i x xs ne true is rest = rw is (omega (arith, other_tree t u k i ne, rest))
other_at t k u v parent i x xs ne false is rest = rw is rest

-- another tree
other : (t k u v parent i : ℕ) (xs : List Sub) → u ≢ t → tally (on (asks t k)) (sub_letters u v parent i xs) ≡ 0
other t k u v parent i [] ne = refl
other t k u v parent i (x ∷ xs) ne =
    other_at t k u v parent i x xs ne (nat_lt parent i && (x.parent.0 == parent)) refl (other t k u v parent (i + 1) xs ne)

child_at : (t k v parent i : ℕ) (x : Sub) (xs : List Sub) → i ≡ k → parent < k → (test : Bool)
    → (nat_lt parent i && (x.parent.0 == parent)) ≡ test
    → tally (on (asks t k)) (sub_letters t v parent i (x ∷ xs)) ≡ one_if (parent == x.parent.0)
child_at t k v parent i x xs ik lt true is =
    let mine : one_if ((t == t) && (i == k)) ≡ 1 = grind (arith, nat_tests) in
    let its : one_if (parent == x.parent.0) ≡ 1 = grind (arith, nat_tests) in
    rw is (omega (arith, mine, its, later t k t v parent (i + 1) xs (omega arith)))
child_at t k v parent i x xs ik lt false is =
    let its : one_if (parent == x.parent.0) ≡ 0 = grind (arith, nat_tests) in
    rw is (omega (arith, its, later t k t v parent (i + 1) xs (omega arith)))

earlier_at : (t k v parent i : ℕ) (x : Sub) (xs : List Sub) → i < k → (test : Bool) → (nat_lt parent i && (x.parent.0 == parent)) ≡ test
    → tally (on (asks t k)) (sub_letters t v parent i (x ∷ xs)) ≡ tally (on (asks t k)) (sub_letters t v parent (i + 1) xs)
earlier_at t k v parent i x xs lt true is = rw is (omega (arith, other_sub t t k i (omega arith)))
earlier_at t k v parent i x xs lt false is = rw is refl

-- no child of this parent is subtransaction k, unless k comes after it
low_at : (t k v parent i : ℕ) (x : Sub) (xs : List Sub) → k ≤ parent → (test : Bool) → (nat_lt parent i && (x.parent.0 == parent)) ≡ test
    → tally (on (asks t k)) (sub_letters t v parent (i + 1) xs) ≡ 0 → tally (on (asks t k)) (sub_letters t v parent i (x ∷ xs)) ≡ 0
low_at t k v parent i x xs le true is rest =
    let lt : parent < i = grind (arith, nat_tests) in
    rw is (omega (arith, other_sub t t k i (omega arith), rest))
low_at t k v parent i x xs le false is rest = rw is rest

low : (t k v parent i : ℕ) (xs : List Sub) → k ≤ parent → tally (on (asks t k)) (sub_letters t v parent i xs) ≡ 0
low t k v parent i [] le = refl
low t k v parent i (x ∷ xs) le =
    low_at t k v parent i x xs le (nat_lt parent i && (x.parent.0 == parent)) refl (low t k v parent (i + 1) xs le)

high : (t k v parent i n : ℕ) (sub : Sub) (xs : List Sub) → slice_get xs n ≡ Some sub → k ≡ i + n → parent < k
    → tally (on (asks t k)) (sub_letters t v parent i xs) ≡ one_if (parent == sub.parent.0)
high t k v parent i n sub [] at is lt = absurd (cc at)
high t k v parent i zero sub (x ∷ xs) at is lt =
    let eq : x ≡ sub = cc at in
    subst (λ (y : Sub). tally (on (asks t k)) (sub_letters t v parent i (x ∷ xs)) ≡ one_if (parent == y.parent.0)) eq
    (child_at t k v parent i x xs (omega arith) lt (nat_lt parent i && (x.parent.0 == parent)) refl)
high t k v parent i (suc n) sub (x ∷ xs) at is lt =
    earlier_at t k v parent i x xs (omega arith) (nat_lt parent i && (x.parent.0 == parent)) refl ∙ high t k v parent (i + 1) n sub xs at (omega arith) lt

children_by : (t k u v parent : ℕ) (sub : Sub) (xs : List Sub) → slice_get xs k ≡ Some sub → sub.parent.0 < k → (a b : Bool) → (u == t) ≡ a
    → nat_lt parent k ≡ b
    → tally (on (asks t k)) (sub_letters u v parent 0 xs) ≡ one_if ((u == t) && (parent == sub.parent.0))
children_by t k u v parent sub xs at lt false b is test =
    let ne : u ≢ t = grind (arith, nat_tests) in
    other t k u v parent 0 xs ne ∙ sym (other_tree t u sub.parent.0 parent ne)
children_by t k u v parent sub xs at lt true true is test =
    let eq : u ≡ t = grind (arith, nat_tests) in
    let below : parent < k = grind (arith, nat_tests) in
    rw is (subst (λ (w : ℕ). tally (on (asks t k)) (sub_letters w v parent 0 xs) ≡ one_if (parent == sub.parent.0)) (sym eq) (high t k v parent 0 k sub xs at (omega arith) below))
children_by t k u v parent sub xs at lt true false is test =
    let eq : u ≡ t = grind (arith, nat_tests) in
    let past : k ≤ parent = grind (arith, nat_tests) in
    subst (λ (w : ℕ). tally (on (asks t k)) (sub_letters w v parent 0 xs) ≡ 0) (sym eq) (low t k v parent 0 xs past) ∙ sym (other_sub t u sub.parent.0 parent (omega arith))

-- subtransaction k of tree t is asked for once by its parent, and by no other; the list is that of tree t, if u is t
pub children : (t k u v parent : ℕ) (sub : Sub) (xs : List Sub) → slice_get xs k ≡ Some sub → sub.parent.0 < k
    → tally (on (asks t k)) (sub_letters u v parent 0 xs) ≡ one_if ((u == t) && (parent == sub.parent.0))
children t k u v parent sub xs at lt = children_by t k u v parent sub xs at lt (u == t) (nat_lt parent k) refl refl

pub children_apart : (t k u v parent : ℕ) (xs : List Sub) → u ≢ t → tally (on (asks t k)) (sub_letters u v parent 0 xs) ≡ 0
children_apart t k u v parent xs ne = other t k u v parent 0 xs ne

no_root_by : (t u v parent : ℕ) (xs : List Sub) → (a : Bool) → (u == t) ≡ a → tally (on (asks t 0)) (sub_letters u v parent 0 xs) ≡ 0
no_root_by t u v parent xs false is = other t 0 u v parent 0 xs (grind (arith, nat_tests))
no_root_by t u v parent xs true is =
    let eq : u ≡ t = grind (arith, nat_tests) in
    subst (λ (w : ℕ). tally (on (asks t 0)) (sub_letters w v parent 0 xs) ≡ 0) (sym eq) (low t 0 v parent 0 xs (omega arith))

-- none is a root
pub no_root : (t u v parent : ℕ) (xs : List Sub) → tally (on (asks t 0)) (sub_letters u v parent 0 xs) ≡ 0
no_root t u v parent xs = no_root_by t u v parent xs (u == t) refl

-- The roots.
root_alone : (t u k : ℕ) → 0 < k → one_if ((u == t) && (0 == k)) ≡ 0
root_alone t u k lt = grind (arith, nat_tests)

pub roots_alone : (s : ScriptData) (t k n : ℕ) (rows : List ScriptRow) → 0 < k → tally (on (asks t k)) (rows_letters s n rows) ≡ 0
roots_alone s t k n rows lt =
    roots_none (asks t k) s n rows (record { root = λ u. root_alone t u.0 k lt; advance = refl; numbered = λ i. refl; lose = refl })

root_here : (t u : ℕ) → one_if ((u == t) && (0 == 0)) ≡ one_if (u == t)
root_here t u = grind (arith, nat_tests)

-- the letters of rows ask for a tree's root as often as the rows do
advance_asks : (s : ScriptData) (t k n : ℕ) → asks t k (advance_letter s n) ≡ 0
advance_asks s t k n = advance_each (λ body. asks t k body ≡ 0) s n (λ is. refl) (λ is. refl)

pub roots_of_rows : (s : ScriptData) (t n : ℕ) (rows : List ScriptRow) → tally (on (asks t 0)) (rows_letters s n rows) ≡ roots_sent t rows
roots_of_rows s t n [] = refl
roots_of_rows s t n (TreeRow u ∷ rows) = omega (arith, root_here t u.0, roots_of_rows s t n rows)
roots_of_rows s t n (Advance ∷ rows) = omega (arith, advance_asks s t 0 n, roots_of_rows s t (n + 1) rows)
roots_of_rows s t n (Settle ∷ rows) = omega (arith, roots_of_rows s t n rows)
roots_of_rows s t n (Lose ∷ rows) = omega (arith, roots_of_rows s t n rows)

rooted_before : (t i n : ℕ) (rows : List ScriptRow) → NamesInOrder i n rows → t < i → roots_sent t rows ≡ 0
rooted_before t i n [] names lt = refl
rooted_before t i n (TreeRow u ∷ rows) names lt =
    let none : one_if (u.0 == t) ≡ 0 = not_here t u.0 (omega (arith, names.0)) in
    omega (arith, none, rooted_before t (i + 1) n rows names.1 (omega arith))
rooted_before t i n (Advance ∷ rows) names lt = omega (arith, rooted_before t i n rows names lt)
rooted_before t i n (Settle ∷ rows) names lt = omega (arith, rooted_before t i n rows names lt)
rooted_before t i n (Lose ∷ rows) names lt = omega (arith, rooted_before t i n rows names lt)

rooted_at : (t i n u : ℕ) (rows : List ScriptRow) → NamesInOrder (i + 1) n rows → u ≡ i → (test : Bool) → (u == t) ≡ test
    → (i < t → roots_sent t rows ≡ 1) → i ≤ t → one_if (u == t) + roots_sent t rows ≡ 1
rooted_at t i n u rows names ui true is rest le =
    let eq : u ≡ t = grind (arith, nat_tests) in
    rw is (omega (arith, rooted_before t (i + 1) n rows names (omega arith)))
rooted_at t i n u rows names ui false is rest le =
    let ne : u ≢ t = grind (arith, nat_tests) in
    rw is (omega (arith, rest (omega arith)))

rooted_from : (t i n : ℕ) (rows : List ScriptRow) → NamesInOrder i n rows → i ≤ t → t < n → roots_sent t rows ≡ 1
rooted_from t i n [] names le lt = absurd (omega (arith, names))
rooted_from t i n (TreeRow u ∷ rows) names le lt =
    rooted_at t i n u.0 rows names.1 names.0 (u.0 == t) refl (λ less. rooted_from t (i + 1) n rows names.1 (omega arith) lt) le
rooted_from t i n (Advance ∷ rows) names le lt = omega (arith, rooted_from t i n rows names le lt)
rooted_from t i n (Settle ∷ rows) names le lt = omega (arith, rooted_from t i n rows names le lt)
rooted_from t i n (Lose ∷ rows) names le lt = omega (arith, rooted_from t i n rows names le lt)

-- the rows ask for each tree's root once
pub rooted_once : (n t : ℕ) (rows : List ScriptRow) → NamesInOrder 0 n rows → t < n → roots_sent t rows ≡ 1
rooted_once n t rows names lt = rooted_from t 0 n rows names (omega arith) lt

-- Rows that are submitted one after the other.
pub tally_take_le : {X : Type 0} (f : X → ℕ) (n : ℕ) (xs : List X) → tally f (take n xs) ≤ tally f xs
tally_take_le f zero xs = omega arith
tally_take_le f (suc n) [] = omega arith
tally_take_le f (suc n) (x ∷ xs) = omega (arith, tally_take_le f n xs)

-- rows that are submitted after others
pub tally_take_more : {X : Type 0} (f : X → ℕ) (n k : ℕ) (xs : List X)
    → tally f (take (n + k) xs) ≡ tally f (take n xs) + tally f (take k (drop n xs))
tally_take_more f n k xs =
    let front : take n (take (n + k) xs) ≡ take n xs = take-take n (n + k) xs (omega arith) in
    let both : take (n + k) xs ≡ take n xs ++ take k (drop n xs) = cc (front, drop-take n k xs, take-append-drop n (take (n + k) xs)) in
    ap (λ ys. tally f ys) both ∙ tally-append f (take n xs) (take k (drop n xs))
