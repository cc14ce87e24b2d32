-- How much a generated transaction has: at most four subtransactions, each with one operation of a small amount, and no
-- `put`.
use Rattle.std.proofs.Common.{◌≡◌, ◌+◌, ◌*◌, ◌%◌, ◌≤◌, ◌∷◌, [], List, Bool, true, false, ℕ, zero, suc, length, refl, arith, length-append}
use Rattle.std.specs.Prelude.{◌==◌, if◌then◌else◌, unsigned_abs}
use Rattle.std.specs.List.{AllByRecursion}
use Rattle.std.proofs.lemmas.Int.{ints}
use Rattle.tv_base.specs.Sums.{one_if}
use Rattle.tx_trees.specs.Adding.{all_ops, all_subs}
use Rattle.tx_trees.specs.Amounts.{magnitude}
use Rattle.tx_trees.specs.Counts.{one_put, strict_trees, subs_ops, subs_puts, trees_puts}
use Rattle.tx_trees.specs.ScriptData.{is_strict}
use Rattle.tx_trees.specs.Valid.{subs_load, trees_load}
use Rattle.tx_trees.specs.declared.parts.Sub.{Sub}
use Rattle.tx_trees.specs.declared.parts.Tree.{Tree}
use Rattle.tx_trees.specs.declared.parts.TreeKind.{TreeKind}
use Rattle.tx_trees.specs.declared.parts.TreeKind.TheVariants as kinds
use Rattle.tx_trees.proofs.Lists.{IsSum, all-push}
use Rattle.tx_trees.proofs.Totals.{all_subs-sum, load_total, op_total, put_total, strict-sum}
use Rattle.script_gen.specs.Draws.{after_draws}
use Rattle.tv_base.specs.Draws.{next_draw, upper_bits}
use Rattle.script_gen.specs.Generated.{after_trees, amount_by, deed_by, generated_sub, generated_tree, home_by, is_top, item_by, kind_by, node_by, size_after, subs_up_to, trees_up_to}

-- a sum of what is at most b
sum_most : {A : Type 0} (m : A → ℕ) (M : List A → ℕ) (b : ℕ) → IsSum m M → (xs : List A) → AllByRecursion (λ (x : A). m x ≤ b) xs → M xs ≤ b * length xs
sum_most m M b sum [] all = omega (arith, sum.none)
sum_most m M b sum (x ∷ xs) all =
    let rest = sum_most m M b sum xs all.1 in
    let more : b * length (x ∷ xs) ≡ b + b * length xs = omega arith in
    omega (arith, sum.one_more x xs, rest, all.0, more)

amount_small : (e : ℕ) → unsigned_abs (amount_by e) ≤ 999
amount_small e = omega (arith, ints)

deed_small_by : (b : Bool) (kind : TreeKind) (x e : ℕ) → is_top x ≡ b → magnitude (deed_by kind x (amount_by e)) ≤ 999
deed_small_by true kinds.Update x e t = rw t (amount_small e)
deed_small_by false kinds.Update x e t = rw t (amount_small e)
deed_small_by b kinds.Read x e t = omega arith
deed_small_by true kinds.Strict x e t = rw t (amount_small e)
deed_small_by false kinds.Strict x e t = rw t (amount_small e)

pub deed_small : (kind : TreeKind) (x e : ℕ) → magnitude (deed_by kind x (amount_by e)) ≤ 999
deed_small kind x e = deed_small_by (is_top x) kind x e refl

no_put_by : (b : Bool) (kind : TreeKind) (x e : ℕ) → is_top x ≡ b → one_put (deed_by kind x (amount_by e)) ≡ 0
no_put_by true kinds.Update x e t = rw t refl
no_put_by false kinds.Update x e t = rw t refl
no_put_by b kinds.Read x e t = refl
no_put_by true kinds.Strict x e t = rw t refl
no_put_by false kinds.Strict x e t = rw t refl

pub no_put : (kind : TreeKind) (x e : ℕ) → one_put (deed_by kind x (amount_by e)) ≡ 0
no_put kind x e = no_put_by (is_top x) kind x e refl

if_most : (b : Bool) (n m : ℕ) → n ≤ m → (if b then n else 0) + 0 ≤ m
if_most true n m h = omega arith
if_most false n m h = omega arith

-- what holds of each generated subtransaction holds of all of a tree
all_subs_are : (P : Sub → Type 0) (kind : TreeKind) (home x : ℕ) → ((k e : ℕ) → P (generated_sub kind home k e)) → (n : ℕ) → AllByRecursion P (subs_up_to kind home x n)
all_subs_are P kind home x each zero = tt
all_subs_are P kind home x each (suc n) =
    all-push P (subs_up_to kind home x n) (generated_sub kind home n (upper_bits (after_draws (suc n) x))) (all_subs_are P kind home x each n) (each n (upper_bits (after_draws (suc n) x)))

pub length-subs : (kind : TreeKind) (home x n : ℕ) → length (subs_up_to kind home x n) ≡ n
length-subs kind home x zero = refl
length-subs kind home x (suc n) =
    omega (arith, length-append (subs_up_to kind home x n) (generated_sub kind home n (upper_bits (after_draws (suc n) x)) ∷ []), length-subs kind home x n)

pub subs_load_most : (y : ℕ) (kind : TreeKind) (home x n : ℕ) → subs_load y (subs_up_to kind home x n) ≤ 999 * n
subs_load_most y kind home x n =
    omega (
      arith,
      length-subs kind home x n,
      sum_most _ (subs_load y) 999 (load_total y).subs (subs_up_to kind home x n)
          (all_subs_are _ kind home x (λ (k e : ℕ). if_most (item_by (node_by home k e) e == y) (magnitude (deed_by kind (item_by (node_by home k e) e) (amount_by e))) 999
          (deed_small kind (item_by (node_by home k e) e) e)) n),
    )

pub subs_ops_most : (kind : TreeKind) (home x n : ℕ) → subs_ops (subs_up_to kind home x n) ≤ n
subs_ops_most kind home x n =
    omega (arith, length-subs kind home x n, sum_most _ subs_ops 1 op_total.subs (subs_up_to kind home x n) (all_subs_are _ kind home x (λ (k e : ℕ). one_is) n)) where
      one_is : 1 ≤ 1
      one_is = omega arith

pub subs_puts_none : (y : ℕ) (kind : TreeKind) (home x n : ℕ) → subs_puts y (subs_up_to kind home x n) ≡ 0
subs_puts_none y kind home x n =
    omega (
      arith,
      length-subs kind home x n,
      sum_most _ (subs_puts y) 0 (put_total y).subs (subs_up_to kind home x n)
          (all_subs_are _ kind home x (λ (k e : ℕ). if_most (item_by (node_by home k e) e == y) (one_put (deed_by kind (item_by (node_by home k e) e) (amount_by e))) 0
          (none (no_put kind (item_by (node_by home k e) e) e))) n),
    ) where
      none : {m : ℕ} → m ≡ 0 → m ≤ 0
      none e = omega (arith, e)

kind_choice : (b : Bool) → one_if (is_strict (if b then kinds.Read else kinds.Update)) ≡ 0
kind_choice true = refl
kind_choice false = refl

pub not_strict : (d : ℕ) → one_if (is_strict (kind_by d)) ≡ 0
not_strict d = kind_choice (d % 4 == 0)

size_most : (x : ℕ) → size_after x ≤ 4
size_most x = omega arith

-- what holds of each generated tree holds of all
all_trees_are : (P : Tree → Type 0) (seed : ℕ) → ((j x : ℕ) → P (generated_tree j x)) → (n : ℕ) → AllByRecursion P (trees_up_to seed n)
all_trees_are P seed each zero = tt
all_trees_are P seed each (suc j) =
    all-push P (trees_up_to seed j) (generated_tree j (after_trees seed j)) (all_trees_are P seed each j) (each j (after_trees seed j))

pub length-trees : (seed n : ℕ) → length (trees_up_to seed n) ≡ n
length-trees seed zero = refl
length-trees seed (suc j) = omega (arith, length-append (trees_up_to seed j) (generated_tree j (after_trees seed j) ∷ []), length-trees seed j)

pub all_subs_most : (seed n : ℕ) → all_subs (trees_up_to seed n) ≤ 4 * n
all_subs_most seed n =
    omega (
      arith,
      length-trees seed n,
      sum_most _ all_subs 4 all_subs-sum (trees_up_to seed n)
          (all_trees_are _ seed (λ (j x : ℕ). omega (arith, size_most x, length-subs (kind_by (upper_bits (next_draw x))) (home_by (upper_bits (next_draw x))) (next_draw x) (size_after x))) n),
    )

pub all_ops_most : (seed n : ℕ) → all_ops (trees_up_to seed n) ≤ 4 * n
all_ops_most seed n =
    omega (
      arith,
      length-trees seed n,
      sum_most _ all_ops 4 op_total.trees (trees_up_to seed n)
          (all_trees_are _ seed (λ (j x : ℕ). omega (arith, size_most x, subs_ops_most (kind_by (upper_bits (next_draw x))) (home_by (upper_bits (next_draw x))) (next_draw x) (size_after x))) n),
    )

pub strict_none : (seed n : ℕ) → strict_trees (trees_up_to seed n) ≡ 0
strict_none seed n =
    omega (
      arith,
      length-trees seed n,
      sum_most _ strict_trees 0 strict-sum (trees_up_to seed n)
          (all_trees_are _ seed (λ (j x : ℕ). omega (arith, not_strict (upper_bits (next_draw x)))) n),
    )

pub puts_none : (y seed n : ℕ) → trees_puts y (trees_up_to seed n) ≡ 0
puts_none y seed n =
    omega (
      arith,
      length-trees seed n,
      sum_most _ (trees_puts y) 0 (put_total y).trees (trees_up_to seed n)
          (all_trees_are _ seed (λ (j x : ℕ). omega (arith, subs_puts_none y (kind_by (upper_bits (next_draw x))) (home_by (upper_bits (next_draw x))) (next_draw x) (size_after x))) n),
    )

pub load_most : (y seed n : ℕ) → trees_load y (trees_up_to seed n) ≤ 3996 * n
load_most y seed n =
    omega (
      arith,
      length-trees seed n,
      sum_most _ (trees_load y) 3996 (load_total y).trees (trees_up_to seed n)
          (all_trees_are _ seed (λ (j x : ℕ). omega (arith, size_most x, subs_load_most y (kind_by (upper_bits (next_draw x))) (home_by (upper_bits (next_draw x))) (next_draw x) (size_after x))) n),
    )
