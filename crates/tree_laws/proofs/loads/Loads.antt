-- The load of what is done is at most the load of a script, and grows by what is done next.
use Rattle.std.proofs.Common.{◌≡◌, ◌≢◌, ℕ, zero, suc, ◌+◌, ◌*◌, ◌<◌, ◌≤◌, List, ◌∷◌, length, refl, ap, subst, arith, Some, []}
use Rattle.std.specs.Prelude.{slice_get}
use Rattle.tx_trees.specs.Valid.{ops_load, subs_load, trees_load}
use Rattle.tx_trees.specs.declared.parts.Sub.{Sub}
use Rattle.tx_trees.specs.declared.parts.Tree.{Tree}

-- the load on item x of subtransactions that were each done so often, where the list begins with subtransaction k
abbrev pub subs_done : (ℕ → ℕ) → ℕ → ℕ → List Sub → ℕ
subs_done often x k [] = 0
subs_done often x k (s ∷ ss) = often k * ops_load x s.ops + subs_done often x (k + 1) ss

-- the same of trees, where the list begins with tree t
abbrev pub trees_done : (ℕ → ℕ → ℕ) → ℕ → ℕ → List Tree → ℕ
trees_done often x t [] = 0
trees_done often x t (tree ∷ ts) = subs_done (often t) x 0 tree.subs + trees_done often x (t + 1) ts

-- Each at most once.
at_most_load : (n m : ℕ) → n ≤ 1 → n * m ≤ m
at_most_load n m le = grind arith

subs_most : (often : ℕ → ℕ) (x k : ℕ) (ss : List Sub) → ((j : ℕ) → j < length ss → often (k + j) ≤ 1)
    → subs_done often x k ss ≤ subs_load x ss
subs_most often x k [] once = omega arith
subs_most often x k (s ∷ ss) once =
    let first : often k ≤ 1 = subst (λ (n : ℕ). often n ≤ 1) (omega arith) (once 0 (omega arith)) in
    omega (
      arith,
      at_most_load (often k) (ops_load x s.ops) first,
      subs_most often x (k + 1) ss (λ j lt. subst (λ (n : ℕ). often n ≤ 1) (omega arith) (once (j + 1) (omega arith))),
    )

pub trees_most : (often : ℕ → ℕ → ℕ) (x t : ℕ) (ts : List Tree)
    → ((u j : ℕ) (tree : Tree) → slice_get ts u ≡ Some tree → j < length tree.subs → often (t + u) j ≤ 1)
    → trees_done often x t ts ≤ trees_load x ts
trees_most often x t [] once = omega arith
trees_most often x t (tree ∷ ts) once =
    omega (
      arith,
      subs_most (often t) x 0 tree.subs (λ j lt. subst (λ (n : ℕ). often t n ≤ 1) (omega arith) (subst (λ (n : ℕ). often n j ≤ 1) (omega arith) (once 0 j tree refl lt))),
      trees_most often x (t + 1) ts (λ u j tr at lt. subst (λ (n : ℕ). often n j ≤ 1) (omega arith) (once (suc u) j tr at lt)),
    )

-- One more.
subs_same : (a b : ℕ → ℕ) (x k : ℕ) (ss : List Sub) → ((j : ℕ) → k ≤ j → a j ≡ b j) → subs_done a x k ss ≡ subs_done b x k ss
subs_same a b x k [] same = refl
subs_same a b x k (s ∷ ss) same = rw (same k (omega arith), subs_same a b x (k + 1) ss (λ j le. same j (omega arith))) refl

pub trees_same : (a b : ℕ → ℕ → ℕ) (x t : ℕ) (ts : List Tree) → ((u j : ℕ) → t ≤ u → a u j ≡ b u j)
    → trees_done a x t ts ≡ trees_done b x t ts
trees_same a b x t [] same = refl
trees_same a b x t (tree ∷ ts) same =
    omega (arith, subs_same (a t) (b t) x 0 tree.subs (λ j le. same t j (omega arith)), trees_same a b x (t + 1) ts (λ u j le. same u j (omega arith)))

one_more : (n m : ℕ) → (n + 1) * m ≡ n * m + m
one_more n m = omega arith

-- a place of the list, which is number k counted from the list's first number i
subs_more : (a b : ℕ → ℕ) (x i k n : ℕ) (sub : Sub) (ss : List Sub) → slice_get ss n ≡ Some sub → k ≡ i + n
    → b k ≡ a k + 1 → ((j : ℕ) → j ≢ k → b j ≡ a j) → subs_done b x i ss ≡ subs_done a x i ss + ops_load x sub.ops
subs_more a b x i k n sub [] at is one others = absurd (cc at)
subs_more a b x i k zero sub (s ∷ ss) at is one others =
    let eq : s ≡ sub = cc at in
    let first : b i ≡ a i + 1 = subst (λ (j : ℕ). b j ≡ a j + 1) (omega arith) one in
    let rest = subs_same b a x (i + 1) ss (λ j le. others j (omega arith)) in
    let load : ops_load x s.ops ≡ ops_load x sub.ops = ap (λ (y : Sub). ops_load x y.ops) eq in
    rw first (omega (arith, one_more (a i) (ops_load x s.ops), rest, load))
subs_more a b x i k (suc n) sub (s ∷ ss) at is one others =
    rw (others i (omega arith)) (omega (arith, subs_more a b x (i + 1) k n sub ss at (omega arith) one others))

pub trees_more : (a b : ℕ → ℕ → ℕ) (x i t k n : ℕ) (tree : Tree) (sub : Sub) (ts : List Tree) → slice_get ts n ≡ Some tree → t ≡ i + n
    → slice_get tree.subs k ≡ Some sub
    → b t k ≡ a t k + 1 → ((j : ℕ) → j ≢ k → b t j ≡ a t j) → ((u j : ℕ) → u ≢ t → b u j ≡ a u j)
    → trees_done b x i ts ≡ trees_done a x i ts + ops_load x sub.ops
trees_more a b x i t k n tree sub [] at is here one others apart = absurd (cc at)
trees_more a b x i t k zero tree sub (y ∷ ts) at is here one others apart =
    let eq : tree ≡ y = cc at in
    let ti : t ≡ i = omega arith in
    let first = subst (λ (z : Tree). subs_done (b t) x 0 z.subs ≡ subs_done (a t) x 0 z.subs + ops_load x sub.ops) eq (subs_more (a t) (b t) x 0 k k sub tree.subs here (omega arith) one others) in
    let this = subst (λ (j : ℕ). subs_done (b j) x 0 y.subs ≡ subs_done (a j) x 0 y.subs + ops_load x sub.ops) ti first in
    omega (arith, this, trees_same b a x (i + 1) ts (λ u j le. apart u j (omega arith)))
trees_more a b x i t k (suc n) tree sub (y ∷ ts) at is here one others apart =
    omega (arith, subs_same (b i) (a i) x 0 y.subs (λ j le. apart i j (omega arith)), trees_more a b x (i + 1) t k n tree sub ts at (omega arith) here one others apart)
