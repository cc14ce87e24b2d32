-- The load of what a transaction has at one node, and what a valid script says of the operations there.
use Rattle.std.proofs.Common.{◌≡◌, ℕ, zero, suc, ◌+◌, ◌*◌, ◌≤◌, ◌==◌, Bool, true, false, List, [], ◌∷◌, ◌++◌, refl, sym, ap, subst, ◌∙◌, arith, Option, Some, None}
use Rattle.std.specs.Prelude.{if◌then◌else◌, slice_get}
use Rattle.std.specs.List.{AllByRecursion}
use Rattle.std.proofs.Math.Nat.{mul-le-mul_right}
use Rattle.std.proofs.lemmas.Bool.Decides.{nat_tests}
use Rattle.tx_trees.proofs.SubsOf.{all_at}
use Rattle.tx_trees.specs.ScriptData.{ScriptData, node_of, ops_of, subs_at}
use Rattle.tx_trees.specs.Valid.{AreSubs, IsOp, IsTree, IsValid, ops_load}
use Rattle.tx_trees.specs.declared.parts.ItemRow.{ItemRow}
use Rattle.tx_trees.specs.declared.parts.Sub.{Sub}
use Rattle.tx_trees.specs.declared.parts.SubOp.{SubOp}
use Rattle.tx_trees.specs.declared.parts.Tree.{Tree}
use Rattle.tx_trees.specs.declared.parts.TreeKind.{TreeKind}
use Rattle.tx_trees.specs.declared.parts.TreeKind.TheVariants as trees
use Rattle.board_rules.proofs.ItemAt.{ops_of_subs}
use Rattle.world_model.specs.Counts.{one_if}
use Rattle.world_model.specs.Decisions.{ops_at}
use Rattle.world_model.specs.Named.{is_strict_at, tree_kind_at}
use Rattle.world_model.proofs.Scripts.{SubAt, node_here, ops_here}
use Rattle.tree_laws.proofs.loads.Loads.{subs_done, trees_done}

-- What is done at least as often has at least the load.
subs_less : (a b : ℕ → ℕ) (x k : ℕ) (ss : List Sub) → ((j : ℕ) → a j ≤ b j) → subs_done a x k ss ≤ subs_done b x k ss
subs_less a b x k [] less = omega arith
subs_less a b x k (s ∷ ss) less = omega (arith, mul-le-mul_right (ops_load x s.ops) (less k), subs_less a b x (k + 1) ss less)

pub trees_less : (a b : ℕ → ℕ → ℕ) (x t : ℕ) (ts : List Tree) → ((u j : ℕ) → a u j ≤ b u j) → trees_done a x t ts ≤ trees_done b x t ts
trees_less a b x t [] less = omega arith
trees_less a b x t (tree ∷ ts) less =
    omega (arith, subs_less (a t) (b t) x 0 tree.subs (less t), trees_less a b x (t + 1) ts less)

-- All that a tree has at a node.
load_append : (x : ℕ) (os more : List SubOp) → ops_load x (os ++ more) ≡ ops_load x os + ops_load x more
load_append x [] more = omega arith
load_append x (o ∷ os) more = omega (arith, load_append x os more)

one_more : (n m l : ℕ) → n + 1 ≤ m → n * l + l ≤ m * l
one_more n m l le = omega (arith, mul-le-mul_right {m = n + 1} {n = m} l le)

sub_at_node : (a b before after p x : ℕ) (sub : Sub) (ss : List Sub) (test : Bool) → (sub.node.0 == p) ≡ test → a + one_if test ≤ b
    → before + ops_load x (ops_at p ss) ≤ after
    → (a * ops_load x sub.ops + before) + ops_load x (ops_at p (sub ∷ ss)) ≤ b * ops_load x sub.ops + after
sub_at_node a b before after p x sub ss true is le rest =
    rw is (omega (arith, rest, one_more a b (ops_load x sub.ops) le, load_append x sub.ops (ops_at p ss)))
sub_at_node a b before after p x sub ss false is le rest =
    rw is (omega (arith, rest, mul-le-mul_right {m = a} {n = b} (ops_load x sub.ops) (omega (arith, le))))

subs_at_node : (a b : ℕ → ℕ) (p x i : ℕ) (ss : List Sub)
    → ((j : ℕ) (sub : Sub) → slice_get ss j ≡ Some sub → a (i + j) + one_if (sub.node.0 == p) ≤ b (i + j))
    → subs_done a x i ss + ops_load x (ops_at p ss) ≤ subs_done b x i ss
subs_at_node a b p x i [] more = omega arith
subs_at_node a b p x i (s ∷ ss) more =
    let first : a i + one_if (s.node.0 == p) ≤ b i =
    subst (λ (n : ℕ). a n + one_if (s.node.0 == p) ≤ b n) (omega arith) (more 0 s refl) in
    sub_at_node (a i) (b i) (subs_done a x (i + 1) ss) (subs_done b x (i + 1) ss) p x s ss (s.node.0 == p) refl first
    (subs_at_node a b p x (i + 1) ss
    (λ j sub at. subst (λ (n : ℕ). a n + one_if (sub.node.0 == p) ≤ b n) (omega arith) (more (suc j) sub at)))

-- where each of those there is done once more, the load is more by that of all of them
pub node_load_more : (a b : ℕ → ℕ → ℕ) (p x i t n : ℕ) (tree : Tree) (ts : List Tree) → slice_get ts n ≡ Some tree → t ≡ i + n
    → ((j : ℕ) (sub : Sub) → slice_get tree.subs j ≡ Some sub → a t j + one_if (sub.node.0 == p) ≤ b t j)
    → ((u j : ℕ) → a u j ≤ b u j)
    → trees_done a x i ts + ops_load x (ops_at p tree.subs) ≤ trees_done b x i ts
node_load_more a b p x i t n tree [] at is more less = absurd (cc at)
node_load_more a b p x i t zero tree (y ∷ ts) at is more less =
    let eq : tree ≡ y = cc at in
    let ti : t ≡ i = omega arith in
    let here : (j : ℕ) (sub : Sub) → slice_get tree.subs j ≡ Some sub → a i (0 + j) + one_if (sub.node.0 == p) ≤ b i (0 + j) =
    λ j sub there.
    subst (λ (m : ℕ). a i m + one_if (sub.node.0 == p) ≤ b i m) (omega arith)
    (subst (λ (u : ℕ). a u j + one_if (sub.node.0 == p) ≤ b u j) ti (more j sub there)) in
    let first : subs_done (a i) x 0 y.subs + ops_load x (ops_at p tree.subs) ≤ subs_done (b i) x 0 y.subs =
    subst (λ (z : Tree). subs_done (a i) x 0 z.subs + ops_load x (ops_at p tree.subs) ≤ subs_done (b i) x 0 z.subs) eq
    (subs_at_node (a i) (b i) p x 0 tree.subs here) in
    omega (arith, first, trees_less a b x (i + 1) ts less)
node_load_more a b p x i t (suc n) tree (y ∷ ts) at is more less =
    omega (arith, subs_less (a i) (b i) x 0 y.subs (less i), node_load_more a b p x (i + 1) t n tree ts at (omega (arith, is)) more less)

-- The operations of a subtransaction, and all that a tree has at a node, fit the tree's kind.
pub ops_fit_kind : (s : ScriptData) (t k : ℕ) (kind : TreeKind) (c : SubAt s t k) → IsValid s → c.tree.kind ≡ kind
    → AllByRecursion (IsOp s.items kind (node_of s t k)) (ops_of s t k)
ops_fit_kind s t k kind c valid is =
    let tree = all_at (IsTree s.nodes s.items) s.trees t c.tree valid.trees c.at in
    rw (node_here s t k c, ops_here s t k c)
    (subst (λ (x : TreeKind). AllByRecursion (IsOp s.items x c.sub.node.0) c.sub.ops) is
    (ops_of_subs s.nodes s.items c.tree.kind 0 k c.tree.subs c.sub tree.subs c.here))

all_append : (P : SubOp → Type 0) (xs ys : List SubOp) → AllByRecursion P xs → AllByRecursion P ys → AllByRecursion P (xs ++ ys)
all_append P [] ys all more = more
all_append P (x ∷ xs) ys all more = (all.0, all_append P xs ys all.1 more)

first_at_node : (items : List ItemRow) (kind : TreeKind) (p : ℕ) (sub : Sub) (ss : List Sub) (test : Bool) → (sub.node.0 == p) ≡ test
    → AllByRecursion (IsOp items kind sub.node.0) sub.ops → AllByRecursion (IsOp items kind p) (ops_at p ss)
    → AllByRecursion (IsOp items kind p) (if test then sub.ops ++ ops_at p ss else ops_at p ss)
first_at_node items kind p sub ss true is own rest =
    let same : sub.node.0 ≡ p = grind (arith, nat_tests) in
    all_append (IsOp items kind p) sub.ops (ops_at p ss) (subst (λ (q : ℕ). AllByRecursion (IsOp items kind q) sub.ops) same own) rest
first_at_node items kind p sub ss false is own rest = rest

node_ops : (nodes : ℕ) (items : List ItemRow) (kind : TreeKind) (p i : ℕ) (subs : List Sub) → AreSubs nodes items kind i subs
    → AllByRecursion (IsOp items kind p) (ops_at p subs)
node_ops nodes items kind p i [] all = tt
node_ops nodes items kind p i (y ∷ subs) all =
    first_at_node items kind p y subs (y.node.0 == p) refl all.0.ops (node_ops nodes items kind p (i + 1) subs all.1)

pub node_ops_fit : (s : ScriptData) (t p : ℕ) (tree : Tree) (kind : TreeKind) → IsValid s → slice_get s.trees t ≡ Some tree
    → tree.kind ≡ kind → AllByRecursion (IsOp s.items kind p) (ops_at p tree.subs)
node_ops_fit s t p tree kind valid at is =
    let th = all_at (IsTree s.nodes s.items) s.trees t tree valid.trees at in
    subst (λ (x : TreeKind). AllByRecursion (IsOp s.items x p) (ops_at p tree.subs)) is
    (node_ops s.nodes s.items tree.kind p 0 tree.subs th.subs)

-- A tree of a kind.
pub kind_here : (s : ScriptData) (t k : ℕ) (kind : TreeKind) (c : SubAt s t k) → tree_kind_at s t ≡ Some kind → c.tree.kind ≡ kind
kind_here s t k kind c is = let same : Some c.tree.kind ≡ Some kind = rw (c.at, tree_kind_at) at is in cc same

pub plain_kind : (s : ScriptData) (t : ℕ) → tree_kind_at s t ≡ Some trees.Update → is_strict_at s t ≡ false
plain_kind s t is = rw (is, is_strict_at) refl

-- a strict tree is there
pub record StrictTree (s : ScriptData) (t : ℕ) : Type 0 where
  pub tree : Tree
  pub at : slice_get s.trees t ≡ Some tree
  pub kind : tree.kind ≡ trees.Strict
  pub subs : subs_at s t ≡ tree.subs

strict_of : (s : ScriptData) (t : ℕ) (tree : Tree) (kind : TreeKind) → slice_get s.trees t ≡ Some tree → tree.kind ≡ kind
    → is_strict_at s t ≡ true → StrictTree s t
strict_of s t tree trees.Strict at is strict = record { tree = tree; at = at; kind = is; subs = rw (at, subs_at) refl }
strict_of s t tree trees.Update at is strict =
    let up : tree_kind_at s t ≡ Some trees.Update = rw (at, tree_kind_at) (ap (λ (x : TreeKind). Some x) is) in
    let no_such : true ≡ false = sym strict ∙ plain_kind s t up in absurd (cc no_such)
strict_of s t tree trees.Read at is strict =
    let reads : tree_kind_at s t ≡ Some trees.Read = rw (at, tree_kind_at) (ap (λ (x : TreeKind). Some x) is) in
    let none : is_strict_at s t ≡ false = rw (reads, is_strict_at) refl in
    let no_such : true ≡ false = sym strict ∙ none in absurd (cc no_such)

strict_by : (s : ScriptData) (t : ℕ) (found : Option Tree) → slice_get s.trees t ≡ found → is_strict_at s t ≡ true → StrictTree s t
strict_by s t None at strict =
    let none : tree_kind_at s t ≡ None = rw (at, tree_kind_at) refl in
    let no : is_strict_at s t ≡ false = rw (none, is_strict_at) refl in
    let no_such : true ≡ false = sym strict ∙ no in absurd (cc no_such)
strict_by s t (Some tree) at strict = strict_of s t tree tree.kind at refl strict

pub strict_there : (s : ScriptData) (t : ℕ) → is_strict_at s t ≡ true → StrictTree s t
strict_there s t strict = strict_by s t (slice_get s.trees t) refl strict
