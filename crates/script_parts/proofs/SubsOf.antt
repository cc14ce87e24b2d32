-- A valid script's nodes are few, its items' magnitudes and its transactions are small, its transactions run at its
-- nodes, and its rows name them in order.
use Rattle.std.proofs.Common.{◌≡◌, ℕ, ◌+◌, ◌<◌, ◌≤◌, true, List, [], ◌∷◌, length, Option, Some, None, zero, suc, refl, sym, subst, arith}
use Rattle.std.specs.Prelude.{All, slice_get}
use Rattle.std.specs.List.{AllByRecursion}
use Rattle.std.proofs.lemmas.List.Elements.{All-from_recursion, recursion_from_All}
use Rattle.tv_base.proofs.ByPlace.{get_some}
use Rattle.commute_ops.specs.declared.kinds.TheConstants.{MOST_AMOUNT}
use Rattle.script_parts.specs.declared.parts.ItemRow.{ItemRow}
use Rattle.script_parts.specs.declared.parts.Sub.{Sub}
use Rattle.script_parts.specs.declared.parts.Tree.{Tree}
use Rattle.script_parts.specs.declared.parts.TreeKind.{TreeKind}
use Rattle.script_parts.specs.Forms.{most_amount, most_nodes}
use Rattle.script_parts.specs.declared.parts.Form.{Form}
use Rattle.script_parts.specs.declared.parts.Form.TheVariants as forms
use Rattle.script_parts.specs.declared.parts.ScriptRow.{ScriptRow}
use Rattle.script_parts.specs.declared.parts.ScriptRow.TheVariants as rows
use Rattle.script_parts.specs.declared.parts.TreeKind.TheVariants as trees
use Rattle.script_parts.specs.ScriptData.{ScriptData, is_update, subs_at, home_of, node_of, sub_at}
use Rattle.script_parts.specs.Valid.{AreSubs, IsTree, IsValid, NamesInOrder, load}

-- whatever its form allows is bounded
pub most_amount-small : (f : Form) → most_amount f ≤ MOST_AMOUNT
most_amount-small forms.One = omega arith
most_amount-small forms.Two = omega arith

pub most_nodes-small : (f : Form) → most_nodes f ≤ 64
most_nodes-small forms.One = omega arith
most_nodes-small forms.Two = omega arith

-- rows that name trees in order name no more than there are
pub names_end : (k n : ℕ) (rs : List ScriptRow) → NamesInOrder k n rs → k ≤ n
names_end k n [] names = omega arith
names_end k n (rows.Tree t ∷ rs) names = omega (arith, names_end (k + 1) n rs names.1)
names_end k n (rows.Advance ∷ rs) names = names_end k n rs names
names_end k n (rows.Settle ∷ rs) names = names_end k n rs names
names_end k n (rows.Lose ∷ rs) names = names_end k n rs names

pub only_update : (k : TreeKind) → is_update k ≡ true → k ≡ trees.Update
only_update trees.Update e = refl
only_update trees.Read e = absurd cc
only_update trees.Strict e = absurd cc

-- what holds of each holds at each place
pub all_at : {X : Type 0} (P : X → Type 0) (xs : List X) (k : ℕ) (x : X) → AllByRecursion P xs → slice_get xs k ≡ Some x → P x
all_at P [] k x all at = absurd (grind arith)
all_at P (y ∷ ys) zero x all at = let eq : y ≡ x = grind arith in subst P eq all.0
all_at P (y ∷ ys) (suc k) x all at = all_at P ys k x all.1 at

-- a script has at most 64 nodes
pub few_nodes : (s : ScriptData) → IsValid s → s.nodes ≤ 64
few_nodes s valid = omega (arith, valid.few_nodes, most_nodes-small s.form)

-- an item's magnitudes add up to no more than the greatest of a value
pub small_load : (s : ScriptData) (x : ℕ) → IsValid s → x < length s.items → load x s ≤ MOST_AMOUNT
small_load s x valid lt = omega (arith, valid.loads x lt, most_amount-small s.form)

few_by : (s : ScriptData) → IsValid s → (t : ℕ) (found : Option Tree) → slice_get s.trees t ≡ found → length (subs_at s t) ≤ 64
few_by s valid t None at = rw (at, subs_at) (omega arith)
few_by s valid t (Some tree) at = rw (at, subs_at) (all_at (IsTree s.nodes s.items) s.trees t tree valid.trees at).few

-- a tree has at most 64 subtransactions
pub few_subs : (s : ScriptData) (t : ℕ) → IsValid s → length (subs_at s t) ≤ 64
few_subs s t valid = few_by s valid t (slice_get s.trees t) refl

nodes_of : (nodes : ℕ) (items : List ItemRow) (kind : TreeKind) (k : ℕ) (subs : List Sub) → AreSubs nodes items kind k subs
    → AllByRecursion (λ (x : Sub). x.node.0 < nodes) subs
nodes_of nodes items kind k [] all = tt
nodes_of nodes items kind k (x ∷ xs) all = (all.0.node, nodes_of nodes items kind (k + 1) xs all.1)

nodes_by : (s : ScriptData) → IsValid s → (t : ℕ) (found : Option Tree) → slice_get s.trees t ≡ found
    → AllByRecursion (λ (x : Sub). x.node.0 < s.nodes) (subs_at s t)
nodes_by s valid t None at = rw (at, subs_at) tt
nodes_by s valid t (Some tree) at =
    rw (at, subs_at) (nodes_of s.nodes s.items tree.kind 0 tree.subs (all_at (IsTree s.nodes s.items) s.trees t tree valid.trees at).subs)

-- each runs at one of the script's nodes
pub sub_nodes : (s : ScriptData) (t : ℕ) → IsValid s → All (λ (x : Sub). x.node.0 < s.nodes) (subs_at s t)
sub_nodes s t valid = All-from_recursion (λ (x : Sub). x.node.0 < s.nodes) (subs_at s t) (nodes_by s valid t (slice_get s.trees t) refl)

pub found_subs : (s : ScriptData) (t : ℕ) (tree : Tree) → slice_get s.trees t ≡ Some tree → subs_at s t ≡ tree.subs
found_subs s t tree at = rw (at, subs_at) refl

pub no_subs : (s : ScriptData) (t : ℕ) → slice_get s.trees t ≡ None → subs_at s t ≡ []
no_subs s t at = rw (at, subs_at) refl

-- the same of a list that is the tree's
pub subs_nodes : (s : ScriptData) (t : ℕ) (subs : List Sub) → IsValid s → subs ≡ subs_at s t → All (λ (x : Sub). x.node.0 < s.nodes) subs
subs_nodes s t subs valid is = subst (λ (xs : List Sub). All (λ (x : Sub). x.node.0 < s.nodes) xs) (sym is) (sub_nodes s t valid)

pub ruleset subs_of = (few_subs, subs_nodes, found_subs, no_subs)

-- each tree of a valid script has a root, whose node is one of the script's
pub has_root : (s : ScriptData) (t : ℕ) → IsValid s → t < length s.trees → 0 < length (subs_at s t)
has_root s t valid lt =
    let tree = get_some s.trees t lt in
    rw (tree.1, subs_at) (all_at (IsTree s.nodes s.items) s.trees t tree.0 valid.trees tree.1).root

pub sub_node_below : (s : ScriptData) (t k : ℕ) → IsValid s → k < length (subs_at s t) → node_of s t k < s.nodes
sub_node_below s t k valid lt =
    let there = get_some (subs_at s t) k lt in
    rw (there.1, sub_at, node_of)
    (all_at (λ (x : Sub). x.node.0 < s.nodes) (subs_at s t) k there.0
    (recursion_from_All (λ (x : Sub). x.node.0 < s.nodes) (subs_at s t) (sub_nodes s t valid)) there.1)

pub home_below : (s : ScriptData) (t : ℕ) → IsValid s → t < length s.trees → home_of s t < s.nodes
home_below s t valid lt = sub_node_below s t 0 valid (has_root s t valid lt)
