-- What a valid script says of a subtransaction and of an item.
use Rattle.std.proofs.Common.{◌≡◌, ℕ, zero, suc, ◌<◌, List, ◌∷◌, length, refl, subst, arith, Some, [], None, Option, false, sym, true, ◌∙◌}
use Rattle.std.specs.Prelude.{slice_get}
use Rattle.tv_base.proofs.ByPlace.{get_some}
use Rattle.script_parts.specs.ScriptData.{ScriptData, subs_at, sub_at, node_of, ops_of, updates}
use Rattle.script_parts.specs.declared.parts.Sub.{Sub}
use Rattle.script_parts.specs.declared.parts.Tree.{Tree}
use Rattle.world_model.specs.Named.{is_strict_at, tree_kind_at}

-- subtransaction k of tree t
pub record SubAt (s : ScriptData) (t k : ℕ) : Type 0 where
  pub tree : Tree
  pub at : slice_get s.trees t ≡ Some tree
  pub sub : Sub
  pub here : slice_get tree.subs k ≡ Some sub

pub get_below : {X : Type 0} (xs : List X) (k : ℕ) (x : X) → slice_get xs k ≡ Some x → k < length xs
get_below [] k x at = absurd (cc at)
get_below (y ∷ xs) zero x at = omega arith
get_below (y ∷ xs) (suc k) x at = omega (arith, get_below xs k x at)

-- Lookups by number.
pub subs_here : (s : ScriptData) (t k : ℕ) (c : SubAt s t k) → subs_at s t ≡ c.tree.subs
subs_here s t k c = rw (c.at, subs_at) refl

pub sub_here : (s : ScriptData) (t k : ℕ) (c : SubAt s t k) → sub_at s t k ≡ Some c.sub
sub_here s t k c = rw (subs_here s t k c) c.here

pub node_here : (s : ScriptData) (t k : ℕ) (c : SubAt s t k) → node_of s t k ≡ c.sub.node.0
node_here s t k c = rw (sub_here s t k c, node_of) refl

pub ops_here : (s : ScriptData) (t k : ℕ) (c : SubAt s t k) → ops_of s t k ≡ c.sub.ops
ops_here s t k c = rw (sub_here s t k c, ops_of) refl

pub sub_there : (s : ScriptData) (t k : ℕ) → t < length s.trees → k < length (subs_at s t) → SubAt s t k
sub_there s t k lt kt =
    let tree = get_some s.trees t lt in
    let is : subs_at s t ≡ tree.0.subs = rw (tree.1, subs_at) refl in
    let sub = get_some tree.0.subs k (subst (λ (xs : List Sub). k < length xs) is kt) in
    record { tree = tree.0; at = tree.1; sub = sub.0; here = sub.1 }

pub sub_below : (s : ScriptData) (t k : ℕ) → SubAt s t k → k < length (subs_at s t)
sub_below s t k c = rw (subs_here s t k c) (get_below c.tree.subs k c.sub c.here)

pub tree_below : (s : ScriptData) (t k : ℕ) → SubAt s t k → t < length s.trees
tree_below s t k c = get_below s.trees t c.tree c.at

-- a strict tree is one of the script's
pub strict_there : (s : ScriptData) (t : ℕ) (o : Option Tree) → slice_get s.trees t ≡ o → is_strict_at s t ≡ true → t < length s.trees
strict_there s t None at is = absurd (let none : false ≡ true = sym (rw (at, is_strict_at, tree_kind_at) refl) ∙ is in cc none)
strict_there s t (Some u) at is = get_below s.trees t u at

-- and so is an update tree
pub update_below : (s : ScriptData) (t : ℕ) (o : Option Tree) → slice_get s.trees t ≡ o → updates s t ≡ true → t < length s.trees
update_below s t None at is = absurd (let none : false ≡ true = sym (rw (at, updates) refl) ∙ is in cc none)
update_below s t (Some u) at is = get_below s.trees t u at

-- where there is no tree, no node is asked for its subtransactions
pub no_node : (s : ScriptData) (t k : ℕ) (found : Option Tree) → slice_get s.trees t ≡ found → tree_kind_at s t ≡ None → node_of s t k ≡ s.nodes
no_node s t k None is none = rw (is, subs_at, sub_at, node_of) refl
no_node s t k (Some tree) is none = let some : Some tree.kind ≡ None = rw (is, tree_kind_at) at none in absurd (cc some)
