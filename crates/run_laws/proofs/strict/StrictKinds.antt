-- A transaction that is strict, by the test and by its kind.
use Rattle.std.proofs.Common.{◌≡◌, ℕ, true, refl, ap, ◌∙◌, Some}
use Rattle.tx_trees.specs.ScriptData.{ScriptData}
use Rattle.tx_trees.specs.declared.parts.TreeKind.{TreeKind}
use Rattle.tx_trees.specs.declared.parts.TreeKind.TheVariants.{Strict}
use Rattle.world_model.specs.Named.{is_strict_at, tree_kind_at}
use Rattle.tree_laws.proofs.loads.NodeLoads.{strict_there}

pub strict_by_kind : (s : ScriptData) (t : ℕ) → tree_kind_at s t ≡ Some Strict → is_strict_at s t ≡ true
strict_by_kind s t is = rw (is, is_strict_at) refl

pub kind_of_strict : (s : ScriptData) (t : ℕ) → is_strict_at s t ≡ true → tree_kind_at s t ≡ Some Strict
kind_of_strict s t strict =
    let it = strict_there s t strict in
    let kind : tree_kind_at s t ≡ Some it.tree.kind = rw (it.at, tree_kind_at) refl in kind ∙ ap (λ (k : TreeKind). Some k) it.kind
