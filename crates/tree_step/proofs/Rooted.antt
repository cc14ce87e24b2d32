-- A tree that is there has a root at a node.
use Rattle.std.proofs.Common.{◌≡◌, ℕ, ◌<◌, List, [], ◌∷◌, length, subst, arith}
use Rattle.std.specs.Prelude.{All, slice_get, Some, None}
use Rattle.std.specs.List.{AllByRecursion}
use Rattle.std.proofs.lemmas.List.Elements.{recursion_from_All}
use Rattle.tx_trees.specs.declared.parts.Sub.{Sub}
use Rattle.tx_trees.specs.ScriptData.{ScriptData, subs_at, home_of}

-- the node of the first of these subtransactions
abbrev first_node : ℕ → List Sub → ℕ
first_node n xs = elim (slice_get xs 0) [ Some sub ↦ sub.node.0 | None ↦ n ]

first_there : (n : ℕ) (xs : List Sub) → AllByRecursion (λ (s : Sub). s.node.0 < n) xs → 0 < length xs
    → first_node n xs < n
first_there n [] all lt = absurd (omega arith)
first_there n (x ∷ xs) all lt = all.0

pub home_there : (s : ScriptData) (t : ℕ) (xs : List Sub) → xs ≡ subs_at s t
    → All (λ (x : Sub). x.node.0 < s.nodes) xs → 0 < length (subs_at s t)
    → home_of s t < s.nodes
home_there s t xs is all lt =
    first_there s.nodes (subs_at s t) (recursion_from_All (λ (x : Sub). x.node.0 < s.nodes) (subs_at s t)
    (subst (λ (ys : List Sub). All (λ (x : Sub). x.node.0 < s.nodes) ys) is all)) lt
