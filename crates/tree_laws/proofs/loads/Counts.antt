-- What one more subtransaction that is done adds to a load.
use Rattle.std.proofs.Common.{◌≡◌, ◌⊎◌, ℕ, ◌+◌, ◌<◌, ◌==◌, ◌&&◌, sym, arith}
use Rattle.tx_trees.specs.ScriptData.{ScriptData, ops_of}
use Rattle.tx_trees.specs.Valid.{ops_load}
use Rattle.world_model.specs.Counts.{one_if}
use Rattle.tree_laws.proofs.loads.Loads.{trees_done, trees_more}
use Rattle.world_model.proofs.Scripts.{SubAt, ops_here}
use Rattle.world_model.proofs.Bags.{one_if_both}
use Rattle.tree_laws.proofs.homes.Sent.{other_sub, other_tree}

-- Each subtransaction is done at most once.
pub zero_or : (k : ℕ) → (k ≡ 0) ⊎ (0 < k)
zero_or k = grind arith

-- Loads.
-- the load of what is done, with a subtransaction more
pub one_load_more : (s : ScriptData) (often : ℕ → ℕ → ℕ) (t k x : ℕ) → SubAt s t k
    → trees_done (λ u i. one_if ((t == u) && (k == i)) + often u i) x 0 s.trees ≡ trees_done often x 0 s.trees + ops_load x (ops_of s t k)
one_load_more s often t k x c =
    let more = trees_more often (λ u i. one_if ((t == u) && (k == i)) + often u i) x 0 t k t c.tree c.sub s.trees c.at (omega arith) c.here
    (omega (arith, one_if_both t k)) (λ j ne. omega (arith, other_sub t t j k (λ is. ne (sym is))))
    (λ u j ne. omega (arith, other_tree u t j k (λ is. ne (sym is)))) in
    rw (ops_here s t k c) more
