-- The nodes that a transaction visits are nodes of the script, and no more than there are.
use Rattle.std.proofs.Common.{ℕ, zero, suc, ◌<◌, ◌≤◌, Bool, true, false, List, [], ◌∷◌, length, arith}
use Rattle.std.specs.Prelude.{if◌then◌else◌}
use Rattle.std.proofs.lemmas.List.{length-append}
use Rattle.script_parts.specs.ScriptData.{ScriptData, subs_at, visited, visited_by, visits}
use Rattle.script_parts.specs.Valid.{IsValid}
use Rattle.script_parts.specs.declared.parts.Sub.{Sub}
use Rattle.script_parts.proofs.SubsOf.{few_nodes}
use Rattle.world_model.specs.Counts.{Each}
use Rattle.world_model.proofs.Every.{each_append}

one_node : (n : ℕ) (b : Bool) → length (if b then n ∷ [] else []) ≤ 1
one_node n true = omega arith
one_node n false = omega arith

visited_few : (xs : List Sub) (n : ℕ) → length (visited xs n) ≤ n
visited_few xs zero = omega arith
visited_few xs (suc n) =
    let more : List ℕ = if visits xs n then n ∷ [] else [] in
    omega (arith, length-append (visited xs n) more, visited_few xs n, one_node n (visits xs n))

-- a tree visits at most 64
pub few_visited : (s : ScriptData) (t : ℕ) → IsValid s → length (visited_by s t) ≤ 64
few_visited s t valid = omega (arith, visited_few (subs_at s t) s.nodes, few_nodes s valid)

node_below : (m n : ℕ) (b : Bool) → n < m → Each (λ (q : ℕ). q < m) (if b then n ∷ [] else [])
node_below m n true lt = (lt, tt)
node_below m n false lt = tt

-- those below n are below m
pub visited_below : (xs : List Sub) (m n : ℕ) → n ≤ m → Each (λ (q : ℕ). q < m) (visited xs n)
visited_below xs m zero le = tt
visited_below xs m (suc n) le =
    each_append (λ (q : ℕ). q < m) (visited xs n) (if visits xs n then n ∷ [] else [])
    (visited_below xs m n (omega arith)) (node_below m n (visits xs n) (omega arith))
