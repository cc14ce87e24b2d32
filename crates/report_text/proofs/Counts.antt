-- How many subtransactions a script has.
use Rattle.std.proofs.Common.{ℕ, ◌*◌, ◌^◌, ◌<◌, ◌≤◌, List, [], ◌∷◌, length, arith}
use Rattle.std.specs.List.{AllByRecursion}
use Rattle.tx_trees.specs.Adding.{all_subs}
use Rattle.tx_trees.specs.ScriptData.{ScriptData}
use Rattle.tx_trees.specs.Valid.{IsTree, IsValid}
use Rattle.tx_trees.specs.declared.parts.ItemRow.{ItemRow}
use Rattle.tx_trees.specs.declared.parts.Tree.{Tree}

few_subs : (nodes : ℕ) (items : List ItemRow) (ts : List Tree) → AllByRecursion (IsTree nodes items) ts → all_subs ts ≤ 64 * length ts
few_subs nodes items [] all = omega arith
few_subs nodes items (t ∷ ts) all =
    let rest = few_subs nodes items ts all.1 in
    let one : length t.subs ≤ 64 = all.0.few in
    omega (arith, rest, one)

pub fits : (s : ScriptData) → IsValid s → all_subs s.trees < 2 ^ 64
fits s valid =
    let bound = few_subs s.nodes s.items s.trees valid.trees in
    let few : length s.trees ≤ 20000 = valid.few_trees in
    omega (arith, bound, few)
