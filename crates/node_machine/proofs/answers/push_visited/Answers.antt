use Rattle.std.proofs.Common.{◌≡◌, ℕ, ◌<◌, List, ◌++◌, length, subst, sym, arith}
use Rattle.std.specs.List.{AllByRecursion}
use Rattle.std.proofs.lemmas.List.{length-append}
use Rattle.std.proofs.lemmas.List.Elements.{recursion_from_All}
use Rattle.tx_trees.specs.ScriptData.{visited}
use Rattle.tx_trees.specs.declared.parts.Sub.{Sub}
use Rattle.tree_step.specs.CoreChanges.{numbers_of_nodes}
use Rattle.node_machine.proofs.tree_rows.DecidedAtHome.{as_many, visited_some}
use Rattle.node_machine.proofs.answers.push_visited.Goals as goal

pub returns-clause-some : goal.returns-clause-some
returns-clause-some c = λ some.
    let subs = c.subs_of-subs.result.now in
    let at : c.args.script.now.nodes ≡ c.loop-node.node =
    omega (arith, c.nodes-node-end.ensures.nodes, c.loop-node-test.false, c.loop-node.auto.node-end) in
    let all = subst (λ (k : ℕ). AllByRecursion (λ (x : Sub). x.node.0 < k) subs) at
    (recursion_from_All (λ (x : Sub). x.node.0 < c.args.script.now.nodes) subs c.subs_of-subs.ensures.nodes) in
    let here : 0 < length subs = subst (λ (ys : List Sub). 0 < length ys) (sym c.subs_of-subs.ensures.subs) some in
    let many = visited_some subs c.loop-node.node all here in
    let old = numbers_of_nodes c.args.told.now in
    let now = visited subs c.loop-node.node in
    omega (arith, many, length-append old now, as_many c.loop-node.told (old ++ now) c.loop-node.invariant)
