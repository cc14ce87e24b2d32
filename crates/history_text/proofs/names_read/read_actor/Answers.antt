use Rattle.std.proofs.Common.{◌≡◌, ◌-◌, ◌∷◌, List, ℕ, length, take, drop, arith}
use Rattle.std.proofs.lemmas.Grind.{common_steps}
use Rattle.tx_trees.proofs.SubsOf.{few_nodes}
use Rattle.history_text.proofs.Actors.{no_node}
use Rattle.history_text.proofs.names_read.read_actor.Goals as goal

pub returns-then-node-nodes : goal.returns-then-node-nodes
returns-then-node-nodes c =
    let d = c.in_ok-node.ensures in
    let field = c.args.field.now in
    let digits : List ℕ = take (length field - 1) (drop 1 field) in
    let begins : field ≡ 110 ∷ digits = grind (arith, common_steps) in
    no_node c.args.script.now field digits c.in_ok-node.node begins d.0 d.1 (omega (arith, c.nodes-nodes.ensures.nodes)) (few_nodes c.args.script.now c.nodes-nodes.ensures.valid)
