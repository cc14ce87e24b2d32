use Rattle.std.proofs.Common.{◌∙◌, ap, take, List}
use Rattle.std.specs.Prelude.{slice_index_or}
use Rattle.pair_counters.specs.Rows.{counts_of}
use Rattle.tv_base.specs.declared.numbers.NodeNo.{NodeNo}
use Rattle.tree_step.proofs.Asking.{all_nodes, asked_next, asked_under, few_nodes, take_node, with_asked}
use Rattle.tree_step.proofs.doing.ask_each.Goals as goal

pub asked-requires-clause-below : goal.asked-requires-clause-below
asked-requires-clause-below c =
    let node = slice_index_or c.args.nodes.now c.loop-node.node-index (record { 0 = 0 }) in
    asked_under c.args.v.0 node.0 _ _ (take c.loop-node.node-index c.args.nodes.now)
    (counts_of c.args.counters.now) (counts_of c.loop-node.counters) c.loop-node.invariant
    (c.requires.below node.0) (few_nodes c.loop-node.node-index c.args.nodes.now c.loop-node-test.true)

pub loop-node-preserved : goal.loop-node-preserved
loop-node-preserved c =
    asked_next c.args.v.0 (take c.loop-node.node-index c.args.nodes.now) _
    (slice_index_or c.args.nodes.now c.loop-node.node-index (record { 0 = 0 }))
    (counts_of c.args.counters.now) (counts_of c.loop-node.counters) _ c.loop-node.invariant
    c.asked.ensures (take_node c.loop-node.node-index (record { 0 = 0 }) c.args.nodes.now c.loop-node-test.true)

pub returns : goal.returns
returns c = c.loop-node.invariant ∙ ap (λ (xs : List NodeNo). with_asked c.args.v.0 xs (counts_of c.args.counters.now))
    (all_nodes c.loop-node.node-index c.args.nodes.now c.loop-node-test.false)
