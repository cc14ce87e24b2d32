use Rattle.std.proofs.Common.{arith}
use Rattle.tx_trees.proofs.SubsOf.{few_nodes}
use Rattle.history_reader.proofs.walk.client.Goals as goal

pub overflow_add-result : goal.overflow_add-result
overflow_add-result c = omega (arith, c.nodes.ensures.nodes, few_nodes c.args.script.now c.nodes.ensures.valid)

pub returns-clause-client : goal.returns-clause-client
returns-clause-client c = omega (arith, c.nodes.ensures.nodes)

pub returns-clause-valid : goal.returns-clause-valid
returns-clause-valid c = c.nodes.ensures.valid
