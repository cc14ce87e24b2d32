use Rattle.std.proofs.Common.{◌∙◌, ap}
use Rattle.pair_counters.specs.Counts.{no_counts}
use Rattle.run_tests.proofs.Fresh.{fresh_ready, one_item}
use Rattle.run_tests.proofs.nodes.first_node.Goals as goal

pub returns : goal.returns
returns c =
    fresh_ready c.args.script.now c.args.at.0 c.add.new.self c.new.result c.new-2.result c.requires
    (one_item _ _ c.new-items.result c.add.new.self c.new-items.ensures c.in_ok-add.ensures.ok)
    (c.new.ensures ∙ ap no_counts c.nodes.ensures.nodes)
