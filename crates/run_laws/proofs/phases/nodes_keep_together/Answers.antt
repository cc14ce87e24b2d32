use Rattle.advance_laws.proofs.governed.Advancing.{together}
use Rattle.world_model.specs.Runs.{node_in}
use Rattle.run_laws.proofs.each_tree.InTime.{advancing_run}
use Rattle.run_laws.proofs.phases.nodes_keep_together.Goals as goal

pub returns : goal.returns
returns c = λ s past p q valid run lp lq.
    let all = advancing_run s past valid run in
    together past (node_in s past p).turns (node_in s past q).turns (all.within p lp) (all.within q lq)
