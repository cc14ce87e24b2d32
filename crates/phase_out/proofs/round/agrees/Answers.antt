use Rattle.std.proofs.Common.{sym, ◌∙◌}
use Rattle.phase_out.specs.Rounds.{all_below, pair_agrees}
use Rattle.phase_out.proofs.Verdicts.{all_below-false}
use Rattle.phase_out.proofs.round.agrees.Goals as goal

pub returns-then-not-node_agrees : goal.returns-then-not-node_agrees
returns-then-not-node_agrees c =
    sym
    (all_below-false c.args.nodes c.loop-node.node (λ p. all_below c.args.nodes (pair_agrees c.args.askeds.now c.args.dones.now p)) c.loop-node-test.true (sym c.node_agrees.ensures ∙ c.if-not-node_agrees.true))
