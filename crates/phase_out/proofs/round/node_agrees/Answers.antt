use Rattle.std.proofs.Common.{sym, ◌∙◌}
use Rattle.phase_out.specs.Rounds.{pair_agrees}
use Rattle.phase_out.proofs.Verdicts.{all_below-false}
use Rattle.phase_out.proofs.round.node_agrees.Goals as goal

pub returns-then-not-pair_agrees : goal.returns-then-not-pair_agrees
returns-then-not-pair_agrees c =
    sym
    (all_below-false c.args.nodes c.loop-other.other (pair_agrees c.args.askeds.now c.args.dones.now c.args.node) c.loop-other-test.true (sym c.pair_agrees.ensures ∙ c.if-not-pair_agrees.true))
