use Rattle.board_judge.specs.inside.Steps.{board_before}
use Rattle.board_judge.proofs.Going.{restored_step}
use Rattle.board_judge.proofs.noting.restore.Goals as goal

pub loop-step-preserved : goal.loop-step-preserved
loop-step-preserved c =
    restored_step c.pop.new.self.items c.loop-step.tallies.steps.items c.in-Some.step c.loop-step.tallies.board c.undo.new.self (board_before c.args.tallies.now)
    c.in-Some.ensures.items c.undo.ensures c.loop-step.invariant
