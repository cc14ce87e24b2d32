use Rattle.board_judge.specs.inside.Rewriting.{worths_before}
use Rattle.board_judge.proofs.Rewritten.{unaltered_step}
use Rattle.board_judge.proofs.rewriting.take_back.Goals as goal

pub loop-altered-preserved : goal.loop-altered-preserved
loop-altered-preserved c =
    unaltered_step c.pop.new.self.items c.loop-altered.kept.trail.items c.in-Some.altered c.loop-altered.kept.worths.items c.undo.new.worths.items
    (worths_before c.args.kept.now) c.in-Some.ensures.items c.undo.ensures c.loop-altered.invariant
