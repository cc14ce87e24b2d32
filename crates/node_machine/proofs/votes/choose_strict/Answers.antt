use Rattle.std.proofs.Common.{refl, sym}
use Rattle.tree_step.specs.Core.{core_of}
use Rattle.node_machine.specs.Choices.{kept_by_plan}
use Rattle.node_machine.proofs.tree_rows.DeferredSubs.{votes_free, waiting_plan}
use Rattle.node_machine.proofs.votes.choose_strict.Goals as goal

pub returns-then-waits_for_show : goal.returns-then-waits_for_show
returns-then-waits_for_show c =
    waiting_plan c.args.came.now.script.now c.args.core.now c.args.tree c.args.came.now.letter.now.body
    (kept_by_plan c.in_ok-keep.keep c.plan_waiting.new.acts) (sym c.if-waits_for_show.ensures)
    c.in_ok-keep.ensures

pub returns : goal.returns
returns c = record {
  apt = refl;
  free = votes_free c.args.came.now.script.now (core_of c.args.core.now) c.args.tree c.args.came.now.letter.now.body
      (sym c.if-waits_for_show.ensures);
  step = c.in_ok-plan_vote.ensures;
}
