use Rattle.std.proofs.Common.{◌∙◌, sym}
use Rattle.std.proofs.lemmas.Bool.{OnTrue_at}
use Rattle.tree_step.specs.Core.{core_of}
use Rattle.node_machine.proofs.tree_rows.DeferredSubs.{meets_none}
use Rattle.node_machine.proofs.updates.choose_update.Goals as goal

pub returns : goal.returns
returns c = record {
  apt = sym c.in_ok-plan_update_tree.ensures.can ∙ c.if-not-branch-2.false;
  free = meets_none c.args.came.now.script.now (core_of c.args.core.now) c.args.tree c.args.came.now.letter.now.body
      (sym c.meets.ensures ∙ c.in_default.is);
  step = OnTrue_at c.if-not-branch-2.false c.in_ok-plan_update_tree.ensures.step;
}
