use Rattle.std.proofs.Common.{◌∙◌, refl, sym}
use Rattle.std.proofs.lemmas.Bool.{OnTrue_at}
use Rattle.node_machine.proofs.subs.choose_read.Goals as goal

pub returns : goal.returns
returns c = record {
  apt = sym c.in_ok-plan_read_tree.ensures.can ∙ c.if-not-branch.false;
  free = refl;
  step = OnTrue_at c.if-not-branch.false c.in_ok-plan_read_tree.ensures.step;
}
