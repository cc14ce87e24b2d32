use Rattle.tree_step.proofs.PlanOpened.{opens_none}
use Rattle.std.proofs.Common.{sym, ◌∙◌}
use Rattle.tree_step.proofs.doing.do_plan.Goals as goal

pub do_holds-requires-clause-none : goal.do_holds-requires-clause-none
do_holds-requires-clause-none c =
    opens_none c.args.scratch.now.plan.doing c.args.scratch.now (sym c.opening_by.ensures ∙ c.in-None.is)

pub do_open-requires-clause-opens : goal.do_open-requires-clause-opens
do_open-requires-clause-opens c = sym c.opening_by.ensures ∙ c.in-Some.is
