use Rattle.std.proofs.Common.{ap, sym, ◌∙◌, refl}
use Rattle.board_rules.specs.Histories.{does}
use Rattle.board_judge.proofs.Answering.{any_found, any_none, any_passed}
use Rattle.board_judge.proofs.at_once.any_does.Goals as goal

pub loop-act-init : goal.loop-act-init
loop-act-init c = refl

pub returns-then-does : goal.returns-then-does
returns-then-does c =
    any_found (does c.args.asked.tree.0 c.args.asked.sub.0) c.args.acts.now c.loop-act.act-index c.act-item.result _ c.loop-act-test.true
    (sym (ap (does c.args.asked.tree.0 c.args.asked.sub.0) c.act-item.is) ∙ sym c.does.ensures ∙ c.if-does.true) c.loop-act.invariant

pub loop-act-preserved : goal.loop-act-preserved
loop-act-preserved c =
    any_passed (does c.args.asked.tree.0 c.args.asked.sub.0) c.args.acts.now c.loop-act.act-index c.act-item.result _ c.loop-act-test.true
    (sym (ap (does c.args.asked.tree.0 c.args.asked.sub.0) c.act-item.is) ∙ sym c.does.ensures ∙ c.if-does.false) c.loop-act.invariant

pub returns : goal.returns
returns c = any_none (does c.args.asked.tree.0 c.args.asked.sub.0) c.args.acts.now c.loop-act.act-index _ c.loop-act-test.false c.loop-act.invariant
