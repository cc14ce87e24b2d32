use Rattle.std.proofs.Common.{ap, sym, ◌∙◌, refl}
use Rattle.board_judge.specs.inside.Asking.{parks_this}
use Rattle.board_judge.proofs.Answering.{any_found, any_none, any_passed}
use Rattle.board_judge.proofs.at_once.any_parks.Goals as goal

pub loop-act-init : goal.loop-act-init
loop-act-init c = refl

pub returns-then-parks : goal.returns-then-parks
returns-then-parks c =
    any_found (parks_this c.args.asked.tree c.args.asked.sub c.args.way.item c.args.way.holder) c.args.acts.now c.loop-act.act-index c.act-item.result _ c.loop-act-test.true
    (sym (ap (parks_this c.args.asked.tree c.args.asked.sub c.args.way.item c.args.way.holder) c.act-item.is) ∙ sym c.parks.ensures ∙ c.if-parks.true) c.loop-act.invariant

pub loop-act-preserved : goal.loop-act-preserved
loop-act-preserved c =
    any_passed (parks_this c.args.asked.tree c.args.asked.sub c.args.way.item c.args.way.holder) c.args.acts.now c.loop-act.act-index c.act-item.result _ c.loop-act-test.true
    (sym (ap (parks_this c.args.asked.tree c.args.asked.sub c.args.way.item c.args.way.holder) c.act-item.is) ∙ sym c.parks.ensures ∙ c.if-parks.false) c.loop-act.invariant

pub returns : goal.returns
returns c = any_none (parks_this c.args.asked.tree c.args.asked.sub c.args.way.item c.args.way.holder) c.args.acts.now c.loop-act.act-index _ c.loop-act-test.false c.loop-act.invariant
