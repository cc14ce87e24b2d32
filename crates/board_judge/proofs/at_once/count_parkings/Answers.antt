use Rattle.std.proofs.Common.{ap, ◌∙◌, length}
use Rattle.std.proofs.lemmas.List.{take_all}
use Rattle.letter_types.specs.declared.acts.Act.{Act}
use Rattle.std.specs.Prelude.{List}
use Rattle.board_rules.specs.Right.{parkings}
use Rattle.board_judge.proofs.Answering.{one_most, parked_more}
use Rattle.board_judge.proofs.at_once.count_parkings.Goals as goal

pub loop-act-preserved : goal.loop-act-preserved
loop-act-preserved c = record {
  counted = parked_more c.args.acts.now c.loop-act.act-index c.act-item.result c.loop-act.count c.with_parking-count.result c.loop-act-test.true
      c.act-item.is c.with_parking-count.ensures c.loop-act.invariant.counted;
  few = one_most c.loop-act.act-index c.loop-act.count c.with_parking-count.result c.act-item.result c.loop-act.invariant.few c.with_parking-count.ensures;
}

pub returns : goal.returns
returns c = c.loop-act.invariant.counted ∙ ap (λ (those : List Act). length (parkings those)) (take_all c.loop-act.act-index c.args.acts.now c.loop-act-test.false)
