use Rattle.std.proofs.Common.{ap, sym, ◌∙◌}
use Rattle.std.specs.Prelude.{slice_get}
use Rattle.letter_types.specs.Causes.{short_cause}
use Rattle.board_rules.specs.Worth.{first_value}
use Rattle.board_judge.specs.Notes.{noted_on}
use Rattle.board_judge.proofs.Seeing.{item_found, item_there, not_short, short_seen}
use Rattle.board_judge.proofs.shown.short_item.Goals as goal

pub returns-then-not-draws : goal.returns-then-not-draws
returns-then-not-draws c = λ s xs known there. not_short s xs c.args.version.0 c.args.op.now (sym c.draws.ensures ∙ c.if-not-draws.true)

pub returns-in_default : goal.returns-in_default
returns-in_default c = λ s xs known there. absurd (item_there s xs c.args.worths.now c.args.op.now.item.0 known there c.in_default.ensures.lookup.0)

pub returns : goal.returns
returns c = λ s xs known there.
    short_seen s xs c.args.worths.now c.args.version.0 c.args.op.now c.in_ok-value.value c.short_cause.result known
    (c.in_ok-value.ensures.worth (first_value (slice_get s.items c.args.op.now.item.0)) (noted_on s xs c.args.op.now.item.0)
    (item_found s xs c.args.worths.now c.args.op.now.item.0 c.in-Some.worths.now _ known there c.in-Some.ensures.lookup.1))
    (c.short_cause.ensures ∙ ap (short_cause c.args.op.now.item) c.found_short.ensures)
