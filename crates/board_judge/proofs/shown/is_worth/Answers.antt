use Rattle.std.proofs.Common.{◌∙◌, sym, arith}
use Rattle.std.proofs.lemmas.Bool.Decides.{nat_tests}
use Rattle.std.specs.Prelude.{slice_get}
use Rattle.board_rules.specs.Worth.{first_value, worth_in}
use Rattle.board_judge.specs.Notes.{noted_on}
use Rattle.board_judge.proofs.Seeing.{decide_worth, item_found, worth_known}
use Rattle.board_judge.proofs.shown.is_worth.Goals as goal

pub returns-in-Some : goal.returns-in-Some
returns-in-Some c = λ s xs known there.
    let kept = item_found s xs c.args.worths.now c.args.item.0 c.in-Some.worths.now _ known there c.in-Some.ensures.lookup.1 in
    let first = first_value (slice_get s.items c.args.item.0) in
    let noted = noted_on s xs c.args.item.0 in
    let same = worth_known s xs c.args.worths.now c.args.item.0 c.args.version.0 known in
    decide_worth c.args.value.now c.args.item c.is_at.result (worth_in s xs c.args.item.0 c.args.version.0) (grind (arith, nat_tests))
    (λ is. sym same ∙ c.is_at.ensures.yes is first noted kept)
    (λ is so. c.is_at.ensures.no is first noted kept (same ∙ so))
