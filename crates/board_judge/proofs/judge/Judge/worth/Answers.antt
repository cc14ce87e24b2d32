use Rattle.std.proofs.Common.{◌≡◌, ◌<◌, length, subst, sym, ◌∙◌}
use Rattle.std.specs.Prelude.{slice_get}
use Rattle.board_rules.specs.Histories.{places_of}
use Rattle.board_rules.specs.Worth.{first_value, worth_in}
use Rattle.board_judge.specs.Notes.{AreKnown, noted_on}
use Rattle.board_judge.proofs.Seeing.{item_found, worth_known}
use Rattle.board_judge.specs.Judged.{HasJudged, JudgeData}
use Rattle.board_judge.proofs.judge.Judge.worth.Goals as goal

pub returns : goal.returns
returns c = λ h taken.
    let inside = subst (λ (j : JudgeData). HasJudged j h) (sym c.self.view_is) taken in
    let s = c.self.inside.basis.script.now in
    let ws = c.self.inside.kept.worths.items in
    let x = c.args.item.0 in
    let known : AreKnown s (places_of h) ws = record { valid = inside.valid; run = inside.run; worths = inside.worths } in
    let kept = item_found s (places_of h) ws x c.index.result.now _ known (subst (λ (j : JudgeData). x < length j.script.items) (sym c.self.view_is) c.requires) c.index.ensures in
    subst (λ (j : JudgeData). c.in_ok-value.value ≡ worth_in j.script (places_of h) x c.args.version.0) c.self.view_is
    (c.in_ok-value.ensures.worth (first_value (slice_get s.items x)) (noted_on s (places_of h) x) kept
    ∙ worth_known s (places_of h) ws x c.args.version.0 known)
