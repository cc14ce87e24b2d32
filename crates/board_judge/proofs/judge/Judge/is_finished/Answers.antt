use Rattle.std.proofs.Common.{sym, subst}
use Rattle.board_rules.specs.Histories.{places_of}
use Rattle.board_judge.specs.Judged.{HasJudged, JudgeData}
use Rattle.board_judge.proofs.judge.Judge.is_finished.Goals as goal

pub returns : goal.returns
returns c = λ h taken.
    let inside = subst (λ (j : JudgeData). HasJudged j h) (sym c.self.view_is) taken in
    c.is_finished.ensures c.self.inside.basis.script.now (places_of h) inside.board
