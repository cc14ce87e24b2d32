use Rattle.std.proofs.Common.{subst, sym, ◌∙◌, ◌++◌, ◌∷◌, [], None, refl}
use Rattle.board_rules.specs.Judging.{MayCome}
use Rattle.board_judge.specs.Judged.{HasJudged, JudgeData}
use Rattle.board_judge.specs.inside.Trying.{judge_of}
use Rattle.board_judge.proofs.Judging.{at_ok, no_refusal, taken_settled}
use Rattle.board_judge.proofs.judge.Judge.take.Goals as goal

pub invariant_of-self : goal.invariant_of-self
invariant_of-self c = at_ok _ _ None (no_refusal _ _ (sym c.refusal.ensures ∙ c.in_default.is)) c.try_entry-tried.ensures.kinds refl

pub returns-in_default-clause-ok : goal.returns-in_default-clause-ok
returns-in_default-clause-ok c = λ h taken.
    let e = c.args.entry.now in
    let inside = subst (λ (j : JudgeData). HasJudged j h) (sym c.self.view_is) taken in
    let both = at_ok _ _ None (no_refusal _ _ (sym c.refusal.ensures ∙ c.in_default.is)) c.try_entry-tried.ensures.tried h inside in (
      subst (λ (j : JudgeData). MayCome j.script h e) c.self.view_is both.0,
      taken_settled (judge_of c.self.inside.basis c.try_entry-tried.new.tallies.board c.try_entry-tried.new.kept.worths.items) c.settle.new.self (h ++ e ∷ []) both.1 c.settle.ensures,
    )
