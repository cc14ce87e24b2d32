use Rattle.std.proofs.Common.{ap, refl, subst, sym, ◌≡◌, List, ◌++◌, ◌∷◌, []}
use Rattle.std.specs.Prelude.{is_some}
use Rattle.board_rules.specs.Histories.{Place, places_of}
use Rattle.board_judge.specs.declared.noting.NotedStep.{NotedStep}
use Rattle.board_judge.specs.inside.Steps.{AreNoted}
use Rattle.board_judge.proofs.Going.{one_noted, pushed, restored_more}
use Rattle.board_judge.proofs.noting.note_next.Goals as goal

pub returns-in_default-clause-not : goal.returns-in_default-clause-not
returns-in_default-clause-not c = λ fails. c.in_ok-step.ensures.not (ap is_some c.in_default.is)

pub returns-clause-noted : goal.returns-clause-noted
returns-clause-noted c = λ moves h ys midway noted.
    let s = c.args.before.now.basis.now.script.now in
    let x : Place = record { node = c.args.node.0; act = c.args.act.now } in
    let all : c.push.new.self.items ≡ c.args.tallies.now.steps.items ++ c.in-Some.step ∷ [] = pushed _ _ _ _ c.if-is_err.ensures.negation c.push.ensures.items in
    let stepped = rw c.in-Some.is at c.in_ok-step.ensures.stepped in
    let step = stepped h (places_of h ++ ys) midway in
    subst (λ (sts : List NotedStep). AreNoted s h (ys ++ x ∷ []) sts c.note_act.new.board) (sym all)
    (one_noted s h ys x c.args.tallies.now.steps.items c.in-Some.step c.args.tallies.now.board c.note_act.new.board noted step)

pub returns-clause-back : goal.returns-clause-back
returns-clause-back c =
    let all : c.push.new.self.items ≡ c.args.tallies.now.steps.items ++ c.in-Some.step ∷ [] = pushed _ _ _ _ c.if-is_err.ensures.negation c.push.ensures.items in
    let back = rw c.in-Some.is at c.in_ok-step.ensures.back in
    restored_more c.push.new.self.items c.args.tallies.now.steps.items c.in-Some.step c.args.tallies.now.board c.note_act.new.board _ all back refl
