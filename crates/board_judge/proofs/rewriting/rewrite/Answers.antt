use Rattle.std.proofs.Common.{◌≡◌, ◌∙◌, length, refl}
use Rattle.std.specs.Iterator.Adapters.{zip_first, zip_second}
use Rattle.std.specs.Slice.Iter.{iter_rest}
use Rattle.std.proofs.lemmas.Option.{slice_get_read}
use Rattle.std.proofs.lemmas.Slice.Zip.{zip_turn, zip_end}
use Rattle.board_judge.proofs.Compared.{compared_by, pushed, turn_right, turn_wrong, walk_ends}
use Rattle.board_judge.proofs.rewriting.rewrite.Goals as goal

pub returns-then-not-is_right_read-clause-done : goal.returns-then-not-is_right_read-clause-done
returns-then-not-is_right_read-clause-done c = λ h p noted known.
    let steps = c.args.tallies.now.steps.items in
    let acts = c.args.acts.now in
    let first : iter_rest (zip_first c.into_iter-step-iterator.result) ≡ steps = cc in
    let second : iter_rest (zip_second c.into_iter-step-iterator.result) ≡ acts = cc in
    let turn = zip_turn steps acts c.loop-step.yielded c.into_iter-step-iterator.result c.loop-step.step-iterator c.next.new.self c.next.result first second
    c.loop-step.yielded_by (c.in-Some.step, c.in-Some.act) c.in-Some.is c.next.ensures.steps in
    turn_wrong c.args.script.now h acts steps c.args.tallies.now.board (length c.loop-step.yielded) p c.in-Some.act.now c.in-Some.step.now c.is_right_read.result
    c.loop-step.kept.worths.items c.note_closed.new.kept.worths.items c.if-not-is_right_read.true noted
    (slice_get_read acts (length acts) (length c.loop-step.yielded) c.in-Some.act.now refl turn.1 (turn.3 c.in-Some.act.now))
    (slice_get_read steps (length steps) (length c.loop-step.yielded) c.in-Some.step.now refl turn.0 (turn.2 c.in-Some.step.now))
    (c.loop-step.invariant.done h p noted known) (λ xs later. compared_by c.args.script.now c.args.tallies.now.board c.in-Some.step.now c.in-Some.act.now _ c.note_closed.new.kept.worths.items _ _
    c.in_ok-note_closed.ensures.noted c.deref-in-loop-step.ensures.value c.is_right_read.ensures xs later p)

pub loop-step-preserved : goal.loop-step-preserved
loop-step-preserved c = record {
  done = λ h p noted known.
      let steps = c.args.tallies.now.steps.items in
      let acts = c.args.acts.now in
      let first : iter_rest (zip_first c.into_iter-step-iterator.result) ≡ steps = cc in
      let second : iter_rest (zip_second c.into_iter-step-iterator.result) ≡ acts = cc in
      let turn = zip_turn steps acts c.loop-step.yielded c.into_iter-step-iterator.result c.loop-step.step-iterator c.next.new.self c.next.result first second
      c.loop-step.yielded_by (c.in-Some.step, c.in-Some.act) c.in-Some.is c.next.ensures.steps in
      turn_right c.args.script.now h acts steps c.args.tallies.now.board (length c.loop-step.yielded) p c.in-Some.act.now c.in-Some.step.now c.is_right_read.result
      c.loop-step.kept.worths.items c.note_closed.new.kept.worths.items _ (pushed c.loop-step.yielded (c.in-Some.step, c.in-Some.act)) c.if-not-is_right_read.false noted
      (slice_get_read acts (length acts) (length c.loop-step.yielded) c.in-Some.act.now refl turn.1 (turn.3 c.in-Some.act.now))
      (slice_get_read steps (length steps) (length c.loop-step.yielded) c.in-Some.step.now refl turn.0 (turn.2 c.in-Some.step.now))
      (c.loop-step.invariant.done h p noted known) (λ xs later. compared_by c.args.script.now c.args.tallies.now.board c.in-Some.step.now c.in-Some.act.now _ c.note_closed.new.kept.worths.items _ _
      c.in_ok-note_closed.ensures.noted c.deref-in-loop-step.ensures.value c.is_right_read.ensures xs later p);
  kinds = c.in_ok-note_closed.ensures.kinds;
  back = c.in_ok-note_closed.ensures.back ∙ c.loop-step.invariant.back;
}

pub returns-clause-done : goal.returns-clause-done
returns-clause-done c = λ h p noted known.
    let steps = c.args.tallies.now.steps.items in
    let acts = c.args.acts.now in
    let first : iter_rest (zip_first c.into_iter-step-iterator.result) ≡ steps = cc in
    let second : iter_rest (zip_second c.into_iter-step-iterator.result) ≡ acts = cc in
    let ends = zip_end steps acts c.loop-step.yielded c.into_iter-step-iterator.result c.loop-step.step-iterator c.next.new.self c.next.result first second
    c.loop-step.yielded_by c.in-None.is c.next.ensures.steps in
    walk_ends c.args.script.now h acts steps c.args.tallies.now.board p (length c.loop-step.yielded) c.loop-step.kept.worths.items noted ends
    (c.loop-step.invariant.done h p noted known)
