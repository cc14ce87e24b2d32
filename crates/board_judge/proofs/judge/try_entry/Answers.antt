use Rattle.std.proofs.Common.{ap, sym, ◌∙◌, refl}
use Rattle.std.specs.List.{list_all}
use Rattle.board_rules.specs.Histories.{places_of}
use Rattle.board_judge.specs.declared.noting.NotedStep.{NotedStep}
use Rattle.board_judge.specs.inside.Trying.{judge_of}
use Rattle.board_judge.proofs.Judging.{breaks_delay, breaks_read, breaks_vote, decided_once, may_come, midway_at, midway_in, rewritten, taken_more}
use Rattle.board_judge.proofs.judge.try_entry.Goals as goal

pub returns-then-not-all_right-clause-tried : goal.returns-then-not-all_right-clause-tried
returns-then-not-all_right-clause-tried c = λ h taken.
    let j = judge_of c.args.basis.now c.args.tallies.now.board c.args.kept.now.worths.items in
    let noted = c.in_ok-broken.ensures.noted (sym c.is_some.ensures ∙ c.if-is_some.false) h (midway_in j h _ c.deref.ensures.value taken) in
    let keep = ap (list_all (λ (st : NotedStep). st.keeps)) (sym c.deref-2.ensures.value) ∙ sym c.all_keep.ensures ∙ c.if-not-all_keep.false in
    let none = ap (list_all (λ (st : NotedStep). st.right)) (sym c.deref-3.ensures.value) ∙ sym c.all_right.ensures ∙ c.if-not-all_right.true in
    breaks_vote j.script h c.args.entry.now c.note_acts.new.tallies.steps.items c.note_acts.new.tallies.board noted keep none

pub returns-then-not-branch-clause-tried : goal.returns-then-not-branch-clause-tried
returns-then-not-branch-clause-tried c = λ h taken.
    let j = judge_of c.args.basis.now c.args.tallies.now.board c.args.kept.now.worths.items in
    let midway = midway_at j h taken in
    let noted = c.in_ok-broken.ensures.noted (sym c.is_some.ensures ∙ c.if-is_some.false) h (midway_in j h _ c.deref.ensures.value taken) in
    let keep = ap (list_all (λ (st : NotedStep). st.keeps)) (sym c.deref-2.ensures.value) ∙ sym c.all_keep.ensures ∙ c.if-not-all_keep.false in
    let walked = rewritten j.script h c.args.entry.now _ _ c.note_acts.new.tallies.steps.items c.note_acts.new.tallies.board j.worths c.rewrite.new.kept.worths.items
    _ _ c.items-2.ensures.items refl c.if-not-branch.true noted midway.known (c.in_ok-rewrite.ensures.done h c.args.entry.now.actor.0) in
    breaks_read j.script h c.args.entry.now c.note_acts.new.tallies.steps.items c.note_acts.new.tallies.board c.rewrite.new.kept.worths.items noted keep walked

pub returns-then-not-at_once-clause-tried : goal.returns-then-not-at_once-clause-tried
returns-then-not-at_once-clause-tried c = λ h taken.
    let j = judge_of c.args.basis.now c.args.tallies.now.board c.args.kept.now.worths.items in
    let midway = midway_at j h taken in
    let noted = c.in_ok-broken.ensures.noted (sym c.is_some.ensures ∙ c.if-is_some.false) h (midway_in j h _ c.deref.ensures.value taken) in
    let keep = ap (list_all (λ (st : NotedStep). st.keeps)) (sym c.deref-2.ensures.value) ∙ sym c.all_keep.ensures ∙ c.if-not-all_keep.false in
    let said = ap (list_all (λ (st : NotedStep). st.right)) (sym c.deref-3.ensures.value) ∙ sym c.all_right.ensures ∙ c.if-not-all_right.false in
    let walked = rewritten j.script h c.args.entry.now _ _ c.note_acts.new.tallies.steps.items c.note_acts.new.tallies.board j.worths c.rewrite.new.kept.worths.items
    _ _ c.items-2.ensures.items refl c.if-not-branch.false noted midway.known (c.in_ok-rewrite.ensures.done h c.args.entry.now.actor.0) in
    let decides = decided_once j.script h c.args.entry.now _ c.does_at_once-at_once.result c.items.ensures.items (c.does_at_once-at_once.ensures (places_of h) midway.view) in
    breaks_delay j.script h c.args.entry.now c.note_acts.new.tallies.steps.items c.note_acts.new.tallies.board c.rewrite.new.kept.worths.items noted keep said walked
    (λ once. absurd (let is = decides.1 once in cc (is, c.if-not-at_once.true)))

pub returns-clause-tried : goal.returns-clause-tried
returns-clause-tried c = λ h taken.
    let j = judge_of c.args.basis.now c.args.tallies.now.board c.args.kept.now.worths.items in
    let midway = midway_at j h taken in
    let noted = c.in_ok-broken.ensures.noted (sym c.is_some.ensures ∙ c.if-is_some.false) h (midway_in j h _ c.deref.ensures.value taken) in
    let keep = ap (list_all (λ (st : NotedStep). st.keeps)) (sym c.deref-2.ensures.value) ∙ sym c.all_keep.ensures ∙ c.if-not-all_keep.false in
    let said = ap (list_all (λ (st : NotedStep). st.right)) (sym c.deref-3.ensures.value) ∙ sym c.all_right.ensures ∙ c.if-not-all_right.false in
    let walked = rewritten j.script h c.args.entry.now _ _ c.note_acts.new.tallies.steps.items c.note_acts.new.tallies.board j.worths c.rewrite.new.kept.worths.items
    _ _ c.items-2.ensures.items refl c.if-not-branch.false noted midway.known (c.in_ok-rewrite.ensures.done h c.args.entry.now.actor.0) in
    let decides = decided_once j.script h c.args.entry.now _ c.does_at_once-at_once.result c.items.ensures.items (c.does_at_once-at_once.ensures (places_of h) midway.view) in
    let may = may_come j.script h c.args.entry.now c.note_acts.new.tallies.steps.items c.note_acts.new.tallies.board c.rewrite.new.kept.worths.items noted keep said walked
    (decides.0 c.if-not-at_once.false) in
    (may, taken_more j h c.args.entry.now c.note_acts.new.tallies.steps.items c.note_acts.new.tallies.board c.rewrite.new.kept.worths.items taken may noted walked)
