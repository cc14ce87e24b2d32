use Rattle.std.proofs.Common.{◌≡◌, ◌<◌, ◌∙◌, ◌++◌, List, length, get_or, subst, sym, take}
use Rattle.letter_types.specs.declared.acts.Act.{Act}
use Rattle.board_rules.specs.Histories.{Place, places_at, places_of}
use Rattle.board_judge.specs.inside.Steps.{AreNoted}
use Rattle.board_judge.proofs.Going.{acts_more, first_fails, midway_on}
use Rattle.board_judge.proofs.noting.note_acts.Goals as goal

pub returns-then-not-branch-clause-fails : goal.returns-then-not-branch-clause-fails
returns-then-not-branch-clause-fails c = λ h midway.
    let s = c.args.before.now.basis.now.script.now in
    let i = c.loop-act.act-index in
    let e = c.args.entry.now in
    let within = subst (λ (acts : List Act). i < length acts) c.items-act-items.ensures.items c.loop-act-test.true in
    let at = subst (λ (acts : List Act). c.act-item.result ≡ get_or acts i c.act-item.result) c.items-act-items.ensures.items c.act-item.is in
    let noted = c.loop-act.invariant.0 h midway in
    let here = midway_on s c.args.before.now.basis.now.gates c.args.before.now.basis.now.users h (take i (places_at e)) c.loop-act.tallies.steps.items
    c.args.tallies.now.board c.loop-act.tallies.board c.args.before.now.worths.now midway noted in
    first_fails s h e i c.act-item.result c.loop-act.tallies.steps.items c.loop-act.tallies.board c.rule_of.result within at noted
    (c.in_ok-note_next.ensures.not c.if-not-branch.true h (places_of h ++ take i (places_at e)) here) c.rule_of.ensures

pub loop-act-preserved : goal.loop-act-preserved
loop-act-preserved c = (
  (λ h midway.
      let s = c.args.before.now.basis.now.script.now in
      let i = c.loop-act.act-index in
      let e = c.args.entry.now in
      let within = subst (λ (acts : List Act). i < length acts) c.items-act-items.ensures.items c.loop-act-test.true in
      let at = subst (λ (acts : List Act). c.act-item.result ≡ get_or acts i c.act-item.result) c.items-act-items.ensures.items c.act-item.is in
      let noted = c.loop-act.invariant.0 h midway in
      let here = midway_on s c.args.before.now.basis.now.gates c.args.before.now.basis.now.users h (take i (places_at e)) c.loop-act.tallies.steps.items
      c.args.tallies.now.board c.loop-act.tallies.board c.args.before.now.worths.now midway noted in
      let one = c.in_ok-note_next.ensures.noted c.if-not-branch.false h (take i (places_at e)) here noted in
      subst (λ (ys : List Place). AreNoted s h ys c.note_next.new.tallies.steps.items c.note_next.new.tallies.board) (sym (acts_more e i c.act-item.result within at)) one),
  c.note_next.ensures.back ∙ c.loop-act.invariant.1,
)
