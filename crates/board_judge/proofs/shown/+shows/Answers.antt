use Rattle.std.proofs.Common.{◌≡◌, ℕ, List, ◌∷◌, sym, subst, ◌∙◌, Decides}
use Rattle.commute_ops.specs.declared.value.Value.{Value}
use Rattle.tv_base.specs.declared.numbers.ItemNo.{ItemNo}
use Rattle.script_parts.specs.declared.parts.SubOp.{SubOp}
use Rattle.board_rules.specs.Right.{gets_among, with_worths}
use Rattle.board_rules.specs.Worth.{worth_in}
use Rattle.board_judge.specs.Views.{AreThere}
use Rattle.board_judge.proofs.Seeing.{decide_empty, decide_more, decide_passed}
use Rattle.board_judge.proofs.shown.+shows.Goals as goal

pub returns-in_default : goal.returns-in_default
returns-in_default t c = λ s xs known there.
    decide_empty (λ (x : ℕ). worth_in s xs x c.args.version.0) c.args.ops.now c.args.values.now c.is_empty.result
    c.in_default.ensures.cases c.is_empty.ensures

pub returns-then-not-is_get : goal.returns-then-not-is_get
returns-then-not-is_get t c = λ s xs known there.
    let of = λ (x : ℕ). worth_in s xs x c.args.version.0 in
    let opens = c.in-Some.ensures.cases.0 in
    let all = subst (AreThere s) opens there in
    subst (λ (os : List SubOp). Decides c.shows.result (c.args.values.now ≡ with_worths of (gets_among os))) (sym opens)
    (decide_passed of c.in-Some.op.now c.in-Some.later.now c.args.values.now c.shows.result (sym c.is_get.ensures ∙ c.if-not-is_get.true)
    (c.shows.ensures s xs known all.1))

pub returns : goal.returns
returns t c = λ s xs known there.
    let of = λ (x : ℕ). worth_in s xs x c.args.version.0 in
    let opens = c.in-Some.ensures.cases.0 in
    let all = subst (AreThere s) opens there in
    let parts = c.in-Some-split_first.ensures.cases.0 in
    subst (λ (vs : List (ItemNo × Value)). Decides c.shows-2.result (vs ≡ with_worths of (gets_among c.args.ops.now))) (sym parts)
    (subst (λ (os : List SubOp). Decides c.shows-2.result (c.in-Some-split_first.value.now ∷ c.in-Some-split_first.others.now ≡ with_worths of (gets_among os))) (sym opens)
    (decide_more of c.in-Some.op.now c.in-Some.later.now c.in-Some-split_first.value.now c.in-Some-split_first.others.now c.is_worth.result c.shows-2.result
    (sym c.is_get.ensures ∙ c.if-not-is_get.false) c.if-not-is_worth.false (c.is_worth.ensures s xs known all.0)
    (c.shows-2.ensures s xs known all.1)))
