use Rattle.std.proofs.Common.{List, Some, sym, subst, ◌∙◌, Decides}
use Rattle.script_parts.specs.ScriptData.{ops_of}
use Rattle.script_parts.specs.declared.parts.SubOp.{SubOp}
use Rattle.board_rules.specs.Right.{IsShown, gets_among}
use Rattle.board_rules.specs.Worth.{worth_in}
use Rattle.board_judge.specs.Views.{AreThere}
use Rattle.board_judge.proofs.Fitting.{ops_there}
use Rattle.board_judge.proofs.Voting.{decide_shown, decide_unborn}
use Rattle.board_judge.proofs.votes.is_given.Goals as goal

pub returns-in_default : goal.returns-in_default
returns-in_default c = λ xs upto is known.
    let s = c.args.script.now in
    let gets = gets_among (ops_of s c.args.given.asked.tree.0 c.args.given.asked.sub.0) in
    decide_shown (worth_in s upto) gets c.args.given.values.now _ _ _ (sym c.in_default.is ∙ c.version_of.ensures s xs is)
    (decide_unborn (worth_in s upto) gets c.args.given.values.now)

pub returns : goal.returns
returns c = λ xs upto is known.
    let s = c.args.script.now in
    let ops = ops_of s c.args.given.asked.tree.0 c.args.given.asked.sub.0 in
    let same = c.ops_of-ops.ensures in
    let there = subst (AreThere s) (sym same) (ops_there s c.args.given.asked.tree.0 c.args.given.asked.sub.0 known.valid) in
    decide_shown (worth_in s upto) (gets_among ops) c.args.given.values.now (Some c.in-Some.version) _ c.shows.result
    (sym c.in-Some.is ∙ c.version_of.ensures s xs is)
    (subst (λ (os : List SubOp). Decides c.shows.result (IsShown (worth_in s upto) (gets_among os) c.args.given.values.now (Some c.in-Some.version))) same
    (c.shows.ensures s upto known there))
