use Rattle.std.proofs.Common.{◌≡◌, ◌∙◌, ap, sym, subst, Bool, true, Option, None}
use Rattle.std.specs.Prelude.{if◌then◌else◌}
use Rattle.letter_types.specs.declared.votes.Cause.{Cause}
use Rattle.board_rules.specs.Stands.{conflict_of}
use Rattle.board_judge.specs.Views.{AreThere, MayLook}
use Rattle.board_judge.proofs.Fitting.{marks_asked, ops_there}
use Rattle.board_judge.proofs.at_once.in_way.Goals as goal

if_so : (b : Bool) (way : Option Cause) → b ≡ true → way ≡ (if b then way else None)
if_so b way is = rw is

pub returns : goal.returns
returns c = λ xs view.
    let s = c.args.view.now.script.now in
    let t = c.args.asked.tree.0 in
    let k = c.args.asked.sub.0 in
    let same = c.ops_of-ops.ensures in
    let up = sym c.updates.ensures ∙ c.if-not-updates.false in
    c.conflict.ensures xs view (subst (AreThere s) (sym same) (ops_there s t k view.valid)) (subst (MayLook s) (sym same) (marks_asked s t k view.valid up))
    ∙ ap (conflict_of s xs c.args.view.now.node.0 t) same
    ∙ if_so _ _ up
