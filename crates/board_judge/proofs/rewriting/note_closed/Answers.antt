use Rattle.std.proofs.Common.{ℕ, Option, subst, sym}
use Rattle.tv_base.specs.declared.numbers.TreeNo.{TreeNo}
use Rattle.script_parts.specs.ScriptData.{subs_at}
use Rattle.board_judge.specs.Notes.{subs_noted}
use Rattle.board_judge.specs.inside.Rewriting.{HasNoted, closed_noted}
use Rattle.board_judge.proofs.rewriting.note_closed.Goals as goal

pub returns-clause-noted : goal.returns-clause-noted
returns-clause-noted c = λ xs is.
    let s = c.args.script.now in
    let t = c.in-Some.tree in
    subst (λ (o : Option TreeNo). HasNoted (λ (x : ℕ). closed_noted s xs x o) c.args.kept.now.worths.items c.note_tree.new.kept.worths.items) (sym c.in-Some.is)
    (subst (λ (v : ℕ). HasNoted (λ (x : ℕ). subs_noted v x (subs_at s t.0)) c.args.kept.now.worths.items c.note_tree.new.kept.worths.items)
    (c.version_or_zero-version.ensures s xs is) c.in_ok-note_tree.ensures.noted)
