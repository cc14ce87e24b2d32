use Rattle.std.proofs.Common.{ℕ, List, ◌∙◌, subst, length, refl}
use Rattle.std.proofs.lemmas.Option.{slice_get_read}
use Rattle.script_parts.specs.declared.parts.SubOp.{SubOp}
use Rattle.board_judge.specs.Notes.{ops_noted}
use Rattle.board_judge.specs.inside.Rewriting.{HasNoted}
use Rattle.board_judge.proofs.Rewritten.{subs_all, subs_on}
use Rattle.board_judge.proofs.rewriting.note_subs.Goals as goal

pub loop-sub-preserved : goal.loop-sub-preserved
loop-sub-preserved c = record {
  noted = subs_on c.args.version.0 c.loop-sub.sub-index c.args.subs.now c.sub-item.result c.args.kept.now.worths.items c.loop-sub.kept.worths.items c.note_ops.new.kept.worths.items
      (slice_get_read c.args.subs.now (length c.args.subs.now) c.loop-sub.sub-index c.sub-item.result refl c.loop-sub-test.true c.sub-item.is) c.loop-sub.invariant.noted
      (subst (λ (os : List SubOp). HasNoted (λ (x : ℕ). ops_noted c.args.version.0 x os) c.loop-sub.kept.worths.items c.note_ops.new.kept.worths.items) c.items.ensures.items
      c.in_ok-note_ops.ensures.noted);
  back = c.in_ok-note_ops.ensures.back ∙ c.loop-sub.invariant.back;
}

pub returns-clause-noted : goal.returns-clause-noted
returns-clause-noted c =
    subs_all c.args.version.0 c.loop-sub.sub-index c.args.subs.now c.args.kept.now.worths.items c.loop-sub.kept.worths.items c.loop-sub-test.false c.loop-sub.invariant.noted
