use Rattle.std.proofs.Common.{length, refl}
use Rattle.std.proofs.lemmas.Option.{slice_get_read}
use Rattle.board_judge.proofs.Rewritten.{altered_here, noted_one, within_kinds}
use Rattle.board_judge.proofs.rewriting.note_deed.Goals as goal

pub returns-clause-noted : goal.returns-clause-noted
returns-clause-noted c =
    let ws = c.args.worths.now.items in
    let here = slice_get_read ws (length ws) c.args.item.0 c.index_mut.result.now refl (within_kinds ws c.args.item.0 c.args.deed.now c.requires) c.index_mut.ensures.value in
    noted_one ws c.args.item.0 (record { version = c.args.version.0; deed = c.args.deed.now }) c.index_mut.result.now c.note.new.self here
    c.in_ok-change.ensures.kind c.in_ok-change.ensures.noted

pub returns-clause-back : goal.returns-clause-back
returns-clause-back c =
    let ws = c.args.worths.now.items in
    let here = slice_get_read ws (length ws) c.args.item.0 c.index_mut.result.now refl (within_kinds ws c.args.item.0 c.args.deed.now c.requires) c.index_mut.ensures.value in
    altered_here ws (record { item = c.args.item; change = c.in_ok-change.change }) c.index_mut.result.now c.note.new.self here c.in_ok-change.ensures.back
