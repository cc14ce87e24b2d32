use Rattle.std.proofs.Common.{◌+◌, ◌∙◌, ◌∷◌, drop, sym, ap, arith}
use Rattle.std.proofs.lemmas.List.{drop_more}
use Rattle.std.proofs.lemmas.Option.{get_or_from_slice_get}
use Rattle.letter_types.specs.declared.entries.Entry.{Entry}
use Rattle.run_history.proofs.entry.EntriesIterator.next.Goals as goal

pub returns-clause-steps : goal.returns-clause-steps
returns-clause-steps c =
    let h = c.self.inside.history.now in
    let k = c.self.inside.next in
    sym c.self.view_is
    ∙ drop_more h k c.entry.result (omega (arith, c.if-len-place.false, c.len.ensures.len))
    ∙ ap (λ (e : Entry). e ∷ drop (k + 1) h) (get_or_from_slice_get h k c.entry.result c.entry.result c.entry.ensures)
