use Rattle.std.proofs.Common.{Bor, Option, ap, sym, ◌∙◌}
use Rattle.std.specs.Option.{option_copied}
use Rattle.letter_types.specs.declared.entries.Letter.{Letter}
use Rattle.node_machine.proofs.deferred.FirstCalled.{first_is, none_called, not_gone}
use Rattle.node_machine.proofs.deferred.PlacesStayRight.{letter_of}
use Rattle.node_machine.proofs.arrivals.called_letter.Goals as goal

pub returns-in_err-arrival : goal.returns-in_err-arrival
returns-in_err-arrival c =
    ap (λ (r : Option (Bor Letter)). option_copied r) c.from_residual.ensures
    ∙ sym (none_called c.args.tree c.args.sub c.args.letters.now.entries (sym c.called.ensures ∙ c.in_err-arrival.was))

pub returns-in_err-kept : goal.returns-in_err-kept
returns-in_err-kept c =
    absurd (not_gone c.args.tree c.args.sub c.in_ok-arrival.arrival c.args.letters.now.entries c.requires.ascending
    (sym c.called.ensures ∙ c.in_ok-arrival.was) (sym c.in_err-kept.ensures.value))

pub returns : goal.returns
returns c =
    let first =
    first_is c.args.tree c.args.sub c.in_ok-arrival.arrival c.args.letters.now.entries c.requires.ascending
    (sym c.called.ensures ∙ c.in_ok-arrival.was) in
    letter_of c.in_ok-kept.kept.now first.letter (c.in_ok-kept.ensures.value ∙ first.there) ∙ sym first.first
