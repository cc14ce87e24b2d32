use Rattle.std.proofs.Common.{sym, ◌∙◌}
use Rattle.node_machine.proofs.deferred.FirstCalled.{first_is, none_called, none_taken, not_gone}
use Rattle.node_machine.proofs.deferred.PlacesStayRight.{kept_less, letter_of}
use Rattle.node_machine.proofs.arrivals.take_called.Goals as goal

pub returns-in_err-arrival-clause-taken : goal.returns-in_err-arrival-clause-taken
returns-in_err-arrival-clause-taken c =
    c.from_residual.ensures
    ∙ sym (none_called c.args.tree c.args.sub c.args.letters.now.entries (sym c.called.ensures ∙ c.in_err-arrival.was))

pub returns-in_err-arrival-clause-others : goal.returns-in_err-arrival-clause-others
returns-in_err-arrival-clause-others c =
    sym (none_taken c.args.tree c.args.sub c.args.letters.now.entries (sym c.called.ensures ∙ c.in_err-arrival.was))

pub returns-in_err-kept-clause-taken : goal.returns-in_err-kept-clause-taken
returns-in_err-kept-clause-taken c =
    absurd (not_gone c.args.tree c.args.sub c.in_ok-arrival.arrival c.args.letters.now.entries c.requires.ascending
    (sym c.called.ensures ∙ c.in_ok-arrival.was) (sym c.in_err-kept.ensures.value))

pub returns-in_err-kept-clause-others : goal.returns-in_err-kept-clause-others
returns-in_err-kept-clause-others c =
    absurd (not_gone c.args.tree c.args.sub c.in_ok-arrival.arrival c.args.letters.now.entries c.requires.ascending
    (sym c.called.ensures ∙ c.in_ok-arrival.was) (sym c.in_err-kept.ensures.value))

pub returns-clause-taken : goal.returns-clause-taken
returns-clause-taken c =
    let first =
    first_is c.args.tree c.args.sub c.in_ok-arrival.arrival c.args.letters.now.entries c.requires.ascending
    (sym c.called.ensures ∙ c.in_ok-arrival.was) in
    letter_of c.in_ok-kept.kept first.letter (c.in_ok-kept.ensures.value ∙ first.there) ∙ sym first.first

pub returns-clause-others : goal.returns-clause-others
returns-clause-others c =
    let first =
    first_is c.args.tree c.args.sub c.in_ok-arrival.arrival c.args.letters.now.entries c.requires.ascending
    (sym c.called.ensures ∙ c.in_ok-arrival.was) in
    c.remove.ensures.entries ∙ first.others

pub returns-clause-kept : goal.returns-clause-kept
returns-clause-kept c =
    kept_less c.args.next c.args.tree c.args.sub c.in_ok-arrival.arrival c.args.letters.now.entries
    c.remove.new.self.entries c.args.places.now.keys c.take_places.new.places.keys c.requires
    (first_is c.args.tree c.args.sub c.in_ok-arrival.arrival c.args.letters.now.entries c.requires.ascending
    (sym c.called.ensures ∙ c.in_ok-arrival.was)) c.take_places.ensures.taken c.remove.ensures.updates.0
    c.remove.ensures.ordered c.take_places.ensures.in_order
