use Rattle.std.proofs.Common.{◌∙◌, List, ap}
use Rattle.std.specs.Prelude.{slice_get}
use Rattle.letter_types.specs.declared.entries.Outgoing.{Outgoing}
use Rattle.history_reader.specs.inside.Finding.{addressee_of}
use Rattle.history_reader.proofs.Spent.{spent_to}
use Rattle.history_reader.proofs.in_flight.Sender.take.Goals as goal

pub returns-clause-left : goal.returns-clause-left
returns-clause-left c = λ some.
    let place = c.args.id.place in
    let os = c.args.self.now.sent in
    c.put-body.ensures.put
    ∙ spent_to place os c.in_ok-to.to
    (c.in_ok-to.ensures ∙ ap (λ (xs : List Outgoing). addressee_of (slice_get xs place)) c.items.ensures.items)
