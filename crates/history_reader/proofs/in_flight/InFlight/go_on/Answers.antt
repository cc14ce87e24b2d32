use Rattle.std.proofs.Common.{◌∙◌, sym}
use Rattle.history_reader.specs.inside.Finding.{letter_for}
use Rattle.history_reader.proofs.TakenLater.{goes_left, goes_letter, goes_some}
use Rattle.history_reader.proofs.in_flight.InFlight.go_on.Goals as goal

pub returns-clause-letter : goal.returns-clause-letter
returns-clause-letter c =
    goes_letter c.args.client.0 c.args.self.now c.add.new.self c.args.entry.now (sym c.may_come.ensures ∙ c.if-not-may_come.false)
    c.in_ok-add.ensures.begun c.in_ok-add.ensures.ok c.take-letter.result c.take-letter.ensures.letter

pub returns-clause-left : goal.returns-clause-left
returns-clause-left c = λ some.
    goes_left c.args.client.0 c.args.self.now c.add.new.self c.args.entry.now (sym c.may_come.ensures ∙ c.if-not-may_come.false)
    c.in_ok-add.ensures.begun c.in_ok-add.ensures.ok c.take-letter.new.self (c.take-letter.ensures.left some)

pub returns-clause-none : goal.returns-clause-none
returns-clause-none c = λ none.
    goes_some (letter_for c.args.client.0 c.args.self.now c.args.entry.now) c.take-letter.result c.args.self.now c.take-letter.new.self
    (sym c.may_come.ensures ∙ c.if-not-may_come.false) (returns-clause-letter c) none
