use Rattle.std.proofs.Common.{List, ap, sym, ◌∙◌, ◌++◌}
use Rattle.std.proofs.lemmas.List.{append-nil}
use Rattle.letter_types.specs.declared.entries.Outgoing.{Outgoing}
use Rattle.letter_types.proofs.Ids.{none_woken}
use Rattle.node_machine.specs.Waits.{waits_alike}
use Rattle.node_machine.proofs.deferred.AllCalled.{none_alike}
use Rattle.node_machine.proofs.kept.KeptLetters.push_wakes.Goals as goal

pub returns-in-None : goal.returns-in-None
returns-in-None c =
    sym (ap (λ (ls : List Outgoing). c.args.sent.now ++ ls)
    (none_woken (waits_alike c.args.why) c.args.self.now
    (none_alike c.args.why (sym c.of_why.ensures ∙ c.in-None.is)))
    ∙ append-nil c.args.sent.now)
