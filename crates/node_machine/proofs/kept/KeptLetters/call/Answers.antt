use Rattle.std.proofs.Common.{sym, ◌∙◌}
use Rattle.node_machine.specs.Waits.{waits_alike}
use Rattle.node_machine.proofs.deferred.AllCalled.{none_alike, none_called}
use Rattle.node_machine.proofs.kept.KeptLetters.call.Goals as goal

pub returns-in_default : goal.returns-in_default
returns-in_default c =
    sym (none_called (waits_alike c.args.why) c.args.self.now
    (none_alike c.args.why (sym c.of_why.ensures ∙ c.in_default.is)))
