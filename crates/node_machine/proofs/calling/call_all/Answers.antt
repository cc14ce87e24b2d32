use Rattle.std.proofs.Common.{sym, ◌∙◌}
use Rattle.node_machine.proofs.deferred.AllCalled.{all_called}
use Rattle.node_machine.proofs.calling.call_all.Goals as goal

pub returns-clause-called : goal.returns-clause-called
returns-clause-called c =
    sym (all_called c.args.key c.args.next c.loop-arrival.letters.entries c.loop-arrival.places.keys
    c.loop-arrival.invariant.kept c.requires.reason c.in_default.ensures.none)
    ∙ c.loop-arrival.invariant.same
