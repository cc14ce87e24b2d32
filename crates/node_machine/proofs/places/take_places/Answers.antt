use Rattle.std.proofs.Common.{◌∙◌, sym}
use Rattle.node_machine.proofs.deferred.PlacesAddedTaken.{taken_two}
use Rattle.node_machine.proofs.places.take_places.Goals as goal

pub returns-in-Some-clause-taken : goal.returns-in-Some-clause-taken
returns-in-Some-clause-taken c =
    taken_two c.args.arrival c.args.tree c.args.sub c.args.why c.in-Some.key c.args.places.now.keys
    c.remove.new.self.keys c.remove-in-Some.new.self.keys (sym c.of_why.ensures ∙ c.in-Some.is)
    c.remove.ensures.updates.0 c.remove-in-Some.ensures.updates.0
