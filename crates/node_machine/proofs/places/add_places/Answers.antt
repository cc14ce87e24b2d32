use Rattle.node_machine.proofs.deferred.PlacesAddedTaken.{added_back, added_two}
use Rattle.std.proofs.Common.{sym, ◌∙◌}
use Rattle.node_machine.proofs.places.add_places.Goals as goal

pub returns-in-Ok-clause-ok : goal.returns-in-Ok-clause-ok
returns-in-Ok-clause-ok c =
    added_two c.args.arrival c.args.tree c.args.sub c.args.why c.in-Some.key c.args.places.now.keys
    c.insert.new.self.keys c.insert-2.new.self.keys (sym c.of_why.ensures ∙ c.in-Some.is)
    c.in_ok-insert.ensures.updates.0 c.in-Ok.ensures.updates.0

pub returns-in-Err-clause-err : goal.returns-in-Err-clause-err
returns-in-Err-clause-err c =
    added_back c.args.arrival c.args.tree c.args.sub c.args.places.now.keys c.insert.new.self.keys
    c.insert-2.new.self.keys c.remove.new.self.keys c.requires c.in_ok-insert.ensures.updates.0 c.in-Err.ensures.err
    c.remove.ensures.updates.0
