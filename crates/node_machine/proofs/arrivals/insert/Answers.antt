use Rattle.std.proofs.Common.{◌∙◌}
use Rattle.node_machine.proofs.deferred.FirstCalled.{put_last}
use Rattle.node_machine.proofs.deferred.PlacesStayRight.{free_yet, kept_more, kept_same, same_again}
use Rattle.node_machine.proofs.arrivals.insert.Goals as goal

pub returns-in-Ok-insert-clause-last : goal.returns-in-Ok-insert-clause-last
returns-in-Ok-insert-clause-last c =
    c.in-Ok-insert.ensures.entries ∙ put_last c.args.next c.args.kept c.args.letters.now.entries c.requires.before

pub returns-in-Ok-insert-clause-more : goal.returns-in-Ok-insert-clause-more
returns-in-Ok-insert-clause-more c =
    kept_more c.args.next c.args.kept c.args.letters.now.entries c.insert.new.self.entries c.args.places.now.keys
    c.add_places.new.places.keys c.requires c.in-Ok.ensures.ok c.in-Ok-insert.ensures.updates.0
    c.insert.ensures.ordered c.add_places.ensures.in_order

pub returns-clause-same : goal.returns-clause-same
returns-clause-same c =
    let free = free_yet c.args.next c.args.letters.now.entries c.args.places.now.keys c.requires in
    kept_same c.args.next c.args.letters.now.entries c.insert.new.self.entries c.args.places.now.keys
    c.take_places.new.places.keys c.requires c.in-Err.ensures.err
    (same_again c.args.next c.args.kept.tree c.args.kept.sub c.args.kept.why c.args.places.now.keys
    c.add_places.new.places.keys c.take_places.new.places.keys free c.in-Ok.ensures.ok c.take_places.ensures.taken)
    c.take_places.ensures.in_order
