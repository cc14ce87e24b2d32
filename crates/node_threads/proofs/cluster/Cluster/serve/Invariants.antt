use Rattle.std.proofs.Common.{◌≡◌}
use Rattle.actor_schedule.specs.Desks.{empty_trays}
use Rattle.node_threads.proofs.cluster.Cluster.serve.Given as goal

abbrev pub invariant-loop : goal.invariant-loop
invariant-loop g l =
    l.fn.bench.desk.trays ≡ empty_trays g.K.PostName.post.actors → l.bench.desk.trays ≡ empty_trays g.K.PostName.post.actors
