use Rattle.std.proofs.Common.{◌≡◌, ◌-◌, length}
use Rattle.actor_schedule.specs.Desks.{all_sorted_in, left_in}
use Rattle.actor_schedule.proofs.desk.Desk.sort.Given as goal

abbrev pub invariant-loop-envelope : goal.invariant-loop-envelope
invariant-loop-envelope g l = record {
  post : l.left.post ≡ g.P.PostName.post;
  posting : l.left.posting ≡ l.fn.out.posting;
  hand : l.self.hand ≡ l.fn.self.hand;
  sorted : all_sorted_in g.P.PostName.post (left_in l.left) l.self.trays
      ≡ all_sorted_in g.P.PostName.post (left_in l.fn.out) l.fn.self.trays;
}

abbrev pub decreases-loop-envelope : goal.decreases-loop-envelope
decreases-loop-envelope g l = length l.left.posting.sent - l.left.next
