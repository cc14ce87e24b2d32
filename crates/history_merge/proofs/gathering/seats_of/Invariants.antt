use Rattle.std.proofs.Common.{◌≡◌, ◌+◌, ◌++◌, ◌≤◌, List, length, map, All}
use Rattle.std.specs.Prelude.{vec_capacity}
use Rattle.letter_types.specs.declared.entries.Entry.{Entry}
use Rattle.stamp_post.specs.Shown.{seat_joined}
use Rattle.history_merge.specs.Merging.{AllRun, NumberedBy, joined_from}
use Rattle.history_merge.proofs.gathering.seats_of.Given as goal

abbrev pub invariant-loop-log : goal.invariant-loop-log
invariant-loop-log g l = record {
  posts : All (λ s. s.post ≡ g.K.PostName.post) l.seats.items;
  rows : List (List Entry);
  joined : map seat_joined l.seats.items ≡ joined_from 0 rows;
  runs : AllRun g.K.ClusterName.script rows;
  entries : rows ++ map (λ x. x.entries) l.log-iterator.rest.items ≡ map (λ x. x.entries) l.fn.logs.items;
  many : length rows ≡ length l.seats.items;
  order : NumberedBy (λ x. x.number) (length l.seats.items) l.log-iterator.rest.items;
  some : length l.seats.items + length l.log-iterator.rest.items ≡ length l.fn.logs.items;
  room : length l.fn.logs.items ≤ vec_capacity l.seats;
}
