use Rattle.std.proofs.Common.{◌≡◌, ◌≤◌, ◌-◌, length}
use Rattle.client_rows.specs.News.{answered_after}
use Rattle.client_rows.specs.inside.Places.{place_at, furthest}
use Rattle.client_rows.proofs.places.furthest.Given as goal

-- the client is at a place, and would come just as far from there
abbrev pub invariant-loop-at : goal.invariant-loop-at
invariant-loop-at l = record {
  within : l.at.next ≤ length l.rows;
  forward : l.fn.from.next ≤ l.at.next;
  place : l.at ≡ place_at l.rows (answered_after l.news l.answered) l.at.next;
  same : furthest (answered_after l.news l.answered) l.ended l.rows l.at.next
      ≡ furthest (answered_after l.news l.answered) l.ended l.rows l.fn.from.next;
}

abbrev pub decreases-loop-at : goal.decreases-loop-at
decreases-loop-at l = length l.rows - l.at.next
