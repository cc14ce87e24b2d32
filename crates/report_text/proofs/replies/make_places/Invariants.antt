use Rattle.std.proofs.Common.{◌≡◌, ℕ, ◌+◌, ◌-◌, length}
use Rattle.report_text.specs.Replies.{place_listed}
use Rattle.report_text.proofs.replies.make_places.Given as goal

abbrev pub invariant-loop-places : goal.invariant-loop-places
invariant-loop-places l = (t : ℕ) → place_listed l.places t ≡ place_listed l.initial.places t

abbrev pub decreases-loop-places : goal.decreases-loop-places
decreases-loop-places l = l.tree + 1 - length l.places
