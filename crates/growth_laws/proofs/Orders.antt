-- To go on is an order; and a schedule finds the same messages and numbers.
use Rattle.std.proofs.Common.{ℕ, ◌+◌, ◌∙◌, List, [], ◌++◌, refl, sym, ap, append_assoc, append-nil, reverse, take}
use Rattle.letter_types.specs.Letters.{in_flight_after}
use Rattle.script_parts.specs.ScriptData.{ScriptData}
use Rattle.world_model.specs.Scheduled.{number_for}
use Rattle.growth_laws.specs.Growth.{Extends, GrowingIsAnOrder, IsFront, SchedulesGrow}

pub front_of_itself : {X : Type 0} (xs : List X) → IsFront xs xs
front_of_itself xs = ([], sym (append-nil xs))

pub front_of_front : {X : Type 0} (xs ys zs : List X) → IsFront xs ys → IsFront ys zs → IsFront xs zs
front_of_front {X} xs ys zs p q =
    (p.0 ++ q.0, q.1 ∙ ap (λ (vs : List X). vs ++ q.0) p.1 ∙ append_assoc xs p.0 q.0)

itself : (s : ScriptData) → Extends s s
itself s = record {
  form = refl;
  nodes = refl;
  items = refl;
  picks = refl;
  trees = front_of_itself s.trees;
  rows = front_of_itself s.rows;
  strict = refl;
  lossy = refl;
}

further : (s t u : ScriptData) → Extends s t → Extends t u → Extends s u
further s t u p q = record {
  form = q.form ∙ p.form;
  nodes = q.nodes ∙ p.nodes;
  items = q.items ∙ p.items;
  picks = q.picks ∙ p.picks;
  trees = front_of_front s.trees t.trees u.trees p.trees q.trees;
  rows = front_of_front s.rows t.rows u.rows p.rows q.rows;
  strict = q.strict ∙ p.strict;
  lossy = q.lossy ∙ p.lossy;
}

pub growing_is_an_order : GrowingIsAnOrder
growing_is_an_order = record { itself = itself; further = further }

pub schedules_grow : SchedulesGrow
schedules_grow s t seed h k e =
    (ap (λ (n : ℕ). in_flight_after (n + 1) (reverse (take k h))) e.nodes, ap (λ (picks : List ℕ). number_for picks seed k) e.picks)
