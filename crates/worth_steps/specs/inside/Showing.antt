-- What is kept shows a value at each version. Only the code cites it.
use Rattle.std.specs.Prelude.{ℕ, ℤ, pos}
use Rattle.commute_ops.specs.declared.kinds.Kind.{Kind}
use Rattle.commute_ops.specs.declared.kinds.Kind.TheVariants as kinds
use Rattle.commute_ops.specs.declared.value.Value.{Value}
use Rattle.commute_ops.specs.declared.value.Value.TheVariants.{Sum, Top, Bag}
use Rattle.worth_steps.specs.Kept.{WorthsData}
use Rattle.worth_steps.specs.Puts.{Rises, newest_put, shown_to}
use Rattle.worth_steps.specs.Steps.{Ascends, newest_step, seen_to}

-- the number of a sum or a top
abbrev pub value_number : Value → ℤ
value_number (Sum n) = n.0
value_number (Top n) = n.0
value_number (Bag ns) = pos 0

-- the value that is shown at version v
abbrev pub shown_by_kind : Kind → WorthsData → ℕ → Value
shown_by_kind kinds.Sum w v = Sum (record { 0 = seen_to w.first w.steps v })
shown_by_kind kinds.Top w v = Top (record { 0 = seen_to w.first w.steps v })
shown_by_kind kinds.Bag w v = Bag (shown_to v w.puts)

abbrev pub shown_value : WorthsData → ℕ → Value
shown_value w v = shown_by_kind w.kind w v

-- the greatest version in which the item was altered
abbrev pub newest_by_kind : Kind → WorthsData → ℕ
newest_by_kind kinds.Sum w = newest_step w.steps
newest_by_kind kinds.Top w = newest_step w.steps
newest_by_kind kinds.Bag w = newest_put w.puts

-- steps and puts are in order
pub record AreOrdered (w : WorthsData) : Type 0 where
  pub ascends : Ascends w.steps
  pub rises : Rises w.puts
