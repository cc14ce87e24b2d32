-- What is kept of an item, and what takes a change of it back.
use Rattle.std.specs.Prelude.{ℕ, suc, ◌≡◌, ◌-◌, ℤ, List, ◌++◌, length, slice_set, take}
use Rattle.std.specs.List.{remove}
use Rattle.commute_ops.specs.declared.kinds.Kind.{Kind}
use Rattle.commute_ops.specs.declared.kinds.Kind.TheVariants.{Sum, Top, Bag}
use Rattle.commute_ops.specs.declared.value.Value.{Value}
use Rattle.commute_ops.specs.Ops.{value_start}
use Rattle.worth_steps.specs.declared.steps.WorthStep.{WorthStep}
use Rattle.worth_steps.specs.declared.steps.StepChange.{StepChange}
use Rattle.worth_steps.specs.declared.steps.StepChange.TheVariants.{GoneOn, Begun}
use Rattle.worth_steps.specs.declared.puts.Put.{Put}
use Rattle.worth_steps.specs.declared.change.WorthChange.{WorthChange}
use Rattle.worth_steps.specs.declared.change.Changed.{Changed}
use Rattle.worth_steps.specs.declared.change.Changed.TheVariants as changed
use Rattle.worth_steps.specs.Worth.{Noted}
use Rattle.worth_steps.specs.Steps.{AreSteps, Ascends}
use Rattle.worth_steps.specs.Puts.{ArePuts, Rises}

-- of a sum or a top the first number and the steps, of a bag the puts
pub record WorthsData : Type 0 where
  pub kind : Kind
  pub first : ℤ
  pub steps : List WorthStep
  pub puts : List Put

abbrev pub AreWorthsOf : Kind → List Noted → WorthsData → Type 0
AreWorthsOf Bag ns w = ArePuts ns w.puts
AreWorthsOf Sum ns w = AreSteps w.kind w.first ns w.steps
AreWorthsOf Top ns w = AreSteps w.kind w.first ns w.steps

-- these are the worths of an item with this first value after these deeds
pub record AreWorths (first : Value) (ns : List Noted) (w : WorthsData) : Type 0 where
  pub starts : first ≡ value_start w.kind w.first
  pub ascends : Ascends w.steps
  pub rises : Rises w.puts
  pub kept : AreWorthsOf w.kind ns w

-- what holds of whatever first value and deeds these are the worths of
abbrev pub OfWorths : WorthsData → (Value → List Noted → Type 0) → Type 0
OfWorths w P = (first : Value) (ns : List Noted) → AreWorths first ns w → P first ns

-- the second worths are the first ones with these deeds more
abbrev pub AreWorthsWith : List Noted → WorthsData → WorthsData → Type 0
AreWorthsWith more old new = OfWorths old (λ first ns. AreWorths first (ns ++ more) new)

-- the steps below a place, and then these, as far as there were as many
abbrev pub steps_over : ℕ → List WorthStep → List WorthStep → List WorthStep
steps_over p above ss = take p ss ++ take (length ss - p) above

abbrev pub steps_back : StepChange → List WorthStep → List WorthStep
steps_back (GoneOn p s above) ss = steps_over (suc p) above (slice_set ss p s)
steps_back (Begun p above) ss = steps_over p above (take (length ss - 1) ss)

-- the worths with a change taken back
abbrev pub taken_back_by : Changed → WorthsData → WorthsData
taken_back_by changed.Nothing w = w
taken_back_by (changed.Steps c) w = record w { steps = steps_back c w.steps }
taken_back_by (changed.Put i) w = record w { puts = remove w.puts i }

abbrev pub worths_back : WorthChange → WorthsData → WorthsData
worths_back c w = taken_back_by c.changed w
