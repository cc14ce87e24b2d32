-- What becomes of a new item over any list of updates and collections.
use Rattle.std.specs.Prelude.{◌≡◌, ◌≤◌, Bool, false, ◌&&◌, ◌||◌, ◌==◌, nat_lt, nat_le, List, [], ◌∷◌, if◌then◌else◌, ⊤, Some, IsTrue}
use Rattle.tv_base.specs.declared.numbers.Version.{Version}
use Rattle.commute_ops.specs.declared.value.Value.{Value}
use Rattle.commute_ops.specs.declared.kinds.Op.{Op}
use Rattle.commute_ops.specs.Ops.{applied}
use Rattle.item_versions.specs.Item.{Held, IsHeld, seen, touched, may_touch, holds, has_room, collected, CanCollect}

-- an update in a version, or a collection to one
pub data Step : Type 0 where
  touch : Version → Op → Step
  collect : Version → Step

-- what a new item holds
abbrev pub new_held : Value → Held
new_held w = (record { 0 = 0 }, w) ∷ []

-- what is held after the steps
abbrev pub held_after_steps : List Step → Held → Held
held_after_steps [] h = h
held_after_steps (touch v op ∷ steps) h = held_after_steps steps (touched v op h)
held_after_steps (collect f ∷ steps) h = held_after_steps steps (collected f h)

-- each step may be made, and no update is in a version below the last collected to, which is f before the first step
abbrev pub CanRun : Version → List Step → Held → Type 0
CanRun f [] h = ⊤
CanRun f (touch v op ∷ steps) h =
    (f.0 ≤ v.0) × IsTrue (may_touch v op h) × IsTrue (has_room v h) × CanRun f steps (touched v op h)
CanRun f (collect g ∷ steps) h = CanCollect g h × CanRun g steps (collected g h)

-- the version last collected to, or the one given where there is no collection
abbrev pub low_after_steps : Version → List Step → Version
low_after_steps f [] = f
low_after_steps f (touch v op ∷ steps) = low_after_steps f steps
low_after_steps f (collect g ∷ steps) = low_after_steps g steps

-- the operations of the updates in versions up to v, in order
abbrev pub ops_up_to : Version → List Step → List Op
ops_up_to v [] = []
ops_up_to v (touch u op ∷ steps) = if nat_le u.0 v.0 then op ∷ ops_up_to v steps else ops_up_to v steps
ops_up_to v (collect f ∷ steps) = ops_up_to v steps

-- the value after the operations, in order
abbrev pub applied_each : Value → List Op → Value
applied_each w [] = w
applied_each w (op ∷ ops) = applied_each (applied w op) ops

-- some update is in version v
abbrev pub touches : Version → List Step → Bool
touches v [] = false
touches v (touch u op ∷ steps) = u.0 == v.0 || touches v steps
touches v (collect f ∷ steps) = touches v steps

-- in a version from the last collected to up, the initial value is seen with every update of up to that version
abbrev pub SeesUpdates : Type 0
SeesUpdates =
    (w : Value) (steps : List Step) (v : Version)
    → CanRun (record { 0 = 0 }) steps (new_held w) → (low_after_steps (record { 0 = 0 }) steps).0 ≤ v.0
    → seen v (held_after_steps steps (new_held w)) ≡ Some (applied_each w (ops_up_to v steps))

-- the versions held are the one last collected to, and those above it that have an update
abbrev pub HoldsUpdated : Type 0
HoldsUpdated =
    (w : Value) (steps : List Step) (v : Version) → CanRun (record { 0 = 0 }) steps (new_held w)
    → holds v (held_after_steps steps (new_held w))
    ≡ ((low_after_steps (record { 0 = 0 }) steps).0 == v.0
    || (nat_lt (low_after_steps (record { 0 = 0 }) steps).0 v.0 && touches v steps))

-- what is held always ascends
abbrev pub StaysHeld : Type 0
StaysHeld = (w : Value) (steps : List Step) → IsHeld (held_after_steps steps (new_held w))
