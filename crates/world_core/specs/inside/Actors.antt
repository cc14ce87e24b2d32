-- How an actor of a world does its step. These are the definitions that private code alone cites.
use Rattle.std.specs.Prelude.{ℕ, ◌≡◌, IfSome, List, Some, slice_get, slice_set}
use Rattle.letter_types.specs.declared.entries.Letter.{Letter}
use Rattle.letter_types.specs.declared.entries.StepOut.{StepOut}
use Rattle.world_core.specs.declared.actor.ActorState.{ActorState}
use Rattle.tx_trees.specs.ScriptData.{ScriptData}
use Rattle.tree_step.specs.declared.plan.Scratch.{Scratch}
use Rattle.world_core.specs.declared.actor.ActorPlan.{ActorPlan}
use Rattle.world_core.specs.Steps.{IsActorDone, IsActorStepOf}

-- actor a did a step that was planned, this goes out, and the other actors stay
pub record Acted (a : ℕ) (p : ActorPlan) (x : Scratch) (old new : List ActorState) (out : StepOut) : Type 0 where
  pub before : ActorState
  pub after : ActorState
  pub there : slice_get old a ≡ Some before
  pub set : new ≡ slice_set old a after
  pub done : IsActorDone p x before after out

-- a step is planned for the addressee of a message
abbrev pub IsPlanFor : ScriptData → Letter → List ActorState → ActorPlan → Scratch → Type 0
IsPlanFor s l actors p x = IfSome (slice_get actors l.to.0) (λ st. IsActorStepOf s l st p x)
