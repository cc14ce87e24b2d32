-- A step of an actor that is planned: when it may be, which row it is, and what doing it leaves. Of a node what takes
-- memory lies in a scratch.
use Rattle.std.specs.Prelude.{ℕ, ◌≡◌, ⊤}
use Rattle.letter_types.specs.declared.entries.Letter.{Letter}
use Rattle.letter_types.specs.declared.entries.StepOut.{StepOut}
use Rattle.letter_types.specs.Steps.{Out, made}
use Rattle.pair_counters.specs.Rows.{counts_of}
use Rattle.tx_trees.specs.ScriptData.{ScriptData}
use Rattle.advance_coord.specs.Changes.{MayKeep, IsCoordinatorStepOf as IsCoordinatorStep, after_coordinator_change as coordinator_after}
use Rattle.coord_restart.specs.RestartChanges.{MayTakeUp, IsRestartStepOf as IsRestartStep, after_restart_change as restarting_after}
use Rattle.client_rows.specs.Changes.{IsClientStepOf as IsClientStep, after_client_change as client_after}
use Rattle.node_machine.specs.Changes.{MayDoKeeping, keeping_step_row}
use Rattle.node_machine.specs.Meant.{node_meant}
use Rattle.node_machine.specs.State.{keeping_of}
use Rattle.node_machine.specs.Letters.{IsLetterPlan}
use Rattle.tree_step.specs.Meant.{out_in}
use Rattle.tree_step.specs.declared.plan.Scratch.{Scratch}
use Rattle.world_model.specs.Tables.{ActorData, actor_row, client_table, coordinator_table, restarting_table}
use Rattle.world_model.specs.Taking.{IsAddressed, CountsBelow}
use Rattle.world_core.specs.Actors.{IsFor, actor_data}
use Rattle.world_core.specs.declared.actor.ActorState.{ActorState}
use Rattle.world_core.specs.declared.actor.ActorState.TheVariants.{Node, Coordinator, Restarting, Client}
use Rattle.world_core.specs.declared.actor.ActorPlan.{ActorPlan}
use Rattle.world_core.specs.declared.actor.ActorPlan.TheVariants.{Node as NodeStep, Coordinator as CoordinatorStep, Restarting as RestartStep, Client as ClientStep}

-- an actor may take a message: it is addressed to it, of its script, and the numbers that it counts are small
pub record MayTake (s : ScriptData) (l : Letter) (m : ℕ) (st : ActorState) : Type 0 where
  pub addressed : IsAddressed s l (actor_data st)
  pub script : IsFor s st
  pub small : CountsBelow m (actor_data st)

-- what an actor does with a message: its row of its table
abbrev pub row_at : ScriptData → Letter → ActorState → Out ActorData
row_at s l st = actor_row s l.to.0 (actor_data st) l

-- what goes out
abbrev pub out_of : ActorPlan → Scratch → StepOut
out_of (NodeStep p) x = out_in x
out_of (CoordinatorStep p) x = p.out
out_of (RestartStep p) x = p.out
out_of (ClientStep p) x = out_in x

-- a step that is planned is the row of this message in the actor's table, and the actor may do it
abbrev pub IsActorStepOf : ScriptData → Letter → ActorState → ActorPlan → Scratch → Type 0
IsActorStepOf s l (Node n) (NodeStep p) x = IsLetterPlan s l n p x
IsActorStepOf s l (Coordinator c) (CoordinatorStep p) x = IsCoordinatorStep (coordinator_table c l) c p
IsActorStepOf s l (Restarting c) (RestartStep p) x = IsRestartStep (restarting_table c l) c p
IsActorStepOf s l (Client k) (ClientStep p) x = IsClientStep s (client_table s k.client l) k (record { change = p; out = out_in x })
IsActorStepOf s l _ _ x = ⊥

-- the actor may do it
abbrev pub ActorMayDo : ActorPlan → Scratch → ActorState → Type 0
ActorMayDo (NodeStep p) x (Node n) = MayDoKeeping (node_meant p x) n
ActorMayDo (CoordinatorStep p) x (Coordinator c) = MayKeep p.change.row c.count.current
ActorMayDo (RestartStep p) x (Restarting c) = MayTakeUp p.change.taken c
ActorMayDo (ClientStep p) x (Client k) = ⊤
ActorMayDo _ x _ = ⊥

-- the actor before it was done and after it, and what goes out
abbrev pub IsActorDone : ActorPlan → Scratch → ActorState → ActorState → StepOut → Type 0
IsActorDone (NodeStep p) x (Node n) (Node m) out =
    (made (keeping_of m) out ≡ keeping_step_row (node_meant p x) (keeping_of n))
    × ((counts_of m.core.parts.counters).nodes ≡ (counts_of n.core.parts.counters).nodes)
IsActorDone (CoordinatorStep p) x (Coordinator c) (Coordinator d) out = (d ≡ coordinator_after p.change c) × (out ≡ p.out)
IsActorDone (RestartStep p) x (Restarting c) (Restarting d) out = (d ≡ restarting_after p.change c) × (out ≡ p.out)
IsActorDone (ClientStep p) x (Client k) (Client m) out = (m ≡ client_after p k) × (out ≡ out_in x)
IsActorDone _ x _ _ _ = ⊥
