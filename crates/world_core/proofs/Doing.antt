-- A step of an actor that was planned and done is its row.
use Rattle.std.proofs.Common.{◌≡◌, ◌<◌, ℕ, List, length, get_or, refl, ap, ◌∙◌, subst, sym, Result, Ok, Err}
use Rattle.std.specs.Prelude.{OnErr, OnOk, slice_set}
use Rattle.std.proofs.lemmas.List.{set-get_or}
use Rattle.std.proofs.lemmas.Option.{slice_get_read}
use Rattle.tv_base.specs.declared.numbers.NoMemory.{NoMemory}
use Rattle.letter_types.specs.declared.entries.Letter.{Letter}
use Rattle.letter_types.specs.declared.entries.StepOut.{StepOut}
use Rattle.letter_types.specs.Steps.{made}
use Rattle.client_rows.specs.Kept.{Kept, IsKeptOf}
use Rattle.node_machine.specs.Changes.{keeping_step_row}
use Rattle.node_machine.specs.Meant.{node_meant}
use Rattle.node_machine.specs.State.{keeping_of}
use Rattle.node_machine.specs.declared.node_plan.NodePlan.{NodePlan}
use Rattle.node_machine.specs.declared.node_plan.NodePlan.TheVariants.{Still as StillPlan, Keeps as KeepsPlan, Does as DoesPlan}
use Rattle.tree_step.specs.Meant.{out_in}
use Rattle.tree_step.specs.declared.plan.Scratch.{Scratch}
use Rattle.tx_trees.specs.ScriptData.{ScriptData}
use Rattle.world_model.specs.Keeping.{KeepingNode}
use Rattle.world_model.specs.Tables.{NodeData, CoordinatorData, RestartingData, ClientData, actor_row, as_actor}
use Rattle.world_core.specs.declared.actor.ActorState.{ActorState}
use Rattle.world_core.specs.declared.actor.ActorState.TheVariants.{Node, Coordinator, Restarting, Client}
use Rattle.world_core.specs.declared.actor.ActorPlan.{ActorPlan}
use Rattle.world_core.specs.declared.actor.ActorPlan.TheVariants.{Node as NodeStep, Coordinator as CoordinatorStep, Restarting as RestartStep, Client as ClientStep}
use Rattle.world_core.specs.Actors.{IsFor, actor_data}
use Rattle.world_core.specs.Steps.{IsActorDone, IsActorStepOf, ActorMayDo, out_of}
use Rattle.world_core.specs.inside.Actors.{Acted}

-- the row that it is says that the actor may do it
pub may_do : (s : ScriptData) (l : Letter) (st : ActorState) (p : ActorPlan) (x : Scratch) → IsActorStepOf s l st p x → ActorMayDo p x st
may_do s l (Node n) (NodeStep p) x is = is.may
may_do s l (Coordinator c) (CoordinatorStep p) x is = is.may
may_do s l (Restarting c) (RestartStep p) x is = is.may
may_do s l (Client k) (ClientStep p) x is = tt
may_do s l (Node n) (CoordinatorStep p) x is = absurd is
may_do s l (Node n) (RestartStep p) x is = absurd is
may_do s l (Node n) (ClientStep p) x is = absurd is
may_do s l (Coordinator c) (NodeStep p) x is = absurd is
may_do s l (Coordinator c) (RestartStep p) x is = absurd is
may_do s l (Coordinator c) (ClientStep p) x is = absurd is
may_do s l (Restarting c) (NodeStep p) x is = absurd is
may_do s l (Restarting c) (CoordinatorStep p) x is = absurd is
may_do s l (Restarting c) (ClientStep p) x is = absurd is
may_do s l (Client k) (NodeStep p) x is = absurd is
may_do s l (Client k) (CoordinatorStep p) x is = absurd is
may_do s l (Client k) (RestartStep p) x is = absurd is

-- an actor made its row of a message, is of the script still, and this goes out
pub record IsRow (s : ScriptData) (l : Letter) (old new : ActorState) (out : StepOut) : Type 0 where
  pub row : made (actor_data new) out ≡ actor_row s l.to.0 (actor_data old) l
  pub script : IsFor s new

-- what is done is the row
pub is_row : (s : ScriptData) (l : Letter) (old new : ActorState) (p : ActorPlan) (x : Scratch) (out : StepOut) → IsFor s old
    → IsActorStepOf s l old p x → IsActorDone p x old new out → IsRow s l old new out
is_row s l (Node n) (Node m) (NodeStep p) x out for is done =
    record { row = ap (as_actor NodeData) (done.0 ∙ is.row); script = done.1 ∙ for }
is_row s l (Coordinator c) (Coordinator d) (CoordinatorStep p) x out for is done =
    record {
      row = (λ i. made (CoordinatorData (done.0 i)) (done.1 i)) ∙ ap (as_actor CoordinatorData) is.row;
      script = tt;
    }
is_row s l (Restarting c) (Restarting d) (RestartStep p) x out for is done =
    record {
      row = (λ i. made (RestartingData (done.0 i)) (done.1 i)) ∙ ap (as_actor RestartingData) is.row;
      script = tt;
    }
is_row s l (Client k) (Client m) (ClientStep p) x out for is done = record {
  row = (λ i. made (ClientData (done.0 i).client) (done.1 i)) ∙ ap (as_actor ClientData) is.row;
  script = subst (λ (k : Kept). IsKeptOf s k) (sym done.0) is.still_kept;
}
is_row s l (Node n) (Coordinator d) (NodeStep p) x out for is done = absurd done
is_row s l (Node n) (Restarting d) (NodeStep p) x out for is done = absurd done
is_row s l (Node n) (Client m) (NodeStep p) x out for is done = absurd done
is_row s l (Coordinator c) (Node m) (CoordinatorStep p) x out for is done = absurd done
is_row s l (Coordinator c) (Restarting d) (CoordinatorStep p) x out for is done = absurd done
is_row s l (Coordinator c) (Client m) (CoordinatorStep p) x out for is done = absurd done
is_row s l (Restarting c) (Node m) (RestartStep p) x out for is done = absurd done
is_row s l (Restarting c) (Coordinator d) (RestartStep p) x out for is done = absurd done
is_row s l (Restarting c) (Client m) (RestartStep p) x out for is done = absurd done
is_row s l (Client k) (Node m) (ClientStep p) x out for is done = absurd done
is_row s l (Client k) (Coordinator d) (ClientStep p) x out for is done = absurd done
is_row s l (Client k) (Restarting d) (ClientStep p) x out for is done = absurd done
is_row s l (Node n) new (CoordinatorStep p) x out for is done = absurd is
is_row s l (Node n) new (RestartStep p) x out for is done = absurd is
is_row s l (Node n) new (ClientStep p) x out for is done = absurd is
is_row s l (Coordinator c) new (NodeStep p) x out for is done = absurd is
is_row s l (Coordinator c) new (RestartStep p) x out for is done = absurd is
is_row s l (Coordinator c) new (ClientStep p) x out for is done = absurd is
is_row s l (Restarting c) new (NodeStep p) x out for is done = absurd is
is_row s l (Restarting c) new (CoordinatorStep p) x out for is done = absurd is
is_row s l (Restarting c) new (ClientStep p) x out for is done = absurd is
is_row s l (Client k) new (NodeStep p) x out for is done = absurd is
is_row s l (Client k) new (CoordinatorStep p) x out for is done = absurd is
is_row s l (Client k) new (RestartStep p) x out for is done = absurd is

-- what goes out of a node is what was planned
out_made : (p : NodePlan) (x : Scratch) (n m : KeepingNode) (out : StepOut) → made m out ≡ keeping_step_row (node_meant p x) n
    → out ≡ out_in x
out_made StillPlan x n m out is = λ i. record { sent = (is i).sent; acts = (is i).acts }
out_made (KeepsPlan k) x n m out is = λ i. record { sent = (is i).sent; acts = (is i).acts }
out_made (DoesPlan k) x n m out is = λ i. record { sent = (is i).sent; acts = (is i).acts }

-- what goes out is what was planned
pub out_is : (p : ActorPlan) (x : Scratch) (old new : ActorState) (out : StepOut) → IsActorDone p x old new out → out ≡ out_of p x
out_is (NodeStep p) x (Node n) (Node m) out done = out_made p x (keeping_of n) (keeping_of m) out done.0
out_is (CoordinatorStep p) x (Coordinator c) (Coordinator d) out done = done.1
out_is (RestartStep p) x (Restarting c) (Restarting d) out done = done.1
out_is (ClientStep p) x (Client k) (Client m) out done = done.1
out_is (NodeStep p) x (Node n) (Coordinator d) out done = absurd done
out_is (NodeStep p) x (Node n) (Restarting d) out done = absurd done
out_is (NodeStep p) x (Node n) (Client m) out done = absurd done
out_is (NodeStep p) x (Coordinator c) new out done = absurd done
out_is (NodeStep p) x (Restarting c) new out done = absurd done
out_is (NodeStep p) x (Client k) new out done = absurd done
out_is (CoordinatorStep p) x (Coordinator c) (Node m) out done = absurd done
out_is (CoordinatorStep p) x (Coordinator c) (Restarting d) out done = absurd done
out_is (CoordinatorStep p) x (Coordinator c) (Client m) out done = absurd done
out_is (CoordinatorStep p) x (Node n) new out done = absurd done
out_is (CoordinatorStep p) x (Restarting c) new out done = absurd done
out_is (CoordinatorStep p) x (Client k) new out done = absurd done
out_is (RestartStep p) x (Restarting c) (Node m) out done = absurd done
out_is (RestartStep p) x (Restarting c) (Coordinator d) out done = absurd done
out_is (RestartStep p) x (Restarting c) (Client m) out done = absurd done
out_is (RestartStep p) x (Node n) new out done = absurd done
out_is (RestartStep p) x (Coordinator c) new out done = absurd done
out_is (RestartStep p) x (Client k) new out done = absurd done
out_is (ClientStep p) x (Client k) (Node m) out done = absurd done
out_is (ClientStep p) x (Client k) (Coordinator d) out done = absurd done
out_is (ClientStep p) x (Client k) (Restarting d) out done = absurd done
out_is (ClientStep p) x (Node n) new out done = absurd done
out_is (ClientStep p) x (Coordinator c) new out done = absurd done
out_is (ClientStep p) x (Restarting c) new out done = absurd done

-- the actor at a place did it, and the others stay
pub acted_at : {T : Type 0} (a : ℕ) (p : ActorPlan) (x : Scratch) (old : List ActorState) (before after : ActorState)
    (out : StepOut) (r : Result T NoMemory)
    → a < length old → before ≡ get_or old a before → OnOk r (IsActorDone p x before after out)
    → OnOk r (Acted a p x old (slice_set old a after) out)
acted_at a p x old before after out (Ok done_with) lt at done = record {
  before = before;
  after = after;
  there = slice_get_read old (length old) a before refl lt at;
  set = refl;
  done = done;
}
acted_at a p x old before after out (Err e) lt at done = tt

-- or found no memory, and all stay
pub stays_at : {T : Type 0} (a : ℕ) (old : List ActorState) (before after : ActorState) (r : Result T NoMemory)
    → before ≡ get_or old a before → OnErr r (after ≡ before) → OnErr r (slice_set old a after ≡ old)
stays_at a old before after (Ok done_with) at same = tt
stays_at a old before after (Err e) at same =
    ap (λ (st : ActorState). slice_set old a st) (same ∙ at) ∙ set-get_or old a before
