-- One event over the parts of a world, from what its calls say.
use Rattle.std.proofs.Common.{◌≡◌, ℕ, ◌+◌, ◌*◌, ◌<◌, ◌≤◌, List, [], ◌∷◌, ◌++◌, length, reverse, Option, Some, None, sym, subst, arith}
use Rattle.std.specs.Prelude.{slice_get, IfSome}
use Rattle.std.specs.List.{remove}
use Rattle.std.proofs.lemmas.List.{length-reverse}
use Rattle.tv_base.proofs.ByPlace.{get_some}
use Rattle.letter_types.specs.declared.entries.Letter.{Letter}
use Rattle.letter_types.specs.declared.entries.StepOut.{StepOut}
use Rattle.letter_types.specs.declared.entries.Entry.{Entry}
use Rattle.letter_types.specs.Letters.{sealed}
use Rattle.tx_trees.specs.ScriptData.{ScriptData}
use Rattle.tx_trees.specs.Valid.{IsValid}
use Rattle.world_model.proofs.Addressees.{may_reach}
use Rattle.world_model.proofs.SmallCounts.{small_counts}
use Rattle.world_core.specs.declared.actor.ActorState.{ActorState}
use Rattle.tree_step.specs.declared.plan.Scratch.{Scratch}
use Rattle.world_core.specs.declared.actor.ActorPlan.{ActorPlan}
use Rattle.world_model.specs.Tables.{ActorData}
use Rattle.world_model.specs.Taking.{CountsBelow, IsAddressed, MOST_COUNTED}
use Rattle.world_core.specs.Actors.{IsWorldOf, TookLetter, WorldData}
use Rattle.world_core.specs.Steps.{IsActorStepOf, ActorMayDo, MayTake}
use Rattle.world_core.specs.inside.Actors.{Acted}
use Rattle.world_core.proofs.Doing.{is_row, may_do}
use Rattle.world_core.proofs.Worlds.{Took, below, entry_made, next_world}

pub if_some : {X : Type 0} (P : X → Type 0) (o : Option X) (x : X) → o ≡ Some x → IfSome o P → P x
if_some P None x is h = absurd (cc is)
if_some P (Some y) x is h = let eq : y ≡ x = cc is in subst P eq h

if_some_of : {X : Type 0} (P : X → Type 0) (o : Option X) (x : X) → o ≡ Some x → P x → IfSome o P
if_some_of P o x is h = rw is h

-- the addressee is there
pub is_here : (s : ScriptData) (w : WorldData) (k : ℕ) (l : Letter) → IsWorldOf s w → IsValid s
    → slice_get w.bag k ≡ Some l → l.to.0 < length w.actors
is_here s w k l world valid at = omega (arith, below s w k l world valid at, world.count)

-- a state there may take the message, while the history is short
state_may : (s : ScriptData) (w : WorldData) (m : ℕ) (l : Letter) (st : ActorState) → IsWorldOf s w → IsValid s
    → MOST_COUNTED * length w.history + 1 ≤ m → l.to.0 < s.nodes + 2
    → slice_get w.actors l.to.0 ≡ Some st → MayTake s l m st
state_may s w m l st world valid le lt there =
    let is = world.actors l.to.0 st there in
    record {
      addressed = subst (λ (d : ActorData). IsAddressed s l d) (sym is.seen) (may_reach s (reverse w.history) l lt);
      script = is.script;
      small = subst (λ (d : ActorData). CountsBelow m d) (sym is.seen)
          (small_counts s (reverse w.history) l.to.0 m valid lt (omega (arith, length-reverse w.history)));
    }

pub may_take : (s : ScriptData) (w : WorldData) (k m : ℕ) (l : Letter) → IsWorldOf s w → IsValid s
    → MOST_COUNTED * length w.history + 1 ≤ m → slice_get w.bag k ≡ Some l
    → IfSome (slice_get w.actors l.to.0) (MayTake s l m)
may_take s w k m l world valid le at =
    let lt = below s w k l world valid at in
    let found = get_some w.actors l.to.0 (is_here s w k l world valid at) in
    if_some_of (MayTake s l m) (slice_get w.actors l.to.0) found.0 found.1 (state_may s w m l found.0 world valid le lt found.1)

-- a step that is planned for it may be done
may_of : (s : ScriptData) (l : Letter) (p : ActorPlan) (z : Scratch) (o : Option ActorState)
    → IfSome o (λ st. IsActorStepOf s l st p z) → IfSome o (ActorMayDo p z)
may_of s l p z None is = is
may_of s l p z (Some st) is = may_do s l st p z is

pub may_act : (s : ScriptData) (l : Letter) (p : ActorPlan) (z : Scratch) (actors : List ActorState)
    → IfSome (slice_get actors l.to.0) (λ st. IsActorStepOf s l st p z) → IfSome (slice_get actors l.to.0) (ActorMayDo p z)
may_act s l p z actors is = may_of s l p z (slice_get actors l.to.0) is

-- what the calls of an event say
pub record Event (s : ScriptData) (w : WorldData) (k : ℕ) (l : Letter) (p : ActorPlan) (z : Scratch) (out : StepOut) (next : WorldData) : Type 0 where
  pub letter : slice_get w.bag k ≡ Some l
  pub step : IfSome (slice_get w.actors l.to.0) (λ st. IsActorStepOf s l st p z)
  pub acted : Acted l.to.0 p z w.actors next.actors out
  pub bag : next.bag ≡ remove w.bag k ++ sealed (length w.history + 1) l.to.0 0 out.sent
  pub history : next.history ≡ w.history ++ entry_made (length w.history) l out.sent out.acts ∷ []

-- the actor made its row
took_by : (s : ScriptData) (w : WorldData) (k : ℕ) (l : Letter) (p : ActorPlan) (z : Scratch) (out : StepOut) (next : WorldData)
    → IsWorldOf s w → Event s w k l p z out next → Took s l w.actors next.actors out
took_by s w k l p z out next world e =
    let a = e.acted in
    record {
      before = a.before;
      after = a.after;
      there = a.there;
      set = a.set;
      is = is_row s l a.before a.after p z out (world.actors l.to.0 a.before a.there).script
          (if_some (λ st. IsActorStepOf s l st p z) (slice_get w.actors l.to.0) a.before a.there e.step) a.done;
    }

pub event_world : (s : ScriptData) (w : WorldData) (k : ℕ) (l : Letter) (p : ActorPlan) (z : Scratch) (out : StepOut) (next : WorldData)
    → IsWorldOf s w → IsValid s → Event s w k l p z out next → IsWorldOf s next
event_world s w k l p z out next world valid e =
    let made : IsWorldOf s (record { actors = next.actors; bag = next.bag; history = w.history ++ entry_made (length w.history) l out.sent out.acts ∷ [] }) =
    next_world s w k l out next.actors next.bag world valid (record {
      letter = e.letter;
      took = took_by s w k l p z out next world e;
      bag = e.bag;
    }) in
    subst (λ (h : List Entry). IsWorldOf s (record { actors = next.actors; bag = next.bag; history = h })) (sym e.history) made

pub event_took : (s : ScriptData) (w : WorldData) (k : ℕ) (l : Letter) (p : ActorPlan) (z : Scratch) (out : StepOut) (next : WorldData)
    → Event s w k l p z out next → TookLetter k w next
event_took s w k l p z out next e = (entry_made (length w.history) l out.sent out.acts, e.history, e.letter)
