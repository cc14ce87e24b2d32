-- What becomes of the message that another brings to its node. Private code alone cites these definitions.
use Rattle.std.specs.Prelude.{if◌then◌else◌, ℕ, Bool, false, ◌≡◌, List, [], ◌∷◌, ◌++◌, Option, Some, None}
use Rattle.tv_base.specs.declared.numbers.SubNo.{SubNo}
use Rattle.tv_base.specs.declared.numbers.TreeNo.{TreeNo}
use Rattle.tv_base.specs.declared.numbers.Version.{Version}
use Rattle.letter_types.specs.declared.bodies.Body.{Body}
use Rattle.letter_types.specs.declared.bodies.Body.TheVariants.{Show, Decide, Wake, Order}
use Rattle.letter_types.specs.declared.bodies.What.{What}
use Rattle.letter_types.specs.declared.bodies.What.TheVariants as whats
use Rattle.letter_types.specs.declared.entries.Letter.{Letter}
use Rattle.letter_types.specs.declared.entries.Outgoing.{Outgoing}
use Rattle.letter_types.specs.declared.kept.KeepReason.{KeepReason}
use Rattle.letter_types.specs.declared.kept.KeepReason.TheVariants.{ForShow, ForHolder}
use Rattle.letter_types.specs.Kept.{brought, kept_without, wakes, with_called}
use Rattle.letter_types.specs.Steps.{Out}
use Rattle.world_model.specs.Core.{Core}
use Rattle.world_model.specs.Epochs.{is_obeyed_now}
use Rattle.world_model.specs.Keeping.{AreKeptAt, KeepingNode, woken_by}
use Rattle.world_model.specs.Strict.{CoreKeeping}
use Rattle.tree_step.specs.steps.CoreStep.{CoreStep}
use Rattle.tree_step.specs.declared.plan.Scratch.{Scratch}
use Rattle.node_machine.specs.steps.Keep.{Keep, New, Again}
use Rattle.node_machine.specs.steps.CoreKept.{CoreKept}
use Rattle.node_machine.specs.declared.node_plan.KeepPlan.{KeepPlan}
use Rattle.node_machine.specs.declared.node_plan.NodePlan.{NodePlan}
use Rattle.node_machine.specs.declared.state.KeepingParts.{KeepingParts}
use Rattle.node_machine.specs.Meant.{IsPlanned}
use Rattle.node_machine.specs.Plans.{kept_core}
use Rattle.node_machine.specs.State.{keeping_of}
use Rattle.node_machine.specs.Waits.{waits_alike}
use Rattle.tree_step.specs.Core.{core_of}
use Rattle.tree_step.specs.CoreChanges.{core_step_row}

-- message l brings message r to a node, and what the node defers was addressed to it
pub record IsBroughtBy (l r : Letter) (n : KeepingParts) : Type 0 where
  pub brings : brought n.kept l l.body ≡ Some r
  pub kept : AreKeptAt l.to.0 n.kept

-- what came is deferred as this subtransaction, for this reason: again, if it is a Wake
abbrev pub keep_by : Letter → TreeNo → SubNo → KeepReason → Body → Keep
keep_by l t k why (Wake u j) = Again t k why
keep_by l t k why _ = New (record { letter = l; tree = t; sub = k; why = why })

-- the same by a plan to defer it
abbrev pub keep_as : Letter → KeepPlan → Keep
keep_as l k = keep_by l k.tree k.sub k.why l.body

-- message l came and brought message r, which is deferred
abbrev pub kept_out : Letter → Letter → KeepingNode → CoreKeeping → Out KeepingNode
kept_out l r n k = record {
  state = record {
    core = k.state;
    kept = kept_without n.kept l.body ++ record { letter = r; tree = k.tree; sub = k.sub; why = k.why } ∷ [];
  };
  sent = [];
  acts = k.acts;
}

-- or it is done, this came of it at the core, and what waited for it is woken
abbrev pub done_out : Letter → Letter → KeepingNode → Out Core → Out KeepingNode
done_out l r n o = record {
  state = record { core = o.state; kept = with_called (woken_by n.core r.body) (kept_without n.kept l.body) };
  sent = o.sent ++ wakes (woken_by n.core r.body) (kept_without n.kept l.body);
  acts = o.acts;
}

-- the same if a message brought itself, and those are woken that are deferred for these reasons
abbrev pub waking_out : (KeepReason → Bool) → KeepingNode → Out Core → Out KeepingNode
waking_out test n o = record {
  state = record { core = o.state; kept = with_called test n.kept };
  sent = o.sent ++ wakes test n.kept;
  acts = o.acts;
}

-- those that wait for this, or none
abbrev pub woken_for : Option KeepReason → KeepReason → Bool
woken_for None why = false
woken_for (Some r) why = waits_alike r why

-- what the messages wait for that a message wakes: of an order of a coordinator that forgets a version to be shown, if
-- it is an order to show one, and takes effect
abbrev pub reason_of_order : ℕ → What → Version → Core → Option KeepReason
reason_of_order e whats.Show v c = if is_obeyed_now e whats.Show v c then Some ForShow else None
reason_of_order e _ v c = None

abbrev pub woken_reason : Core → Body → Option KeepReason
woken_reason c (Show v) = Some ForShow
woken_reason c (Decide t v commit) = Some (ForHolder t)
woken_reason c (Order e what v) = reason_of_order e what v c
woken_reason c _ = None

-- the same step, which sends these messages behind its own
abbrev pub sent_behind : List Outgoing → CoreStep → CoreStep
sent_behind more p = record p {
  parts = record p.parts { out = record p.parts.out { sent = p.parts.out.sent ++ more } };
}

-- a plan and a scratch defer what message l brought
abbrev pub IsKeptPlan : Letter → Letter → CoreKept → KeepingParts → Scratch → NodePlan → Type 0
IsKeptPlan l r k n x plan = IsPlanned (kept_out l r (keeping_of n) (kept_core k (core_of n.core))) n plan x

-- a plan and a scratch do what message l brought, if the core does this
abbrev pub IsDonePlan : Letter → Letter → CoreStep → KeepingParts → Scratch → NodePlan → Type 0
IsDonePlan l r done n x plan =
    IsPlanned (done_out l r (keeping_of n) (core_step_row done (core_of n.core))) n plan x

-- and if it brought itself, and those are woken that wait for this
abbrev pub IsWakingPlan : Option KeepReason → CoreStep → KeepingParts → Scratch → NodePlan → Type 0
IsWakingPlan woken done n x plan =
    IsPlanned (waking_out (woken_for woken) (keeping_of n) (core_step_row done (core_of n.core))) n plan x
