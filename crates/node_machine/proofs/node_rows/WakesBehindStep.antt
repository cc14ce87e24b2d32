-- Messages that a step sends behind its own change nothing of what it counts.
use Rattle.std.proofs.Common.{◌≡◌, List, ◌++◌, ap, sym, subst}
use Rattle.letter_types.specs.declared.entries.Outgoing.{Outgoing}
use Rattle.letter_types.specs.declared.kept.KeepReason.{KeepReason}
use Rattle.letter_types.specs.Kept.{wakes, with_called}
use Rattle.pair_counters.specs.Rows.{counts_of}
use Rattle.world_model.specs.Core.{Core}
use Rattle.tree_step.specs.Changes.{after_change}
use Rattle.tree_step.specs.Node.{Node, data_of}
use Rattle.tree_step.specs.CoreChanges.{MayAsk, MayDoCore, after_core_change, asked_with, core_step_row, epoch_with, holds_with, locks_with, refusals_with}
use Rattle.tree_step.specs.Core.{IsApart, core_of}
use Rattle.tree_step.specs.steps.CoreStep.{CoreStep}
use Rattle.tree_step.specs.declared.node_core.NodeCore.{NodeCore}
use Rattle.tree_step.proofs.Replied.{after_more, do_more, has_fit}
use Rattle.node_machine.specs.steps.KeepingStep.{Does}
use Rattle.node_machine.specs.declared.node_plan.KeptPlan.TheVariants.{Call}
use Rattle.node_machine.specs.declared.state.KeepingParts.{KeepingParts}
use Rattle.node_machine.specs.Changes.{IsKeepingStepOf}
use Rattle.node_machine.specs.State.{keeping_of}
use Rattle.node_machine.specs.Waits.{waits_alike}
use Rattle.node_machine.specs.inside.Bringing.{sent_behind, waking_out}

-- a core after a step, by the node that commuting transactions see then
abbrev core_by : CoreStep → Core → Node → Core
core_by p c st = record {
  node = record st { counts = asked_with p.holds st.counts };
  locks = locks_with p.votes c.locks;
  holds = holds_with p.holds c.holds;
  refusals = refusals_with p.votes c.refusals;
  epoch = epoch_with p.epoch c.epoch;
}

-- the node of a step that sends more behind
node_more : (p : CoreStep) (more : List Outgoing) (n : NodeCore) → MayDoCore p n
    → after_change p.parts.change (p.parts.out.sent ++ more) (data_of n.parts)
    ≡ after_change p.parts.change p.parts.out.sent (data_of n.parts)
node_more p more n may =
    after_more p.parts.change p.parts.out.sent more (data_of n.parts)
    (has_fit p.parts.change p.parts.out.sent n.parts may.parts.fits)

-- so the core afterwards is the same
core_more : (p : CoreStep) (more : List Outgoing) (n : NodeCore) → MayDoCore p n
    → after_core_change (sent_behind more p) (core_of n) ≡ after_core_change p (core_of n)
core_more p more n may = ap (λ (st : Node). core_by p (core_of n) st) (node_more p more n may)

-- and whether a node may do the step
may_more : (p : CoreStep) (more : List Outgoing) (n : NodeCore) → MayDoCore p n → MayDoCore (sent_behind more p) n
may_more p more n may = record {
  parts = do_more p.parts.change p.parts.out.sent more n.parts may.parts;
  holds = may.holds;
  asks = subst (λ (st : Node). MayAsk p.holds (counts_of n.parts.counters).nodes st) (sym (node_more p more n may))
      may.asks;
  apart = subst (λ (c : Core). IsApart c) (sym (core_more p more n may)) may.apart;
}

-- a message is done that wakes those that wait for this: each is called, and its Wake goes behind what the core sends
pub waking_step : (r : KeepReason) (n : KeepingParts) (p : CoreStep) (more : List Outgoing) → MayDoCore p n.core
    → more ≡ wakes (waits_alike r) n.kept
    → IsKeepingStepOf (waking_out (waits_alike r) (keeping_of n) (core_step_row p (core_of n.core))) n
    (Does (sent_behind more p) (Call r))
waking_step r n p more may is = record {
  row = λ i. record {
    state = record { core = core_more p more n.core may i; kept = with_called (waits_alike r) n.kept };
    sent = p.parts.out.sent ++ is i;
    acts = p.parts.out.acts;
  };
  may = may_more p more n.core may;
}
