-- How a node's core changes in a step, and when it may.
use Rattle.std.specs.Prelude.{ℕ, ◌≡◌, ◌<◌, ◌≤◌, ⊤, List, length, map, All, IfOk, IsTrue, IsSome, Option, None, Some, OnErr, OnOk, Result}
use Rattle.tv_base.specs.declared.numbers.NoMemory.{NoMemory}
use Rattle.tv_base.specs.declared.numbers.NodeNo.{NodeNo}
use Rattle.item_versions.specs.Window.{in_window}
use Rattle.letter_types.specs.declared.entries.StepOut.{StepOut}
use Rattle.letter_types.specs.Steps.{Out, made}
use Rattle.nc_locks.specs.declared.modes.Lock.{Lock}
use Rattle.nc_locks.specs.Locks.{with_locks, without}
use Rattle.pair_counters.specs.Numbers.{Numbers, asked_all}
use Rattle.pair_counters.specs.Rows.{counts_of}
use Rattle.tree_home.specs.HeldAnswers.{HeldAnswers, acked, held_answers, held_in, holding}
use Rattle.tree_home.specs.Maps.{put_at}
use Rattle.world_model.specs.Core.{Core, Refusals}
use Rattle.tree_step.specs.Changes.{MayDo, after_change}
use Rattle.tree_step.specs.Node.{IsInWindow, Node, data_of}
use Rattle.tree_step.specs.steps.PartsStep.{PartsStep}
use Rattle.tree_step.specs.steps.CoreStep.{CoreStep}
use Rattle.tree_step.specs.steps.HoldChange.{HoldChange, Hold, Ack}
use Rattle.tree_step.specs.steps.VoteChange.{VoteChange, Take, Free, Note, Drop}
use Rattle.tree_step.specs.declared.node_core.NodeCore.{NodeCore}
use Rattle.tree_step.specs.Core.{IsApart, core_of}

-- the locks afterwards
abbrev pub locks_with : VoteChange → List Lock → List Lock
locks_with (Take t wanted) ls = with_locks t wanted ls
locks_with (Free t) ls = without t ls
locks_with _ ls = ls

-- the negative votes afterwards
abbrev pub refusals_with : VoteChange → Refusals → Refusals
refusals_with (Note t refusal) rs = put_at t.0 (Some refusal) rs
refusals_with (Drop t) rs = put_at t.0 None rs
refusals_with _ rs = rs

-- both afterwards
abbrev pub with_votes : VoteChange → Core → Core
with_votes votes c = record c { locks = locks_with votes c.locks; refusals = refusals_with votes c.refusals }

-- the held answers afterwards
abbrev pub holds_with : HoldChange → HeldAnswers → HeldAnswers
holds_with (Hold a visited) hs = holding a (length visited) hs
holds_with (Ack t) hs = acked t hs
holds_with _ hs = hs

-- the numbers of nodes
abbrev pub numbers_of_nodes : List NodeNo → List ℕ
numbers_of_nodes qs = map (λ (q : NodeNo). q.0) qs

-- what is counted afterwards: for an answer that is held a request of its version to each node that it waits for
abbrev pub asked_with : HoldChange → Numbers → Numbers
asked_with (Hold a visited) n = asked_all a.version.0 (numbers_of_nodes visited) n
asked_with _ n = n

-- what is held isn't held yet and waits for at least one acknowledgement, and what is acknowledged is held
abbrev pub MayHold : HoldChange → HeldAnswers → Type 0
MayHold (Hold a visited) hs = (0 < length visited) × (held_in a.tree hs ≡ None)
MayHold (Ack t) hs = IsSome (held_in t hs)
MayHold _ hs = ⊤

-- it waits for at most 64 of these nodes, and its version is one that this node counts in
abbrev pub MayAsk : HoldChange → ℕ → Node → Type 0
MayAsk (Hold a visited) nodes st =
    IsTrue (in_window st.turns.low.0 a.version.0) × All (λ (q : NodeNo). q.0 < nodes) visited × (length visited ≤ 64)
MayAsk _ nodes st = ⊤

-- the epoch afterwards
abbrev pub epoch_with : Option ℕ → ℕ → ℕ
epoch_with (Some e) epoch = e
epoch_with None epoch = epoch

-- the node that commuting trees see, after a step
abbrev pub after_parts_change : CoreStep → Node → Node
after_parts_change p st = after_change p.parts.change p.parts.out.sent st

-- a node after a step
abbrev pub after_core_change : CoreStep → Core → Core
after_core_change p c = record {
  node = record (after_parts_change p c.node) { counts = asked_with p.holds (after_parts_change p c.node).counts };
  locks = locks_with p.votes c.locks;
  holds = holds_with p.holds c.holds;
  refusals = refusals_with p.votes c.refusals;
  epoch = epoch_with p.epoch c.epoch;
}

-- a node, and what goes out, after a step, as a table's row
abbrev pub core_step_row : CoreStep → Core → Out Core
core_step_row p c = made (after_core_change p c) p.parts.out

-- a step of these parts, of which the node hears no epoch
abbrev pub core_step_of : PartsStep → VoteChange → HoldChange → CoreStep
core_step_of p votes holds = record { parts = p; votes = votes; holds = holds; epoch = None }

-- a node may do a step: its parts may, what is held and asked for fits, and of no tree that is open then an answer is
-- held
pub record MayDoCore (p : CoreStep) (n : NodeCore) : Type 0 where
  pub parts : MayDo p.parts.change p.parts.out.sent n.parts
  pub holds : MayHold p.holds (held_answers n.parts.homes)
  pub asks : MayAsk p.holds (counts_of n.parts.counters).nodes (after_parts_change p (data_of n.parts))
  pub apart : IsApart (after_core_change p (core_of n))

-- a step is this row of a node, and the node may do it
pub record IsCoreStepOf (o : Out Core) (n : NodeCore) (p : CoreStep) : Type 0 where
  pub row : core_step_row p (core_of n) ≡ o
  pub may : MayDoCore p n

-- what came of a step of a node: it was done, and the node afterwards and what goes out are this row; or no memory was
-- found, and the node is unchanged. It counts by as many nodes as before, its versions are in their window, and of no
-- tree that is open an answer is held
pub record IsCoreDone (o : Out Core) (old new : NodeCore) (r : Result StepOut NoMemory) : Type 0 where
  pub row : IfOk r (λ out. made (core_of new) out ≡ o)
  pub nodes : OnOk r ((counts_of new.parts.counters).nodes ≡ (counts_of old.parts.counters).nodes)
  pub window : OnOk r (IsInWindow new.parts)
  pub apart : OnOk r (IsApart (core_of new))
  pub err : OnErr r (new ≡ old)
