-- A step of a node by its parts.
use Rattle.std.proofs.Common.{◌≡◌, ℕ, ap, sym, subst, ◌∙◌, List}
use Rattle.tv_base.specs.declared.numbers.NodeNo.{NodeNo}
use Rattle.tv_base.specs.declared.numbers.TreeNo.{TreeNo}
use Rattle.letter_types.specs.declared.entries.StepOut.{StepOut}
use Rattle.letter_types.specs.Steps.{Out, made}
use Rattle.pair_counters.specs.Counts.{Counts}
use Rattle.pair_counters.specs.Numbers.{asked_all}
use Rattle.pair_counters.specs.Rows.{CounterRows, counts_of}
use Rattle.nc_locks.specs.declared.modes.Lock.{Lock}
use Rattle.tree_home.specs.HeldAnswers.{held_answers}
use Rattle.tree_home.specs.Homes.{HomesData}
use Rattle.tree_home.specs.Maps.{by_tree}
use Rattle.tree_home.specs.declared.homes.OpenTree.{OpenTree}
use Rattle.world_model.specs.Core.{Core}
use Rattle.world_model.specs.declared.refusal.NegativeVote.{NegativeVote}
use Rattle.tree_step.specs.Changes.{MayChange, MayDo, MayHome, step_row}
use Rattle.tree_step.specs.Node.{IsInWindow, Node, data_of}
use Rattle.tree_step.specs.steps.Change.{Change, Still, Tree, Turn, Show, Sweep}
use Rattle.tree_step.specs.steps.PartsStep.{PartsStep}
use Rattle.letter_types.specs.declared.entries.Outgoing.{Outgoing}
use Rattle.tree_step.specs.declared.node.NodeParts.{NodeParts}
use Rattle.tree_step.specs.CoreChanges.{asked_with, core_step_row, epoch_with, holds_with, locks_with, numbers_of_nodes, refusals_with}
use Rattle.tree_step.proofs.Asking.{with_asked}
use Rattle.tree_step.specs.Core.{IsApart, core_of, core_with}
use Rattle.tree_step.specs.steps.CoreStep.{CoreStep}
use Rattle.tree_step.specs.declared.node_core.NodeCore.{NodeCore}

-- a node with these homes
abbrev pub with_homes : HomesData → NodeParts → NodeParts
with_homes h n = record n { homes = h }

-- a node with these counters
abbrev pub with_counters : CounterRows → NodeParts → NodeParts
with_counters k n = record n { counters = k }

-- if requests to these nodes are counted, and nothing else
pub asked_node : (n : NodeParts) (k : CounterRows) (v : ℕ) (qs rs : List NodeNo)
    → counts_of k ≡ with_asked v qs (counts_of n.counters) → qs ≡ rs
    → data_of (with_counters k n)
    ≡ record (data_of n) { counts = asked_all v (numbers_of_nodes rs) (counts_of n.counters).numbers }
asked_node n k v qs rs asked same =
    let all = asked ∙ ap (λ (xs : List NodeNo). with_asked v xs (counts_of n.counters)) same in
    λ i. record (data_of n) { counts = (all i).numbers }

pub asked_window : (n : NodeParts) (k : CounterRows) (v : ℕ) (qs : List NodeNo)
    → counts_of k ≡ with_asked v qs (counts_of n.counters) → IsInWindow n → IsInWindow (with_counters k n)
asked_window n k v qs asked w = record {
  low_read = w.low_read;
  low_update = w.low_update;
  read = w.read;
  update = w.update;
  items = w.items;
  counters = ap (λ (c : Counts). c.low) asked ∙ w.counters;
}

-- what is made of the parts, the locks, the negative votes and the held answers is the row
pub stepped : (p : CoreStep) (n : NodeCore) (mid parts : NodeParts) (locks : List Lock)
    (refusals : List (TreeNo × NegativeVote)) (out : StepOut)
    → made (data_of mid) out ≡ step_row p.parts (data_of n.parts)
    → data_of parts ≡ record (data_of mid) { counts = asked_with p.holds (data_of mid).counts }
    → locks ≡ locks_with p.votes n.locks
    → by_tree refusals ≡ refusals_with p.votes (by_tree n.refusals)
    → held_answers parts.homes ≡ holds_with p.holds (held_answers n.parts.homes)
    → made (core_with parts locks refusals (epoch_with p.epoch n.epoch)) out ≡ core_step_row p (core_of n)
stepped p n mid parts locks refusals out row asked locked noes held =
    let node = asked
    ∙ ap (λ (o : Out Node). record o.state { counts = asked_with p.holds o.state.counts }) row in
    λ i. record {
      state = record { node = node i; locks = locked i; holds = held i; refusals = noes i; epoch = epoch_with p.epoch n.epoch };
      sent = (row i).sent;
      acts = (row i).acts;
    }

-- then of no tree that is open an answer is held, if so says the row
pub apart : (now : Core) (out : StepOut) (o : Out Core) → made now out ≡ o → IsApart o.state → IsApart now
apart now out o row is = subst (λ (x : Out Core). IsApart x.state) (sym row) is

-- the table sees of the homes the open trees alone
pub same_open : (p : PartsStep) (n : NodeParts) (h : HomesData) → h.opened ≡ n.homes.opened
    → step_row p (data_of (with_homes h n)) ≡ step_row p (data_of n)
same_open p n h same = ap (λ (es : List (TreeNo × OpenTree)). step_row p (record (data_of n) { homes = by_tree es })) same

-- so what may be done is the same
pub same_window : (n : NodeParts) (h : HomesData) → IsInWindow n → IsInWindow (with_homes h n)
same_window n h w = record {
  low_read = w.low_read;
  low_update = w.low_update;
  read = w.read;
  update = w.update;
  items = w.items;
  counters = w.counters;
}

may_change : (c : Change) (sent : List Outgoing) (n : NodeParts) (h : HomesData) → h.opened ≡ n.homes.opened
    → MayChange c sent n → MayChange c sent (with_homes h n)
may_change Still sent n h same may = tt
may_change (Tree c) sent n h same may = record {
  counting = may.counting;
  items = may.items;
  home = subst (λ (es : List (TreeNo × OpenTree)). MayHome c.home (by_tree es)) (sym same) may.home;
}
may_change (Turn v) sent n h same may = may
may_change (Show v) sent n h same may = may
may_change (Sweep v) sent n h same may = may

pub may_same : (c : Change) (sent : List Outgoing) (n : NodeParts) (h : HomesData) → h.opened ≡ n.homes.opened
    → MayDo c sent n → MayDo c sent (with_homes h n)
may_same c sent n h same may = record {
  fits = may_change c sent n h same may.fits;
  small = may.small;
  window = same_window n h may.window;
}
