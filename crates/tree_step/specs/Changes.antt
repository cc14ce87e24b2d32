-- How a node's parts change in a step, and when they may.
use Rattle.std.specs.Prelude.{◌≡◌, ◌<◌, ◌≤◌, ◌+◌, ⊤, if◌then◌else◌, List, [], ◌++◌, length, take, nat_le, All, IfOk, IsTrue, IsSome, None, OnErr, OnOk, Result}
use Rattle.tv_base.specs.declared.numbers.NoMemory.{NoMemory}
use Rattle.item_versions.specs.Table.{pending}
use Rattle.item_versions.specs.Window.{in_window, IsWindowedTable}
use Rattle.letter_types.specs.declared.entries.Outgoing.{Outgoing}
use Rattle.letter_types.specs.declared.entries.Step.{Step}
use Rattle.letter_types.specs.declared.entries.StepOut.{StepOut}
use Rattle.letter_types.specs.Steps.{Out, made}
use Rattle.node_versions.specs.Turns.{raised}
use Rattle.pair_counters.specs.Numbers.{AllBelow, Numbers, from_version, MOST_COUNT}
use Rattle.pair_counters.specs.Counts.{Counts}
use Rattle.pair_counters.specs.Rows.{counts_of}
use Rattle.tree_home.specs.Homes.{OpenTrees, begun, forgotten, home_in, misses, missing_in, noted, open_trees}
use Rattle.item_versions.specs.Collecting.{collected_all}
use Rattle.world_model.specs.Done.{TreeOut, counted_root, counted_sub, raised_if}
use Rattle.world_model.specs.Notices.{reply_letters}
use Rattle.tree_step.specs.Due.{is_left_behind}
use Rattle.tree_step.specs.Node.{IsInWindow, Node, data_of}
use Rattle.tree_step.specs.declared.node.NodeParts.{NodeParts}
use Rattle.tree_step.specs.declared.counting.Counting.{Counting}
use Rattle.tree_step.specs.steps.HomeChange.{HomeChange, Stay, Open, Note, Forget}
use Rattle.tree_step.specs.steps.TreeChange.{TreeChange}
use Rattle.tree_step.specs.steps.Change.{Change, Still, Tree, Turn, Show, Sweep}
use Rattle.tree_step.specs.steps.PartsStep.{PartsStep}
use Rattle.tree_step.specs.steps.TreeStep.{TreeStep}
use Rattle.tx_trees.specs.ScriptData.{ScriptData, client_of}
use Rattle.tree_step.specs.inside.Sent.{MOST_SENT}

-- the open trees afterwards
abbrev pub home_after : HomeChange → OpenTrees → OpenTrees
home_after Stay hs = hs
home_after (Open t n v values) hs = noted t (record { 0 = 0 }) values (begun t n v hs)
home_after (Note t k values) hs = noted t k values hs
home_after (Forget t) hs = forgotten t hs

-- what is opened isn't open yet and has more than one subtransaction and at most 64, what is noted is missing beside
-- another, and what is forgotten is open
abbrev pub MayHome : HomeChange → OpenTrees → Type 0
MayHome Stay hs = ⊤
MayHome (Open t n v values) hs = (1 < n) × (home_in t hs ≡ None) × (n ≤ 64)
MayHome (Note t k values) hs = IsTrue (misses t k hs) × (1 < missing_in t hs)
MayHome (Forget t) hs = IsSome (home_in t hs)

-- no tree is opened
abbrev pub OpensNoTree : HomeChange → Type 0
OpensNoTree (Open t n v values) = ⊥
OpensNoTree _ = ⊤

-- the requests that are counted: the first messages that are sent
abbrev pub requests : Counting → List Outgoing → List Outgoing
requests c sent = take c.asked sent

-- what is counted afterwards
abbrev pub counted : Counting → List Outgoing → Numbers → Numbers
counted c sent n =
    if c.root then counted_root c.version.0 c.from.0 (requests c sent) n
    else counted_sub c.version.0 c.from.0 (requests c sent) n

-- it is counted in a version that has rows, from a node and to nodes, and not of too many
pub record MayCount (c : Counting) (sent : List Outgoing) (k : Counts) : Type 0 where
  pub from : k.low ≤ c.version.0
  pub up_to : c.version.0 ≤ k.low + 2
  pub node : c.from.0 < k.nodes
  pub there : c.asked ≤ length sent
  pub nodes : All (λ (o : Outgoing). o.to.0 < k.nodes) (requests c sent)
  pub few : length (requests c sent) ≤ MOST_SENT

-- a node after a subtransaction or a notice
abbrev pub after_tree_change : TreeChange → List Outgoing → Node → Node
after_tree_change c sent st = record st {
  turns = raised_if c.raises c.counting.version.0 st.turns;
  items = pending c.staged st.items;
  counts = counted c.counting sent st.counts;
  homes = home_after c.home st.homes;
}

-- what is counted, staged and noted for a subtransaction fits the node
pub record MayChangeTree (c : TreeChange) (sent : List Outgoing) (n : NodeParts) : Type 0 where
  pub counting : MayCount c.counting sent (counts_of n.counters)
  pub items : IsWindowedTable n.turns.low.0 (pending c.staged n.items)
  pub home : MayHome c.home (open_trees n.homes)

-- a node after a step
abbrev pub after_change : Change → List Outgoing → Node → Node
after_change Still sent st = st
after_change (Tree c) sent st = after_tree_change c sent st
after_change (Turn v) sent st = record st { turns = raised v st.turns }
after_change (Show v) sent st = record st { turns = record st.turns { read = v } }
after_change (Sweep v) sent st = record st {
  turns = record st.turns { low = v };
  items = collected_all v st.items;
  counts = record { asked = from_version v.0 st.counts.asked; done = from_version v.0 st.counts.done };
}

-- a step that opens no tree
abbrev pub OpensNone : Change → Type 0
OpensNone (Tree c) = OpensNoTree c.home
OpensNone _ = ⊤

-- a change that fits the node: it leaves the node's versions in their window
abbrev pub MayChange : Change → List Outgoing → NodeParts → Type 0
MayChange Still sent n = ⊤
MayChange (Tree c) sent n = MayChangeTree c sent n
MayChange (Turn v) sent n = IsTrue (nat_le v.0 (n.turns.low.0 + 2))
MayChange (Show v) sent n = IsTrue (in_window n.turns.low.0 v.0)
MayChange (Sweep v) sent n = IsTrue (is_left_behind v n.turns)

-- a node may make a change beside which these messages go out
pub record MayDo (c : Change) (sent : List Outgoing) (n : NodeParts) : Type 0 where
  pub fits : MayChange c sent n
  pub small : AllBelow MOST_COUNT (counts_of n.counters).numbers
  pub window : IsInWindow n

-- a node, and what goes out, after a step, as a table's row
abbrev pub step_row : PartsStep → Node → Out Node
step_row p st = made (after_change p.change p.out.sent st) p.out

-- a step is this row of a node, and the node may do it
pub record IsNodeStepOf (o : Out Node) (n : NodeParts) (p : PartsStep) : Type 0 where
  pub row : step_row p (data_of n) ≡ o
  pub may : MayDo p.change p.out.sent n

-- the messages that are sent are just the requests that are counted
abbrev pub SendsRequests : Change → List Outgoing → Type 0
SendsRequests (Tree c) sent = c.counting.asked ≡ length sent
SendsRequests _ sent = sent ≡ []

-- the step of a tree's message, before the tree is answered, as a table's row
abbrev pub part_row : TreeStep → Node → TreeOut
part_row p st = record { out = step_row p.parts st; answered = p.answered }

-- it is this row of a node, the node may do it, and it sends no more than is counted
pub record IsTreePartOf (o : TreeOut) (n : NodeParts) (p : TreeStep) : Type 0 where
  pub row : part_row p (data_of n) ≡ o
  pub may : MayDo p.parts.change p.parts.out.sent n
  pub counted : SendsRequests p.parts.change p.parts.out.sent

-- a row with the answer to the client of script s behind what it sends
abbrev pub replied : ScriptData → TreeOut → Out Node
replied s o = record {
  state = o.out.state;
  sent = o.out.sent ++ reply_letters (client_of s) o.answered;
  acts = o.out.acts;
}

-- the same step with the answer to the client of script s behind what it sends: at any node its row is that of the
-- step with the answer, and a node that may do the one may do the other
pub record IsReplied (s : ScriptData) (part : TreeStep) (p : PartsStep) : Type 0 where
  pub row : (st : Node) → step_row p st ≡ replied s (part_row part st)
  pub may : (n : NodeParts) → MayDo part.parts.change part.parts.out.sent n → MayDo p.change p.out.sent n

-- what came of a step of a node: it was done, and the node afterwards and what goes out are this row; or no memory was
-- found, and the node is unchanged. The answers that it holds stay, it counts by as many nodes as before, and its
-- versions are in their window
pub record IsDone (o : Out Node) (old new : NodeParts) (r : Result StepOut NoMemory) : Type 0 where
  pub row : IfOk r (λ out. made (data_of new) out ≡ o)
  pub held : OnOk r (new.homes.held ≡ old.homes.held)
  pub nodes : OnOk r ((counts_of new.counters).nodes ≡ (counts_of old.counters).nodes)
  pub window : OnOk r (IsInWindow new)
  pub err : OnErr r (new ≡ old)

-- the same, with an equal copy of what goes out
pub record IsDoneTwice (o : Out Node) (old new : NodeParts) (r : Result Step NoMemory) : Type 0 where
  pub row : IfOk r (λ step. made (data_of new) step.given ≡ o)
  pub kept : IfOk r (λ step. step.kept ≡ step.given)
  pub held : OnOk r (new.homes.held ≡ old.homes.held)
  pub nodes : OnOk r ((counts_of new.counters).nodes ≡ (counts_of old.counters).nodes)
  pub window : OnOk r (IsInWindow new)
  pub err : OnErr r (new ≡ old)
