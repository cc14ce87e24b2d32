-- A step whose tree is opened before all else.
use Rattle.std.proofs.Common.{◌≡◌, ℕ, ◌<◌, ◌≤◌, ap, sym, subst, ◌∙◌, List, refl, Option, Some, None, arith}
use Rattle.std.specs.Prelude.{IsSome}
use Rattle.letter_types.specs.declared.entries.Outgoing.{Outgoing}
use Rattle.letter_types.specs.declared.entries.StepOut.{StepOut}
use Rattle.letter_types.specs.Steps.{made}
use Rattle.item_versions.specs.Window.{in_window}
use Rattle.node_versions.specs.declared.turns.Turns.{Turns}
use Rattle.tree_home.proofs.Maps.{put_at-same}
use Rattle.tree_home.specs.Homes.{HomesData, OpenTrees, begun, home_in, new_tree, noted, open_trees}
use Rattle.tree_home.specs.Maps.{by_tree}
use Rattle.tree_home.specs.declared.homes.OpenTree.{OpenTree}
use Rattle.tree_step.proofs.Begun.{more_missed, root_missed}
use Rattle.tree_step.specs.Changes.{MayChange, MayDo, MayHome, OpensNone, OpensNoTree, after_change, home_after}
use Rattle.tree_step.specs.Node.{Node, data_of}
use Rattle.tree_step.specs.steps.Change.{Change, Still, Tree, Turn, Show, Sweep}
use Rattle.tree_step.specs.steps.HomeChange.{HomeChange, Stay, Open, Note, Forget}
use Rattle.tree_step.specs.declared.node.NodeParts.{NodeParts}
use Rattle.tree_step.specs.CoreChanges.{MayAsk, after_parts_change, asked_with, core_step_row, epoch_with, holds_with, locks_with, refusals_with}
use Rattle.tree_step.specs.Core.{core_of}
use Rattle.tree_step.specs.steps.CoreStep.{CoreStep}
use Rattle.tree_step.specs.steps.HoldChange.{HoldChange}
use Rattle.tree_step.specs.steps.HoldChange as holds
use Rattle.tree_step.specs.steps.HoldChange.{Hold, Ack}
use Rattle.tree_step.specs.declared.doing.Opening.{Opening}
use Rattle.tree_step.specs.declared.node_core.NodeCore.{NodeCore}
use Rattle.tree_step.specs.inside.OnceOpen.{changed_once_open, home_once_open, once_open, opening_in, opening_of}
use Rattle.tree_step.proofs.Stepped.{same_window, with_homes}

-- once it is open, none is left to be opened
shut_of : (home : HomeChange) → OpensNoTree (home_once_open home)
shut_of (Open t n v values) = tt
shut_of Stay = tt
shut_of (Note t k values) = tt
shut_of (Forget t) = tt

pub shut : (c : Change) → OpensNone (changed_once_open c)
shut (Tree c) = shut_of c.home
shut Still = tt
shut (Turn v) = tt
shut (Show v) = tt
shut (Sweep v) = tt

-- a tree that is to be opened has more than one subtransaction and at most 64, and isn't open
abbrev pub IsShut : Opening → OpenTrees → Type 0
IsShut o hs = (1 < o.subs) × (home_in o.tree hs ≡ None) × (o.subs ≤ 64)

shut_by : (home : HomeChange) (o : Opening) (hs : OpenTrees) → opening_of home ≡ Some o → MayHome home hs → IsShut o hs
shut_by (Open t n v values) o hs is may =
    let same : record { tree = t; subs = n; version = v } ≡ o = cc in
    subst (λ (x : Opening). IsShut x hs) same may
shut_by Stay o hs is may = cc
shut_by (Note t k values) o hs is may = cc
shut_by (Forget t) o hs is may = cc

pub is_shut : (c : Change) (o : Opening) (sent : List Outgoing) (n : NodeParts) → opening_in c ≡ Some o → MayDo c sent n
    → IsShut o (open_trees n.homes)
is_shut (Tree c) o sent n is may = shut_by c.home o (open_trees n.homes) is may.fits.home
is_shut Still o sent n is may = cc
is_shut (Turn v) o sent n is may = cc
is_shut (Show v) o sent n is may = cc
is_shut (Sweep v) o sent n is may = cc

-- the home does the same in two parts
home_in_parts : (home : HomeChange) (o : Opening) (hs mid : OpenTrees) → opening_of home ≡ Some o
    → mid ≡ begun o.tree o.subs o.version hs → home_after (home_once_open home) mid ≡ home_after home hs
home_in_parts (Open t n v values) o hs mid is begin =
    let same : o ≡ record { tree = t; subs = n; version = v } = cc in
    ap (λ (x : OpenTrees). noted t (record { 0 = 0 }) values x)
    (begin ∙ ap (λ (x : Opening). begun x.tree x.subs x.version hs) same)
home_in_parts Stay o hs mid is begin = cc
home_in_parts (Note t k values) o hs mid is begin = cc
home_in_parts (Forget t) o hs mid is begin = cc

-- so does the node
pub made_by : (c : Change) (o : Opening) (n : NodeParts) (h : HomesData) (out : StepOut) → opening_in c ≡ Some o
    → open_trees h ≡ begun o.tree o.subs o.version (open_trees n.homes)
    → made (after_change (changed_once_open c) out.sent (data_of (with_homes h n))) out
    ≡ made (after_change c out.sent (data_of n)) out
made_by (Tree c) o n h out is begin =
    ap (λ (hs : OpenTrees). made (record (after_change (Tree c) out.sent (data_of n)) { homes = hs }) out)
    (home_in_parts c.home o (open_trees n.homes) (open_trees h) is begin)
made_by Still o n h out is begin = cc
made_by (Turn v) o n h out is begin = cc
made_by (Show v) o n h out is begin = cc
made_by (Sweep v) o n h out is begin = cc

-- a node whose homes have begun the tree
abbrev pub once_begun : HomesData → NodeCore → NodeCore
once_begun h n = record n { parts = with_homes h n.parts }

pub core_in_parts : (p : CoreStep) (o : Opening) (n : NodeCore) (h : HomesData)
    → opening_in p.parts.change ≡ Some o
    → open_trees h ≡ begun o.tree o.subs o.version (open_trees n.parts.homes) → h.held ≡ n.parts.homes.held
    → core_step_row (once_open p) (core_of (once_begun h n)) ≡ core_step_row p (core_of n)
core_in_parts p o n h is begin held =
    let row = made_by p.parts.change o n.parts h p.parts.out is begin in
    λ i. record {
      state = record {
        node = record (row i).state { counts = asked_with p.holds (row i).state.counts };
        locks = locks_with p.votes n.locks;
        holds = holds_with p.holds (by_tree (held i));
        refusals = refusals_with p.votes (by_tree n.refusals);
        epoch = epoch_with p.epoch n.epoch;
      };
      sent = (row i).sent;
      acts = (row i).acts;
    }

-- a tree that has begun is there
pub begun_there : (o : Opening) (hs mid : OpenTrees) → mid ≡ begun o.tree o.subs o.version hs → IsSome (home_in o.tree mid)
begun_there o hs mid begin =
    let P : Option OpenTree → Type 0 = λ x. IsSome x in
    subst P (sym (ap (λ (x : OpenTrees). home_in o.tree x) begin
    ∙ put_at-same o.tree.0 (Some (new_tree o.subs o.version)) hs)) refl

-- and it may
may_home : (home : HomeChange) (o : Opening) (hs mid : OpenTrees) → opening_of home ≡ Some o
    → mid ≡ begun o.tree o.subs o.version hs → MayHome home hs → MayHome (home_once_open home) mid
may_home (Open t n v values) o hs mid is begin may =
    let same : o ≡ record { tree = t; subs = n; version = v } = cc in
    let here : mid ≡ begun t n v hs = begin ∙ ap (λ (x : Opening). begun x.tree x.subs x.version hs) same in
    let more : 1 < n = may.0 in
    (root_missed t n v hs mid here (omega arith), more_missed t n v hs mid here more)
may_home Stay o hs mid is begin may = cc
may_home (Note t k values) o hs mid is begin may = cc
may_home (Forget t) o hs mid is begin may = cc

may_fit : (c : Change) (o : Opening) (sent : List Outgoing) (n : NodeParts) (h : HomesData) → opening_in c ≡ Some o
    → open_trees h ≡ begun o.tree o.subs o.version (open_trees n.homes)
    → MayChange c sent n → MayChange (changed_once_open c) sent (with_homes h n)
may_fit (Tree c) o sent n h is begin may = record {
  counting = may.counting;
  items = may.items;
  home = may_home c.home o (open_trees n.homes) (open_trees h) is begin may.home;
}
may_fit Still o sent n h is begin may = cc
may_fit (Turn v) o sent n h is begin may = cc
may_fit (Show v) o sent n h is begin may = cc
may_fit (Sweep v) o sent n h is begin may = cc

pub may_once_open : (c : Change) (o : Opening) (sent : List Outgoing) (n : NodeParts) (h : HomesData)
    → opening_in c ≡ Some o → open_trees h ≡ begun o.tree o.subs o.version (open_trees n.homes)
    → MayDo c sent n → MayDo (changed_once_open c) sent (with_homes h n)
may_once_open c o sent n h is begin may = record {
  fits = may_fit c o sent n h is begin may.fits;
  small = may.small;
  window = same_window n h may.window;
}

-- its low version stays
low_kept : (c : Change) (o : Opening) (sent : List Outgoing) (n : NodeParts) (h : HomesData) → opening_in c ≡ Some o
    → (after_change (changed_once_open c) sent (data_of (with_homes h n))).turns ≡ (after_change c sent (data_of n)).turns
low_kept (Tree c) o sent n h is = refl
low_kept Still o sent n h is = cc
low_kept (Turn v) o sent n h is = cc
low_kept (Show v) o sent n h is = cc
low_kept (Sweep v) o sent n h is = cc

ask_by : (holds : HoldChange) (nodes : ℕ) (st mid : Node) → mid.turns ≡ st.turns → MayAsk holds nodes st
    → MayAsk holds nodes mid
ask_by (Hold a visited) nodes st mid same may =
    (ap (λ (t : Turns). in_window t.low.0 a.version.0) same ∙ may.0, may.1, may.2)
ask_by holds.Stay nodes st mid same may = tt
ask_by (Ack t) nodes st mid same may = tt

pub ask_once_open : (p : CoreStep) (o : Opening) (nodes : ℕ) (n : NodeParts) (h : HomesData)
    → opening_in p.parts.change ≡ Some o → MayAsk p.holds nodes (after_parts_change p (data_of n))
    → MayAsk p.holds nodes (after_parts_change (once_open p) (data_of (with_homes h n)))
ask_once_open p o nodes n h is may =
    ask_by p.holds nodes (after_parts_change p (data_of n)) (after_parts_change (once_open p) (data_of (with_homes h n)))
    (low_kept p.parts.change o p.parts.out.sent n h is) may
