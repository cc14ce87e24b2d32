-- When a message is enabled, by its body.
use Rattle.std.specs.Prelude.{ℕ, Bool, true, false, not, ◌==◌, ◌&&◌, ◌||◌, nat_lt, Option, Some, None}
use Rattle.tv_base.specs.declared.numbers.SubNo.{SubNo}
use Rattle.tv_base.specs.declared.numbers.TreeNo.{TreeNo}
use Rattle.tv_base.specs.declared.numbers.Version.{Version}
use Rattle.letter_types.specs.declared.bodies.Body.{Body}
use Rattle.letter_types.specs.declared.bodies.Body.TheVariants.{Root, Sub as SubLetter, Done, Turn, Show, Sweep, AskDone, AskAsked, Decide, Decided, Release, Wake, Order, Ask}
use Rattle.letter_types.specs.declared.entries.Letter.{Letter}
use Rattle.tx_trees.specs.Counts.{has_strict}
use Rattle.tx_trees.specs.ScriptData.{ScriptData, home_of, node_of, subs_at, visits}
use Rattle.tx_trees.specs.declared.parts.TreeKind.{TreeKind}
use Rattle.tx_trees.specs.declared.parts.TreeKind.TheVariants.{Update, Read, Strict}
use Rattle.world_model.specs.Core.{Core}
use Rattle.world_model.specs.Decisions.{can_decide}
use Rattle.world_model.specs.Epochs.{is_core_timely}
use Rattle.world_model.specs.Named.{is_named, is_near, is_new, is_strict_at, tree_kind_at}
use Rattle.world_model.specs.Node.{Node}
use Rattle.world_model.specs.Reads.{can_read}
use Rattle.world_model.specs.Strict.{can_make_at, core_by_kind, decides_near, is_of_strict, is_unheld, kept_by_kind, read_core}
use Rattle.world_model.specs.Updates.{can_update}
use Rattle.tree_step.specs.Due.{is_due}
use Rattle.tree_step.specs.Core.{core_of}
use Rattle.tree_step.specs.declared.node_core.NodeCore.{NodeCore}
use Rattle.tree_step.specs.Node.{data_of}
use Rattle.nc_commit.specs.declared.decisions.Decision.{Decision}
use Rattle.node_machine.specs.Plans.{IsPlanBy, IsPlanWhere}
use Rattle.node_machine.specs.steps.ChosenStep.{ChosenStep}

-- whether a message of this sender and body is enabled at node p, if the script's kind of coordinator allows it
abbrev pub apt_by : ScriptData → ℕ → ℕ → Core → Body → Bool
apt_by s p from c body =
    (has_strict s || not (is_of_strict body))
    && (is_named s p from body
    && (is_new s c.node body && is_unheld body c.holds
    && (is_core_timely s c body && decides_near s c.node body && can_make_at s p c body)))

-- what a core does with a message that the script's kind of coordinator allows is planned
abbrev pub IsOwnPlan : ScriptData → Letter → NodeCore → ChosenStep → Type 0
IsOwnPlan s l n plan = IsPlanWhere (apt_by s l.to.0 l.from.0 (core_of n) l.body) s l n plan

-- a message that asks for a subtransaction
abbrev pub asks_a_sub : Body → Bool
asks_a_sub (Root t) = true
asks_a_sub (SubLetter t k v) = true
asks_a_sub _ = false

-- what it asks for of a tree of this kind may be made: a vote always
abbrev pub makes_by : ScriptData → Node → Body → Option TreeKind → Bool
makes_by s st body (Some Update) = can_update s st body
makes_by s st body (Some Read) = can_read s st body
makes_by s st body (Some Strict) = true
makes_by s st body None = false

-- a message that asks for a subtransaction of tree t is enabled
abbrev pub tree_apt : ScriptData → ℕ → ℕ → Core → TreeNo → Body → Bool
tree_apt s p from c t body =
    is_due s p c.node from body && (is_unheld body c.holds && makes_by s c.node body (tree_kind_at s t.0))

-- the plan of a subtransaction of tree t, of this kind, that is enabled by this test
abbrev pub IsKindPlan : ScriptData → Letter → TreeNo → Option TreeKind → Bool → NodeCore → ChosenStep → Type 0
IsKindPlan s l t kind test n plan =
    IsPlanBy test (kept_by_kind s (core_of n) t l.body kind) (core_by_kind s l.to.0 l.from.0 t l.body kind (core_of n)) n plan

-- if it is known to be due: it is enabled if it may be made
abbrev pub IsPlanOfKind : ScriptData → Letter → TreeNo → Option TreeKind → NodeCore → ChosenStep → Type 0
IsPlanOfKind s l t kind n plan = IsKindPlan s l t kind (makes_by s (data_of n.parts) l.body kind) n plan

-- a read tree is never deferred
abbrev pub IsReadPlan : ScriptData → Letter → NodeCore → ChosenStep → Type 0
IsReadPlan s l n plan =
    IsPlanBy (can_read s (data_of n.parts) l.body) None (read_core s l.to.0 l.from.0 l.body (core_of n)) n plan

-- whatever its kind
abbrev pub IsPlanOfTree : ScriptData → Letter → TreeNo → NodeCore → ChosenStep → Type 0
IsPlanOfTree s l t n plan =
    IsKindPlan s l t (tree_kind_at s t.0) (tree_apt s l.to.0 l.from.0 (core_of n) t l.body) n plan

-- a tree is there that may be told a decision at node p by a node
abbrev pub decides_here : ScriptData → ℕ → ℕ → TreeNo → Bool
decides_here s p from t = has_strict s && (visits (subs_at s t.0) p && nat_lt from s.nodes)

-- a decision on tree t is enabled
abbrev pub decide_apt : ScriptData → ℕ → ℕ → Core → TreeNo → Version → Bool → Bool
decide_apt s p from c t v commit =
    decides_here s p from t
    && (is_near c.node v && (is_strict_at s t.0 && can_decide s p t v commit c.node.items))

abbrev pub decide_apt_at : ScriptData → Letter → Decision → NodeCore → Bool
decide_apt_at s l d n = decide_apt s l.to.0 l.from.0 (core_of n) d.tree d.version d.commit

-- an acknowledgement of tree t comes from a node to the tree's home
abbrev pub acks_here : ScriptData → ℕ → ℕ → TreeNo → Bool
acks_here s p from t = has_strict s && ((home_of s t.0 == p) && nat_lt from s.nodes)

-- it is enabled
abbrev pub acked_apt : ScriptData → ℕ → ℕ → Core → TreeNo → Version → Bool
acked_apt s p from c t v = acks_here s p from t && is_near c.node v

-- that marks of tree t go is enabled
abbrev pub release_apt : ScriptData → ℕ → TreeNo → Bool
release_apt s p t = has_strict s && visits (subs_at s t.0) p

-- a Wake is enabled
abbrev pub wake_apt : ScriptData → ℕ → TreeNo → SubNo → Bool
wake_apt s p t k = has_strict s && (node_of s t.0 k.0 == p)

-- the messages that have a row of their own, or a test
abbrev pub is_own : Body → Bool
is_own (Root t) = true
is_own (SubLetter t k v) = true
is_own (Done t k v notice) = true
is_own (Turn v) = true
is_own (Show v) = true
is_own (Sweep v) = true
is_own (AskDone v k) = true
is_own (AskAsked v k) = true
is_own (Decide t v commit) = true
is_own (Decided t v) = true
is_own (Release t) = true
is_own (Wake t k) = true
is_own (Order e what v) = true
is_own (Ask e) = true
is_own _ = false
