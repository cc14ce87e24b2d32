-- Orders and questions of a coordinator that forgets: each is of one of its epochs, and an order stands for one of a coordinator
-- that remembers.
use Rattle.std.specs.Prelude.{if◌then◌else◌, ℕ, Bool, true, not, ◌&&◌, ◌||◌, nat_lt}
use Rattle.tv_base.specs.declared.numbers.Version.{Version}
use Rattle.letter_types.specs.declared.bodies.Body.{Body}
use Rattle.letter_types.specs.declared.bodies.Body.TheVariants.{Ask, Lose, AdvanceNo, Numbers, Obeyed, Order, Wanted, Turn, Show, Sweep, Turned, Shown, Swept, Advance}
use Rattle.letter_types.specs.declared.bodies.What.{What}
use Rattle.letter_types.specs.declared.bodies.What.TheVariants as whats
use Rattle.letter_types.specs.Steps.{Out, still}
use Rattle.script_parts.specs.ScriptData.{ScriptData}
use Rattle.world_model.specs.Advancing.{advancing_row, to_coordinator}
use Rattle.world_model.specs.Core.{Core, in_core}
use Rattle.script_parts.specs.Counts.{is_lossy}
use Rattle.world_model.specs.Node.{Node}
use Rattle.world_model.specs.Named.{is_timely}
use Rattle.world_model.specs.Apt.{is_widely_timely}

-- a message is none of the kind of coordinator that the script doesn't run: these are of, or to, one that forgets, and
-- then one that remembers
abbrev pub suits_coordinator : ScriptData → Body → Bool
suits_coordinator s Lose = is_lossy s
suits_coordinator s (AdvanceNo i) = is_lossy s
suits_coordinator s (Ask e) = is_lossy s
suits_coordinator s (Numbers e u r l) = is_lossy s
suits_coordinator s (Wanted e k) = is_lossy s
suits_coordinator s (Order e what v) = is_lossy s
suits_coordinator s (Obeyed e what v) = is_lossy s
suits_coordinator s Advance = not (is_lossy s)
suits_coordinator s (Turn v) = not (is_lossy s)
suits_coordinator s (Show v) = not (is_lossy s)
suits_coordinator s (Sweep v) = not (is_lossy s)
suits_coordinator s (Turned v) = not (is_lossy s)
suits_coordinator s (Shown v) = not (is_lossy s)
suits_coordinator s (Swept v) = not (is_lossy s)
suits_coordinator s _ = true

-- the order for which it stands
abbrev pub plain_order : What → Version → Body
plain_order whats.Turn v = Turn v
plain_order whats.Show v = Show v
plain_order whats.Sweep v = Sweep v

-- it was obeyed before: the version that it raises isn't less
abbrev pub was_obeyed : What → Version → Node → Bool
was_obeyed whats.Turn v st = not (nat_lt st.turns.update.0 v.0)
was_obeyed whats.Show v st = not (nat_lt st.turns.read.0 v.0)
was_obeyed whats.Sweep v st = not (nat_lt st.turns.low.0 v.0)

-- it does what it stands for: it isn't of an epoch before the node's, and wasn't obeyed before
abbrev pub is_obeyed_now : ℕ → What → Version → Core → Bool
is_obeyed_now e what v c = not (nat_lt e c.epoch) && not (was_obeyed what v c.node)

-- the node has heard of the epoch, and tells this
abbrev pub heard_in : ScriptData → ℕ → Body → Out Core → Out Core
heard_in s e answer out = record { state = record out.state { epoch = e }; sent = to_coordinator s answer; acts = out.acts }

-- an order is left if it is of an epoch before the node's, and else obeyed, if it wasn't before
abbrev pub order_core : ScriptData → ℕ → What → Version → Core → Out Core
order_core s e what v c =
    if nat_lt e c.epoch then still c
    else heard_in s e (Obeyed e what v) (if was_obeyed what v c.node then still c else in_core c (advancing_row s (plain_order what v) c.node))

-- a node that is asked tells its three versions, unless the question is of an epoch before its own
abbrev pub ask_core : ScriptData → ℕ → Core → Out Core
ask_core s e c =
    if nat_lt e c.epoch then still c
    else heard_in s e (Numbers e c.node.turns.update c.node.turns.read c.node.turns.low) (still c)

-- the version of a message is one that the node can go by now: an order of an epoch before the node's always is, any
-- other if the order is for which it stands
abbrev pub is_core_timely : ScriptData → Core → Body → Bool
is_core_timely s c (Order e what v) = nat_lt e c.epoch || is_timely s c.node (plain_order what v)
is_core_timely s c body = is_timely s c.node body

abbrev pub is_widely_core_timely : ScriptData → Core → Body → Bool
is_widely_core_timely s c (Order e what v) = nat_lt e c.epoch || is_widely_timely s c.node (plain_order what v)
is_widely_core_timely s c body = is_widely_timely s c.node body
