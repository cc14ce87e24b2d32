-- Whether a message is one that node p takes. What its operations may do is said beside their rows.
use Rattle.std.specs.Prelude.{if◌then◌else◌, ℕ, ◌+◌, Bool, true, false, not, ◌==◌, ◌&&◌, nat_le, nat_lt, length, Option, Some, None, is_some, slice_get}
use Rattle.tv_base.specs.declared.numbers.Version.{Version}
use Rattle.item_versions.specs.Window.{in_window}
use Rattle.letter_types.specs.declared.bodies.Body.{Body}
use Rattle.letter_types.specs.declared.bodies.Body.TheVariants.{Root, Sub as SubLetter, Done, Turn, Show, Sweep, Decide, Decided, Release, Wake}
use Rattle.letter_types.specs.declared.bodies.Notice.{Notice}
use Rattle.letter_types.specs.declared.bodies.Notice.TheVariants.{Did}
use Rattle.tree_home.specs.Homes.{home_in}
use Rattle.script_parts.specs.ScriptData.{ScriptData, home_of, is_strict, node_of, subs_at, visits}
use Rattle.script_parts.specs.declared.parts.TreeKind.{TreeKind}
use Rattle.world_model.specs.Node.{Node}

-- the kind of a transaction of the script
abbrev pub tree_kind_at : ScriptData → ℕ → Option TreeKind
tree_kind_at s t = elim (slice_get s.trees t) [ Some tree ↦ Some tree.kind | None ↦ None ]

-- transaction t is there, and is strict
abbrev pub is_strict_at : ScriptData → ℕ → Bool
is_strict_at s t = elim (tree_kind_at s t) [ Some kind ↦ is_strict kind | None ↦ false ]

-- a notice tells that a subtransaction was done, and isn't a vote
abbrev pub is_did : Notice → Bool
is_did (Did values) = true
is_did _ = false

-- a strict transaction's notices are votes, and those of another transaction tell what was done
abbrev pub suits : Bool → Notice → Bool
suits strict notice = if strict then not (is_did notice) else is_did notice

-- what a message of this sender and body names is in the script and belongs to node p, which is one of the script's
-- nodes; so is a message that names no transaction
abbrev pub is_named : ScriptData → ℕ → ℕ → Body → Bool
is_named s p from (Root t) = home_of s t.0 == p
is_named s p from (SubLetter t k v) = (node_of s t.0 k.0 == p) && nat_lt from s.nodes
is_named s p from (Done t k v notice) =
    (home_of s t.0 == p)
    && (nat_lt k.0 (length (subs_at s t.0)) && (nat_lt from s.nodes && suits (is_strict_at s t.0) notice))
is_named s p from (Release t) = visits (subs_at s t.0) p
is_named s p from (Wake t k) = node_of s t.0 k.0 == p
is_named s p from (Decide t v commit) = is_strict_at s t.0 && (visits (subs_at s t.0) p && nat_lt from s.nodes)
is_named s p from (Decided t v) = (home_of s t.0 == p) && nat_lt from s.nodes
is_named s p from _ = true

-- a root's transaction isn't open at its home yet
abbrev pub is_new : ScriptData → Node → Body → Bool
is_new s st (Root t) = not (is_some (home_in t st.homes))
is_new s st _ = true

-- a version is one of those for which a node has counters and places
abbrev pub is_near : Node → Version → Bool
is_near st v = in_window st.turns.low.0 v.0

-- the version of a message is one that the node can go by now: what is counted in it, raised or shown to it is near,
-- and what is collected to it is neither lowered nor still read or updated
abbrev pub is_timely : ScriptData → Node → Body → Bool
is_timely s st (SubLetter t k v) = is_near st v
is_timely s st (Done t k v notice) = is_near st v
is_timely s st (Decide t v commit) = is_near st v
is_timely s st (Decided t v) = is_near st v
is_timely s st (Turn v) = nat_le v.0 (st.turns.low.0 + 2)
is_timely s st (Show v) = is_near st v
is_timely s st (Sweep v) = nat_le st.turns.low.0 v.0 && (nat_le v.0 st.turns.read.0 && nat_le v.0 st.turns.update.0)
is_timely s st _ = true
