-- What the code tests of a message before it looks at operations.
use Rattle.std.specs.Prelude.{ℕ, ◌+◌, ◌==◌, Bool, true, false, ◌&&◌, nat_le, nat_lt, length}
use Rattle.tv_base.specs.declared.numbers.SubNo.{SubNo}
use Rattle.tv_base.specs.declared.numbers.TreeNo.{TreeNo}
use Rattle.tv_base.specs.declared.numbers.Version.{Version}
use Rattle.item_versions.specs.Window.{in_window}
use Rattle.letter_types.specs.declared.bodies.Body.{Body}
use Rattle.letter_types.specs.declared.bodies.Body.TheVariants.{Root, Sub as SubLetter, Done}
use Rattle.letter_types.specs.declared.bodies.What.{What}
use Rattle.letter_types.specs.declared.bodies.What.TheVariants as whats
use Rattle.node_versions.specs.declared.turns.Turns.{Turns}
use Rattle.tx_trees.specs.ScriptData.{ScriptData, home_of, subs_at}
use Rattle.tree_step.specs.Node.{Node}
use Rattle.world_model.specs.Named.{is_named, is_new, is_timely}

-- the messages of a tree that a node's parts have a row for
abbrev pub has_row : Body → Bool
has_row (Root t) = true
has_row (SubLetter t k v) = true
has_row (Done t k v notice) = true
has_row _ = false

-- one of them that is named, new and timely
abbrev pub is_due : ScriptData → ℕ → Node → ℕ → Body → Bool
is_due s p st from body = has_row body && (is_named s p from body && (is_new s st body && is_timely s st body))

-- node p is the home of tree t, which has subtransaction k, and a node sent the notice
abbrev pub is_notice_for : ScriptData → ℕ → ℕ → TreeNo → SubNo → Bool
is_notice_for s p from t k = (home_of s t.0 == p) && (nat_lt k.0 (length (subs_at s t.0)) && nat_lt from s.nodes)

-- a node of these versions may collect to v: neither the version that is read nor the one that is updated is below it
abbrev pub is_left_behind : Version → Turns → Bool
is_left_behind v turns = nat_le turns.low.0 v.0 && (nat_le v.0 turns.read.0 && nat_le v.0 turns.update.0)

-- a node of these versions can go by the version of an order, as the message of the order is timely there
abbrev pub can_obey : What → Version → Turns → Bool
can_obey whats.Turn v turns = nat_le v.0 (turns.low.0 + 2)
can_obey whats.Show v turns = in_window turns.low.0 v.0
can_obey whats.Sweep v turns = is_left_behind v turns
