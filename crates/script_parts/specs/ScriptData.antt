-- What a script holds, and how its transactions are looked up.
use Rattle.std.specs.Prelude.{if◌then◌else◌, ℕ, zero, suc, ◌+◌, Bool, true, false, ◌==◌, List, [], ◌∷◌, ◌++◌, Option, Some, None, slice_get}
use Rattle.std.specs.List.{list_any}
use Rattle.script_parts.specs.declared.parts.Form.{Form}
use Rattle.script_parts.specs.declared.parts.ItemRow.{ItemRow}
use Rattle.script_parts.specs.declared.parts.Tree.{Tree}
use Rattle.script_parts.specs.declared.parts.Sub.{Sub}
use Rattle.script_parts.specs.declared.parts.SubOp.{SubOp}
use Rattle.script_parts.specs.declared.parts.ScriptRow.{ScriptRow}
use Rattle.script_parts.specs.declared.parts.TreeKind.{TreeKind}
use Rattle.script_parts.specs.declared.parts.TreeKind.TheVariants.{Update, Read, Strict}

-- a script: its items, its transactions and their subtransactions are named by their places, from 0
pub record ScriptData : Type 0 where
  pub form : Form
  pub nodes : ℕ
  pub items : List ItemRow
  pub trees : List Tree
  pub rows : List ScriptRow
  pub picks : List ℕ
  -- whether the last record was a tree, `sub` or operation row
  pub begun : Bool

-- the client's number: the nodes come first, then the coordinator, then the client
abbrev pub client_of : ScriptData → ℕ
client_of s = s.nodes + 1

-- the subtransactions of transaction t, of which there are none if it isn't there
abbrev pub subs_at : ScriptData → ℕ → List Sub
subs_at s t = elim (slice_get s.trees t) [ Some tree ↦ tree.subs | None ↦ [] ]

abbrev pub sub_at : ScriptData → ℕ → ℕ → Option Sub
sub_at s t k = slice_get (subs_at s t) k

-- the node of subtransaction k of transaction t; if it isn't there, the number of nodes, which is no node
abbrev pub node_of : ScriptData → ℕ → ℕ → ℕ
node_of s t k = elim (sub_at s t k) [ Some sub ↦ sub.node.0 | None ↦ s.nodes ]

-- a transaction's home is its root's node
abbrev pub home_of : ScriptData → ℕ → ℕ
home_of s t = node_of s t 0

abbrev pub ops_of : ScriptData → ℕ → ℕ → List SubOp
ops_of s t k = elim (sub_at s t k) [ Some sub ↦ sub.ops | None ↦ [] ]

abbrev pub is_update : TreeKind → Bool
is_update Update = true
is_update _ = false

abbrev pub is_strict : TreeKind → Bool
is_strict Strict = true
is_strict _ = false

-- transaction t is there, and is an update transaction
abbrev pub updates : ScriptData → ℕ → Bool
updates s t = elim (slice_get s.trees t) [ Some tree ↦ is_update tree.kind | None ↦ false ]

abbrev pub is_read : TreeKind → Bool
is_read Read = true
is_read _ = false

-- transaction t is there, and is a read transaction
abbrev pub reads : ScriptData → ℕ → Bool
reads s t = elim (slice_get s.trees t) [ Some tree ↦ is_read tree.kind | None ↦ false ]

-- subtransaction k is there, and has this parent
abbrev pub is_child : List Sub → ℕ → ℕ → Bool
is_child subs parent k = elim (slice_get subs k) [ Some sub ↦ sub.parent.0 == parent | None ↦ false ]

-- one of the subtransactions is at the node
abbrev pub visits : List Sub → ℕ → Bool
visits subs node = list_any (λ sub. sub.node.0 == node) subs

-- of nodes 0 to n - 1 those that the subtransactions visit
abbrev pub visited : List Sub → ℕ → List ℕ
visited subs zero = []
visited subs (suc n) = visited subs n ++ (if visits subs n then n ∷ [] else [])

-- the nodes that transaction t visits
abbrev pub visited_by : ScriptData → ℕ → List ℕ
visited_by s t = visited (subs_at s t) s.nodes
