-- What a node keeps for commuting transactions, as its table sees it, and how it begins.
use Rattle.std.specs.Prelude.{if◌then◌else◌, ℕ, ◌==◌, ◌+◌, List, [], ◌∷◌}
use Rattle.commute_ops.specs.Ops.{value_start}
use Rattle.item_versions.specs.Table.{Table}
use Rattle.node_versions.specs.Turns.{turns_start as first_turns}
use Rattle.node_versions.specs.declared.turns.Turns.{Turns}
use Rattle.pair_counters.specs.Numbers.{Numbers, none}
use Rattle.letter_types.specs.declared.bodies.Notice.{Notice}
use Rattle.script_parts.specs.ScriptData.{ScriptData}
use Rattle.script_parts.specs.declared.parts.ItemRow.{ItemRow}
use Rattle.tree_home.specs.Homes.{OpenTrees, no_trees}

-- its versions, its items by number, its requests and completions, and the transactions whose notices it gathers
pub record Node : Type 0 where
  pub turns : Turns
  pub items : Table
  pub counts : Numbers
  pub homes : OpenTrees

-- the items at node p, if the list begins with item x: each in version 0 with its initial value
abbrev pub items_at : ℕ → ℕ → List ItemRow → Table
items_at p x [] = []
items_at p x (r ∷ rs) =
    if r.node.0 == p
    then (record { 0 = x }, (record { 0 = 0 }, value_start r.kind r.initial) ∷ []) ∷ items_at p (x + 1) rs
    else items_at p (x + 1) rs

-- node p as a run begins
abbrev pub start_node : ScriptData → ℕ → Node
start_node s p = record { turns = first_turns; items = items_at p 0 s.items; counts = none; homes = no_trees }

-- what the operations of a subtransaction make: the items, and what its transaction's home is told of it
pub record Effect : Type 0 where
  pub items : Table
  pub notice : Notice
