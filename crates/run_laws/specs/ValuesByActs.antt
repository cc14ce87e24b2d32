-- What a node's own acts make of its items, in runs of every script.
use Rattle.std.specs.Prelude.{if◌then◌else◌, ℕ, ◌==◌, ◌&&◌, ◌<◌, ◌≤◌, ◌≡◌, List, fold, reverse, Some, slice_get}
use Rattle.commute_ops.specs.declared.value.Value.{Value}
use Rattle.letter_types.specs.declared.acts.Act.{Act}
use Rattle.letter_types.specs.declared.acts.Act.TheVariants.{Did, Applied}
use Rattle.letter_types.specs.declared.entries.Entry.{Entry}
use Rattle.script_parts.specs.ScriptData.{ScriptData, ops_of, subs_at, updates}
use Rattle.script_parts.specs.Valid.{IsValid}
use Rattle.script_parts.specs.declared.parts.ItemRow.{ItemRow}
use Rattle.world_model.specs.AllApt.{AllApt}
use Rattle.world_model.specs.Decisions.{ops_at}
use Rattle.world_model.specs.Named.{is_strict_at}
use Rattle.world_model.specs.Runs.{IsStepRun, node_in}
use Rattle.board_rules.specs.Histories.{Place, places_of, version_in}
use Rattle.board_rules.specs.Worth.{after_ops, first_value}
use Rattle.tree_laws.specs.SeenAt.{is_up_to, seen_at}

-- among these acts, the value of item x after an act of node p: a Did of an update transaction of version at most v
-- applies its operations, and the Applied of a strict transaction of version at most v that commits applies those that
-- the transaction has at p
abbrev pub value_by_act : ScriptData → List Place → ℕ → ℕ → ℕ → Value → Act → Value
value_by_act s zs p x v w (Did t k values) = if updates s t.0 && is_up_to v (version_in t.0 zs) then after_ops x (ops_of s t.0 k.0) w else w
value_by_act s zs p x v w (Applied t commit) =
    if commit && (is_strict_at s t.0 && is_up_to v (version_in t.0 zs)) then after_ops x (ops_at p (subs_at s t.0)) w else w
value_by_act s zs p x v w _ = w

abbrev pub value_by_place : ScriptData → List Place → ℕ → ℕ → ℕ → Value → Place → Value
value_by_place s zs p x v w y = if y.node == p then value_by_act s zs p x v w y.act else w

-- the initial value of item x, folded over the acts of node p among these, in order
abbrev pub value_by_acts : ScriptData → List Place → ℕ → ℕ → ℕ → Value
value_by_acts s zs p x v = fold (value_by_place s zs p x v) (first_value (slice_get s.items x)) zs

-- each node sees of each of its items, in each version from its low version
-- up, what its own acts have made of it
abbrev pub SeesByActs : Type 0
SeesByActs = (s : ScriptData) (past : List Entry) (p x v : ℕ) (r : ItemRow) → IsValid s → AllApt s past
    → IsStepRun s past → p < s.nodes → slice_get s.items x ≡ Some r → r.node.0 ≡ p → (node_in s past p).turns.low.0 ≤ v
    → seen_at s past p x v ≡ Some (value_by_acts s (places_of (reverse past)) p x v)
