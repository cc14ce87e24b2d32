-- In every run the items of a node keep to the greatest magnitude: each subtransaction takes effect at most once, and all
-- that a valid script has on an item adds up to no more.
use Rattle.std.proofs.Common.{ℕ, ◌≡◌, ◌≤◌, ◌<◌, Bool, true, false, List, length, refl, subst, arith}
use Rattle.tv_base.proofs.ByPlace.{get_some}
use Rattle.commute_ops.specs.declared.kinds.TheConstants.{MOST_AMOUNT}
use Rattle.letter_types.specs.declared.entries.Entry.{Entry}
use Rattle.script_parts.proofs.SubsOf.{small_load}
use Rattle.script_parts.specs.ScriptData.{ScriptData, node_of}
use Rattle.script_parts.specs.Valid.{IsValid}
use Rattle.world_model.specs.AllApt.{AllApt}
use Rattle.world_model.specs.Named.{is_strict_at}
use Rattle.world_model.specs.Runs.{IsStepRun, node_in}
use Rattle.world_model.proofs.Scripts.{SubAt, get_below, tree_below}
use Rattle.tree_laws.specs.Effects.{effects}
use Rattle.tree_laws.proofs.decided.AptApplied.{applied_where_decided}
use Rattle.tree_laws.proofs.apt.AptBounds.{effect_bound, tables_keep}
use Rattle.tree_laws.proofs.decided.AptDecided.{decided_once}
use Rattle.tree_laws.proofs.apt.AptMakes.{node_in_script, node_visited}
use Rattle.tree_laws.proofs.apt.AptTurns.{turns_at_most_once}
use Rattle.tree_laws.proofs.loads.Loads.{trees_most}
use Rattle.tree_laws.proofs.loads.Tables.{TableIn, table_more}

once_by : (s : ScriptData) (past : List Entry) (t k : ℕ) (strict : Bool) → SubAt s t k → IsValid s → AllApt s past → IsStepRun s past
    → is_strict_at s t ≡ strict → effects s past t k ≤ 1
once_by s past t k true c valid apt run is =
    let lt = tree_below s t k c in
    rw is
    (omega (
      arith,
      applied_where_decided s past t (node_of s t k) true valid apt run lt (node_in_script s t k c valid) (node_visited s t k c),
      decided_once s past t valid apt run lt,
    ))
once_by s past t k false c valid apt run is = rw is (turns_at_most_once s past t k c valid apt run)

bound_most : (s : ScriptData) (past : List Entry) (x : ℕ) → IsValid s → AllApt s past → IsStepRun s past → x < length s.items
    → effect_bound s past x ≤ MOST_AMOUNT
bound_most s past x valid apt run lt =
    omega (
      arith,
      small_load s x valid lt,
      trees_most (effects s past) x 0 s.trees
          (λ u j tree at below.
          let sub = get_some tree.subs j below in
          let once = once_by s past u j (is_strict_at s u) (record { tree = tree; at = at; sub = sub.0; here = sub.1 }) valid apt run refl in
          subst (λ (w : ℕ). effects s past w j ≤ 1) (omega arith) once),
    )

pub bounded_items : (s : ScriptData) (past : List Entry) (p : ℕ) → IsValid s → AllApt s past → IsStepRun s past → p < s.nodes
    → TableIn s.items p (λ x. MOST_AMOUNT) (node_in s past p).items
bounded_items s past p valid apt run lt =
    table_more s.items p (effect_bound s past) (λ x. MOST_AMOUNT) (node_in s past p).items
    (λ x r at. bound_most s past x valid apt run (get_below s.items x r at)) (tables_keep s past valid apt run p lt)
