-- A node as the tests have it is ready for a message.
use Rattle.std.proofs.Common.{◌≡◌, ◌∙◌, ℕ, ◌<◌, [], ◌∷◌, ◌++◌, ap, sym, subst, arith}
use Rattle.tv_base.specs.declared.numbers.ItemNo.{ItemNo}
use Rattle.commute_ops.specs.declared.value.Value.{Value}
use Rattle.item_versions.specs.Table.{Table}
use Rattle.item_versions.specs.History.{new_held}
use Rattle.item_versions.specs.Window.{IsWindowedTable}
use Rattle.item_versions.proofs.Window.{IsWindowed-new}
use Rattle.node_versions.specs.declared.turns.Turns.{Turns}
use Rattle.pair_counters.specs.Counts.{Counts, no_counts}
use Rattle.pair_counters.specs.Numbers.{AllBelow, MOST_COUNT}
use Rattle.pair_counters.specs.Rows.{CounterRows, counts_of}
use Rattle.tree_home.specs.Homes.{HomesData}
use Rattle.tx_trees.specs.ScriptData.{ScriptData}
use Rattle.tree_step.specs.Node.{IsReady, state_of}

-- the versions of a node as a run begins
abbrev pub first_turns : Turns
first_turns = record { update = record { 0 = 1 }; read = record { 0 = 0 }; low = record { 0 = 0 } }

-- with items in version 0 alone, and nothing counted
pub fresh_ready : (s : ScriptData) (p : ℕ) (items : Table) (c : CounterRows) (homes : HomesData) → p < s.nodes
    → IsWindowedTable 0 items → counts_of c ≡ no_counts s.nodes → IsReady s p (state_of first_turns items c homes)
fresh_ready s p items c homes there fits empty = record {
  there = there;
  script = ap (λ (k : Counts). k.nodes) empty;
  small = subst (λ (k : Counts). AllBelow MOST_COUNT k.numbers) (sym empty) (λ v q. (omega arith, omega arith));
  window = record {
    low_read = omega arith;
    low_update = omega arith;
    read = omega arith;
    update = omega arith;
    items = fits;
    counters = ap (λ (k : Counts). k.low) empty;
  };
}

-- one item of version 0
pub one_item : (n : ItemNo) (w : Value) (t u : Table) → t ≡ [] → u ≡ t ++ (n, new_held w) ∷ [] → IsWindowedTable 0 u
one_item n w t u empty is =
    subst (λ (x : Table). IsWindowedTable 0 x) (sym (is ∙ ap (λ (x : Table). x ++ (n, new_held w) ∷ []) empty))
    (IsWindowed-new w, tt)
