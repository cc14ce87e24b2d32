-- A node that obeys the coordinator stays in its window, and does its row.
use Rattle.std.proofs.Common.{◌≡◌, ℕ, true, ◌≤◌, ap, subst, sym, ◌∙◌, arith}
use Rattle.std.specs.Prelude.{◌&&◌, nat_le, max}
use Rattle.std.proofs.lemmas.Bool.Decides.{nat_tests}
use Rattle.tv_base.specs.declared.numbers.Version.{Version}
use Rattle.tv_base.proofs.Truths.{left_true, right_true}
use Rattle.item_versions.specs.Table.{Table}
use Rattle.item_versions.specs.Window.{IsWindowedTable}
use Rattle.node_versions.specs.declared.turns.Turns.{Turns}
use Rattle.pair_counters.specs.Counts.{Counts, dropped_below}
use Rattle.pair_counters.specs.Rows.{CounterRows, counts_of}
use Rattle.item_versions.specs.Collecting.{collected_all, may_collect_all}
use Rattle.item_versions.proofs.Window.{may_collect_all-windowed}
use Rattle.version_collect.proofs.Collected.{IsWindowedTable-collected_all}
use Rattle.tree_step.specs.Due.{is_left_behind}
use Rattle.tree_step.specs.Node.{IsInWindow, state_of}
use Rattle.tree_step.specs.declared.node.NodeParts.{NodeParts}

-- a number is at most another if the test says so
at_most : (m n : ℕ) → nat_le m n ≡ true → m ≤ n
at_most m n is = grind (arith, nat_tests)

-- what the test of a version to collect to says
pub record IsLeftBehind (n : NodeParts) (v : Version) : Type 0 where
  pub low : n.turns.low.0 ≤ v.0
  pub read : v.0 ≤ n.turns.read.0
  pub update : v.0 ≤ n.turns.update.0

pub left_behind : (n : NodeParts) (v : Version) → is_left_behind v n.turns ≡ true → IsLeftBehind n v
left_behind n v is =
    let rest = right_true (nat_le n.turns.low.0 v.0) (nat_le v.0 n.turns.read.0 && nat_le v.0 n.turns.update.0) is in
    record {
      low = at_most n.turns.low.0 v.0
          (left_true (nat_le n.turns.low.0 v.0) (nat_le v.0 n.turns.read.0 && nat_le v.0 n.turns.update.0) is);
      read = at_most v.0 n.turns.read.0
          (left_true (nat_le v.0 n.turns.read.0) (nat_le v.0 n.turns.update.0) rest);
      update = at_most v.0 n.turns.update.0
          (right_true (nat_le v.0 n.turns.read.0) (nat_le v.0 n.turns.update.0) rest);
    }

-- its items may be collected to it
pub left_may_collect : (n : NodeParts) (v : Version) → IsInWindow n → is_left_behind v n.turns ≡ true
    → may_collect_all v n.items ≡ true
left_may_collect n v win is = may_collect_all-windowed n.turns.low.0 v n.items (left_behind n v is).low win.items

later_low : (a low v : ℕ) → a ≡ low → low ≤ v → max a v ≡ v
later_low a low v is le = omega arith

-- and the window begins with it then
pub swept_window : (n : NodeParts) (v : Version) (turns : Turns) (items : Table) (next : CounterRows)
    → IsInWindow n → is_left_behind v n.turns ≡ true → turns ≡ record n.turns { low = v }
    → items ≡ collected_all v n.items → counts_of next ≡ dropped_below v.0 (counts_of n.counters)
    → IsInWindow (state_of turns items next n.homes)
swept_window n v turns items next win timely turned is dropped =
    let left = left_behind n v timely in
    subst (λ (t : Turns). IsInWindow (state_of t items next n.homes)) (sym turned) (record {
      low_read = left.read;
      low_update = left.update;
      read = omega (arith, left.low, win.read);
      update = omega (arith, left.low, win.update);
      items = subst (λ (t : Table). IsWindowedTable v.0 t) (sym is)
          (IsWindowedTable-collected_all n.turns.low.0 v n.items left.low win.items);
      counters = ap (λ (k : Counts). k.low) dropped
          ∙ later_low (counts_of n.counters).low n.turns.low.0 v.0 win.counters left.low;
    })
