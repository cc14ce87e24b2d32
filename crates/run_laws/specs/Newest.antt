-- What is held of items that a strict transaction holds, in runs of every script.
use Rattle.std.specs.Prelude.{ℕ, true, ◌<◌, ◌≤◌, ◌≡◌, max, List, reverse, Some}
use Rattle.std.specs.List.{AllByRecursion}
use Rattle.tv_base.specs.declared.numbers.Version.{Version}
use Rattle.letter_types.specs.declared.entries.Entry.{Entry}
use Rattle.item_versions.specs.Item.{Held}
use Rattle.item_versions.specs.Table.{item_in}
use Rattle.nc_locks.specs.declared.modes.Lock.{Lock}
use Rattle.nc_locks.specs.declared.modes.Mode.TheVariants.{Hold}
use Rattle.nc_locks.specs.Locks.{has_lock}
use Rattle.script_parts.specs.ScriptData.{ScriptData}
use Rattle.script_parts.specs.Valid.{IsValid}
use Rattle.world_model.specs.AllApt.{AllApt}
use Rattle.world_model.specs.Named.{is_strict_at}
use Rattle.world_model.specs.Node.{Node}
use Rattle.world_model.specs.Runs.{IsStepRun, keeping_in, node_in}
use Rattle.board_rules.specs.Histories.{Place, places_of, version_in}

-- the transaction of this lock is strict and born, and each version that the node holds of the lock's item is at most
-- the transaction's, or at most the node's low version
pub record IsNewest (s : ScriptData) (xs : List Place) (st : Node) (l : Lock) : Type 0 where
  pub strict : is_strict_at s l.tree.0 ≡ true
  pub version : Version
  pub born : version_in l.tree.0 xs ≡ Some version
  pub most : (h : Held) → item_in l.item st.items ≡ Some h → AllByRecursion (λ x. x.0.0 ≤ max st.turns.low.0 version.0) h

-- nothing newer is held of an item than the transaction that holds it
abbrev pub NewestUnderHolds : Type 0
NewestUnderHolds = (s : ScriptData) (past : List Entry) (p : ℕ) (l : Lock) → IsValid s → AllApt s past
    → IsStepRun s past → p < s.nodes → has_lock l (keeping_in s past p).core.locks ≡ true → l.mode ≡ Hold
    → IsNewest s (places_of (reverse past)) (node_in s past p) l
