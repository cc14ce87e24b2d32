-- Why a node with strict transactions defers a message.
use Rattle.std.specs.Prelude.{◌≡◌, true, false, Some}
use Rattle.tv_base.specs.declared.numbers.SubNo.{SubNo}
use Rattle.tv_base.specs.declared.numbers.TreeNo.{TreeNo}
use Rattle.letter_types.specs.declared.bodies.Body.{Body}
use Rattle.letter_types.specs.declared.kept.KeepReason.{KeepReason}
use Rattle.letter_types.specs.declared.kept.KeepReason.TheVariants.{ForShow, ForHolder, Called}
use Rattle.nc_locks.specs.declared.modes.Lock.{Lock}
use Rattle.nc_locks.specs.declared.modes.Met.{Met}
use Rattle.nc_locks.specs.declared.modes.Mode.TheVariants.{Mark}
use Rattle.nc_locks.specs.Locks.{has_lock}
use Rattle.nc_locks.specs.Modes.{modes_conflict}
use Rattle.script_parts.specs.ScriptData.{ScriptData, ops_of, updates}
use Rattle.world_model.specs.Core.{Core}
use Rattle.world_model.specs.Named.{is_strict_at}
use Rattle.world_model.specs.Strict.{CoreKeeping, core_keeping, is_born_now, meets}

-- until a version is shown only the root of a strict transaction is deferred, if it can't be born now; until a
-- transaction lets go only a subtransaction of an update transaction, which meets a lock of that transaction; and none
-- because it is called
abbrev pub IsKeptFor : ScriptData → Core → TreeNo → SubNo → KeepReason → Type 0
IsKeptFor s c t k ForShow = (is_strict_at s t.0 ≡ true) × (k.0 ≡ 0) × (is_born_now c.node ≡ false)
IsKeptFor s c t k (ForHolder h) = (updates s t.0 ≡ true) × (m : Met) × (meets s t (ops_of s t.0 k.0) c ≡ Some m) × (m.holder ≡ h)
IsKeptFor s c t k Called = ⊥

-- each message that is deferred has such a reason: so no message of a read transaction ever is
abbrev pub KeptForAReason : Type 0
KeptForAReason = (s : ScriptData) (c : Core) (body : Body) (k : CoreKeeping) → core_keeping s c body ≡ Some k
    → IsKeptFor s c k.tree k.sub k.why

-- transaction t has a lock there that is in the way of a mark
pub record Holds (c : Core) (t : TreeNo) : Type 0 where
  pub lock : Lock
  pub there : has_lock lock c.locks ≡ true
  pub tree : lock.tree ≡ t
  pub firm : modes_conflict Mark lock.mode ≡ true
