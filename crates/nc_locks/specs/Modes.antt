-- The modes in which transactions lock items, and which of them are compatible.
use Rattle.std.specs.Prelude.{ℕ, Bool, true, false}
use Rattle.nc_locks.specs.declared.modes.Mode.{Mode}
use Rattle.nc_locks.specs.declared.modes.Mode.TheVariants.{Mark, Look, Hold}

-- marks are compatible with marks, and looks with looks; every other pair conflicts
abbrev pub modes_conflict : Mode → Mode → Bool
modes_conflict Mark Mark = false
modes_conflict Look Look = false
modes_conflict _ _ = true

-- the place of a mode in the order of the modes
abbrev pub mode_rank : Mode → ℕ
mode_rank Mark = 0
mode_rank Look = 1
mode_rank Hold = 2
