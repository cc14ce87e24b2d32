-- The locks that operations need on their items.
use Rattle.std.specs.Prelude.{List, map}
use Rattle.script_parts.specs.declared.parts.Deed.{Deed}
use Rattle.script_parts.specs.declared.parts.Deed.TheVariants.{Apply, Get, Set, Draw}
use Rattle.script_parts.specs.declared.parts.SubOp.{SubOp}
use Rattle.nc_locks.specs.declared.modes.Mode.{Mode}
use Rattle.nc_locks.specs.declared.modes.Mode.TheVariants.{Mark, Look, Hold}
use Rattle.nc_locks.specs.Locks.{Wanted}

-- how a transaction has the item of an operation: a commuting one marks it, a get looks at it, and a set or a draw
-- holds it
abbrev pub mode_wanted : Deed → Mode
mode_wanted (Apply op) = Mark
mode_wanted Get = Look
mode_wanted (Set n) = Hold
mode_wanted (Draw n) = Hold

abbrev pub wanted_by : List SubOp → Wanted
wanted_by os = map (λ o. (o.item, mode_wanted o.deed)) os
