-- Tests of what a node told. These are the definitions that private code alone cites.
use Rattle.std.specs.Prelude.{Bool, Option}
use Rattle.world_model.specs.declared.restarting.Told.{Told}
use Rattle.world_model.specs.Restarting.{low_differs, read_is, update_is}
use Rattle.coord_restart.specs.declared.tellings.Test.{Test}
use Rattle.coord_restart.specs.declared.tellings.Test.TheVariants.{LowDiffers, ReadIs, UpdateIs}

abbrev pub passes : Test → Option Told → Bool
passes (LowDiffers f) = low_differs f
passes (ReadIs v) = read_is v
passes (UpdateIs v) = update_is v
