use Rattle.nc_locks.proofs.Always.{met_is_first, none_in_way}
use Rattle.nc_locks.proofs.laws.met_is_the_first.Goals as goal

pub returns : goal.returns
returns c = record { first = met_is_first; none = none_in_way }
