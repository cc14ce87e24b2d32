use Rattle.nc_locks.proofs.Always.{lists_are_their_locks, modes_are_locks}
use Rattle.nc_locks.proofs.laws.lists_are_their_locks.Goals as goal

pub returns : goal.returns
returns c = record { lists = lists_are_their_locks; modes = modes_are_locks }
