use Rattle.nc_locks.proofs.Always.{freed_are_gone, freed_ascend, taken_ascend, taken_stand}
use Rattle.nc_locks.proofs.laws.locks_come_and_go.Goals as goal

pub returns : goal.returns
returns c = record {
  taken = taken_stand;
  freed = freed_are_gone;
  taken_ascend = taken_ascend;
  freed_ascend = freed_ascend;
}
