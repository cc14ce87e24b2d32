use Rattle.std.proofs.Common.{◌≡◌, ◌++◌, take}
use Rattle.nc_commit.specs.Votes.{wanted_by}
use Rattle.nc_commit.proofs.votes.push_wanted.Given as goal

abbrev pub invariant-loop-op : goal.invariant-loop-op
invariant-loop-op l = l.wanted ≡ l.initial.wanted ++ wanted_by (take l.op-index l.ops)
