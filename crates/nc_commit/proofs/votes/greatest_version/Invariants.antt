use Rattle.std.proofs.Common.{◌≡◌, take}
use Rattle.nc_commit.specs.Votes.{greatest_version}
use Rattle.nc_commit.proofs.votes.greatest_version.Given as goal

abbrev pub invariant-loop-entry : goal.invariant-loop-entry
invariant-loop-entry l = l.greatest ≡ greatest_version (take l.entry-index l.held)
