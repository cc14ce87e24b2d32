use Rattle.std.proofs.Common.{drop}
use Rattle.item_versions.specs.Table.{pending}
use Rattle.nc_commit.specs.inside.Writes.{IsStaging}
use Rattle.nc_commit.proofs.decisions.stage_all.Given as goal

abbrev pub invariant-loop-op : goal.invariant-loop-op
invariant-loop-op l = IsStaging l.v l.ops (drop l.op-index l.ops) (pending l.staged l.items) l.items
