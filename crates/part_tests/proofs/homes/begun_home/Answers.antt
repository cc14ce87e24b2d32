use Rattle.std.proofs.Common.{ap}
use Rattle.tree_home.specs.Homes.{HomesData, open_trees}
use Rattle.part_tests.proofs.homes.begun_home.Goals as goal

pub begin-requires-clause-absent : goal.begin-requires-clause-absent
begin-requires-clause-absent c = ap (λ (h : HomesData). open_trees h 0) c.new-homes.ensures
