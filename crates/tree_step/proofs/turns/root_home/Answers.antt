use Rattle.std.proofs.Common.{◌<◌, refl, arith}
use Rattle.tree_home.specs.Homes.{begun, open_trees}
use Rattle.tree_step.proofs.Begun.{opened_noted}
use Rattle.tree_step.proofs.turns.root_home.Goals as goal

pub returns-clause-home : goal.returns-clause-home
returns-clause-home c =
    let q = c.args.request in
    let hs = open_trees c.args.homes.now in
    let mid = begun q.tree c.args.subs q.version hs in
    let more : 1 < c.args.subs = omega (arith, c.if-subs-eq1.false, c.requires.some) in
    record {
      after = opened_noted q.tree c.args.subs q.version c.args.values hs mid _ more refl refl;
      may = (more, c.requires.absent, c.requires.few);
    }
