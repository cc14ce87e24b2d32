use Rattle.std.proofs.Common.{◌∙◌, ap}
use Rattle.tree_home.specs.Homes.{HomesData, begun, open_trees}
use Rattle.tree_home.proofs.homes.Homes.begin.Goals as goal

pub returns-clause-ok : goal.returns-clause-ok
returns-clause-ok c =
    c.in_ok-begin.ensures.ok
    ∙ ap (λ (h : HomesData). begun c.args.tree c.args.subs c.args.version (open_trees h)) c.self.view_is
