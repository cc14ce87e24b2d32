use Rattle.std.proofs.Common.{◌∙◌, ap}
use Rattle.tree_home.specs.Homes.{HomesData, forgotten, open_trees}
use Rattle.tree_home.proofs.homes.Homes.forget.Goals as goal

pub returns-clause-forgotten : goal.returns-clause-forgotten
returns-clause-forgotten c =
    c.forget.ensures.forgotten ∙ ap (λ (h : HomesData). forgotten c.args.tree (open_trees h)) c.self.view_is
