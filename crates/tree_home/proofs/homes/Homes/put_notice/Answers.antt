use Rattle.std.proofs.Common.{◌∙◌, ap}
use Rattle.tree_home.specs.Homes.{HomesData, noted, open_trees}
use Rattle.tree_home.proofs.homes.Homes.put_notice.Goals as goal

pub returns-clause-noted : goal.returns-clause-noted
returns-clause-noted c =
    c.note.ensures.noted
    ∙ ap (λ (h : HomesData). noted c.args.tree c.args.sub c.args.values (open_trees h)) c.self.view_is
