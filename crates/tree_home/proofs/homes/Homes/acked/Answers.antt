use Rattle.std.proofs.Common.{◌∙◌, ap}
use Rattle.tree_home.specs.HeldAnswers.{acked, held_answers}
use Rattle.tree_home.specs.Homes.{HomesData}
use Rattle.tree_home.proofs.homes.Homes.acked.Goals as goal

pub returns-clause-held : goal.returns-clause-held
returns-clause-held c =
    c.acknowledge.ensures.acked ∙ ap (λ (h : HomesData). acked c.args.tree (held_answers h)) c.self.view_is
