use Rattle.std.proofs.Common.{ap, sym, ◌∙◌}
use Rattle.board_rules.specs.Histories.{version_or}
use Rattle.board_judge.proofs.standing.version_or_zero.Goals as goal

pub returns-in-Some : goal.returns-in-Some
returns-in-Some c = λ s xs is. ap (version_or 0) (sym c.in-Some.is ∙ c.version_of.ensures s xs is)
