use Rattle.board_rules.proofs.Judging.{broken_may_not, broken_once}
use Rattle.board_rules.proofs.laws.entries_break_one_rule.Goals as goal

pub returns : goal.returns
returns c = record { may_not = broken_may_not; one = broken_once }
