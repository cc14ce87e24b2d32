use Rattle.board_rules.proofs.Judging.{all_rules}
use Rattle.board_rules.proofs.laws.accepted_histories_keep_all_rules.Goals as goal

pub returns : goal.returns
returns c = all_rules
