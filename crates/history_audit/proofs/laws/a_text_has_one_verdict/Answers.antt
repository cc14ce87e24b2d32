use Rattle.history_audit.proofs.OneVerdict.{one_verdict}
use Rattle.history_audit.proofs.laws.a_text_has_one_verdict.Goals as goal

pub returns : goal.returns
returns c = λ s text valid a b. one_verdict s text a b valid
