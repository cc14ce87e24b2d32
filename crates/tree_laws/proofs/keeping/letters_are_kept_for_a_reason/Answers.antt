use Rattle.tree_laws.proofs.kept.Reasons.{kept_for_a_reason}
use Rattle.tree_laws.proofs.keeping.letters_are_kept_for_a_reason.Goals as goal

pub returns : goal.returns
returns c = kept_for_a_reason
