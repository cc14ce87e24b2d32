use Rattle.line_laws.proofs.Replies.{replies_stay}
use Rattle.line_laws.proofs.replies_stay.Goals as goal

pub returns : goal.returns
returns c = replies_stay
