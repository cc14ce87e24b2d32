use Rattle.run_laws.proofs.replies_told.Replies.{replies_tell}
use Rattle.run_laws.proofs.replies.replies_tell_what_was_done.Goals as goal

pub returns : goal.returns
returns c = replies_tell
