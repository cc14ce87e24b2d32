use Rattle.run_laws.proofs.replies_told.Replies.{replies_name}
use Rattle.run_laws.proofs.replies.aborted_replies_name_the_lowest_no.Goals as goal

pub returns : goal.returns
returns c = replies_name
