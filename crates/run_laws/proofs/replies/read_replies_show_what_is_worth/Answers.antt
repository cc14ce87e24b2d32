use Rattle.run_laws.proofs.replies_told.Shown.{replies_show}
use Rattle.run_laws.proofs.replies.read_replies_show_what_is_worth.Goals as goal

pub returns : goal.returns
returns c = replies_show
