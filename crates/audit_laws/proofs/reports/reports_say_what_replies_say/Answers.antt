use Rattle.audit_laws.proofs.ReplyLines.{lines_say}
use Rattle.audit_laws.proofs.reports.reports_say_what_replies_say.Goals as goal

pub returns : goal.returns
returns c = lines_say
