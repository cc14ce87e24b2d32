use Rattle.line_laws.proofs.Replies.{replies_say_lines}
use Rattle.line_laws.proofs.replies_say_lines.Goals as goal

pub returns : goal.returns
returns c = replies_say_lines
