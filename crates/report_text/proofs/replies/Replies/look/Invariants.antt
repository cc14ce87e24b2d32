use Rattle.std.proofs.Common.{◌-◌, length, take}
use Rattle.report_text.specs.Replies.{AreRepliesOf}
use Rattle.report_text.proofs.replies.Replies.look.Given as goal

abbrev pub invariant-loop-self : goal.invariant-loop-self
invariant-loop-self l = AreRepliesOf l.self (take l.self.looked l.history)

abbrev pub decreases-loop-self : goal.decreases-loop-self
decreases-loop-self l = length l.history - l.self.looked
