use Rattle.std.proofs.Common.{◌≡◌, ◌-◌, length}
use Rattle.thread_tests.proofs.letters.hand_over.Given as goal

abbrev pub invariant-loop-envelope : goal.invariant-loop-envelope
invariant-loop-envelope g l = l.out.post ≡ g.K.PostName.post

abbrev pub decreases-loop-envelope : goal.decreases-loop-envelope
decreases-loop-envelope g l = length l.out.posting.sent - l.out.next
