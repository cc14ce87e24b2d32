use Rattle.std.proofs.Common.{◌≡◌, All}
use Rattle.thread_tests.proofs.letters.keep_all.Given as goal

abbrev pub invariant-loop-delivery : goal.invariant-loop-delivery
invariant-loop-delivery g l = All (λ r. r.post ≡ g.K.PostName.post) l.receipts
