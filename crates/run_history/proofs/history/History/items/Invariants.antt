use Rattle.std.proofs.Common.{◌≡◌}
use Rattle.run_history.proofs.history.History.items.Given as goal

abbrev pub invariant-loop-entry : goal.invariant-loop-entry
invariant-loop-entry l = l.items.items ≡ l.yielded
