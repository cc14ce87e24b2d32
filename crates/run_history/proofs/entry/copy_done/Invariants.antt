use Rattle.std.proofs.Common.{◌≡◌, take}
use Rattle.run_history.proofs.entry.copy_done.Given as goal

abbrev pub invariant-loop-act : goal.invariant-loop-act
invariant-loop-act l = l.copy ≡ take l.act-index l.acts
