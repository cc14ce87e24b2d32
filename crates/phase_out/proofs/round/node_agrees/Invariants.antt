use Rattle.std.proofs.Common.{◌≡◌, true}
use Rattle.phase_out.specs.Rounds.{all_below, pair_agrees}
use Rattle.phase_out.proofs.round.node_agrees.Given as goal

abbrev pub invariant-loop-other : goal.invariant-loop-other
invariant-loop-other l = all_below l.other (pair_agrees l.askeds l.dones l.node) ≡ true
