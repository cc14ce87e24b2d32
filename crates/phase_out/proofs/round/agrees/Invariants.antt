use Rattle.std.proofs.Common.{◌≡◌, true}
use Rattle.phase_out.specs.Rounds.{all_below, pair_agrees}
use Rattle.phase_out.proofs.round.agrees.Given as goal

abbrev pub invariant-loop-node : goal.invariant-loop-node
invariant-loop-node l = all_below l.node (λ p. all_below l.nodes (pair_agrees l.askeds l.dones p)) ≡ true
