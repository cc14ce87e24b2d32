use Rattle.std.proofs.Common.{◌≡◌, drop}
use Rattle.board_model.specs.inside.Tallies.{all_met}
use Rattle.board_model.proofs.tallies.all_met.Given as goal

abbrev pub invariant-loop-sub : goal.invariant-loop-sub
invariant-loop-sub l = all_met (drop l.sub-index l.subs) l.applied ≡ all_met l.subs l.applied
