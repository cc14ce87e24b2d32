use Rattle.std.proofs.Common.{◌≡◌, true}
use Rattle.board_model.specs.inside.Tallies.{all_marked}
use Rattle.board_model.proofs.tallies.all_marked.Given as goal

abbrev pub invariant-loop-sub : goal.invariant-loop-sub
invariant-loop-sub l = all_marked l.sub l.done ≡ true
