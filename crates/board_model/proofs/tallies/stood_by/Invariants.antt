use Rattle.std.proofs.Common.{◌≡◌, ◌++◌, drop}
use Rattle.board_model.specs.inside.Tallies.{stood_by}
use Rattle.board_model.proofs.tallies.stood_by.Given as goal

abbrev pub invariant-loop-t : goal.invariant-loop-t
invariant-loop-t l = l.standings ++ stood_by (drop l.t l.rows) (drop l.t l.trees) ≡ stood_by l.rows l.trees
