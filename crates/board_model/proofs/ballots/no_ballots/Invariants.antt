use Rattle.std.proofs.Common.{◌≡◌, ◌++◌, drop}
use Rattle.board_model.specs.inside.Ballots.{no_ballots}
use Rattle.board_model.proofs.ballots.no_ballots.Given as goal

abbrev pub invariant-loop-tree : goal.invariant-loop-tree
invariant-loop-tree l = l.rows.items ++ no_ballots (drop l.tree-index l.trees) ≡ no_ballots l.trees
