use Rattle.std.proofs.Common.{◌≡◌, drop}
use Rattle.board_model.specs.inside.Balances.{mark_trees}
use Rattle.board_model.proofs.balances.mark_trees.Given as goal

abbrev pub invariant-loop-t : goal.invariant-loop-t
invariant-loop-t l = mark_trees l.version.0 (drop l.t l.trees) (drop l.t l.standings) l.marks
    ≡ mark_trees l.version.0 l.trees l.standings l.initial.marks
