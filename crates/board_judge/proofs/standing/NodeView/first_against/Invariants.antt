use Rattle.std.proofs.Common.{◌≡◌, List, drop}
use Rattle.board_rules.specs.Histories.{Place}
use Rattle.board_tallies.specs.Board.{IsBoardOf}
use Rattle.board_judge.specs.inside.Users.{first_tree, stands_against}
use Rattle.board_judge.proofs.standing.NodeView.first_against.Given as goal

abbrev pub invariant-loop-user : goal.invariant-loop-user
invariant-loop-user l = (xs : List Place) → IsBoardOf l.self.script.now xs l.self.board.now
    → first_tree (stands_against l.self.script.now xs l.self.node.0 l.need.tree.0 l.need.mode) (drop l.user-index l.users)
    ≡ first_tree (stands_against l.self.script.now xs l.self.node.0 l.need.tree.0 l.need.mode) l.users
