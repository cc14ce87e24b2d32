use Rattle.std.proofs.Common.{◌≡◌, List, drop, max}
use Rattle.board_rules.specs.Histories.{Place}
use Rattle.board_tallies.specs.Board.{IsBoardOf}
use Rattle.board_judge.specs.inside.Users.{newest_by}
use Rattle.board_judge.proofs.standing.NodeView.newest_by.Given as goal

abbrev pub invariant-loop-user : goal.invariant-loop-user
invariant-loop-user l = (xs : List Place) → IsBoardOf l.self.script.now xs l.self.board.now
    → max l.newest (newest_by l.self.script.now xs l.self.node.0 (drop l.user-index l.users)) ≡ newest_by l.self.script.now xs l.self.node.0 l.users
