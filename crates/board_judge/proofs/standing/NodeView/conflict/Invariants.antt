use Rattle.std.proofs.Common.{◌≡◌, List, drop}
use Rattle.board_rules.specs.Histories.{Place}
use Rattle.board_rules.specs.Stands.{conflict_of}
use Rattle.board_judge.specs.Views.{AreThere, IsView, MayLook}
use Rattle.board_judge.proofs.standing.NodeView.conflict.Given as goal

abbrev pub invariant-loop-op : goal.invariant-loop-op
invariant-loop-op l = (xs : List Place) → IsView l.self.script.now xs l.self.board.now l.self.users.now → AreThere l.self.script.now l.ops → MayLook l.self.script.now l.ops
    → conflict_of l.self.script.now xs l.self.node.0 l.tree.0 (drop l.op-index l.ops) ≡ conflict_of l.self.script.now xs l.self.node.0 l.tree.0 l.ops
