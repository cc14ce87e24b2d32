use Rattle.std.proofs.Common.{◌≡◌, List, drop, true}
use Rattle.script_parts.specs.Counts.{has_strict}
use Rattle.board_rules.specs.Histories.{Place}
use Rattle.board_rules.specs.Stands.{newer_of}
use Rattle.board_judge.specs.Views.{AreThere, IsView}
use Rattle.board_judge.proofs.standing.NodeView.newer.Given as goal

abbrev pub invariant-loop-op : goal.invariant-loop-op
invariant-loop-op l = (xs : List Place) → IsView l.self.script.now xs l.self.board.now l.self.users.now → AreThere l.self.script.now l.ops → has_strict l.self.script.now ≡ true
    → newer_of l.self.script.now xs l.self.node.0 l.version (drop l.op-index l.ops) ≡ newer_of l.self.script.now xs l.self.node.0 l.version l.ops
