use Rattle.std.proofs.Common.{◌≡◌, List, drop}
use Rattle.script_parts.specs.ScriptData.{ScriptData}
use Rattle.board_rules.specs.Histories.{Place}
use Rattle.board_judge.specs.Notes.{AreKnown}
use Rattle.board_judge.specs.Views.{AreThere}
use Rattle.board_judge.specs.inside.Shorts.{short_ops}
use Rattle.board_judge.proofs.shown.short.Given as goal

abbrev pub invariant-loop-op : goal.invariant-loop-op
invariant-loop-op l = (s : ScriptData) (xs : List Place) → AreKnown s xs l.worths → AreThere s l.ops
    → short_ops s xs l.version.0 (drop l.op-index l.ops) ≡ short_ops s xs l.version.0 l.ops
