-- A gate that is open stays open.
use Rattle.std.proofs.Common.{ℕ, ◌+◌, ◌==◌, ◌&&◌, List, ◌++◌}
use Rattle.tx_trees.specs.ScriptData.{ScriptData}
use Rattle.board_rules.specs.Gates.{IsOpen}
use Rattle.board_rules.specs.Histories.{Place}
use Rattle.board_rules.specs.Moves.{swept_to}
use Rattle.board_rules.specs.Serial.{is_version}
use Rattle.board_rules.proofs.Wholes.{any_more, whole_more}

pub open_more : (s : ScriptData) (xs ys : List Place) (i : ℕ) → IsOpen s xs i → IsOpen s (xs ++ ys) i
open_more s xs ys i gate = record {
  trees = λ j t here. whole_more s xs ys t (gate.trees j t here);
  advances = λ a p lt pl. any_more (λ (x : Place). (x.node == p) && is_version (a + 1) (swept_to x.act)) xs ys (gate.advances a p lt pl);
}
