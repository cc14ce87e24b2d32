use Rattle.std.proofs.Common.{◌≡◌, [], length, ℕ, Some}
use Rattle.std.specs.Prelude.{slice_get}
use Rattle.board_rules.specs.Worth.{first_value}
use Rattle.worth_steps.specs.Kept.{AreWorths, WorthsData}
use Rattle.board_judge.proofs.judge.first_worths.Given as goal

abbrev pub invariant-loop-item : goal.invariant-loop-item
invariant-loop-item l =
    (length l.worths.items ≡ l.item-index)
    × ((x : ℕ) (w : WorthsData) → slice_get l.worths.items x ≡ Some w → AreWorths (first_value (slice_get l.items x)) [] w)
