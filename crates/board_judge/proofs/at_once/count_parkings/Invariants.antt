use Rattle.std.proofs.Common.{◌≡◌, ◌≤◌, length, take}
use Rattle.board_rules.specs.Right.{parkings}
use Rattle.board_judge.proofs.at_once.count_parkings.Given as goal

abbrev pub invariant-loop-act : goal.invariant-loop-act
invariant-loop-act l = record { counted : l.count ≡ length (parkings (take l.act-index l.acts)); few : l.count ≤ l.act-index }
