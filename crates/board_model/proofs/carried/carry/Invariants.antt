use Rattle.std.proofs.Common.{◌≡◌, ◌-◌, ◌<◌, ◌≤◌, ℕ, length, get_or}
use Rattle.board_model.specs.Carried.{after_members}
use Rattle.board_model.specs.declared.serial.Member.{Member}
use Rattle.board_model.proofs.carried.carry.Given as goal

abbrev pub invariant-loop-place : goal.invariant-loop-place
invariant-loop-place l = record {
  place : l.place ≤ length l.members;
  values : l.values ≡ after_members l.run.script.now l.members l.place;
  below : (i : ℕ) (d : Member) → i < l.place → (get_or l.members i d).version.0 ≤ l.version.0;
}

abbrev pub decreases-loop-place : goal.decreases-loop-place
decreases-loop-place l = length l.members - l.place
