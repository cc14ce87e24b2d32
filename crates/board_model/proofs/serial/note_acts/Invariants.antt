use Rattle.std.proofs.Common.{◌≡◌, ◌-◌, drop}
use Rattle.board_model.specs.inside.Closed.{closed_back}
use Rattle.board_model.specs.inside.SerialList.{placed}
use Rattle.board_model.specs.inside.Tallies.{noted_back}
use Rattle.board_model.proofs.serial.note_acts.Given as goal

abbrev pub invariant-loop-k : goal.invariant-loop-k
invariant-loop-k l = record {
  rows : l.rows.items ≡ noted_back (placed l.actor.0 (drop (l.count - l.k) l.acts)) l.initial.rows.items;
  closings : l.closings ≡ closed_back l.script (placed l.actor.0 (drop (l.count - l.k) l.acts)) l.initial.closings;
}
