use Rattle.std.proofs.Common.{◌≡◌, ◌-◌, drop}
use Rattle.board_model.specs.inside.Closed.{closed_back}
use Rattle.board_rules.specs.Histories.{places_of}
use Rattle.board_model.specs.inside.Tallies.{noted_back}
use Rattle.board_model.proofs.serial.note_entries.Given as goal

abbrev pub invariant-loop-k : goal.invariant-loop-k
invariant-loop-k l = record {
  rows : l.rows.items ≡ noted_back (places_of (drop (l.count - l.k) l.history)) l.initial.rows.items;
  closings : l.closings ≡ closed_back l.script (places_of (drop (l.count - l.k) l.history)) l.initial.closings;
}
