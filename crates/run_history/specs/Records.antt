-- A history as it is written: its entries, and the room for more.
use Rattle.std.specs.Prelude.{ℕ, ◌<◌, ◌≤◌, List, [], Option, Some, None, length}
use Rattle.tv_base.specs.declared.numbers.TheConstants.{MOST_ENTRIES}
use Rattle.letter_types.specs.declared.entries.Entry.{Entry}

pub record RecordData : Type 0 where
  pub entries : List Entry
  pub slots_room : ℕ
  pub came_room : ℕ
  pub sent_room : ℕ
  pub acts_room : ℕ

-- there is room for one more entry, which sends n messages and does m acts
pub record HasRoomFor (n m : ℕ) (r : RecordData) : Type 0 where
  pub few : length r.entries < MOST_ENTRIES
  pub slots : 0 < r.slots_room
  pub came : 0 < r.came_room
  pub sent : n ≤ r.sent_room
  pub acts : m ≤ r.acts_room

-- the entries of a record behind a pointer, if there is one
abbrev pub entries_if_any : {B : Type 0} → (B → RecordData) → Option B → List Entry
entries_if_any value None = []
entries_if_any value (Some b) = (value b).entries
