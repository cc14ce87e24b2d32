-- The records that a reader has left.
use Rattle.std.specs.Prelude.{◌≡◌, ℕ, List, ◌⊎◌}
use Rattle.script_reader.specs.inside.Readers.{IsReading, rows_left}
use Rattle.script_reader.specs.declared.records.Records.TheInside.{Inside}

-- the records that are left
abbrev pub left_of : Inside → List (List (List ℕ))
left_of r = rows_left r.left r.reader

-- nothing is left, or it is reading
abbrev pub IsReadingOrDone : Inside → Type 0
IsReadingOrDone r = (r.left ≡ 0) ⊎ IsReading r.reader
