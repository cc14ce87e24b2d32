-- What both coordinators make of a message with a node's row.
use Rattle.std.specs.Prelude.{◌≡◌, ℕ, Option, Some, None}
use Rattle.letter_types.specs.declared.bodies.Body.{Body}
use Rattle.letter_types.specs.declared.bodies.Body.TheVariants.{DoneRow, AskedRow}
use Rattle.letter_types.specs.declared.entries.Letter.{Letter}
use Rattle.phase_out.specs.Counts.{CountData, CountOut, IsLookAt, count_stays, told_asked, told_done}
use Rattle.advance_coord.specs.declared.rounds.RowTaken.{RowTaken}

-- a sender tells the count the row of a message's body; a body with no row tells it nothing
abbrev pub told_by : ℕ → Body → CountData → CountOut
told_by from (DoneRow v k row) c = told_done from v k row c
told_by from (AskedRow v k row) c = told_asked from v k row c
told_by from _ c = count_stays c

abbrev pub told_numbers : Letter → CountData → CountOut
told_numbers letter c = told_by letter.from.0 letter.body c

-- what is taken says that the count is told this: nothing comes of it; or the row is kept, as the round may, and asks
-- for what it says
abbrev pub IsLookAtRow : CountOut → CountData → Option RowTaken → Type 0
IsLookAtRow told c None = told ≡ count_stays c
IsLookAtRow told c (Some taken) = IsLookAt taken.row c told (Some taken.counted)
