-- What a text is refused for, by what a walk failed in.
use Rattle.std.specs.Prelude.{ℕ}
use Rattle.history_reader.specs.declared.reading.HistoryRefusal.{HistoryRefusal}
use Rattle.history_reader.specs.declared.reading.HistoryRefusal.TheVariants as refusals
use Rattle.history_reader.specs.declared.walk.Fault.{Fault}
use Rattle.history_reader.specs.declared.walk.Fault.TheVariants as faults

-- the fault of the entry of this number
abbrev pub refusal_for : Fault → ℕ → HistoryRefusal
refusal_for faults.Text number = refusals.Text number
refusal_for faults.Postal number = refusals.Postal number
refusal_for faults.NoMemory number = refusals.NoMemory
