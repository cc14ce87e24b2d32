-- A refusal of a row, as the end of reading. These are the definitions that private code alone cites.
use Rattle.std.specs.Prelude.{ℕ}
use Rattle.tx_trees.specs.declared.why.Refusal.{Refusal}
use Rattle.tx_trees.specs.declared.why.Refusal.TheVariants as refusals
use Rattle.script_reader.specs.declared.reading.ScriptRefusal.{ScriptRefusal}
use Rattle.script_reader.specs.declared.reading.ScriptRefusal.TheVariants as ends
use Rattle.script_reader.specs.Reading.{fault}

-- a refusal, with its row
abbrev pub refused_at : ℕ → Refusal → ScriptRefusal
refused_at row (refusals.Why w) = ends.Fault (fault row w)
refused_at row refusals.NoMemory = ends.NoMemory
