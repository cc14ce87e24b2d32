-- What is read of a text as its first entry.
use Rattle.std.specs.Prelude.{ℕ, List, Option, Some, None, ◌≤◌, drop, length}
use Rattle.letter_types.specs.declared.entries.Entry.{Entry}
use Rattle.tx_trees.specs.ScriptData.{ScriptData}
use Rattle.history_text.specs.Printable.{Begins, BeginsWithNone}
use Rattle.history_reader.specs.declared.entries.ReadEntry.{ReadEntry}

-- the entry that the text begins with, with the text behind it left, or there is none
abbrev pub IsHeard : ScriptData → List ℕ → List ℕ → Option Entry → Type 0
IsHeard s old new (Some e) = Begins s old e new
IsHeard s old new None = BeginsWithNone s old

-- the text begins with the lines of this entry, and they are so long
abbrev pub IsFirstEntry : ScriptData → List ℕ → ReadEntry → Type 0
IsFirstEntry s text r = (r.length ≤ length text) × Begins s text r.entry (drop r.length text)
