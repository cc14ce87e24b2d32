-- The options as clap knows them, and what its parse tells. These are the definitions that private code alone cites.
use Rattle.std.specs.Borrow.{Bor}
use Rattle.std.specs.Prelude.{Bool, false, List, Option, Some, None, codes, option_copied, Result}
use Rattle.std.specs.Str.{bytes_eq}
use Rattle.command_words.specs.Lines.{line_with, mode_of, HasReadLine}
use Rattle.command_words.specs.declared.Line.{Line}
use Rattle.clap.specs.Words.{Row, Text, first_of}
use Rattle.clap.specs.declared.error.kind.ErrorKind.{ErrorKind}
use Rattle.clap.specs.declared.error.kind.ErrorKind.TheVariants as kind
use Rattle.command_words.specs.declared.WordsError.{WordsError}
use Rattle.command_words.specs.declared.WordsError.TheVariants as errors

abbrev pub refusal_of : ErrorKind → WordsError
refusal_of kind.OutOfMemory = errors.NoMemory
refusal_of _ = errors.Refused

abbrev pub is_on : Option Text → Bool
is_on None = false
is_on (Some text) = bytes_eq text (codes "true")

-- the line of the values that clap found
abbrev pub line_from : Option Text → Option Text → Option Text → Option Text → Option Text → Option Line
line_from None workers seed trees history = None
line_from (Some mode) workers seed trees history = line_with (mode_of mode) workers seed trees (is_on history)

-- what a call made of these values, each of which is lent, if it is given
abbrev pub HasReadValues : Option (Bor Text) → Option (Bor Text) → Option (Bor Text) → Option (Bor Text)
    → Option (Bor Text) → Result Line WordsError → Type 0
HasReadValues mode workers seed trees history read = HasReadLine
    (line_from (option_copied mode) (option_copied workers) (option_copied seed) (option_copied trees)
    (option_copied history)) read

abbrev pub line_of_rows : List Row → Option Line
line_of_rows rows =
    line_from (first_of (codes "mode") rows) (first_of (codes "workers") rows) (first_of (codes "seed") rows)
    (first_of (codes "trees") rows) (first_of (codes "history") rows)
