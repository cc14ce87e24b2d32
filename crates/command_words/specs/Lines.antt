-- The line that the values of the options make.
use Rattle.std.specs.Prelude.{ℕ, Bool, true, false, ◌≡◌, ◌≤◌, ◌&&◌, nat_le, Option, Some, None, Result, Ok, Err, codes, option_map, unwrap_or, if◌then◌else◌, ⊤, MatchResult}
use Rattle.std.specs.Str.{bytes_eq}
use Rattle.clap.specs.Words.{Text}
use Rattle.tv_base.specs.Digits.{decimal_value}
use Rattle.command_words.specs.Numbers.{is_option_number}
use Rattle.command_words.specs.declared.ModeName.{ModeName}
use Rattle.command_words.specs.declared.ModeName.TheVariants as names
use Rattle.command_words.specs.declared.ScriptMode.{ScriptMode}
use Rattle.command_words.specs.declared.ScriptMode.TheVariants as modes
use Rattle.command_words.specs.declared.Line.{Line}
use Rattle.command_words.specs.declared.Line.TheVariants as lines
use Rattle.command_words.specs.declared.WordsError.{WordsError}
use Rattle.command_words.specs.declared.WordsError.TheVariants as errors

-- the mode that a word names
abbrev pub mode_of : Text → Option ModeName
mode_of word =
    if bytes_eq word (codes "check") then Some names.Check
    else if bytes_eq word (codes "sim") then Some names.Sim
    else if bytes_eq word (codes "run") then Some names.Run
    else if bytes_eq word (codes "soak") then Some names.Soak
    else if bytes_eq word (codes "upgrade") then Some names.Upgrade
    else if bytes_eq word (codes "audit") then Some names.Audit
    else None

-- a number from low to high, if it is given
abbrev pub is_given_in : ℕ → ℕ → Option Text → Bool
is_given_in low high None = true
is_given_in low high (Some text) = is_option_number text && nat_le low (decimal_value text) && nat_le (decimal_value text) high

-- what a call made of a number's text, if one is given: its number, or that it isn't from low to high
abbrev pub IsReadNumber : ℕ → ℕ → Option Text → Result (Option ℕ) WordsError → Type 0
IsReadNumber low high text read = MatchResult read
    (λ v. (is_given_in low high text ≡ true) × (v ≡ option_map decimal_value text))
    (λ e. (e ≡ errors.Refused) × (is_given_in low high text ≡ false))

-- what goes with each mode: workers are 4 if they aren't given, and a soak needs its seed and its trees
abbrev pub line_of_mode : ModeName → Option ℕ → Option ℕ → Option ℕ → Bool → Option Line
line_of_mode names.Check None None None false = Some (lines.OfScript modes.Check)
line_of_mode names.Sim None seed None history = Some (lines.OfScript (modes.Sim seed history))
line_of_mode names.Run workers None None history = Some (lines.OfScript (modes.Run (unwrap_or workers 4) history))
line_of_mode names.Soak workers (Some seed) (Some trees) false = Some (lines.Soak (unwrap_or workers 4) seed trees)
line_of_mode names.Upgrade None None None false = Some (lines.OfScript modes.Upgrade)
line_of_mode names.Audit None None None false = Some lines.Audit
line_of_mode name workers seed trees history = None

-- the line of a mode with these values
abbrev pub line_with : Option ModeName → Option Text → Option Text → Option Text → Bool → Option Line
line_with None workers seed trees history = None
line_with (Some name) workers seed trees history =
    if is_given_in 1 32 workers && is_given_in 0 18446744073709551615 seed && is_given_in 1 20000 trees
    then line_of_mode name (option_map decimal_value workers) (option_map decimal_value seed) (option_map decimal_value trees) history
    else None

-- a mode that runs threads has from 1 to 32 workers
abbrev pub HasWorkers : ScriptMode → Type 0
HasWorkers (modes.Run workers history) = (1 ≤ workers) × (workers ≤ 32)
HasWorkers _ = Unit {0}

-- a line has from 1 to 32 workers and from 1 to 20,000 trees, if it has any
abbrev pub IsInRange : Line → Type 0
IsInRange (lines.OfScript mode) = HasWorkers mode
IsInRange (lines.Soak workers seed trees) = (1 ≤ workers) × (workers ≤ 32) × (1 ≤ trees) × (trees ≤ 20000)
IsInRange _ = Unit {0}

-- what a call made of the words, unless memory runs out
abbrev pub HasReadLine : Option Line → Result Line WordsError → Type 0
HasReadLine line (Ok l) = line ≡ Some l
HasReadLine line (Err errors.Refused) = line ≡ None
HasReadLine line (Err errors.NoMemory) = ⊤
