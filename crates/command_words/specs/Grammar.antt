-- A command line as a plain recursion over its words.
use Rattle.std.specs.Prelude.{Bool, not, ◌==◌, ◌&&◌, ◌||◌, List, [], ◌∷◌, Option, Some, None, is_some, option_and_then, unwrap_or, codes, if◌then◌else◌, map, String, string_bytes}
use Rattle.std.specs.List.{after_first, before_first, list_any}
use Rattle.std.specs.Map.{lookup}
use Rattle.std.specs.Option.{option_or}
use Rattle.std.specs.Str.{bytes_eq}
use Rattle.clap.specs.Words.{Text}
use Rattle.command_words.specs.Lines.{line_with, mode_of}
use Rattle.command_words.specs.declared.Line.{Line}
use Rattle.command_words.specs.declared.Line.TheVariants as lines

-- the options that are given: their names and values; `--history` has an empty one
abbrev pub Given : Type 0
Given = List (Text × Text)

-- the value of the option of this name, if it is given
abbrev pub value_of : Text → Given → Option Text
value_of name g = lookup (bytes_eq name) g

-- there is an option of this name, with a value or without one
abbrev pub is_option : Text → Option Text → Bool
is_option name None = bytes_eq (codes "history") name
is_option name (Some value) =
    list_any (λ o. bytes_eq o name) (codes "mode" ∷ codes "workers" ∷ codes "seed" ∷ codes "trees" ∷ [])

-- one option more; each at most once
abbrev pub put : Text → Option Text → Given → Option Given
put name value g =
    if is_option name value && not (is_some (value_of name g)) then Some ((name, unwrap_or value []) ∷ g) else None

-- `name` or `name=value`: what is before the first `=` (61), and what is after it if there is one
abbrev pub name_and_value : Text → Text × Option Text
name_and_value text = (
  before_first (λ x. x == 61) text,
  if list_any (λ x. x == 61) text
      then Some (after_first (λ x. x == 61) text) else None,
)

-- the name and the value of a word `--name` or `--name=value`, which begins with two hyphens (45)
abbrev pub option_in : Text → Option (Text × Option Text)
option_in (a ∷ b ∷ rest) = if a == 45 && b == 45 then Some (name_and_value rest) else None
option_in word = None

-- `--name=value` and `--history` stand alone, and another `--name` waits for its value
abbrev pub stands_alone : Text × Option Text → Bool
stands_alone o = is_some o.1 || bytes_eq (codes "history") o.0

-- what the words give, after what was given before, if the option of a name may wait for its value
unfoldable pub given : Given → Option Text → List Text → Option Given
given g None [] = Some g
given g (Some name) [] = None
given g None (word ∷ rest) =
    option_and_then
    (λ o. if stands_alone o then option_and_then (λ h. given h None rest) (put o.0 o.1 g) else given g (Some o.0) rest)
    (option_in word)
given g (Some name) (word ∷ rest) = option_and_then (λ h. given h None rest) (put name (Some word) g)

-- the line of what was given
abbrev pub line_of_given : Given → Option Line
line_of_given g =
    line_with (option_and_then mode_of (value_of (codes "mode") g)) (value_of (codes "workers") g)
    (value_of (codes "seed") g) (value_of (codes "trees") g) (is_some (value_of (codes "history") g))

-- the line of the options; the first word is the program's name, which isn't read
abbrev pub line_of_options : List Text → Option Line
line_of_options [] = None
line_of_options (name ∷ rest) = option_and_then line_of_given (given [] None rest)

-- the words that ask about the program
abbrev pub asked_by : Text → Option Line
asked_by word =
    if bytes_eq word (codes "--help") then Some lines.Help
    else if bytes_eq word (codes "--version") then Some lines.Version
    else None

-- `--help` or `--version` alone
abbrev pub asked : List Text → Option Line
asked (name ∷ word ∷ []) = asked_by word
asked words = None

-- every line of the command line
abbrev pub line_of : List Text → Option Line
line_of words = option_or (asked words) (line_of_options words)

-- the line of words as the system gives them
abbrev pub line_said : {A : Type 0} → List (String A) → Option Line
line_said words = line_of (map string_bytes words)
