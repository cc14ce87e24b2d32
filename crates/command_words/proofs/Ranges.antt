-- The numbers of a line are in their ranges.
use Rattle.std.proofs.Common.{◌≡◌, ◌≤◌, ℕ, Bool, true, false, List, [], ◌∷◌, Option, Some, None, refl, subst, arith}
use Rattle.std.specs.Prelude.{unwrap_or, codes, is_some, option_and_then, option_map, Result, Ok, Err, IfOk}
use Rattle.std.proofs.lemmas.Bool.Decides.{nat_tests}
use Rattle.clap.specs.Words.{Text}
use Rattle.tv_base.specs.Digits.{decimal_value}
use Rattle.command_words.specs.Grammar.{Given, given, line_of_given, line_of_options, value_of}
use Rattle.command_words.specs.Lines.{IsInRange, HasReadLine, is_given_in, line_of_mode, line_with, mode_of}
use Rattle.command_words.specs.declared.Line.{Line}
use Rattle.command_words.specs.declared.Line.TheVariants as lines
use Rattle.command_words.specs.declared.ScriptMode.TheVariants as modes
use Rattle.command_words.specs.declared.ModeName.{ModeName}
use Rattle.command_words.specs.declared.ModeName.TheVariants as names
use Rattle.command_words.specs.declared.WordsError.{WordsError}

-- a number that is given is in its range, and so is one in its place
or_in : (low high n : ℕ) (text : Option Text) → is_given_in low high text ≡ true → low ≤ n → n ≤ high
    → (low ≤ unwrap_or (option_map decimal_value text) n) × (unwrap_or (option_map decimal_value text) n ≤ high)
or_in low high n None is from to = (from, to)
or_in low high n (Some text) is from to = grind (arith, nat_tests)

taken : (l m : Line) → IsInRange l → Some l ≡ Some m → IsInRange m
taken l m here is = let same : l ≡ m = cc is in subst IsInRange same here

-- the line of a mode whose numbers are in their ranges
mode_line : (m : ModeName) (w s t : Option Text) (history : Bool) (l : Line) → is_given_in 1 32 w ≡ true
    → is_given_in 1 20000 t ≡ true → line_of_mode m (option_map decimal_value w) (option_map decimal_value s) (option_map decimal_value t) history ≡ Some l
    → IsInRange l
mode_line names.Check None None None false l few some is = taken (lines.OfScript modes.Check) l tt is
mode_line names.Check None None None true l few some is = absurd (cc is)
mode_line names.Check (Some w) s t history l few some is = absurd (cc is)
mode_line names.Check None (Some s) t history l few some is = absurd (cc is)
mode_line names.Check None None (Some t) history l few some is = absurd (cc is)
mode_line names.Sim None s None history l few some is = taken (lines.OfScript (modes.Sim (option_map decimal_value s) history)) l tt is
mode_line names.Sim (Some w) s t history l few some is = absurd (cc is)
mode_line names.Sim None s (Some t) history l few some is = absurd (cc is)
mode_line names.Run w None None history l few some is =
    taken (lines.OfScript (modes.Run (unwrap_or (option_map decimal_value w) 4) history)) l (or_in 1 32 4 w few (omega arith) (omega arith)) is
mode_line names.Run w (Some s) t history l few some is = absurd (cc is)
mode_line names.Run w None (Some t) history l few some is = absurd (cc is)
mode_line names.Soak w (Some s) (Some t) false l few some is =
    let workers = or_in 1 32 4 w few (omega arith) (omega arith) in
    let trees = or_in 1 20000 1 (Some t) some (omega arith) (omega arith) in
    taken (lines.Soak (unwrap_or (option_map decimal_value w) 4) (decimal_value s) (decimal_value t)) l
    (workers.0, workers.1, trees.0, trees.1) is
mode_line names.Soak w (Some s) (Some t) true l few some is = absurd (cc is)
mode_line names.Soak w None t history l few some is = absurd (cc is)
mode_line names.Soak w (Some s) None history l few some is = absurd (cc is)
mode_line names.Upgrade None None None false l few some is = taken (lines.OfScript modes.Upgrade) l tt is
mode_line names.Upgrade None None None true l few some is = absurd (cc is)
mode_line names.Upgrade (Some w) s t history l few some is = absurd (cc is)
mode_line names.Upgrade None (Some s) t history l few some is = absurd (cc is)
mode_line names.Upgrade None None (Some t) history l few some is = absurd (cc is)
mode_line names.Audit None None None false l few some is = taken lines.Audit l tt is
mode_line names.Audit None None None true l few some is = absurd (cc is)
mode_line names.Audit (Some w) s t history l few some is = absurd (cc is)
mode_line names.Audit None (Some s) t history l few some is = absurd (cc is)
mode_line names.Audit None None (Some t) history l few some is = absurd (cc is)

-- where the three tests are passed
tested_line : (m : ModeName) (w s t : Option Text) (history : Bool) (l : Line) (a b c : Bool) → is_given_in 1 32 w ≡ a
    → is_given_in 0 18446744073709551615 s ≡ b → is_given_in 1 20000 t ≡ c
    → line_with (Some m) w s t history ≡ Some l → IsInRange l
tested_line m w s t history l true true true few number some is =
    mode_line m w s t history l few some (rw (few, number, some) at is)
tested_line m w s t history l true true false few number some is = absurd (cc (rw (few, number, some) at is))
tested_line m w s t history l true false c few number some is = absurd (cc (rw (few, number) at is))
tested_line m w s t history l false b c few number some is = absurd (cc (rw few at is))

with_line : (m : Option ModeName) (w s t : Option Text) (history : Bool) (l : Line) → line_with m w s t history ≡ Some l
    → IsInRange l
with_line None w s t history l is = absurd (cc is)
with_line (Some m) w s t history l is = tested_line m w s t history l _ _ _ refl refl refl is

found_line : (g : Option Given) (l : Line) → option_and_then line_of_given g ≡ Some l → IsInRange l
found_line None l is = absurd (cc is)
found_line (Some g) l is =
    with_line (option_and_then mode_of (value_of (codes "mode") g)) (value_of (codes "workers") g) (value_of (codes "seed") g)
    (value_of (codes "trees") g) (is_some (value_of (codes "history") g)) l is

options_line : (words : List Text) (l : Line) → line_of_options words ≡ Some l → IsInRange l
options_line [] l is = absurd (cc is)
options_line (name ∷ rest) l is = found_line (given [] None rest) l is

-- so are those of a line that a call tells
pub told_by_options : (words : List Text) (r : Result Line WordsError) → HasReadLine (line_of_options words) r
    → IfOk r IsInRange
told_by_options words (Ok l) is = options_line words l is
told_by_options words (Err e) is = tt
