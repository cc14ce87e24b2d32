-- The options as clap knows them, and what its parse tells.
use Rattle.std.specs.Prelude.{true, ◌≡◌, ◌≢◌, List, [], Some, Result, Ok, Err, codes, ⊤}
use Rattle.clap.specs.Words.{App, Rule, Text, fault_of, found_of, matches_of, new_app, new_rule, rows_of, with_rule}
use Rattle.clap.specs.declared.builder.ArgAction.TheVariants.{Set, SetTrue}
use Rattle.clap.specs.declared.parser.matches.ArgMatches.{ArgMatches}
use Rattle.command_words.specs.declared.WordsError.{WordsError}
use Rattle.command_words.specs.declared.WordsError.TheVariants as errors

abbrev pub option_rule : Text → Rule
option_rule name = record (new_rule name) { long = Some name; action = Some Set }

abbrev pub mode_rule : Rule
mode_rule = record (option_rule (codes "mode")) { required = true }

abbrev pub history_rule : Rule
history_rule = record (new_rule (codes "history")) { long = Some (codes "history"); action = Some SetTrue }

abbrev pub bare_app : App
bare_app =
    let a = new_app (codes "threev") in
    record a { top = record (a.top) { disable_help_flag = true; disable_version_flag = true } }

-- the options, as clap knows them
abbrev pub the_app : App
the_app =
    with_rule (with_rule (with_rule (with_rule (with_rule bare_app mode_rule)
    (option_rule (codes "workers"))) (option_rule (codes "seed"))) (option_rule (codes "trees"))) history_rule

-- clap took the words, with these rows, or refused them, or found no memory
abbrev pub IsParse : Result ArgMatches WordsError → List Text → Type 0
IsParse (Ok m) words = (fault_of the_app words ≡ []) × (rows_of (found_of m) ≡ matches_of the_app words)
IsParse (Err errors.Refused) words = fault_of the_app words ≢ []
IsParse (Err errors.NoMemory) words = ⊤
