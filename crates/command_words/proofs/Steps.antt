-- One word of a command line.
use Rattle.std.proofs.Common.{◌≡◌, ◌∙◌, List, [], ◌∷◌, ◌++◌, Option, Some, None, codes, refl, sym, ap, ℕ, Bool, true, false, not}
use Rattle.std.specs.Prelude.{drop, find, fold, slice_get, ◌||◌, if◌then◌else◌}
use Rattle.std.specs.Str.{bytes_eq, chars}
use Rattle.std.proofs.lemmas.List.{append-nil}
use Rattle.std.proofs.lemmas.List.Folds.{list_any-append, find-append}
use Rattle.std.proofs.Math.Bool.{or-false, or-true}
use Rattle.clap.specs.Lexer.{long_of, short_of}
use Rattle.clap.specs.Words.{Kinds, Row, Rule, Text, fault_of, first_of}
use Rattle.std.specs.Prelude.{option_and_then}
use Rattle.std.proofs.Common.{subst}
use Rattle.clap.specs.Kinds.{check_kinds, or_else}
use Rattle.clap.specs.Walk.{Held, Walk, at_row, bundle_met, more_values, with_default, reading_by, finished, with_values, without, has_row, idle, option, nothing_held, settled, used, walked}
use Rattle.clap.specs.Simple.{Shape, built, filled, with_index}
use Rattle.clap.specs.Faults.{check_fault, default_fault, defaults_fault, flags_fault, settle_fault, turn_fault, walk_fault}
use Rattle.clap.specs.declared.error.kind.ErrorKind.TheVariants as kind
use Rattle.clap.specs.declared.builder.value_parser.Reading.{Reading}
use Rattle.clap.specs.Facts.{explicit_source}
use Rattle.clap.specs.Takes.{is_given}
use Rattle.std.specs.Option.{option_map_or, option_or}
use Rattle.std.specs.Prelude.{is_some}
use Rattle.clap.specs.declared.parser.matches.ValueSource.TheVariants.{CommandLine, DefaultValue}
use Rattle.clap.proofs.FaultLemmas.{leaf_fault}
use Rattle.clap.proofs.OnLiterals.{clap_on_literals}
use Rattle.command_words.specs.Parser.{history_rule, mode_rule, option_rule, the_app}
use Rattle.command_words.specs.inside.Parser.{is_on}
use Rattle.command_words.proofs.Fields.{name_of, Opt, mode, workers, seed, trees, option_of, Fields, no_fields, field_of, with_field}

abbrev pub top : Shape
top = (built the_app).top

-- the rule of an option, as it is built
abbrev pub rule : Opt → Rule
rule mode = with_index 1 (filled mode_rule)
rule workers = with_index 1 (filled (option_rule (codes "workers")))
rule seed = with_index 1 (filled (option_rule (codes "seed")))
rule trees = with_index 1 (filled (option_rule (codes "trees")))

abbrev pub history : Rule
history = with_index 1 (filled history_rule)

abbrev pub at_rows : List Row → Walk
at_rows rows = record { held = record { rows = rows; pending = None; skip = 0 }; waiting = idle; position = 1; is_trailing = false; stopped = None }

abbrev pub waits_at : Opt → List Row → Walk
waits_at o rows = record { held = record { rows = rows; pending = Some (name_of o, []); skip = 0 }; waiting = option (name_of o); position = 1; is_trailing = false; stopped = None }

abbrev pub full_at : Opt → Text → List Row → Walk
full_at o v rows = record { held = record { rows = rows; pending = Some (name_of o, v ∷ []); skip = 0 }; waiting = idle; position = 1; is_trailing = false; stopped = None }

-- the faults of the words from here on, and the rows at the end where there is none
abbrev pub Total : Type 0
Total = Kinds × List Row

abbrev pub step_total : Kinds → Total → Total
step_total [] rest = rest
step_total (k ∷ ks) rest = (k ∷ ks, [])

abbrev pub last_faults : Held → Kinds
last_faults h = or_else (settle_fault top.rules false h) (or_else (defaults_fault (settled top.rules h).rows top.rules) (check_fault top (finished top.rules h) false))

unfoldable pub total : Walk → List Text → Total
total w [] = (last_faults w.held, finished top.rules w.held)
total w (x ∷ xs) = step_total (turn_fault top [] w x) (total (walked top.rules [] w x) xs)

step_faults : (a b : Kinds) (t : Total) → b ≡ t.0 → or_else a b ≡ (step_total a t).0
step_faults [] b t e = e
step_faults (k ∷ ks) b t e = refl

or_else-assoc : (a b c : Kinds) → or_else (or_else a b) c ≡ or_else a (or_else b c)
or_else-assoc [] b c = refl
or_else-assoc (k ∷ ks) b c = refl

pub total_is : (w : Walk) (xs : List Text) → or_else (walk_fault top [] w xs) (last_faults (fold (walked top.rules []) w xs).held) ≡ (total w xs).0
unfolding total walk_fault
total_is w [] = refl
total_is w (x ∷ xs) = or_else-assoc (turn_fault top [] w x) _ _ ∙ step_faults (turn_fault top [] w x) _ _ (total_is (walked top.rules [] w x) xs)

pub fault_is : (words : List Text) → fault_of the_app words ≡ (total (at_rows []) (drop 1 words)).0
fault_is words = leaf_fault (built the_app) nothing_held (drop 1 words) refl ∙ total_is (at_rows []) (drop 1 words)

step_rows : (a : Kinds) (t : Total) → (step_total a t).0 ≡ [] → (step_total a t ≡ t) × (t.0 ≡ [])
step_rows [] t e = (refl, e)
step_rows (k ∷ ks) t e = absurd cc

-- where there is no fault, the rows are those of the walk
pub rows_are : (w : Walk) (xs : List Text) → (total w xs).0 ≡ [] → (total w xs).1 ≡ finished top.rules (fold (walked top.rules []) w xs).held
unfolding total
rows_are w [] e = refl
rows_are w (x ∷ xs) e =
    let h = step_rows (turn_fault top [] w x) (total (walked top.rules [] w x) xs) e in
    ap (λ (t : Total). t.1) h.0 ∙ rows_are (walked top.rules [] w x) xs h.1

-- ---- an option and its value in one word

-- the word is one of this name and value, and not `--`
pub record Says (word : Text) (name : Text) (v : Option Text) : Type 0 where
  pub is : long_of word ≡ Some (name, v)
  pub plain : bytes_eq word (45 ∷ 45 ∷ []) ≡ false

pub value_passes : (o : Opt) (rows : List Row) (word v : Text) → Says word (name_of o) (Some v) → has_row (name_of o) rows ≡ false → turn_fault top [] (at_rows rows) word ≡ []
unfolding clap_on_literals
value_passes mode rows word v s fresh = rw (s.is, s.plain, fresh) refl
value_passes workers rows word v s fresh = rw (s.is, s.plain, fresh) refl
value_passes seed rows word v s fresh = rw (s.is, s.plain, fresh) refl
value_passes trees rows word v s fresh = rw (s.is, s.plain, fresh) refl

pub value_again : (o : Opt) (rows : List Row) (word v : Text) → Says word (name_of o) (Some v) → has_row (name_of o) rows ≡ true → turn_fault top [] (at_rows rows) word ≡ kind.ArgumentConflict ∷ []
unfolding clap_on_literals
value_again mode rows word v s used_before = rw (s.is, s.plain, used_before) refl
value_again workers rows word v s used_before = rw (s.is, s.plain, used_before) refl
value_again seed rows word v s used_before = rw (s.is, s.plain, used_before) refl
value_again trees rows word v s used_before = rw (s.is, s.plain, used_before) refl

pub value_walks : (o : Opt) (rows : List Row) (word v : Text) → Says word (name_of o) (Some v) → walked top.rules [] (at_rows rows) word ≡ at_rows (used (rule o) (v ∷ []) rows)
unfolding clap_on_literals
value_walks mode rows word v s = rw (s.is, s.plain) refl
value_walks workers rows word v s = rw (s.is, s.plain) refl
value_walks seed rows word v s = rw (s.is, s.plain) refl
value_walks trees rows word v s = rw (s.is, s.plain) refl

-- ---- an option that waits

pub waits_passes : (o : Opt) (rows : List Row) (word : Text) → Says word (name_of o) None → turn_fault top [] (at_rows rows) word ≡ []
unfolding clap_on_literals
waits_passes mode rows word s = rw (s.is, s.plain) refl
waits_passes workers rows word s = rw (s.is, s.plain) refl
waits_passes seed rows word s = rw (s.is, s.plain) refl
waits_passes trees rows word s = rw (s.is, s.plain) refl

pub waits_walks : (o : Opt) (rows : List Row) (word : Text) → Says word (name_of o) None → walked top.rules [] (at_rows rows) word ≡ waits_at o rows
unfolding clap_on_literals
waits_walks mode rows word s = rw (s.is, s.plain) refl
waits_walks workers rows word s = rw (s.is, s.plain) refl
waits_walks seed rows word s = rw (s.is, s.plain) refl
waits_walks trees rows word s = rw (s.is, s.plain) refl

-- ---- the flag

pub flag_passes : (rows : List Row) (word : Text) → Says word (codes "history") None → has_row (codes "history") rows ≡ false → turn_fault top [] (at_rows rows) word ≡ []
unfolding clap_on_literals
flag_passes rows word s fresh = rw (s.is, s.plain, fresh) refl

pub flag_again : (rows : List Row) (word : Text) → Says word (codes "history") None → has_row (codes "history") rows ≡ true → turn_fault top [] (at_rows rows) word ≡ kind.ArgumentConflict ∷ []
unfolding clap_on_literals
flag_again rows word s used_before = rw (s.is, s.plain, used_before) refl

pub flag_walks : (rows : List Row) (word : Text) → Says word (codes "history") None → walked top.rules [] (at_rows rows) word ≡ at_rows (used history [] rows)
unfolding clap_on_literals
flag_walks rows word s = rw (s.is, s.plain) refl

-- ---- the value of an option that waits

pub comes_passes : (o : Opt) (rows : List Row) (word : Text) → bytes_eq word (45 ∷ 45 ∷ []) ≡ false → long_of word ≡ None → short_of word ≡ None → turn_fault top [] (waits_at o rows) word ≡ []
unfolding clap_on_literals
comes_passes mode rows word plain l s = rw (plain, l, s) refl
comes_passes workers rows word plain l s = rw (plain, l, s) refl
comes_passes seed rows word plain l s = rw (plain, l, s) refl
comes_passes trees rows word plain l s = rw (plain, l, s) refl

pub comes_walks : (o : Opt) (rows : List Row) (word : Text) → bytes_eq word (45 ∷ 45 ∷ []) ≡ false → long_of word ≡ None → short_of word ≡ None → walked top.rules [] (waits_at o rows) word ≡ full_at o word rows
unfolding clap_on_literals
comes_walks mode rows word plain l s = rw (plain, l, s) refl
comes_walks workers rows word plain l s = rw (plain, l, s) refl
comes_walks seed rows word plain l s = rw (plain, l, s) refl
comes_walks trees rows word plain l s = rw (plain, l, s) refl

-- ---- what fails

pub cond_none : {A : Type 0} (b : Bool) (x : A) (rest : Option A) → (if b then Some x else rest) ≡ None → (b ≡ false) × (rest ≡ None)
cond_none true x rest e = absurd (cc e)
cond_none false x rest e = (refl, e)

pub record IsUnknown (name : Text) : Type 0 where
  pub mode_not : bytes_eq (codes "mode") name ≡ false
  pub workers_not : bytes_eq (codes "workers") name ≡ false
  pub seed_not : bytes_eq (codes "seed") name ≡ false
  pub trees_not : bytes_eq (codes "trees") name ≡ false
  pub history_not : bytes_eq (codes "history") name ≡ false

pub unknown_is : (name : Text) → option_of name ≡ None → bytes_eq (codes "history") name ≡ false → IsUnknown name
unknown_is name e h =
    let a = cond_none (bytes_eq (codes "mode") name) mode _ e in
    let b = cond_none (bytes_eq (codes "workers") name) workers _ a.1 in
    let c = cond_none (bytes_eq (codes "seed") name) seed _ b.1 in
    let d = cond_none (bytes_eq (codes "trees") name) trees _ c.1 in
    record { mode_not = a.0; workers_not = b.0; seed_not = c.0; trees_not = d.0; history_not = h }

-- between two options, with what is pending, and where an option waits
abbrev pub idle_with : List Row → Option (Text × List Text) → Walk
idle_with rows p = record { held = record { rows = rows; pending = p; skip = 0 }; waiting = idle; position = 1; is_trailing = false; stopped = None }

pub unknown_fails : (rows : List Row) (p : Option (Text × List Text)) (word name : Text) (v : Option Text) → Says word name v → IsUnknown name → turn_fault top [] (idle_with rows p) word ≡ kind.UnknownArgument ∷ []
unfolding clap_on_literals
unknown_fails rows p word name v s u = rw (s.is, s.plain, u.mode_not, u.workers_not, u.seed_not, u.trees_not, u.history_not) refl

pub unknown_fails_waiting : (o : Opt) (rows : List Row) (word name : Text) (v : Option Text) → Says word name v → IsUnknown name → turn_fault top [] (waits_at o rows) word ≡ kind.UnknownArgument ∷ []
unfolding clap_on_literals
unknown_fails_waiting o rows word name v s u = rw (s.is, s.plain, u.mode_not, u.workers_not, u.seed_not, u.trees_not, u.history_not) refl

pub flag_value_fails : (rows : List Row) (p : Option (Text × List Text)) (word v : Text) → Says word (codes "history") (Some v) → turn_fault top [] (idle_with rows p) word ≡ kind.TooManyValues ∷ []
unfolding clap_on_literals
flag_value_fails rows p word v s = rw (s.is, s.plain) refl

pub stray_fails : (rows : List Row) (p : Option (Text × List Text)) (word : Text) → long_of word ≡ None → bytes_eq word (45 ∷ 45 ∷ []) ≡ false → short_of word ≡ None → turn_fault top [] (idle_with rows p) word ≡ kind.UnknownArgument ∷ []
unfolding clap_on_literals
stray_fails rows p word l plain s = rw (l, plain, s) refl

pub waits_known_fails : (o q : Opt) (rows : List Row) (word : Text) (v : Option Text) → Says word (name_of q) v → turn_fault top [] (waits_at o rows) word ≡ kind.InvalidValue ∷ []
unfolding clap_on_literals
waits_known_fails mode mode rows word None s = rw (s.is, s.plain) refl
waits_known_fails mode mode rows word (Some v) s = rw (s.is, s.plain) refl
waits_known_fails mode workers rows word None s = rw (s.is, s.plain) refl
waits_known_fails mode workers rows word (Some v) s = rw (s.is, s.plain) refl
waits_known_fails mode seed rows word None s = rw (s.is, s.plain) refl
waits_known_fails mode seed rows word (Some v) s = rw (s.is, s.plain) refl
waits_known_fails mode trees rows word None s = rw (s.is, s.plain) refl
waits_known_fails mode trees rows word (Some v) s = rw (s.is, s.plain) refl
waits_known_fails workers mode rows word None s = rw (s.is, s.plain) refl
waits_known_fails workers mode rows word (Some v) s = rw (s.is, s.plain) refl
waits_known_fails workers workers rows word None s = rw (s.is, s.plain) refl
waits_known_fails workers workers rows word (Some v) s = rw (s.is, s.plain) refl
waits_known_fails workers seed rows word None s = rw (s.is, s.plain) refl
waits_known_fails workers seed rows word (Some v) s = rw (s.is, s.plain) refl
waits_known_fails workers trees rows word None s = rw (s.is, s.plain) refl
waits_known_fails workers trees rows word (Some v) s = rw (s.is, s.plain) refl
waits_known_fails seed mode rows word None s = rw (s.is, s.plain) refl
waits_known_fails seed mode rows word (Some v) s = rw (s.is, s.plain) refl
waits_known_fails seed workers rows word None s = rw (s.is, s.plain) refl
waits_known_fails seed workers rows word (Some v) s = rw (s.is, s.plain) refl
waits_known_fails seed seed rows word None s = rw (s.is, s.plain) refl
waits_known_fails seed seed rows word (Some v) s = rw (s.is, s.plain) refl
waits_known_fails seed trees rows word None s = rw (s.is, s.plain) refl
waits_known_fails seed trees rows word (Some v) s = rw (s.is, s.plain) refl
waits_known_fails trees mode rows word None s = rw (s.is, s.plain) refl
waits_known_fails trees mode rows word (Some v) s = rw (s.is, s.plain) refl
waits_known_fails trees workers rows word None s = rw (s.is, s.plain) refl
waits_known_fails trees workers rows word (Some v) s = rw (s.is, s.plain) refl
waits_known_fails trees seed rows word None s = rw (s.is, s.plain) refl
waits_known_fails trees seed rows word (Some v) s = rw (s.is, s.plain) refl
waits_known_fails trees trees rows word None s = rw (s.is, s.plain) refl
waits_known_fails trees trees rows word (Some v) s = rw (s.is, s.plain) refl

pub waits_ends : (o : Opt) (rows : List Row) → (total (waits_at o rows) []).0 ≡ kind.InvalidValue ∷ []
unfolding clap_on_literals total
waits_ends mode rows = refl
waits_ends workers rows = refl
waits_ends seed rows = refl
waits_ends trees rows = refl

-- ---- a value that has come is as good as used
pub full_turn : (o q : Opt) (rows : List Row) (x word : Text) (v : Option Text) → has_row (name_of o) rows ≡ false → Says word (name_of q) v → turn_fault top [] (full_at o x rows) word ≡ turn_fault top [] (at_rows (used (rule o) (x ∷ []) rows)) word
unfolding clap_on_literals
full_turn mode mode rows x word None fresh s = rw (s.is, s.plain, fresh) refl
full_turn mode mode rows x word (Some v) fresh s = rw (s.is, s.plain, fresh) refl
full_turn mode workers rows x word None fresh s = rw (s.is, s.plain, fresh) refl
full_turn mode workers rows x word (Some v) fresh s = rw (s.is, s.plain, fresh) refl
full_turn mode seed rows x word None fresh s = rw (s.is, s.plain, fresh) refl
full_turn mode seed rows x word (Some v) fresh s = rw (s.is, s.plain, fresh) refl
full_turn mode trees rows x word None fresh s = rw (s.is, s.plain, fresh) refl
full_turn mode trees rows x word (Some v) fresh s = rw (s.is, s.plain, fresh) refl
full_turn workers mode rows x word None fresh s = rw (s.is, s.plain, fresh) refl
full_turn workers mode rows x word (Some v) fresh s = rw (s.is, s.plain, fresh) refl
full_turn workers workers rows x word None fresh s = rw (s.is, s.plain, fresh) refl
full_turn workers workers rows x word (Some v) fresh s = rw (s.is, s.plain, fresh) refl
full_turn workers seed rows x word None fresh s = rw (s.is, s.plain, fresh) refl
full_turn workers seed rows x word (Some v) fresh s = rw (s.is, s.plain, fresh) refl
full_turn workers trees rows x word None fresh s = rw (s.is, s.plain, fresh) refl
full_turn workers trees rows x word (Some v) fresh s = rw (s.is, s.plain, fresh) refl
full_turn seed mode rows x word None fresh s = rw (s.is, s.plain, fresh) refl
full_turn seed mode rows x word (Some v) fresh s = rw (s.is, s.plain, fresh) refl
full_turn seed workers rows x word None fresh s = rw (s.is, s.plain, fresh) refl
full_turn seed workers rows x word (Some v) fresh s = rw (s.is, s.plain, fresh) refl
full_turn seed seed rows x word None fresh s = rw (s.is, s.plain, fresh) refl
full_turn seed seed rows x word (Some v) fresh s = rw (s.is, s.plain, fresh) refl
full_turn seed trees rows x word None fresh s = rw (s.is, s.plain, fresh) refl
full_turn seed trees rows x word (Some v) fresh s = rw (s.is, s.plain, fresh) refl
full_turn trees mode rows x word None fresh s = rw (s.is, s.plain, fresh) refl
full_turn trees mode rows x word (Some v) fresh s = rw (s.is, s.plain, fresh) refl
full_turn trees workers rows x word None fresh s = rw (s.is, s.plain, fresh) refl
full_turn trees workers rows x word (Some v) fresh s = rw (s.is, s.plain, fresh) refl
full_turn trees seed rows x word None fresh s = rw (s.is, s.plain, fresh) refl
full_turn trees seed rows x word (Some v) fresh s = rw (s.is, s.plain, fresh) refl
full_turn trees trees rows x word None fresh s = rw (s.is, s.plain, fresh) refl
full_turn trees trees rows x word (Some v) fresh s = rw (s.is, s.plain, fresh) refl

pub full_walk : (o q : Opt) (rows : List Row) (x word : Text) (v : Option Text) → Says word (name_of q) v → walked top.rules [] (full_at o x rows) word ≡ walked top.rules [] (at_rows (used (rule o) (x ∷ []) rows)) word
unfolding clap_on_literals
full_walk mode mode rows x word None s = rw (s.is, s.plain) refl
full_walk mode mode rows x word (Some v) s = rw (s.is, s.plain) refl
full_walk mode workers rows x word None s = rw (s.is, s.plain) refl
full_walk mode workers rows x word (Some v) s = rw (s.is, s.plain) refl
full_walk mode seed rows x word None s = rw (s.is, s.plain) refl
full_walk mode seed rows x word (Some v) s = rw (s.is, s.plain) refl
full_walk mode trees rows x word None s = rw (s.is, s.plain) refl
full_walk mode trees rows x word (Some v) s = rw (s.is, s.plain) refl
full_walk workers mode rows x word None s = rw (s.is, s.plain) refl
full_walk workers mode rows x word (Some v) s = rw (s.is, s.plain) refl
full_walk workers workers rows x word None s = rw (s.is, s.plain) refl
full_walk workers workers rows x word (Some v) s = rw (s.is, s.plain) refl
full_walk workers seed rows x word None s = rw (s.is, s.plain) refl
full_walk workers seed rows x word (Some v) s = rw (s.is, s.plain) refl
full_walk workers trees rows x word None s = rw (s.is, s.plain) refl
full_walk workers trees rows x word (Some v) s = rw (s.is, s.plain) refl
full_walk seed mode rows x word None s = rw (s.is, s.plain) refl
full_walk seed mode rows x word (Some v) s = rw (s.is, s.plain) refl
full_walk seed workers rows x word None s = rw (s.is, s.plain) refl
full_walk seed workers rows x word (Some v) s = rw (s.is, s.plain) refl
full_walk seed seed rows x word None s = rw (s.is, s.plain) refl
full_walk seed seed rows x word (Some v) s = rw (s.is, s.plain) refl
full_walk seed trees rows x word None s = rw (s.is, s.plain) refl
full_walk seed trees rows x word (Some v) s = rw (s.is, s.plain) refl
full_walk trees mode rows x word None s = rw (s.is, s.plain) refl
full_walk trees mode rows x word (Some v) s = rw (s.is, s.plain) refl
full_walk trees workers rows x word None s = rw (s.is, s.plain) refl
full_walk trees workers rows x word (Some v) s = rw (s.is, s.plain) refl
full_walk trees seed rows x word None s = rw (s.is, s.plain) refl
full_walk trees seed rows x word (Some v) s = rw (s.is, s.plain) refl
full_walk trees trees rows x word None s = rw (s.is, s.plain) refl
full_walk trees trees rows x word (Some v) s = rw (s.is, s.plain) refl

pub full_again : (o q : Opt) (rows : List Row) (x word : Text) (v : Option Text) → has_row (name_of o) rows ≡ true → Says word (name_of q) v → turn_fault top [] (full_at o x rows) word ≡ kind.ArgumentConflict ∷ []
unfolding clap_on_literals
full_again mode mode rows x word None again s = rw (s.is, s.plain, again) refl
full_again mode mode rows x word (Some v) again s = rw (s.is, s.plain, again) refl
full_again mode workers rows x word None again s = rw (s.is, s.plain, again) refl
full_again mode workers rows x word (Some v) again s = rw (s.is, s.plain, again) refl
full_again mode seed rows x word None again s = rw (s.is, s.plain, again) refl
full_again mode seed rows x word (Some v) again s = rw (s.is, s.plain, again) refl
full_again mode trees rows x word None again s = rw (s.is, s.plain, again) refl
full_again mode trees rows x word (Some v) again s = rw (s.is, s.plain, again) refl
full_again workers mode rows x word None again s = rw (s.is, s.plain, again) refl
full_again workers mode rows x word (Some v) again s = rw (s.is, s.plain, again) refl
full_again workers workers rows x word None again s = rw (s.is, s.plain, again) refl
full_again workers workers rows x word (Some v) again s = rw (s.is, s.plain, again) refl
full_again workers seed rows x word None again s = rw (s.is, s.plain, again) refl
full_again workers seed rows x word (Some v) again s = rw (s.is, s.plain, again) refl
full_again workers trees rows x word None again s = rw (s.is, s.plain, again) refl
full_again workers trees rows x word (Some v) again s = rw (s.is, s.plain, again) refl
full_again seed mode rows x word None again s = rw (s.is, s.plain, again) refl
full_again seed mode rows x word (Some v) again s = rw (s.is, s.plain, again) refl
full_again seed workers rows x word None again s = rw (s.is, s.plain, again) refl
full_again seed workers rows x word (Some v) again s = rw (s.is, s.plain, again) refl
full_again seed seed rows x word None again s = rw (s.is, s.plain, again) refl
full_again seed seed rows x word (Some v) again s = rw (s.is, s.plain, again) refl
full_again seed trees rows x word None again s = rw (s.is, s.plain, again) refl
full_again seed trees rows x word (Some v) again s = rw (s.is, s.plain, again) refl
full_again trees mode rows x word None again s = rw (s.is, s.plain, again) refl
full_again trees mode rows x word (Some v) again s = rw (s.is, s.plain, again) refl
full_again trees workers rows x word None again s = rw (s.is, s.plain, again) refl
full_again trees workers rows x word (Some v) again s = rw (s.is, s.plain, again) refl
full_again trees seed rows x word None again s = rw (s.is, s.plain, again) refl
full_again trees seed rows x word (Some v) again s = rw (s.is, s.plain, again) refl
full_again trees trees rows x word None again s = rw (s.is, s.plain, again) refl
full_again trees trees rows x word (Some v) again s = rw (s.is, s.plain, again) refl

-- ---- with the flag, and at the end
pub full_turn_flag : (o : Opt) (rows : List Row) (x word : Text) → has_row (name_of o) rows ≡ false → Says word (codes "history") None → turn_fault top [] (full_at o x rows) word ≡ turn_fault top [] (at_rows (used (rule o) (x ∷ []) rows)) word
unfolding clap_on_literals
full_turn_flag mode rows x word fresh s = rw (s.is, s.plain, fresh) refl
full_turn_flag workers rows x word fresh s = rw (s.is, s.plain, fresh) refl
full_turn_flag seed rows x word fresh s = rw (s.is, s.plain, fresh) refl
full_turn_flag trees rows x word fresh s = rw (s.is, s.plain, fresh) refl

pub full_walk_flag : (o : Opt) (rows : List Row) (x word : Text) → Says word (codes "history") None → walked top.rules [] (full_at o x rows) word ≡ walked top.rules [] (at_rows (used (rule o) (x ∷ []) rows)) word
unfolding clap_on_literals
full_walk_flag mode rows x word s = rw (s.is, s.plain) refl
full_walk_flag workers rows x word s = rw (s.is, s.plain) refl
full_walk_flag seed rows x word s = rw (s.is, s.plain) refl
full_walk_flag trees rows x word s = rw (s.is, s.plain) refl

pub full_again_flag : (o : Opt) (rows : List Row) (x word : Text) → has_row (name_of o) rows ≡ true → Says word (codes "history") None → turn_fault top [] (full_at o x rows) word ≡ kind.ArgumentConflict ∷ []
unfolding clap_on_literals
full_again_flag mode rows x word again s = rw (s.is, s.plain, again) refl
full_again_flag workers rows x word again s = rw (s.is, s.plain, again) refl
full_again_flag seed rows x word again s = rw (s.is, s.plain, again) refl
full_again_flag trees rows x word again s = rw (s.is, s.plain, again) refl

pub waits_flag_fails : (o : Opt) (rows : List Row) (word : Text) → Says word (codes "history") None → turn_fault top [] (waits_at o rows) word ≡ kind.InvalidValue ∷ []
unfolding clap_on_literals
waits_flag_fails mode rows word s = rw (s.is, s.plain) refl
waits_flag_fails workers rows word s = rw (s.is, s.plain) refl
waits_flag_fails seed rows word s = rw (s.is, s.plain) refl
waits_flag_fails trees rows word s = rw (s.is, s.plain) refl

pub waits_flag_value_fails : (o : Opt) (rows : List Row) (word v : Text) → Says word (codes "history") (Some v) → turn_fault top [] (waits_at o rows) word ≡ kind.TooManyValues ∷ []
unfolding clap_on_literals
waits_flag_value_fails o rows word v s = rw (s.is, s.plain) refl

pub full_ends : (o : Opt) (rows : List Row) (x : Text) → has_row (name_of o) rows ≡ false → total (full_at o x rows) [] ≡ total (at_rows (used (rule o) (x ∷ []) rows)) []
unfolding total
full_ends mode rows x fresh = rw fresh refl
full_ends workers rows x fresh = rw fresh refl
full_ends seed rows x fresh = rw fresh refl
full_ends trees rows x fresh = rw fresh refl

pub full_ends_again : (o : Opt) (rows : List Row) (x : Text) → has_row (name_of o) rows ≡ true → (total (full_at o x rows) []).0 ≡ kind.ArgumentConflict ∷ []
unfolding total
full_ends_again mode rows x again = rw again refl
full_ends_again workers rows x again = rw again refl
full_ends_again seed rows x again = rw again refl
full_ends_again trees rows x again = rw again refl

-- ---- a hyphen and more
pub short_fails : (rows : List Row) (p : Option (Text × List Text)) (word : Text) (f : ℕ) (fs : Text) (c : ℕ) → long_of word ≡ None → bytes_eq word (45 ∷ 45 ∷ []) ≡ false → short_of word ≡ Some (f ∷ fs) → slice_get (chars (f ∷ fs)) 0 ≡ Some c
    → turn_fault top [] (idle_with rows p) word ≡ kind.UnknownArgument ∷ []
unfolding walked bundle_met flags_fault
short_fails rows p word f fs c l plain s e = rw (l, plain, s, e) refl

pub short_fails_waiting : (o : Opt) (rows : List Row) (word : Text) (f : ℕ) (fs : Text) (c : ℕ) → long_of word ≡ None → bytes_eq word (45 ∷ 45 ∷ []) ≡ false → short_of word ≡ Some (f ∷ fs) → slice_get (chars (f ∷ fs)) 0 ≡ Some c
    → turn_fault top [] (waits_at o rows) word ≡ kind.UnknownArgument ∷ []
unfolding walked bundle_met flags_fault
short_fails_waiting o rows word f fs c l plain s e = rw (l, plain, s, e) refl

pub no_char_fails : (rows : List Row) (p : Option (Text × List Text)) (word : Text) (f : ℕ) (fs : Text) → long_of word ≡ None → bytes_eq word (45 ∷ 45 ∷ []) ≡ false → short_of word ≡ Some (f ∷ fs) → slice_get (chars (f ∷ fs)) 0 ≡ None
    → turn_fault top [] (idle_with rows p) word ≡ kind.UnknownArgument ∷ []
unfolding walked bundle_met flags_fault
no_char_fails rows p word f fs l plain s e = rw (l, plain, s, e) refl

pub no_char_passes : (o : Opt) (rows : List Row) (word : Text) (f : ℕ) (fs : Text) → long_of word ≡ None → bytes_eq word (45 ∷ 45 ∷ []) ≡ false → short_of word ≡ Some (f ∷ fs) → slice_get (chars (f ∷ fs)) 0 ≡ None
    → turn_fault top [] (waits_at o rows) word ≡ []
unfolding walked bundle_met flags_fault
no_char_passes mode rows word f fs l plain s e = rw (l, plain, s, e) refl
no_char_passes workers rows word f fs l plain s e = rw (l, plain, s, e) refl
no_char_passes seed rows word f fs l plain s e = rw (l, plain, s, e) refl
no_char_passes trees rows word f fs l plain s e = rw (l, plain, s, e) refl

pub no_char_walks : (o : Opt) (rows : List Row) (word : Text) (f : ℕ) (fs : Text) → long_of word ≡ None → bytes_eq word (45 ∷ 45 ∷ []) ≡ false → short_of word ≡ Some (f ∷ fs) → slice_get (chars (f ∷ fs)) 0 ≡ None
    → walked top.rules [] (waits_at o rows) word ≡ full_at o word rows
unfolding walked bundle_met flags_fault
no_char_walks mode rows word f fs l plain s e = rw (l, plain, s, e) refl
no_char_walks workers rows word f fs l plain s e = rw (l, plain, s, e) refl
no_char_walks seed rows word f fs l plain s e = rw (l, plain, s, e) refl
no_char_walks trees rows word f fs l plain s e = rw (l, plain, s, e) refl

-- ---- the rows
pub at_row_absent : (id : Text) (change : Row → List Row) (missing rows : List Row) → has_row id rows ≡ false → at_row id change missing rows ≡ rows ++ missing
at_row_absent id change missing [] e = refl
at_row_absent id change missing (r ∷ rs) e = by (bytes_eq r.id id) refl (at_row_absent id change missing rs)
  where
    by : (b : Bool) → bytes_eq r.id id ≡ b → (has_row id rs ≡ false → at_row id change missing rs ≡ rs ++ missing) → at_row id change missing (r ∷ rs) ≡ (r ∷ rs) ++ missing
    by true b more = absurd (let x : has_row id (r ∷ rs) ≡ true = rw b refl in cc)
    by false b more = rw b (ap (λ (t : List Row). r ∷ t) (more (rw b at e)))

pub find_none : (id : Text) (rows : List Row) → has_row id rows ≡ false → find (λ (r : Row). bytes_eq r.id id) rows ≡ None
find_none id [] e = refl
find_none id (r ∷ rs) e = by (bytes_eq r.id id) refl (find_none id rs)
  where
    by : (b : Bool) → bytes_eq r.id id ≡ b → (has_row id rs ≡ false → find (λ (x : Row). bytes_eq x.id id) rs ≡ None) → find (λ (x : Row). bytes_eq x.id id) (r ∷ rs) ≡ None
    by true b more = absurd (let x : has_row id (r ∷ rs) ≡ true = rw b refl in cc)
    by false b more = rw b (more (rw b at e))

pub has_push : (id : Text) (rows : List Row) (r : Row) → has_row id (rows ++ r ∷ []) ≡ (has_row id rows || bytes_eq r.id id)
has_push id rows r = list_any-append (λ (x : Row). bytes_eq x.id id) rows (r ∷ []) ∙ ap (λ (b : Bool). has_row id rows || b) (or-false (bytes_eq r.id id))

pub nil_append : (rows : List Row) (id : Text) → has_row id rows ≡ false → without id rows ≡ rows
nil_append rows id e = at_row_absent id (λ _. []) [] rows e ∙ append-nil rows

pub pushed_rows : (id : Text) (how : Reading) (vs : List Text) (rows : List Row) → has_row id rows ≡ false
    → with_values id how CommandLine vs (without id rows) ≡ rows ++ (let r : Row = record { id = id; values = vs; count = None; source = Some CommandLine; reading = how } in r) ∷ []
pushed_rows id how vs rows e = ap (with_values id how CommandLine vs) (nil_append rows id e) ∙ at_row_absent id (more_values CommandLine vs) _ rows e

-- ---- what was given, and the rows
abbrev pub flag_value : Bool → Option Text
flag_value true = Some (codes "true")
flag_value false = None

pub record Rel (g : Fields) (rows : List Row) : Type 0 where
  pub has : (o : Opt) → has_row (name_of o) rows ≡ is_some (field_of o g)
  pub flag : has_row (codes "history") rows ≡ g.history_given
  pub modes : is_given (codes "mode") rows ≡ is_some g.mode_given
  pub values : (o : Opt) → first_of (name_of o) rows ≡ field_of o g
  pub on : first_of (codes "history") rows ≡ flag_value g.history_given

-- what the rows say at the end
pub record Holds (g : Fields) (rows : List Row) : Type 0 where
  pub values : (o : Opt) → first_of (name_of o) rows ≡ field_of o g
  pub on : is_on (first_of (codes "history") rows) ≡ g.history_given

pub rel_start : Rel no_fields []
rel_start = record { has = has_none; flag = refl; modes = refl; values = no_value; on = refl }
  where
    has_none : (o : Opt) → has_row (name_of o) [] ≡ is_some (field_of o no_fields)
    has_none mode = refl
    has_none workers = refl
    has_none seed = refl
    has_none trees = refl

    no_value : (o : Opt) → first_of (name_of o) [] ≡ field_of o no_fields
    no_value mode = refl
    no_value workers = refl
    no_value seed = refl
    no_value trees = refl

abbrev pub new_row : Rule → Text → Row
new_row a v = record { id = a.id; values = v ∷ []; count = None; source = Some CommandLine; reading = reading_by a }

pub used_push : (o : Opt) (v : Text) (rows : List Row) → has_row (name_of o) rows ≡ false → used (rule o) (v ∷ []) rows ≡ rows ++ new_row (rule o) v ∷ []
used_push mode v rows e = pushed_rows (name_of mode) (reading_by (rule mode)) (v ∷ []) rows e
used_push workers v rows e = pushed_rows (name_of workers) (reading_by (rule workers)) (v ∷ []) rows e
used_push seed v rows e = pushed_rows (name_of seed) (reading_by (rule seed)) (v ∷ []) rows e
used_push trees v rows e = pushed_rows (name_of trees) (reading_by (rule trees)) (v ∷ []) rows e

pub flag_push : (rows : List Row) → has_row (codes "history") rows ≡ false → used history [] rows ≡ rows ++ new_row history (codes "true") ∷ []
flag_push rows e = pushed_rows (codes "history") (reading_by history) (codes "true" ∷ []) rows e

pub given_push : (id : Text) (rows : List Row) (r : Row) → bytes_eq r.id id ≡ false → is_given id (rows ++ r ∷ []) ≡ is_given id rows
given_push id rows r e =
    let p : Row → Bool = λ x. bytes_eq x.id id in
    let none : find p (r ∷ []) ≡ None = rw e refl in
    ap (λ (o : Option Row). option_map_or (λ (x : Row). explicit_source x.source) o false) (find-append p rows (r ∷ []) ∙ ap (λ (o : Option Row). option_or (find p rows) o) none ∙ or_none (find p rows))
  where
    or_none : (o : Option Row) → option_or o None ≡ o
    or_none None = refl
    or_none (Some x) = refl

pub given_new : (rows : List Row) (v : Text) → has_row (codes "mode") rows ≡ false → is_given (codes "mode") (rows ++ new_row (rule mode) v ∷ []) ≡ true
given_new rows v e =
    let p : Row → Bool = λ x. bytes_eq x.id (codes "mode") in
    ap (λ (o : Option Row). option_map_or (λ (x : Row). explicit_source x.source) o false) (find-append p rows (new_row (rule mode) v ∷ []) ∙ ap (λ (o : Option Row). option_or o (find p (new_row (rule mode) v ∷ []))) (find_none (codes "mode") rows e))

first_push : (id : Text) (rows : List Row) (r : Row) → bytes_eq r.id id ≡ false → first_of id (rows ++ r ∷ []) ≡ first_of id rows
first_push id rows r e =
    let p : Row → Bool = λ x. bytes_eq x.id id in
    let none : find p (r ∷ []) ≡ None = rw e refl in
    ap (λ (o : Option Row). option_and_then (λ (x : Row). slice_get x.values 0) o) (find-append p rows (r ∷ []) ∙ ap (λ (o : Option Row). option_or (find p rows) o) none ∙ or_none (find p rows))
  where
    or_none : (o : Option Row) → option_or o None ≡ o
    or_none None = refl
    or_none (Some x) = refl

first_new : (id : Text) (rows : List Row) (r : Row) → bytes_eq r.id id ≡ true → has_row id rows ≡ false → first_of id (rows ++ r ∷ []) ≡ slice_get r.values 0
first_new id rows r t e =
    let p : Row → Bool = λ x. bytes_eq x.id id in
    let some : find p (r ∷ []) ≡ Some r = rw t refl in
    ap (λ (o : Option Row). option_and_then (λ (x : Row). slice_get x.values 0) o) (find-append p rows (r ∷ []) ∙ ap (λ (o : Option Row). option_or o (find p (r ∷ []))) (find_none id rows e) ∙ some)

pub rel_value : (g : Fields) (rows : List Row) (o : Opt) (v : Text) → Rel g rows → has_row (name_of o) rows ≡ false → Rel (with_field o v g) (rows ++ new_row (rule o) v ∷ [])
rel_value g rows mode v r fresh = record { has = each; flag = has_push (codes "history") rows (new_row (rule mode) v) ∙ or-false _ ∙ r.flag; modes = given_new rows v fresh; values = vals; on = first_push (codes "history") rows (new_row (rule mode) v) refl ∙ r.on }
  where
    vals : (q : Opt) → first_of (name_of q) (rows ++ new_row (rule mode) v ∷ []) ≡ field_of q (with_field mode v g)
    vals mode = first_new (name_of mode) rows (new_row (rule mode) v) refl fresh
    vals workers = first_push (name_of workers) rows (new_row (rule mode) v) refl ∙ r.values workers
    vals seed = first_push (name_of seed) rows (new_row (rule mode) v) refl ∙ r.values seed
    vals trees = first_push (name_of trees) rows (new_row (rule mode) v) refl ∙ r.values trees

    each : (q : Opt) → has_row (name_of q) (rows ++ new_row (rule mode) v ∷ []) ≡ is_some (field_of q (with_field mode v g))
    each mode = has_push (name_of mode) rows (new_row (rule mode) v) ∙ or-true _
    each workers = has_push (name_of workers) rows (new_row (rule mode) v) ∙ or-false _ ∙ r.has workers
    each seed = has_push (name_of seed) rows (new_row (rule mode) v) ∙ or-false _ ∙ r.has seed
    each trees = has_push (name_of trees) rows (new_row (rule mode) v) ∙ or-false _ ∙ r.has trees
rel_value g rows workers v r fresh = record { has = each; flag = has_push (codes "history") rows (new_row (rule workers) v) ∙ or-false _ ∙ r.flag; modes = given_push (codes "mode") rows (new_row (rule workers) v) refl ∙ r.modes; values = vals; on = first_push (codes "history") rows (new_row (rule workers) v) refl ∙ r.on }
  where
    vals : (q : Opt) → first_of (name_of q) (rows ++ new_row (rule workers) v ∷ []) ≡ field_of q (with_field workers v g)
    vals mode = first_push (name_of mode) rows (new_row (rule workers) v) refl ∙ r.values mode
    vals workers = first_new (name_of workers) rows (new_row (rule workers) v) refl fresh
    vals seed = first_push (name_of seed) rows (new_row (rule workers) v) refl ∙ r.values seed
    vals trees = first_push (name_of trees) rows (new_row (rule workers) v) refl ∙ r.values trees

    each : (q : Opt) → has_row (name_of q) (rows ++ new_row (rule workers) v ∷ []) ≡ is_some (field_of q (with_field workers v g))
    each mode = has_push (name_of mode) rows (new_row (rule workers) v) ∙ or-false _ ∙ r.has mode
    each workers = has_push (name_of workers) rows (new_row (rule workers) v) ∙ or-true _
    each seed = has_push (name_of seed) rows (new_row (rule workers) v) ∙ or-false _ ∙ r.has seed
    each trees = has_push (name_of trees) rows (new_row (rule workers) v) ∙ or-false _ ∙ r.has trees
rel_value g rows seed v r fresh = record { has = each; flag = has_push (codes "history") rows (new_row (rule seed) v) ∙ or-false _ ∙ r.flag; modes = given_push (codes "mode") rows (new_row (rule seed) v) refl ∙ r.modes; values = vals; on = first_push (codes "history") rows (new_row (rule seed) v) refl ∙ r.on }
  where
    vals : (q : Opt) → first_of (name_of q) (rows ++ new_row (rule seed) v ∷ []) ≡ field_of q (with_field seed v g)
    vals mode = first_push (name_of mode) rows (new_row (rule seed) v) refl ∙ r.values mode
    vals workers = first_push (name_of workers) rows (new_row (rule seed) v) refl ∙ r.values workers
    vals seed = first_new (name_of seed) rows (new_row (rule seed) v) refl fresh
    vals trees = first_push (name_of trees) rows (new_row (rule seed) v) refl ∙ r.values trees

    each : (q : Opt) → has_row (name_of q) (rows ++ new_row (rule seed) v ∷ []) ≡ is_some (field_of q (with_field seed v g))
    each mode = has_push (name_of mode) rows (new_row (rule seed) v) ∙ or-false _ ∙ r.has mode
    each workers = has_push (name_of workers) rows (new_row (rule seed) v) ∙ or-false _ ∙ r.has workers
    each seed = has_push (name_of seed) rows (new_row (rule seed) v) ∙ or-true _
    each trees = has_push (name_of trees) rows (new_row (rule seed) v) ∙ or-false _ ∙ r.has trees
rel_value g rows trees v r fresh = record { has = each; flag = has_push (codes "history") rows (new_row (rule trees) v) ∙ or-false _ ∙ r.flag; modes = given_push (codes "mode") rows (new_row (rule trees) v) refl ∙ r.modes; values = vals; on = first_push (codes "history") rows (new_row (rule trees) v) refl ∙ r.on }
  where
    vals : (q : Opt) → first_of (name_of q) (rows ++ new_row (rule trees) v ∷ []) ≡ field_of q (with_field trees v g)
    vals mode = first_push (name_of mode) rows (new_row (rule trees) v) refl ∙ r.values mode
    vals workers = first_push (name_of workers) rows (new_row (rule trees) v) refl ∙ r.values workers
    vals seed = first_push (name_of seed) rows (new_row (rule trees) v) refl ∙ r.values seed
    vals trees = first_new (name_of trees) rows (new_row (rule trees) v) refl fresh

    each : (q : Opt) → has_row (name_of q) (rows ++ new_row (rule trees) v ∷ []) ≡ is_some (field_of q (with_field trees v g))
    each mode = has_push (name_of mode) rows (new_row (rule trees) v) ∙ or-false _ ∙ r.has mode
    each workers = has_push (name_of workers) rows (new_row (rule trees) v) ∙ or-false _ ∙ r.has workers
    each seed = has_push (name_of seed) rows (new_row (rule trees) v) ∙ or-false _ ∙ r.has seed
    each trees = has_push (name_of trees) rows (new_row (rule trees) v) ∙ or-true _

pub rel_flag : (g : Fields) (rows : List Row) → Rel g rows → has_row (codes "history") rows ≡ false → Rel (record g { history_given = true }) (rows ++ new_row history (codes "true") ∷ [])
rel_flag g rows r fresh = record { has = each; flag = has_push (codes "history") rows (new_row history (codes "true")) ∙ or-true _; modes = given_push (codes "mode") rows (new_row history (codes "true")) refl ∙ r.modes; values = vals; on = first_new (codes "history") rows (new_row history (codes "true")) refl fresh }
  where
    vals : (q : Opt) → first_of (name_of q) (rows ++ new_row history (codes "true") ∷ []) ≡ field_of q (record g { history_given = true })
    vals mode = first_push (name_of mode) rows (new_row history (codes "true")) refl ∙ r.values mode
    vals workers = first_push (name_of workers) rows (new_row history (codes "true")) refl ∙ r.values workers
    vals seed = first_push (name_of seed) rows (new_row history (codes "true")) refl ∙ r.values seed
    vals trees = first_push (name_of trees) rows (new_row history (codes "true")) refl ∙ r.values trees

    each : (q : Opt) → has_row (name_of q) (rows ++ new_row history (codes "true") ∷ []) ≡ is_some (field_of q (record g { history_given = true }))
    each mode = has_push (name_of mode) rows (new_row history (codes "true")) ∙ or-false _ ∙ r.has mode
    each workers = has_push (name_of workers) rows (new_row history (codes "true")) ∙ or-false _ ∙ r.has workers
    each seed = has_push (name_of seed) rows (new_row history (codes "true")) ∙ or-false _ ∙ r.has seed
    each trees = has_push (name_of trees) rows (new_row history (codes "true")) ∙ or-false _ ∙ r.has trees

-- ---- the end
abbrev pub mode_wanted : Bool → Kinds
mode_wanted has_mode = if has_mode then [] else kind.MissingRequiredArgument ∷ []

pub keeps : (b : Bool) (rows : List Row) → (if b then rows else rows) ≡ rows
keeps true rows = refl
keeps false rows = refl

pub either : (b : Bool) (ks : Kinds) → (if b || true then [] else ks) ≡ []
either true ks = refl
either false ks = refl

pub no_default : (o : Opt) (rows : List Row) → with_default rows (rule o) ≡ rows
no_default mode rows = keeps (has_row (name_of mode) rows) rows
no_default workers rows = keeps (has_row (name_of workers) rows) rows
no_default seed rows = keeps (has_row (name_of seed) rows) rows
no_default trees rows = keeps (has_row (name_of trees) rows) rows

pub no_fault : (o : Opt) (rows : List Row) → default_fault rows (rule o) ≡ []
no_fault mode rows = either (has_row (name_of mode) rows) _
no_fault workers rows = either (has_row (name_of workers) rows) _
no_fault seed rows = either (has_row (name_of seed) rows) _
no_fault trees rows = either (has_row (name_of trees) rows) _

pub flag_no_fault : (rows : List Row) → default_fault rows history ≡ []
flag_no_fault rows = by (has_row (codes "history") rows) refl
  where
    by : (b : Bool) → has_row (codes "history") rows ≡ b → default_fault rows history ≡ []
    by true e = rw e refl
    by false e = rw e refl

pub modes_stay : (rows : List Row) → is_given (codes "mode") (with_default rows history) ≡ is_given (codes "mode") rows
modes_stay rows = by (has_row (codes "history") rows) refl
  where
    by : (b : Bool) → has_row (codes "history") rows ≡ b → is_given (codes "mode") (with_default rows history) ≡ is_given (codes "mode") rows
    by true e = rw e refl
    by false e = rw e (ap (is_given (codes "mode")) (at_row_absent (codes "history") (more_values DefaultValue (codes "false" ∷ [])) _ rows e) ∙ given_push (codes "mode") rows _ refl)

pub defaults_pass : (rows : List Row) → defaults_fault rows top.rules ≡ []
unfolding defaults_fault
defaults_pass rows = rw (no_default mode rows, no_default workers rows, no_default seed rows, no_default trees rows, no_fault mode rows, no_fault workers rows, no_fault seed rows, no_fault trees rows, flag_no_fault rows) refl

pub finished_is : (rows : List Row) → finished top.rules (record { rows = rows; pending = None; skip = 0 }) ≡ with_default rows history
finished_is rows = rw (no_default mode rows, no_default workers rows, no_default seed rows, no_default trees rows) refl

pub wanted_is : (b : Bool) → check_kinds false false (not b || false) ≡ mode_wanted b
wanted_is true = refl
wanted_is false = refl

pub not_flag : (o : Opt) → bytes_eq (codes "history") (name_of o) ≡ false
not_flag mode = refl
not_flag workers = refl
not_flag seed = refl
not_flag trees = refl

-- the rows with the flag's default
holds_at : (g : Fields) (rows : List Row) → Rel g rows → Holds g (with_default rows history)
holds_at g rows r = by (has_row (codes "history") rows) refl
  where
    on_by : (b : Bool) → is_on (flag_value b) ≡ b
    on_by true = refl
    on_by false = refl

    by : (b : Bool) → has_row (codes "history") rows ≡ b → Holds g (with_default rows history)
    by true e =
        let same : with_default rows history ≡ rows = rw e refl in
        subst (Holds g) (sym same) (record { values = r.values; on = ap is_on r.on ∙ on_by g.history_given })
    by false e =
        let row : Row = record { id = codes "history"; values = codes "false" ∷ []; count = None; source = Some DefaultValue; reading = reading_by history } in
        let more : with_default rows history ≡ rows ++ row ∷ [] = rw e (at_row_absent (codes "history") (more_values DefaultValue (codes "false" ∷ [])) (row ∷ []) rows e) in
        subst (Holds g) (sym more) (record {
          values = λ o. first_push (name_of o) rows row (not_flag o) ∙ r.values o;
          on = ap is_on (first_new (codes "history") rows row refl e) ∙ (sym e ∙ r.flag);
        })

pub ends_at : (g : Fields) (rows : List Row) → Rel g rows → ((total (at_rows rows) []).0 ≡ mode_wanted (is_some g.mode_given)) × Holds g (total (at_rows rows) []).1
unfolding total
ends_at g rows r =
    let m = ap (is_given (codes "mode")) (finished_is rows) ∙ modes_stay rows ∙ r.modes in
    (rw (defaults_pass rows, m) (wanted_is (is_some g.mode_given)), subst (Holds g) (sym (finished_is rows)) (holds_at g rows r))
