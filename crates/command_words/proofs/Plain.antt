-- The words as clap takes them, if a word that looks like an option is no value, give the same line as the plain
-- recursion: such a value meets no form.
use Rattle.std.proofs.Common.{◌≡◌, ◌∙◌, List, [], ◌∷◌, Option, Some, None, codes, refl, sym, ap, subst, ℕ, Bool, true, false}
use Rattle.std.specs.Prelude.{◌||◌, ◌&&◌, ◌==◌, drop, is_some, length, nat_le, option_and_then, slice_get, if◌then◌else◌}
use Rattle.std.specs.Option.{option_map_or}
use Rattle.std.specs.Str.{bytes_eq, chars}
use Rattle.std.proofs.lemmas.Bool.{eqb-true}
use Rattle.clap.specs.Lexer.{long_of, short_of}
use Rattle.clap.specs.Words.{Text}
use Rattle.command_words.specs.Numbers.{is_option_number}
use Rattle.command_words.specs.Lines.{is_given_in, line_with, mode_of}
use Rattle.command_words.specs.declared.Line.{Line}
use Rattle.command_words.specs.declared.ModeName.{ModeName}
use Rattle.command_words.specs.Grammar.{line_of_options, option_in}
use Rattle.command_words.proofs.Fields.{Fields, Opt, by_fields, by_option, fields_of, line_of_fields, mode, no_fields, option_of, fill, fill_history, seed, trees, field_of, with_field, workers}

-- a hyphen and a character after it
abbrev pub is_short_word : Text → Bool
is_short_word word = option_map_or (λ flags. is_some (slice_get (chars flags) 0)) (short_of word) false

-- what clap takes for no value
abbrev pub is_option_word : Text → Bool
is_option_word word = (is_some (long_of word) || is_short_word word) || bytes_eq word (codes "--")

-- what the words give where such a word is no value
unfoldable pub taken : Fields → Option Opt → List Text → Option Fields
taken g None [] = Some g
taken g (Some o) [] = None
taken g None (word ∷ rest) = by_option g (long_of word) (λ h waiting. taken h waiting rest)
taken g (Some o) (word ∷ rest) = if is_option_word word then None else option_and_then (λ h. taken h None rest) (fill o word g)

abbrev pub line_taken : List Text → Option Line
line_taken words = option_and_then line_of_fields (taken no_fields None (drop 1 words))

abbrev line_in : Option Fields → Option Line
line_in o = option_and_then line_of_fields o

-- ---- a word that begins with a hyphen meets no form
record BadForm (x : Text) : Type 0 where
  no_mode : mode_of x ≡ None
  no_number : is_option_number x ≡ false

last_false : (a b : Bool) → (a && b && false) ≡ false
last_false true true = refl
last_false true false = refl
last_false false true = refl
last_false false false = refl

hyphen_form : (rest : Text) → BadForm (45 ∷ rest)
hyphen_form rest = record { no_mode = refl; no_number = last_false (nat_le 1 (length (45 ∷ rest))) (nat_le (length (45 ∷ rest)) 20) }

bad_form : (x : Text) → is_option_word x ≡ true → BadForm x
bad_form [] e = absurd cc
bad_form (a ∷ rest) e = by (a == 45) refl
  where
    by : (b : Bool) → (a == 45) ≡ b → BadForm (a ∷ rest)
    by true h = subst (λ (z : ℕ). BadForm (z ∷ rest)) (sym (eqb-true a 45 h)) (hyphen_form rest)
    by false h = absurd (let f : is_option_word (a ∷ rest) ≡ false = rw h refl in cc)

first_of_three : (a b c : Bool) → a ≡ false → (a && b && c) ≡ false
first_of_three true b c e = absurd cc
first_of_three false b c e = refl

second_of_three : (a b c : Bool) → b ≡ false → (a && b && c) ≡ false
second_of_three true true c e = absurd cc
second_of_three true false c e = refl
second_of_three false b c e = refl

third_of_three : (a b c : Bool) → c ≡ false → (a && b && c) ≡ false
third_of_three a b true e = absurd cc
third_of_three a b false e = last_false a b

no_form : (low high : ℕ) (x : Text) (o : Option Text) → BadForm x → o ≡ Some x → is_given_in low high o ≡ false
no_form low high x o b e = ap (is_given_in low high) e ∙ rw b.no_number refl

abbrev forms : Fields → Bool
forms g = is_given_in 1 32 g.workers_given && is_given_in 0 18446744073709551615 g.seed_given && is_given_in 1 20000 g.trees_given

no_line : (g : Fields) → forms g ≡ false → line_of_fields g ≡ None
no_line g e = by g.mode_given refl
  where
    by_mode : (m : Option ModeName) → line_with m g.workers_given g.seed_given g.trees_given g.history_given ≡ None
    by_mode None = refl
    by_mode (Some m) = rw e refl

    by : (w : Option Text) → g.mode_given ≡ w → line_of_fields g ≡ None
    by None h = rw h refl
    by (Some word) h = rw h (by_mode (mode_of word))

bad_line : (x : Text) (o : Opt) (g : Fields) → BadForm x → field_of o g ≡ Some x → line_of_fields g ≡ None
bad_line x mode g b e = rw (e, b.no_mode) refl
bad_line x workers g b e = no_line g (first_of_three (is_given_in 1 32 g.workers_given) (is_given_in 0 18446744073709551615 g.seed_given) (is_given_in 1 20000 g.trees_given) (no_form 1 32 x g.workers_given b e))
bad_line x seed g b e = no_line g (second_of_three (is_given_in 1 32 g.workers_given) (is_given_in 0 18446744073709551615 g.seed_given) (is_given_in 1 20000 g.trees_given) (no_form 0 18446744073709551615 x g.seed_given b e))
bad_line x trees g b e = no_line g (third_of_three (is_given_in 1 32 g.workers_given) (is_given_in 0 18446744073709551615 g.seed_given) (is_given_in 1 20000 g.trees_given) (no_form 1 20000 x g.trees_given b e))

-- ---- a value that is given stays
taken_twice : (o : Opt) (x : Text) (g : Fields) → field_of o g ≡ Some x → is_some (field_of o g) ≡ false → ⊥
taken_twice o x g e n = let t : is_some (field_of o g) ≡ true = rw e refl in cc

kept : (q o : Opt) (v x : Text) (g : Fields) → field_of o g ≡ Some x → is_some (field_of q g) ≡ false → field_of o (with_field q v g) ≡ Some x
kept mode mode v x g e n = absurd (taken_twice mode x g e n)
kept mode workers v x g e n = e
kept mode seed v x g e n = e
kept mode trees v x g e n = e
kept workers mode v x g e n = e
kept workers workers v x g e n = absurd (taken_twice workers x g e n)
kept workers seed v x g e n = e
kept workers trees v x g e n = e
kept seed mode v x g e n = e
kept seed workers v x g e n = e
kept seed seed v x g e n = absurd (taken_twice seed x g e n)
kept seed trees v x g e n = e
kept trees mode v x g e n = e
kept trees workers v x g e n = e
kept trees seed v x g e n = e
kept trees trees v x g e n = absurd (taken_twice trees x g e n)

kept_on : (o : Opt) (x : Text) (g : Fields) → field_of o g ≡ Some x → field_of o (record g { history_given = true }) ≡ Some x
kept_on mode x g e = e
kept_on workers x g e = e
kept_on seed x g e = e
kept_on trees x g e = e

set_is : (q : Opt) (v : Text) (g : Fields) → field_of q (with_field q v g) ≡ Some v
set_is mode v g = refl
set_is workers v g = refl
set_is seed v g = refl
set_is trees v g = refl

-- ---- so a bad value leaves no line
put_doomed : (o q : Opt) (x v : Text) (g : Fields) (f : Fields → Option Fields) → ((h : Fields) → field_of o h ≡ Some x → line_in (f h) ≡ None) → field_of o g ≡ Some x → line_in (option_and_then f (fill q v g)) ≡ None
put_doomed o q x v g f more e = by (is_some (field_of q g)) refl
  where
    by : (b : Bool) → is_some (field_of q g) ≡ b → line_in (option_and_then f (fill q v g)) ≡ None
    by true n = rw n refl
    by false n = rw n (more (with_field q v g) (kept q o v x g e n))

history_doomed : (o : Opt) (x : Text) (g : Fields) (f : Fields → Option Fields) → ((h : Fields) → field_of o h ≡ Some x → line_in (f h) ≡ None) → field_of o g ≡ Some x → line_in (option_and_then f (fill_history g)) ≡ None
history_doomed o x g f more e = by g.history_given refl
  where
    by : (b : Bool) → g.history_given ≡ b → line_in (option_and_then f (fill_history g)) ≡ None
    by true n = rw n refl
    by false n = rw n (more (record g { history_given = true }) (kept_on o x g e))

each_none : {A : Type 0} (o : Option A) (f : A → Option Fields) → ((a : A) → line_in (f a) ≡ None) → line_in (option_and_then f o) ≡ None
each_none None f h = refl
each_none (Some a) f h = h a

option_doomed : (o : Opt) (x : Text) (g : Fields) (l : Option (Text × Option Text)) (next : Fields → Option Opt → Option Fields)
    → ((h : Fields) (w : Option Opt) → field_of o h ≡ Some x → line_in (next h w) ≡ None) → field_of o g ≡ Some x → line_in (by_option g l next) ≡ None
option_doomed o x g None next more e = refl
option_doomed o x g (Some (name, Some v)) next more e = each_none (option_of name) _ (λ q. put_doomed o q x v g _ (λ h k. more h None k) e)
option_doomed o x g (Some (name, None)) next more e = by (bytes_eq (codes "history") name) refl
  where
    by : (b : Bool) → bytes_eq (codes "history") name ≡ b → line_in (by_option g (Some (name, None)) next) ≡ None
    by true n = rw n (history_doomed o x g _ (λ h k. more h None k) e)
    by false n = rw n (each_none (option_of name) _ (λ q. more g (Some q) e))

doomed : (xs : List Text) (g : Fields) (w : Option Opt) (o : Opt) (x : Text) → BadForm x → field_of o g ≡ Some x → line_in (fields_of g w xs) ≡ None
unfolding fields_of
doomed [] g None o x b e = bad_line x o g b e
doomed [] g (Some q) o x b e = refl
doomed (y ∷ ys) g None o x b e = option_doomed o x g (option_in y) _ (λ h w k. doomed ys h w o x b k) e
doomed (y ∷ ys) g (Some q) o x b e = put_doomed o q x y g _ (λ h k. doomed ys h None o x b k) e

-- ---- both recursions give one line
long_rest : (g : Fields) (rest : Text) (next : Fields → Option Opt → Option Fields) → by_option g (long_of (45 ∷ 45 ∷ rest)) next ≡ by_option g (option_in (45 ∷ 45 ∷ rest)) next
long_rest g [] next = refl
long_rest g (c ∷ cs) next = refl

long_is : (g : Fields) (x : Text) (next : Fields → Option Opt → Option Fields) → by_option g (long_of x) next ≡ by_option g (option_in x) next
long_is g [] next = refl
long_is g (a ∷ []) next = by (a == 45) refl
  where
    by : (b : Bool) → (a == 45) ≡ b → by_option g (long_of (a ∷ [])) next ≡ by_option g (option_in (a ∷ [])) next
    by true e = rw e refl
    by false e = rw e refl
long_is g (a ∷ b ∷ rest) next = by (a == 45) refl (b == 45) refl
  where
    by : (p : Bool) → (a == 45) ≡ p → (q : Bool) → (b == 45) ≡ q → by_option g (long_of (a ∷ b ∷ rest)) next ≡ by_option g (option_in (a ∷ b ∷ rest)) next
    by true d true e =
        subst (λ (z : ℕ). by_option g (long_of (z ∷ b ∷ rest)) next ≡ by_option g (option_in (z ∷ b ∷ rest)) next) (sym (eqb-true a 45 d))
        (subst (λ (z : ℕ). by_option g (long_of (45 ∷ z ∷ rest)) next ≡ by_option g (option_in (45 ∷ z ∷ rest)) next) (sym (eqb-true b 45 e)) (long_rest g rest next))
    by true d false e = rw (d, e) refl
    by false d q e = rw d refl

then_same : {A : Type 0} (o : Option A) (f k : A → Option Fields) → ((a : A) → line_in (f a) ≡ line_in (k a)) → line_in (option_and_then f o) ≡ line_in (option_and_then k o)
then_same None f k h = refl
then_same (Some a) f k h = h a

option_same : (g : Fields) (l : Option (Text × Option Text)) (next more : Fields → Option Opt → Option Fields) → ((h : Fields) (w : Option Opt) → line_in (next h w) ≡ line_in (more h w)) → line_in (by_option g l next) ≡ line_in (by_option g l more)
option_same g None next more same = refl
option_same g (Some (name, Some v)) next more same = then_same (option_of name) _ _ (λ o. then_same (fill o v g) _ _ (λ h. same h None))
option_same g (Some (name, None)) next more same = by (bytes_eq (codes "history") name) refl
  where
    by : (b : Bool) → bytes_eq (codes "history") name ≡ b → line_in (by_option g (Some (name, None)) next) ≡ line_in (by_option g (Some (name, None)) more)
    by true n = rw n (then_same (fill_history g) _ _ (λ h. same h None))
    by false n = rw n (then_same (option_of name) _ _ (λ o. same g (Some o)))

-- where an option waits
value_same : (ys : List Text) (g : Fields) (q : Opt) (y : Text) → ((h : Fields) (w : Option Opt) → line_in (fields_of h w ys) ≡ line_in (taken h w ys)) → (b : Bool) → is_option_word y ≡ b
    → line_in (option_and_then (λ h. fields_of h None ys) (fill q y g)) ≡ line_in (if b then None else option_and_then (λ h. taken h None ys) (fill q y g))
value_same ys g q y same false e = then_same (fill q y g) _ _ (λ h. same h None)
value_same ys g q y same true e = by (is_some (field_of q g)) refl
  where
    by : (b : Bool) → is_some (field_of q g) ≡ b → line_in (option_and_then (λ h. fields_of h None ys) (fill q y g)) ≡ None
    by true n = rw n refl
    by false n = rw n (doomed ys (with_field q y g) None q y (bad_form y e) (set_is q y g))

both : (xs : List Text) (g : Fields) (w : Option Opt) → line_in (fields_of g w xs) ≡ line_in (taken g w xs)
unfolding fields_of taken
both [] g None = refl
both [] g (Some q) = refl
both (y ∷ ys) g None = option_same g (option_in y) _ _ (λ h w. both ys h w) ∙ ap line_in (sym (long_is g y (λ h w. taken h w ys)))
both (y ∷ ys) g (Some q) = value_same ys g q y (λ h w. both ys h w) (is_option_word y) refl

pub plain_line : (words : List Text) → line_of_options words ≡ line_taken words
unfolding taken
plain_line [] = refl
plain_line (name ∷ rest) = by_fields rest ∙ both rest no_fields None
