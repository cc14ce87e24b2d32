-- The options that are given as a record of five fields, which the recursion over the words fills one by one: the line
-- that it makes is that of the list of options.
use Rattle.std.proofs.Common.{◌≡◌, ◌∙◌, List, [], ◌∷◌, Option, Some, None, codes, refl, sym, ap, subst, Bool, true, false}
use Rattle.std.specs.Prelude.{is_some, option_and_then, option_map, if◌then◌else◌}
use Rattle.std.specs.Str.{bytes_eq}
use Rattle.std.proofs.lemmas.Slice.Eq.{bytes_eq-Decides}
use Rattle.clap.specs.Words.{Text}
use Rattle.command_words.specs.Grammar.{Given, given, is_option, stands_alone, line_of_given, option_in, put, value_of}
use Rattle.command_words.specs.Lines.{line_with, mode_of}
use Rattle.command_words.specs.declared.Line.{Line}

-- the options that take a value
pub data Opt : Type 0 where
  mode : Opt
  workers : Opt
  seed : Opt
  trees : Opt

-- the option of this name
abbrev pub option_of : Text → Option Opt
option_of name =
    if bytes_eq (codes "mode") name then Some mode
    else if bytes_eq (codes "workers") name then Some workers
    else if bytes_eq (codes "seed") name then Some seed
    else if bytes_eq (codes "trees") name then Some trees
    else None

-- what was given so far, a field for each option
pub record Fields : Type 0 where
  pub mode_given : Option Text
  pub workers_given : Option Text
  pub seed_given : Option Text
  pub trees_given : Option Text
  pub history_given : Bool

abbrev pub no_fields : Fields
no_fields = record {
  mode_given = None;
  workers_given = None;
  seed_given = None;
  trees_given = None;
  history_given = false;
}

abbrev pub field_of : Opt → Fields → Option Text
field_of mode g = g.mode_given
field_of workers g = g.workers_given
field_of seed g = g.seed_given
field_of trees g = g.trees_given

abbrev pub with_field : Opt → Text → Fields → Fields
with_field mode v g = record g { mode_given = Some v }
with_field workers v g = record g { workers_given = Some v }
with_field seed v g = record g { seed_given = Some v }
with_field trees v g = record g { trees_given = Some v }

-- each option at most once
abbrev pub fill : Opt → Text → Fields → Option Fields
fill o v g = if is_some (field_of o g) then None else Some (with_field o v g)

abbrev pub fill_history : Fields → Option Fields
fill_history g = if g.history_given then None else Some (record g { history_given = true })

-- a word that no option waits for: `--name=value`, `--history`, or `--name`, which waits
abbrev pub by_option : Fields → Option (Text × Option Text) → (Fields → Option Opt → Option Fields) → Option Fields
by_option g None next = None
by_option g (Some (name, Some v)) next =
    option_and_then (λ o. option_and_then (λ h. next h None) (fill o v g)) (option_of name)
by_option g (Some (name, None)) next =
    if bytes_eq (codes "history") name then option_and_then (λ h. next h None) (fill_history g)
    else option_and_then (λ o. next g (Some o)) (option_of name)

-- what the words give, after what was given before, where an option may wait for its value
unfoldable pub fields_of : Fields → Option Opt → List Text → Option Fields
fields_of g None [] = Some g
fields_of g (Some o) [] = None
fields_of g None (word ∷ rest) = by_option g (option_in word) (λ h waiting. fields_of h waiting rest)
fields_of g (Some o) (word ∷ rest) = option_and_then (λ h. fields_of h None rest) (fill o word g)

-- the line of a mode word, if one was given, with the values of the other options
abbrev pub line_by_mode : Option Text → Fields → Option Line
line_by_mode None g = None
line_by_mode (Some word) g = line_with (mode_of word) g.workers_given g.seed_given g.trees_given g.history_given

-- the line of what was given
abbrev pub line_of_fields : Fields → Option Line
line_of_fields g = line_by_mode g.mode_given g

abbrev pub name_of : Opt → Text
name_of mode = codes "mode"
name_of workers = codes "workers"
name_of seed = codes "seed"
name_of trees = codes "trees"

pub option_is : (name : Text) (o : Opt) → option_of name ≡ Some o → name_of o ≡ name
option_is name o e = by (bytes_eq (codes "mode") name) (bytes_eq (codes "workers") name) (bytes_eq (codes "seed") name) (bytes_eq (codes "trees") name) refl refl refl refl e
  where
    by : (a b c d : Bool) → bytes_eq (codes "mode") name ≡ a → bytes_eq (codes "workers") name ≡ b → bytes_eq (codes "seed") name ≡ c → bytes_eq (codes "trees") name ≡ d
        → (let r : Option Opt = if a then Some mode else if b then Some workers else if c then Some seed else if d then Some trees else None in r) ≡ Some o → name_of o ≡ name
    by true b c d ea eb ec ed h = let q : mode ≡ o = cc in subst (λ (z : Opt). name_of z ≡ name) q ((bytes_eq-Decides (codes "mode") name).0 ea)
    by false true c d ea eb ec ed h = let q : workers ≡ o = cc in subst (λ (z : Opt). name_of z ≡ name) q ((bytes_eq-Decides (codes "workers") name).0 eb)
    by false false true d ea eb ec ed h = let q : seed ≡ o = cc in subst (λ (z : Opt). name_of z ≡ name) q ((bytes_eq-Decides (codes "seed") name).0 ec)
    by false false false true ea eb ec ed h = let q : trees ≡ o = cc in subst (λ (z : Opt). name_of z ≡ name) q ((bytes_eq-Decides (codes "trees") name).0 ed)
    by false false false false ea eb ec ed h = absurd cc

-- ---- a list of options as the record
abbrev fields : Given → Fields
fields g = record {
  mode_given = value_of (codes "mode") g;
  workers_given = value_of (codes "workers") g;
  seed_given = value_of (codes "seed") g;
  trees_given = value_of (codes "trees") g;
  history_given = is_some (value_of (codes "history") g);
}

-- ---- one option more
put_known : (q : Opt) (v : Text) (g : Given) (b : Bool) → is_some (value_of (name_of q) g) ≡ b → fill q v (fields g) ≡ option_map fields (put (name_of q) (Some v) g)
put_known mode v g true e = rw e refl
put_known mode v g false e = rw e refl
put_known workers v g true e = rw e refl
put_known workers v g false e = rw e refl
put_known seed v g true e = rw e refl
put_known seed v g false e = rw e refl
put_known trees v g true e = rw e refl
put_known trees v g false e = rw e refl

no_option : (name v : Text) → option_of name ≡ None → is_option name (Some v) ≡ false
no_option name v e = by (bytes_eq (codes "mode") name) (bytes_eq (codes "workers") name) (bytes_eq (codes "seed") name) (bytes_eq (codes "trees") name) refl refl refl refl e
  where
    by : (a b c d : Bool) → bytes_eq (codes "mode") name ≡ a → bytes_eq (codes "workers") name ≡ b → bytes_eq (codes "seed") name ≡ c → bytes_eq (codes "trees") name ≡ d
        → (let r : Option Opt = if a then Some mode else if b then Some workers else if c then Some seed else if d then Some trees else None in r) ≡ None → is_option name (Some v) ≡ false
    by true b c d ea eb ec ed h = absurd cc
    by false true c d ea eb ec ed h = absurd cc
    by false false true d ea eb ec ed h = absurd cc
    by false false false true ea eb ec ed h = absurd cc
    by false false false false ea eb ec ed h = rw (ea, eb, ec, ed) refl

put_value : (name v : Text) (g : Given) → option_and_then (λ q. fill q v (fields g)) (option_of name) ≡ option_map fields (put name (Some v) g)
put_value name v g = by (option_of name) refl
  where
    by : (o : Option Opt) → option_of name ≡ o → option_and_then (λ q. fill q v (fields g)) o ≡ option_map fields (put name (Some v) g)
    by None e = rw (no_option name v e) refl
    by (Some q) e = subst (λ (n : Text). fill q v (fields g) ≡ option_map fields (put n (Some v) g)) (option_is name q e) (put_known q v g _ refl)

put_flag : (g : Given) (b : Bool) → is_some (value_of (codes "history") g) ≡ b → fill_history (fields g) ≡ option_map fields (put (codes "history") None g)
put_flag g true e = rw e refl
put_flag g false e = rw e refl

-- ---- and what comes after it
mapped : (o : Option Given) (f : Fields → Option Fields) (k : Given → Option Given) → ((h : Given) → f (fields h) ≡ option_map fields (k h)) → option_and_then f (option_map fields o) ≡ option_map fields (option_and_then k o)
mapped None f k same = refl
mapped (Some h) f k same = same h

one_by_one : (o : Option Opt) (f : Fields → Option Fields) (j : Opt → Option Fields) → option_and_then (λ q. option_and_then f (j q)) o ≡ option_and_then f (option_and_then j o)
one_by_one None f j = refl
one_by_one (Some q) f j = refl

value_more : (name v : Text) (g : Given) (f : Fields → Option Fields) (k : Given → Option Given) → ((h : Given) → f (fields h) ≡ option_map fields (k h))
    → option_and_then (λ q. option_and_then f (fill q v (fields g))) (option_of name) ≡ option_map fields (option_and_then k (put name (Some v) g))
value_more name v g f k same = one_by_one (option_of name) f (λ q. fill q v (fields g)) ∙ ap (option_and_then f) (put_value name v g) ∙ mapped (put name (Some v) g) f k same

record Same (xs : List Text) : Type 0 where
  idle : (g : Given) → fields_of (fields g) None xs ≡ option_map fields (given g None xs)
  waits : (g : Given) (name : Text) → option_and_then (λ q. fields_of (fields g) (Some q) xs) (option_of name) ≡ option_map fields (given g (Some name) xs)

-- the rest of the words after a word that no option waits for
abbrev after : Given → List Text → Text × Option Text → Option Given
after g xs o = if stands_alone o then option_and_then (λ h. given h None xs) (put o.0 o.1 g) else given g (Some o.0) xs

word_same : (g : Given) (l : Option (Text × Option Text)) (xs : List Text) → Same xs → by_option (fields g) l (λ h w. fields_of h w xs) ≡ option_map fields (option_and_then (after g xs) l)
word_same g None xs same = refl
word_same g (Some (name, Some v)) xs same = value_more name v g _ _ same.idle
word_same g (Some (name, None)) xs same = by (bytes_eq (codes "history") name) refl
  where
    by : (b : Bool) → bytes_eq (codes "history") name ≡ b → by_option (fields g) (Some (name, None)) (λ h w. fields_of h w xs) ≡ option_map fields (after g xs (name, None))
    by true e =
        subst (λ (n : Text). by_option (fields g) (Some (n, None)) (λ h w. fields_of h w xs) ≡ option_map fields (after g xs (n, None)))
        ((bytes_eq-Decides (codes "history") name).0 e)
        (ap (option_and_then (λ h. fields_of h None xs)) (put_flag g _ refl) ∙ mapped (put (codes "history") None g) _ _ same.idle)
    by false e = rw e (same.waits g name)

none_waits : (o : Option Opt) → option_and_then (λ q. let r : Option Fields = None in r) o ≡ None
none_waits None = refl
none_waits (Some q) = refl

all_same : (xs : List Text) → Same xs
unfolding fields_of given
all_same [] = record { idle = λ g. refl; waits = λ g name. none_waits (option_of name) }
all_same (x ∷ xs) = record {
  idle = λ g. word_same g (option_in x) xs (all_same xs);
  waits = λ g name. value_more name x g _ _ (all_same xs).idle;
}

-- ---- so the line is the same
line_same : (g : Given) → line_of_fields (fields g) ≡ line_of_given g
line_same g = by (value_of (codes "mode") g)
  where
    by : (m : Option Text) → line_by_mode m (fields g) ≡ line_with (option_and_then mode_of m) (value_of (codes "workers") g) (value_of (codes "seed") g) (value_of (codes "trees") g) (is_some (value_of (codes "history") g))
    by None = refl
    by (Some word) = refl

lines_same : (o : Option Given) → option_and_then line_of_given o ≡ option_and_then line_of_fields (option_map fields o)
lines_same None = refl
lines_same (Some g) = sym (line_same g)

pub by_fields : (xs : List Text) → option_and_then line_of_given (given [] None xs) ≡ option_and_then line_of_fields (fields_of no_fields None xs)
by_fields xs = lines_same (given [] None xs) ∙ ap (option_and_then line_of_fields) (sym ((all_same xs).idle []))
