-- Where bytes end a record, the records of a text are that one and those of the rest, also behind a line's end.
use Rattle.std.proofs.Common.{◌≡◌, ◌⊎◌, inl, inr, ℕ, zero, suc, ◌==◌, ◌∙◌, Bool, true, false, List, [], ◌∷◌, ◌++◌, refl, sym, ap, subst, Option, Some, arith}
use Rattle.std.specs.Prelude.{if◌then◌else◌}
use Rattle.std.specs.Bool.{MatchBool}
use Rattle.std.proofs.lemmas.Bool.{or_left, or_right}
use Rattle.std.proofs.lemmas.Bool.Decides.{nat_tests}
use Rattle.csv.specs.Machine.{Feeds, Read, after_end, carriage_return, ends_with, field_after, fields_after, is_end, line_feed, next_record, step}
use Rattle.csv.specs.Reading.{default_config, records_from, records_next}
use Rattle.csv.specs.declared.parser.Action.{Action}
use Rattle.csv.specs.declared.parser.Action.TheVariants as act
use Rattle.csv.specs.declared.parser.Config.{Config}
use Rattle.csv.specs.declared.parser.State.{State}
use Rattle.csv.specs.declared.parser.State.TheVariants as st
use Rattle.cut_laws.specs.Cuts.{EndsLine, EndsRecord, RecordsAreCut}

-- The next record of a text that begins with it.
one_by : (cfg : Config) (s s2 : State) (f f2 : List (List ℕ)) (p p2 : List ℕ) (c : ℕ) (x b : List ℕ) (test : Bool) → is_end (step cfg s c).1 ≡ test
    → MatchBool test
    ((x ≡ []) × (s2 ≡ (step cfg s c).0) × (f2 ≡ fields_after (step cfg s c).1 f p) × (p2 ≡ field_after (step cfg s c).1 c p) × (true ≡ true))
    (Feeds cfg (step cfg s c).0 (fields_after (step cfg s c).1 f p) (field_after (step cfg s c).1 c p) x s2 f2 p2 true)
    → (Feeds cfg (step cfg s c).0 (fields_after (step cfg s c).1 f p) (field_after (step cfg s c).1 c p) x s2 f2 p2 true
    → next_record cfg (step cfg s c).0 (fields_after (step cfg s c).1 f p) (field_after (step cfg s c).1 c p) (x ++ b) ≡ Some (f2, s2, b))
    → (if test then Some (fields_after (step cfg s c).1 f p, (step cfg s c).0, x ++ b)
    else next_record cfg (step cfg s c).0 (fields_after (step cfg s c).1 f p) (field_after (step cfg s c).1 c p) (x ++ b)) ≡ Some (f2, s2, b)
one_by cfg s s2 f f2 p p2 c x b true is fed rest =
    ap (λ (ys : List ℕ). Some (fields_after (step cfg s c).1 f p, (step cfg s c).0, ys ++ b)) fed.0
    ∙ ap (λ (t : State). Some (fields_after (step cfg s c).1 f p, t, b)) (sym fed.1)
    ∙ ap (λ (fs : List (List ℕ)). Some (fs, s2, b)) (sym fed.2)
one_by cfg s s2 f f2 p p2 c x b false is fed rest = rest fed

next_is : (cfg : Config) (s s2 : State) (f f2 : List (List ℕ)) (p p2 x b : List ℕ) → Feeds cfg s f p x s2 f2 p2 true
    → next_record cfg s f p (x ++ b) ≡ Some (f2, s2, b)
unfolding Feeds next_record
next_is cfg s s2 f f2 p p2 [] b fed = absurd (let none : true ≡ false = fed.3 in cc none)
next_is cfg s s2 f f2 p p2 (c ∷ x) b fed =
    one_by cfg s s2 f f2 p p2 c x b (is_end (step cfg s c).1) refl fed
    (next_is cfg (step cfg s c).0 s2 (fields_after (step cfg s c).1 f p) f2 (field_after (step cfg s c).1 c p) p2 x b)

-- A record ends at a line's end, in one of two states.
abbrev pub IsBetween : State → Type 0
IsBetween s = (s ≡ st.StartRecord) ⊎ (s ≡ st.AfterCr)

abbrev pub Between : State × Action → Type 0
Between r = is_end r.1 ≡ true → IsBetween r.0

pick : (b : Bool) (x y : State × Action) → Between x → Between y → Between (if b then x else y)
pick true x y one two = one
pick false x y one two = two

skips : (s : State) → Between (s, act.Skip)
skips s is = absurd (cc is)

copies : (s : State) → Between (s, act.Copy)
copies s is = absurd (cc is)

commas : Between (st.StartField, act.EndField)
commas is = absurd (cc is)

after_line : (b : Bool) → IsBetween (if b then st.AfterCr else st.StartRecord)
after_line true = inr refl
after_line false = inl refl

ends : (c : ℕ) → Between (after_end default_config.terminator c, act.EndRecord)
ends c is = after_line (c == carriage_return)

in_fields : (c : ℕ) → Between (step default_config st.InField c)
in_fields c =
    let last : State × Action = (after_end default_config.terminator c, act.EndRecord) in
    let copy : State × Action = (st.InField, act.Copy) in
    let line : Bool = ends_with default_config.terminator c in
    pick (c == 44) (st.StartField, act.EndField) (if line then last else copy) commas (pick line last copy (ends c) (copies st.InField))

at_fields : (c : ℕ) → Between (step default_config st.StartField c)
at_fields c = pick (c == 34) (st.InQuoted, act.Skip) (step default_config st.InField c) (skips st.InQuoted) (in_fields c)

at_records : (c : ℕ) → Between (step default_config st.StartRecord c)
at_records c =
    pick (ends_with default_config.terminator c) (st.StartRecord, act.Skip) (step default_config st.StartField c) (skips st.StartRecord) (at_fields c)

pub between : (s : State) (c : ℕ) → Between (step default_config s c)
between st.StartRecord c = at_records c
between st.StartField c = at_fields c
between st.InField c = in_fields c
between st.InQuoted c = pick (c == 34) (st.AfterQuote, act.Skip) (st.InQuoted, act.Copy) (skips st.AfterQuote) (copies st.InQuoted)
between st.InEscape c = copies st.InQuoted
between st.AfterQuote c = pick (c == 34) (st.InQuoted, act.Copy) (step default_config st.InField c) (copies st.InQuoted) (in_fields c)
between st.InComment c = pick (c == line_feed) (st.StartRecord, act.Skip) (st.InComment, act.Skip) (skips st.StartRecord) (skips st.InComment)
between st.AfterCr c = pick (c == line_feed) (st.StartRecord, act.Skip) (step default_config st.StartRecord c) (skips st.StartRecord) (at_records c)

last_by : (s s2 : State) (f f2 : List (List ℕ)) (p p2 : List ℕ) (c : ℕ) (x : List ℕ) (test : Bool) → is_end (step default_config s c).1 ≡ test
    → MatchBool test
    ((x ≡ []) × (s2 ≡ (step default_config s c).0) × (f2 ≡ fields_after (step default_config s c).1 f p)
    × (p2 ≡ field_after (step default_config s c).1 c p) × (true ≡ true))
    (Feeds default_config (step default_config s c).0 (fields_after (step default_config s c).1 f p) (field_after (step default_config s c).1 c p) x s2 f2 p2 true)
    → (Feeds default_config (step default_config s c).0 (fields_after (step default_config s c).1 f p) (field_after (step default_config s c).1 c p) x s2 f2 p2 true
    → IsBetween s2) → IsBetween s2
last_by s s2 f f2 p p2 c x true is fed rest = subst IsBetween (sym fed.1) (between s c is)
last_by s s2 f f2 p p2 c x false is fed rest = rest fed

last_is : (s s2 : State) (f f2 : List (List ℕ)) (p p2 x : List ℕ) → Feeds default_config s f p x s2 f2 p2 true → IsBetween s2
unfolding Feeds
last_is s s2 f f2 p p2 [] fed = absurd (let none : true ≡ false = fed.3 in cc none)
last_is s s2 f f2 p p2 (c ∷ x) fed =
    last_by s s2 f f2 p p2 c x (is_end (step default_config s c).1) refl fed
    (last_is (step default_config s c).0 s2 (fields_after (step default_config s c).1 f p) f2 (field_after (step default_config s c).1 c p) p2 x)

-- The two states do the same, and a line's end at a record's start does nothing.
line_starts : (c : ℕ) (line : Bool) → line ≡ true → (if line then (st.StartRecord, act.Skip) else step default_config st.StartField c) ≡ (st.StartRecord, act.Skip)
line_starts c true is = refl
line_starts c false is = absurd (cc is)

cr_by : (c : ℕ) (feed : Bool) → (c == line_feed) ≡ feed
    → (if feed then (st.StartRecord, act.Skip) else step default_config st.StartRecord c) ≡ step default_config st.StartRecord c
cr_by c true is = sym (line_starts c (ends_with default_config.terminator c) (or_right (c == carriage_return) (c == line_feed) is))
cr_by c false is = refl

cr_same : (c : ℕ) → step default_config st.AfterCr c ≡ step default_config st.StartRecord c
cr_same c = cr_by c (c == line_feed) refl

cr_next : (b : List ℕ) → next_record default_config st.AfterCr [] [] b ≡ next_record default_config st.StartRecord [] [] b
unfolding next_record
cr_next [] = refl
cr_next (c ∷ b) =
    ap (λ (r : State × Action). if is_end r.1 then Some (fields_after r.1 [] [], r.0, b)
    else next_record default_config r.0 (fields_after r.1 [] []) (field_after r.1 c []) b) (cr_same c)

line_same : (c : ℕ) → EndsLine c → step default_config st.StartRecord c ≡ (st.StartRecord, act.Skip)
line_same c (inl feed) =
    let is : (c == line_feed) ≡ true = grind (arith, nat_tests) in
    line_starts c (ends_with default_config.terminator c) (or_right (c == carriage_return) (c == line_feed) is)
line_same c (inr back) =
    let is : (c == carriage_return) ≡ true = grind (arith, nat_tests) in
    line_starts c (ends_with default_config.terminator c) (or_left (c == carriage_return) (c == line_feed) is)

line_next : (c : ℕ) (b : List ℕ) → EndsLine c
    → next_record default_config st.StartRecord [] [] (c ∷ b) ≡ next_record default_config st.StartRecord [] [] b
unfolding next_record
line_next c b line =
    ap (λ (r : State × Action). if is_end r.1 then Some (fields_after r.1 [] [], r.0, b)
    else next_record default_config r.0 (fields_after r.1 [] []) (field_after r.1 c []) b) (line_same c line)

-- All records.
pub from_between : (n : ℕ) (s : State) (b : List ℕ) → IsBetween s → records_from default_config n s b ≡ records_from default_config n st.StartRecord b
unfolding records_from
from_between zero s b is = refl
from_between (suc n) s b (inl is) = ap (λ (t : State). records_next (records_from default_config n) (next_record default_config t [] [] b)) is
from_between (suc n) s b (inr is) =
    ap (λ (t : State). records_next (records_from default_config n) (next_record default_config t [] [] b)) is
    ∙ ap (λ (o : Option Read). records_next (records_from default_config n) o) (cr_next b)

behind_line : (n c : ℕ) (b : List ℕ) → EndsLine c
    → records_from default_config n st.StartRecord (c ∷ b) ≡ records_from default_config n st.StartRecord b
unfolding records_from
behind_line zero c b line = refl
behind_line (suc n) c b line = ap (λ (o : Option Read). records_next (records_from default_config n) o) (line_next c b line)

first_record : (n : ℕ) (x b : List ℕ) (fields : List (List ℕ)) → EndsRecord st.StartRecord x fields
    → records_from default_config (suc n) st.StartRecord (x ++ b) ≡ fields ∷ records_from default_config n st.StartRecord b
unfolding records_from
first_record n x b fields e =
    ap (λ (o : Option Read). records_next (records_from default_config n) o)
    (next_is default_config st.StartRecord e.state [] fields [] e.field x b e.feeds)
    ∙ ap (λ rows. fields ∷ rows) (from_between n e.state b (last_is st.StartRecord e.state [] fields [] e.field x e.feeds))

pub records_are_cut : RecordsAreCut
records_are_cut n c x b fields e line = (first_record n x b fields e, behind_line n c b line)
