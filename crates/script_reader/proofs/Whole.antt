-- Each record takes a byte, so as many records as bytes are all of them.
use Rattle.std.proofs.Common.{◌≡◌, ◌<◌, ◌≤◌, ◌+◌, ◌==◌, ℕ, suc, zero, Bool, true, false, List, [], ◌∷◌, length, Option, Some, None, refl, arith}
use Rattle.std.specs.Prelude.{◌&&◌, if◌then◌else◌}
use Rattle.csv.specs.Machine.{Read, after_end, carriage_return, ends_at_end, ends_with, field_after, fields_after, in_field, is_byte, is_end, line_feed, next_record, start_field, start_record, step}
use Rattle.csv.specs.Reading.{AreRecords, Reached, default_config, is_bom, records_from, records_next, strip_bom}
use Rattle.csv.specs.declared.parser.Action.{Action}
use Rattle.csv.specs.declared.parser.Action.TheVariants as act
use Rattle.csv.specs.declared.parser.Config.{Config}
use Rattle.csv.specs.declared.parser.State.{State}
use Rattle.csv.specs.declared.parser.State.TheVariants as st
use Rattle.csv.specs.declared.parser.Terminator.{Terminator}
use Rattle.csv.specs.declared.parser.Terminator.TheVariants as term
use Rattle.script_reader.specs.Records.{records_in}

-- a step that ends a record leaves the machine between records
abbrev Ends : State × Action → Type 0
Ends p = is_end p.1 ≡ true → ends_at_end p.0 ≡ false

-- either of two steps
choose : (b : Bool) (x y : State × Action) → Ends x → Ends y → Ends (if b then x else y)
choose true x y h k = h
choose false x y h k = k

-- after an end the machine is between records
after_end_between : (t : Terminator) (c : ℕ) → ends_at_end (after_end t c) ≡ false
after_end_between term.CRLF c = elim (c == carriage_return) as (λ b. ends_at_end (if b then st.AfterCr else st.StartRecord) ≡ false) [ true ↦ refl | false ↦ refl ]
after_end_between (term.Any t) c = refl

-- a step in a field
in_field_ends : (cfg : Config) (c : ℕ) → Ends (in_field cfg c)
in_field_ends cfg c =
    choose (c == cfg.delimiter) (st.StartField, act.EndField) _ (λ e. absurd cc)
    (choose (ends_with cfg.terminator c) (after_end cfg.terminator c, act.EndRecord) (st.InField, act.Copy) (λ _. after_end_between cfg.terminator c) (λ e. absurd cc))

-- a step at the start of a field
start_field_ends : (cfg : Config) (c : ℕ) → Ends (start_field cfg c)
start_field_ends cfg c = choose (cfg.quoting && (c == cfg.quote)) (st.InQuoted, act.Skip) (in_field cfg c) (λ e. absurd cc) (in_field_ends cfg c)

-- a step at the start of a record
start_record_ends : (cfg : Config) (c : ℕ) → Ends (start_record cfg c)
start_record_ends cfg c =
    choose (ends_with cfg.terminator c) (st.StartRecord, act.Skip) _ (λ e. absurd cc)
    (choose (is_byte cfg.comment c) (st.InComment, act.Skip) (start_field cfg c) (λ e. absurd cc) (start_field_ends cfg c))

-- each step
step_ends : (cfg : Config) (s : State) (c : ℕ) → Ends (step cfg s c)
step_ends cfg st.StartRecord c = start_record_ends cfg c
step_ends cfg st.StartField c = start_field_ends cfg c
step_ends cfg st.InField c = in_field_ends cfg c
step_ends cfg st.InQuoted c =
    choose (cfg.quoting && (c == cfg.quote)) (st.AfterQuote, act.Skip) _ (λ e. absurd cc)
    (choose (cfg.quoting && is_byte cfg.escape c) (st.InEscape, act.Skip) (st.InQuoted, act.Copy) (λ e. absurd cc) (λ e. absurd cc))
step_ends cfg st.InEscape c = λ e. absurd cc
step_ends cfg st.AfterQuote c = choose (cfg.quoting && cfg.double_quote && (c == cfg.quote)) (st.InQuoted, act.Copy) (in_field cfg c) (λ e. absurd cc) (in_field_ends cfg c)
step_ends cfg st.InComment c = choose (c == line_feed) (st.StartRecord, act.Skip) (st.InComment, act.Skip) (λ e. absurd cc) (λ e. absurd cc)
step_ends cfg st.AfterCr c = choose (c == line_feed) (st.StartRecord, act.Skip) (start_record cfg c) (λ e. absurd cc) (start_record_ends cfg c)

-- what holds of the record that was read, if there is one
abbrev Told : (Read → Type 0) → Option Read → Type 0
Told P None = Unit {0}
Told P (Some p) = P p

-- of either of two reads
told_if : (P : Read → Type 0) (b : Bool) (x y : Option Read) → (b ≡ true → Told P x) → (b ≡ false → Told P y) → Told P (if b then x else y)
told_if P true x y h k = h refl
told_if P false x y h k = k refl

-- a weaker fact
told_weaker : (P Q : Read → Type 0) → ((p : Read) → P p → Q p) → (o : Option Read) → Told P o → Told Q o
told_weaker P Q f None h = tt
told_weaker P Q f (Some p) h = f p h

-- the machine is between records, with at most n bytes left
abbrev Leaves : ℕ → Read → Type 0
Leaves n p = (ends_at_end p.1 ≡ false) × (length p.2 ≤ n)

-- what a record leaves
leaves : (cfg : Config) (s : State) (fields : List (List ℕ)) (field : List ℕ) (xs : List ℕ) → Told (Leaves (length xs)) (next_record cfg s fields field xs)
unfolding next_record
leaves cfg s fields field [] = told_if (Leaves 0) (ends_at_end s) _ None (λ _. (refl, omega arith)) (λ _. tt)
leaves cfg s fields field (c ∷ rest) =
    told_if (Leaves (length (c ∷ rest))) (is_end (step cfg s c).1) _ _ (λ e. (step_ends cfg s c e, omega arith))
    (λ _. told_weaker (Leaves (length rest)) (Leaves (length (c ∷ rest))) (λ p h. (h.0, omega (arith, h.1))) _
    (leaves cfg (step cfg s c).0 (fields_after (step cfg s c).1 fields field) (field_after (step cfg s c).1 c field) rest))

-- it leaves fewer bytes
leaves_fewer : (cfg : Config) (s : State) (n : ℕ) (xs : List ℕ) → ends_at_end s ≡ false → length xs < suc n → Told (λ p. (ends_at_end p.1 ≡ false) × (length p.2 < n)) (next_record cfg s [] [] xs)
unfolding next_record
leaves_fewer cfg s n [] h lt = told_if (λ p. (ends_at_end p.1 ≡ false) × (length p.2 < n)) (ends_at_end s) _ None (λ e. absurd cc) (λ _. tt)
leaves_fewer cfg s n (c ∷ rest) h lt =
    told_if (λ p. (ends_at_end p.1 ≡ false) × (length p.2 < n)) (is_end (step cfg s c).1) _ _ (λ e. (step_ends cfg s c e, omega (arith, lt)))
    (λ _. told_weaker (Leaves (length rest)) (λ p. (ends_at_end p.1 ≡ false) × (length p.2 < n)) (λ p k. (k.0, omega (arith, k.1, lt))) _
    (leaves cfg (step cfg s c).0 (fields_after (step cfg s c).1 [] []) (field_after (step cfg s c).1 c []) rest))

-- a record and all those after it
all_next : (cfg : Config) (n : ℕ) (s : State) (xs : List ℕ) (o : Option Read) → next_record cfg s [] [] xs ≡ o → Told (λ p. (ends_at_end p.1 ≡ false) × (length p.2 < n)) o
    → ((t : State) (ys : List ℕ) → ends_at_end t ≡ false → length ys < n → AreRecords cfg t ys (records_from cfg n t ys)) → AreRecords cfg s xs (records_next (records_from cfg n) o)
unfolding Reached
all_next cfg n s xs None e told more = (s, xs, (refl, refl), e)
all_next cfg n s xs (Some p) e told more =
    let rest = more p.1 p.2 told.0 told.1 in
    (rest.0, rest.1, (p, e, refl, rest.2), rest.3)

-- all records from a state on
all_from : (cfg : Config) (n : ℕ) (s : State) (xs : List ℕ) → ends_at_end s ≡ false → length xs < n → AreRecords cfg s xs (records_from cfg n s xs)
unfolding records_from
all_from cfg zero s xs h lt = absurd (omega (arith, lt))
all_from cfg (suc n) s xs h lt = all_next cfg n s xs _ refl (leaves_fewer cfg s n xs h (omega (arith, lt))) (all_from cfg n)

-- without its mark a text is no longer
strip_shorter : (xs : List ℕ) → length (strip_bom xs) ≤ length xs
unfolding strip_bom
strip_shorter [] = omega arith
strip_shorter (a ∷ []) = omega arith
strip_shorter (a ∷ b ∷ []) = omega arith
strip_shorter (a ∷ b ∷ c ∷ rest) = elim (is_bom a b c) as (λ t. length (if t then rest else a ∷ b ∷ c ∷ rest) ≤ length (a ∷ b ∷ c ∷ rest)) [ true ↦ omega arith | false ↦ omega arith ]

-- as many turns as bytes give all records
pub all_records : (bytes : List ℕ) → AreRecords default_config st.StartRecord (strip_bom bytes) (records_in bytes)
all_records bytes = all_from default_config (length bytes + 1) st.StartRecord (strip_bom bytes) refl (omega (arith, strip_shorter bytes))
