-- Lines of plain fields are read as their records.
use Rattle.std.proofs.Common.{◌≡◌, ◌<◌, ◌≤◌, ◌∙◌, ◌∷◌, ◌++◌, [], List, false, ℕ, zero, suc, length, Some, refl, ap, arith, append_assoc, length-append}
use Rattle.std.specs.List.{list_any, AllByRecursion}
use Rattle.std.proofs.lemmas.Bool.{ne_eqb}
use Rattle.csv.specs.Machine.{next_record}
use Rattle.csv.specs.Reading.{default_config, records_from, records_next}
use Rattle.csv.specs.Writing.{default_writer, field_text, fields_text, is_blank, needs_byte, row_text}
use Rattle.csv.specs.declared.parser.State.TheVariants as st
use Rattle.csv.proofs.RoundTrip.{read-write}
use Rattle.script_reader.specs.Written.{line, lines, more_fields}

-- no byte of a field calls for quotes
abbrev pub IsPlain : List ℕ → Type 0
IsPlain f = list_any (needs_byte default_writer) f ≡ false

-- a record of plain fields, of which the first is not empty
pub record IsPlainRow (r : List (List ℕ)) : Type 0 where
  pub head : List ℕ
  pub tail : List (List ℕ)
  pub is : r ≡ head ∷ tail
  pub some : 0 < length head
  pub first : IsPlain head
  pub rest : AllByRecursion IsPlain tail

-- csv writes a plain field as it is
field_is : (f : List ℕ) → IsPlain f → field_text default_writer f ≡ f
field_is f h = rw h refl

-- and plain fields after the first
more_is : (fs : List (List ℕ)) → AllByRecursion IsPlain fs → fields_text default_writer fs ++ (10 ∷ []) ≡ more_fields fs
unfolding fields_text
more_is [] h = refl
more_is (f ∷ fs) h = rw (field_is f h.0) (ap (λ (t : List ℕ). 44 ∷ t) (append_assoc f (fields_text default_writer fs) (10 ∷ []) ∙ ap (λ (t : List ℕ). f ++ t) (more_is fs h.1)))

-- a record whose first field is not empty is not blank
not_blank : (b : ℕ) (bs : List ℕ) (fs : List (List ℕ)) → IsPlain (b ∷ bs) → is_blank default_writer ((b ∷ bs) ∷ fs) ≡ false
unfolding is_blank
not_blank b bs [] h = rw (field_is (b ∷ bs) h) (ne_eqb (suc (length bs)) 0 (λ z. cc z))
not_blank b bs (f ∷ fs) h = refl

-- csv writes a plain record as its line
row_is : (f : List ℕ) (fs : List (List ℕ)) → 0 < length f → IsPlain f → AllByRecursion IsPlain fs → row_text default_writer (f ∷ fs) ≡ line (f ∷ fs)
row_is [] fs some first rest = absurd (omega arith)
row_is (b ∷ bs) fs some first rest =
    rw (not_blank b bs fs first, field_is (b ∷ bs) first) (append_assoc (b ∷ bs) (fields_text default_writer fs) (10 ∷ []) ∙ ap (λ (t : List ℕ). (b ∷ bs) ++ t) (more_is fs rest))

-- one line is read as its record
line_read : (r : List (List ℕ)) (more : List ℕ) → IsPlainRow r → next_record default_config st.StartRecord [] [] (line r ++ more) ≡ Some (r, st.StartRecord, more)
line_read r more h =
    let same = row_is h.head h.tail h.some h.first h.rest in
    let back = read-write (h.head ∷ h.tail) more in
    rw (h.is, ← same) back

-- all lines are read as their records
pub lines_read : (n : ℕ) (rs : List (List (List ℕ))) → length rs < n → AllByRecursion IsPlainRow rs → records_from default_config n st.StartRecord (lines rs) ≡ rs
unfolding records_from next_record
lines_read zero rs few h = absurd (omega (arith, few))
lines_read (suc n) [] few h = refl
lines_read (suc n) (r ∷ rs) few h =
    ap (records_next (records_from default_config n)) (line_read r (lines rs) h.0) ∙ ap (λ (t : List (List (List ℕ))). r ∷ t) (lines_read n rs (omega (arith, few)) h.1)

-- a line has a byte
line_some : (r : List (List ℕ)) → 0 < length (line r)
line_some [] = omega arith
line_some (f ∷ []) = omega (arith, length-append f (10 ∷ []))
line_some (f ∷ g ∷ fs) = omega (arith, length-append f (more_fields (g ∷ fs)))

-- each record takes a byte
pub few_lines : (rs : List (List (List ℕ))) → length rs ≤ length (lines rs)
few_lines [] = omega arith
few_lines (r ∷ rs) = omega (arith, length-append (line r) (lines rs), line_some r, few_lines rs)
