-- Lines that are read one after the other, while they begin alike.
use Rattle.std.proofs.Common.{◌≡◌, ◌∙◌, ◌∷◌, ◌++◌, [], List, true, false, ℕ, refl, sym, ap, append_assoc}
use Rattle.std.specs.List.{AllByRecursion}
use Rattle.tv_base.proofs.Truths.{right_true}
use Rattle.history_text.specs.Parts.{lacks, parts_at}
use Rattle.history_text.proofs.Cuts.{one_cut}
use Rattle.history_reader.specs.inside.Lines.{begins}
use Rattle.history_reader.proofs.Spelling.{IsLine, one_text}

-- how a line of something is printed: its words, and a line's end behind
pub record IsPrinted (text words_text : List ℕ) (words : List (List ℕ)) : Type 0 where
  pub is : text ≡ words_text ++ 10 ∷ []
  pub of : IsLine words_text words

-- how lines of some kind are printed
pub record ArePrinted {T : Type 0} (head : List ℕ) (one : T → List ℕ) (print : List T → List ℕ) (words : T → List (List ℕ)) (May : T → Type 0) : Type 0 where
  pub text : T → List ℕ
  pub none : print [] ≡ []
  pub more : (x : T) (xs : List T) → print (x ∷ xs) ≡ one x ++ print xs
  pub begun : (x : T) (rest : List ℕ) → begins head (one x ++ rest) ≡ true
  pub line : (x : T) → May x → IsPrinted (one x) (text x) (words x)

-- a line's end is somewhere
pub no_lack : (x y : List ℕ) → lacks 10 (x ++ 10 ∷ y) ≡ true → ⊥
no_lack [] y h = cc
no_lack (z ∷ x) y h = no_lack x y (right_true _ (lacks 10 (x ++ 10 ∷ y)) h)

module _ {T : Type 0} (head : List ℕ) (one : T → List ℕ) (print : List T → List ℕ) (words : T → List (List ℕ)) (May : T → Type 0) (p : ArePrinted head one print words May) where
  -- one more line in front
  front : (x : T) (xs : List T) (rest : List ℕ) → May x → print (x ∷ xs) ++ rest ≡ p.text x ++ 10 ∷ (print xs ++ rest)
  front x xs rest may =
      ap (λ (t : List ℕ). t ++ rest) (p.more x xs) ∙ append_assoc (one x) (print xs) rest
      ∙ ap (λ (t : List ℕ). t ++ (print xs ++ rest)) (p.line x may).is ∙ append_assoc (p.text x) (10 ∷ []) (print xs ++ rest)

  begins_so : (x : T) (xs : List T) (rest : List ℕ) → begins head (print (x ∷ xs) ++ rest) ≡ true
  begins_so x xs rest = ap (begins head) (ap (λ (t : List ℕ). t ++ rest) (p.more x xs) ∙ append_assoc (one x) (print xs) rest) ∙ p.begun x (print xs ++ rest)

  nothing : (rest : List ℕ) → print [] ++ rest ≡ rest
  nothing rest = ap (λ (t : List ℕ). t ++ rest) p.none

  -- what is left behind the lines that were read, of lines that go on
  pub strip : (read xs : List T) (now rest : List ℕ) → print read ++ now ≡ print xs ++ rest → AllByRecursion May read → AllByRecursion May xs → begins head rest ≡ false
      → (more : List T) × (now ≡ print more ++ rest) × AllByRecursion May more
  strip [] xs now rest same mr mx other = (xs, sym (nothing now) ∙ same, mx)
  strip (r ∷ rs) [] now rest same mr mx other =
      let is : print (r ∷ rs) ++ now ≡ rest = same ∙ nothing rest in
      let yes_so : begins head rest ≡ true = sym (ap (begins head) is) ∙ begins_so r rs now in
      cc
  strip (r ∷ rs) (x ∷ xs) now rest same mr mx other =
      let lines : p.text r ++ 10 ∷ (print rs ++ now) ≡ p.text x ++ 10 ∷ (print xs ++ rest) = sym (front r rs now mr.0) ∙ same ∙ front x xs rest mx.0 in
      let both = one_cut 10 (p.text r) (p.text x) (print rs ++ now) (print xs ++ rest) (p.line r mr.0).of.whole (p.line x mx.0).of.whole lines in
      strip rs xs now rest both.1 mr.1 mx.1 other

  -- behind the lines, where no more of them come
  pub same_rest : (read xs : List T) (now rest : List ℕ) → print read ++ now ≡ print xs ++ rest → AllByRecursion May read → AllByRecursion May xs → begins head now ≡ false → begins head rest ≡ false → now ≡ rest
  same_rest read xs now rest same mr mx off other =
      let (more, is, may) = strip read xs now rest same mr mx other in
      by more is
    where
      by : (more : List T) → now ≡ print more ++ rest → now ≡ rest
      by [] is = is ∙ nothing rest
      by (x ∷ more) is =
          let on : begins head now ≡ true = ap (begins head) is ∙ begins_so x more rest in
          absurd (clash on off)
        where
          clash : begins head now ≡ true → begins head now ≡ false → ⊥
          clash a b = cc

  -- one more line of what is left
  next_of : (now rest : List ℕ) (more : List T) → now ≡ print more ++ rest → AllByRecursion May more → begins head now ≡ true → begins head rest ≡ false
      → (x : T) × (xs : List T) × (now ≡ p.text x ++ 10 ∷ (print xs ++ rest)) × May x
  next_of now rest [] is may on other =
      let off : begins head now ≡ false = ap (begins head) (is ∙ nothing rest) ∙ other in
      cc
  next_of now rest (x ∷ xs) is may on other = (x, xs, is ∙ front x xs rest may.0, may.0)

  -- no line of this kind has no end
  pub no_line : (old now : List ℕ) (read : List T) → old ≡ print read ++ now → AllByRecursion May read → begins head now ≡ true → lacks 10 now ≡ true
      → (xs : List T) (rest : List ℕ) → old ≡ print xs ++ rest → AllByRecursion May xs → begins head rest ≡ false → ⊥
  no_line old now read is mr on lack xs rest same mx other =
      let (more, left, may) = strip read xs now rest (sym is ∙ same) mr mx other in
      let (x, ys, here, this) = next_of now rest more left may on other in
      no_lack (p.text x) (print ys ++ rest) (ap (lacks 10) (sym here) ∙ lack)

  -- a line that says nothing of this kind
  pub bad_line : (old now line new : List ℕ) (read : List T) → old ≡ print read ++ now → AllByRecursion May read → begins head now ≡ true → now ≡ line ++ 10 ∷ new → lacks 10 line ≡ true
      → ((x : T) → parts_at 32 line ≡ words x → May x → ⊥) → (xs : List T) (rest : List ℕ) → old ≡ print xs ++ rest → AllByRecursion May xs → begins head rest ≡ false → ⊥
  bad_line old now line new read is mr on cut whole only xs rest same mx other =
      let (more, left, may) = strip read xs now rest (sym is ∙ same) mr mx other in
      let (x, ys, here, this) = next_of now rest more left may on other in
      let both = one_cut 10 line (p.text x) new (print ys ++ rest) whole (p.line x this).of.whole (sym cut ∙ here) in
      only x (ap (parts_at 32) both.0 ∙ (p.line x this).of.parts) this

  -- a line that says something of this kind
  pub good_line : (old now line new : List ℕ) (read : List T) (x : T) → old ≡ print read ++ now → now ≡ line ++ 10 ∷ new → parts_at 32 line ≡ words x → May x
      → old ≡ print (read ++ x ∷ []) ++ new
  good_line old now line new read x is cut parts may =
      let text : line ≡ p.text x = one_text line (p.text x) (parts ∙ sym (p.line x may).of.parts) in
      let here : now ≡ print (x ∷ []) ++ new =
      cut ∙ ap (λ (t : List ℕ). t ++ 10 ∷ new) text ∙ ap (λ (t : List ℕ). p.text x ++ 10 ∷ t) (sym (nothing new)) ∙ sym (front x [] new may) in
      is ∙ ap (λ (t : List ℕ). print read ++ t) here ∙ sym (append_assoc (print read) (print (x ∷ [])) new) ∙ ap (λ (t : List ℕ). t ++ new) (pushed read x)
    where
      pushed : (read : List T) (x : T) → print read ++ print (x ∷ []) ≡ print (read ++ x ∷ [])
      pushed [] x = nothing (print (x ∷ []))
      pushed (r ∷ rs) x =
          ap (λ (t : List ℕ). t ++ print (x ∷ [])) (p.more r rs) ∙ append_assoc (one r) (print rs) (print (x ∷ []))
          ∙ ap (λ (t : List ℕ). one r ++ t) (pushed rs x) ∙ sym (p.more r (rs ++ x ∷ []))

  -- the lines of two lists that are one text, with no more of them behind
  pub same_lines : ((x y : T) → words x ≡ words y → May x → May y → x ≡ y) → (read xs : List T) (now rest : List ℕ) → print read ++ now ≡ print xs ++ rest → AllByRecursion May read → AllByRecursion May xs
      → begins head now ≡ false → begins head rest ≡ false → read ≡ xs
  same_lines one_of [] [] now rest same mr mx off other = refl
  same_lines one_of [] (x ∷ xs) now rest same mr mx off other =
      let on : begins head now ≡ true = ap (begins head) (sym (nothing now) ∙ same) ∙ begins_so x xs rest in
      cc
  same_lines one_of (r ∷ rs) [] now rest same mr mx off other =
      let on : begins head rest ≡ true = ap (begins head) (sym (nothing rest) ∙ sym same) ∙ begins_so r rs now in
      cc
  same_lines one_of (r ∷ rs) (x ∷ xs) now rest same mr mx off other =
      let lines : p.text r ++ 10 ∷ (print rs ++ now) ≡ p.text x ++ 10 ∷ (print xs ++ rest) = sym (front r rs now mr.0) ∙ same ∙ front x xs rest mx.0 in
      let both = one_cut 10 (p.text r) (p.text x) (print rs ++ now) (print xs ++ rest) (p.line r mr.0).of.whole (p.line x mx.0).of.whole lines in
      let first : r ≡ x = one_of r x (sym (p.line r mr.0).of.parts ∙ ap (parts_at 32) both.0 ∙ (p.line x mx.0).of.parts) mr.0 mx.0 in
      let more = same_lines one_of rs xs now rest both.1 mr.1 mx.1 off other in
      λ i. first i ∷ more i
