-- The first of some words, or the only one, is what is read of it.
use Rattle.std.proofs.Common.{◌≡◌, ◌∙◌, ◌∷◌, [], List, ℕ, ap}
use Rattle.std.specs.Prelude.{Option, Some, None}
use Rattle.history_text.specs.Exact.{IsReadBack}
use Rattle.history_reader.specs.inside.Next.{IsNext, IsNextWord, alone}

same_first : (a b : List ℕ) (xs ys ws : List (List ℕ)) → ws ≡ a ∷ xs → ws ≡ b ∷ ys → a ≡ b
same_first a b xs ys ws one other = cc

pub no_first : {T : Type 0} (print : T → List ℕ) (May : T → Type 0) (old new : List (List ℕ)) (r : Option T) → r ≡ None → old ≡ [] → IsNext print May old new r
no_first {T} print May old new r none is = rw none (λ (x : T) (rest : List (List ℕ)) same may. by x rest same)
  where
    by : (x : T) (rest : List (List ℕ)) → old ≡ print x ∷ rest → ⊥
    by x rest same = cc

pub first_read : {T : Type 0} (print : T → List ℕ) (May : T → Type 0) (old new : List (List ℕ)) (word : List ℕ) (r : Option T) → old ≡ word ∷ new → IsReadBack print May word r → IsNext print May old new r
first_read print May old new word (Some x) is read = (is ∙ ap (λ (w : List ℕ). w ∷ new) read.0, read.1)
first_read print May old new word None is none = λ x rest same may. none x (same_first word (print x) new rest old is same) may

pub no_last : {T : Type 0} (print : T → List ℕ) (May : T → Type 0) (old : List (List ℕ)) (r : Option T) → r ≡ None → ((a : List ℕ) → old ≡ a ∷ [] → ⊥) → IsReadBack (alone print) May old r
no_last {T} print May old r none only = rw none (λ (x : T) same may. only (print x) same)

pub last_read : {T : Type 0} (print : T → List ℕ) (May : T → Type 0) (old : List (List ℕ)) (word : List ℕ) (r : Option T) → old ≡ word ∷ [] → IsReadBack print May word r → IsReadBack (alone print) May old r
last_read print May old word (Some x) is read = (is ∙ ap (λ (w : List ℕ). w ∷ []) read.0, read.1)
last_read print May old word None is none = λ x same may. none x (same_first word (print x) [] [] old is same) may

pub no_word : {T : Type 0} (word : List ℕ) (old new : List (List ℕ)) (r : Option T) → r ≡ None → old ≡ [] → IsNextWord word old new r
no_word word old new r none is = rw none (λ (rest : List (List ℕ)) same. by rest same)
  where
    by : (rest : List (List ℕ)) → old ≡ word ∷ rest → ⊥
    by rest same = cc

pub other_word : (word next : List ℕ) (old new : List (List ℕ)) → old ≡ next ∷ new → (next ≡ word → ⊥) → (rest : List (List ℕ)) → old ≡ word ∷ rest → ⊥
other_word word next old new is other rest same = other (same_first next word new rest old is same)
