-- Lines as the words that stand between spaces.
use Rattle.std.proofs.Common.{◌≡◌, ◌∙◌, ◌∷◌, ◌++◌, [], List, true, ℕ, refl, sym, ap, append_assoc}
use Rattle.std.specs.List.{AllByRecursion, join_with_byte}
use Rattle.std.proofs.lemmas.List.{append-nil}
use Rattle.std.proofs.lemmas.List.Folds.{list_all-append}
use Rattle.std.proofs.lemmas.List.Splits.{join_with_byte-slice_split}
use Rattle.history_text.specs.Parts.{lacks, parts_at}
use Rattle.history_text.proofs.Cuts.{first_part_is, one_part}

-- neither a space nor a line's end
pub record IsSolid (w : List ℕ) : Type 0 where
  pub no_space : lacks 32 w ≡ true
  pub no_end : lacks 10 w ≡ true

-- each word after a space
abbrev pub spaced : List (List ℕ) → List ℕ
spaced [] = []
spaced (w ∷ ws) = 32 ∷ (w ++ spaced ws)

pub record IsTail (text : List ℕ) (ws : List (List ℕ)) : Type 0 where
  pub is : text ≡ spaced ws
  pub solid : AllByRecursion IsSolid ws

pub record IsLine (text : List ℕ) (ws : List (List ℕ)) : Type 0 where
  pub parts : parts_at 32 text ≡ ws
  pub whole : lacks 10 text ≡ true

spaced-append : (xs ys : List (List ℕ)) → spaced xs ++ spaced ys ≡ spaced (xs ++ ys)
spaced-append [] ys = refl
spaced-append (x ∷ xs) ys = ap (λ (t : List ℕ). 32 ∷ t) (append_assoc x (spaced xs) (spaced ys) ∙ ap (λ (t : List ℕ). x ++ t) (spaced-append xs ys))

all-append : (xs ys : List (List ℕ)) → AllByRecursion IsSolid xs → AllByRecursion IsSolid ys → AllByRecursion IsSolid (xs ++ ys)
all-append [] ys hx hy = hy
all-append (x ∷ xs) ys hx hy = (hx.0, all-append xs ys hx.1 hy)

-- no word
pub none_more : IsTail [] []
none_more = record { is = refl; solid = tt }

-- one word
pub word : (w : List ℕ) → IsSolid w → IsTail (32 ∷ w) (w ∷ [])
word w h = record { is = ap (λ (t : List ℕ). 32 ∷ t) (sym (append-nil w)); solid = (h, tt) }

-- a word that is always the same
pub fixed : (w : List ℕ) → lacks 32 w ≡ true → lacks 10 w ≡ true → IsTail (32 ∷ w) (w ∷ [])
fixed w a b = word w (record { no_space = a; no_end = b })

-- some words, and more of them
pub both : {a b : List ℕ} {xs ys : List (List ℕ)} → IsTail a xs → IsTail b ys → IsTail (a ++ b) (xs ++ ys)
both {a = a} {b = b} {xs = xs} {ys = ys} x y = record {
  is = ap (λ (t : List ℕ). t ++ b) x.is ∙ ap (λ (t : List ℕ). spaced xs ++ t) y.is ∙ spaced-append xs ys;
  solid = all-append xs ys x.solid y.solid;
}

parts_of : (w : List ℕ) (ws : List (List ℕ)) → IsSolid w → AllByRecursion IsSolid ws → parts_at 32 (w ++ spaced ws) ≡ w ∷ ws
parts_of w [] h all = ap (parts_at 32) (append-nil w) ∙ one_part 32 w h.no_space
parts_of w (x ∷ xs) h all = first_part_is 32 w (x ++ spaced xs) h.no_space ∙ ap (λ (ps : List (List ℕ)). w ∷ ps) (parts_of x xs all.0 all.1)

no_end_of : (w : List ℕ) (ws : List (List ℕ)) → IsSolid w → AllByRecursion IsSolid ws → lacks 10 (w ++ spaced ws) ≡ true
no_end_of w [] h all = ap (lacks 10) (append-nil w) ∙ h.no_end
no_end_of w (x ∷ xs) h all = list_all-append _ w (spaced (x ∷ xs)) ∙ rw h.no_end (no_end_of x xs all.0 all.1)

-- a first word and more of them are a line
pub line : {t : List ℕ} {ws : List (List ℕ)} (w : List ℕ) → IsSolid w → IsTail t ws → IsLine (w ++ t) (w ∷ ws)
line {t = t} {ws = ws} w h tail = record {
  parts = ap (λ (x : List ℕ). parts_at 32 (w ++ x)) tail.is ∙ parts_of w ws h tail.solid;
  whole = ap (λ (x : List ℕ). lacks 10 (w ++ x)) tail.is ∙ no_end_of w ws h tail.solid;
}

-- texts of the same words are one
pub one_text : (a b : List ℕ) → parts_at 32 a ≡ parts_at 32 b → a ≡ b
one_text a b same = sym (join_with_byte-slice_split 32 a) ∙ ap (join_with_byte 32) same ∙ join_with_byte-slice_split 32 b
