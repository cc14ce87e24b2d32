-- The numbers of a bag, which ascend, between braces.
use Rattle.std.proofs.Common.{◌≡◌, ◌+◌, ◌<◌, ◌≤◌, ◌∙◌, ◌∷◌, ◌++◌, [], List, Bool, true, false, ℕ, zero, suc, length, get_or, int_eq, take, refl, sym, ap, subst, arith, append_assoc, length-take}
use Rattle.std.specs.Prelude.{ℤ, not, pos, ◌≤ℤ◌, int_le, if◌then◌else◌}
use Rattle.std.specs.Fmt.{signed_decimal}
use Rattle.std.specs.List.{join_with_byte}
use Rattle.std.proofs.lemmas.Int.{ints}
use Rattle.std.proofs.lemmas.List.{append-nil, append_cancel_right, get_or_default, get_or-take, take_all, take_more}
use Rattle.std.proofs.lemmas.List.Splits.{join_with_byte-slice_split}
use Rattle.std.proofs.lemmas.List.Sums.{fold_more}
use Rattle.std.specs.Cmp.Lexicographic.{pointwise}
use Rattle.std.proofs.lemmas.Bool.Decides.{Decides-int_eq}
use Rattle.std.proofs.lemmas.Slice.Eq.{slice_eq-Decides}
use Rattle.commute_ops.specs.Numbers.{IsAscending, with_number}
use Rattle.history_text.specs.Printable.{IsAmount}
use Rattle.history_text.specs.Values.{bag_text, more_numbers}
use Rattle.history_text.specs.Numbers.{ascending_of}
use Rattle.history_text.specs.Parts.{parts_at}
use Rattle.history_text.specs.Words.{AllAmounts, IsBag, amount_words}
use Rattle.history_text.proofs.Cuts.{first_part_is, one_part, some_part}
use Rattle.history_text.proofs.Each.{each_one}
use Rattle.history_text.proofs.Lacking.{amount_lacks}
use Rattle.history_text.proofs.OneToOne.{signed_one}

-- a number in front of equal ones, and behind them
same_ends : (n : ℤ) (zs : List ℤ) → ((k : ℕ) (d : ℤ) → k < length zs → get_or zs k d ≡ n) → n ∷ zs ≡ zs ++ n ∷ []
same_ends n [] all = refl
same_ends n (z ∷ zs) all =
    let first : z ≡ n = all 0 n (omega arith) in
    let rest = same_ends n zs (λ k d h. all (suc k) d (omega arith)) in
    ap (λ (m : ℤ). n ∷ (m ∷ zs)) first ∙ ap (λ (m : ℤ). m ∷ (n ∷ zs)) (sym first) ∙ ap (λ (l : List ℤ). z ∷ l) rest

int_le_true : (n y : ℤ) → int_le n y ≡ true → n ≤ℤ y
int_le_true n y h = omega (arith, ints, h)

-- a number that is no less than the others goes behind them
put_last : (n : ℤ) (ys : List ℤ) → ((j k : ℕ) (d : ℤ) → j < k → k < length ys → get_or ys j d ≤ℤ get_or ys k d) → ((k : ℕ) (d : ℤ) → k < length ys → get_or ys k d ≤ℤ n) → with_number n ys ≡ ys ++ n ∷ []
put_last n [] up top = refl
put_last n (y ∷ ys) up top = by (int_le n y) refl (put_last n ys (λ j k d jk h. up (suc j) (suc k) d (omega arith) (omega arith)) (λ k d h. top (suc k) d (omega arith)))
  where
    each : n ≤ℤ y → (k : ℕ) (d : ℤ) → k < length (y ∷ ys) → get_or (y ∷ ys) k d ≡ n
    each first zero d h = omega (arith, ints, first, top 0 d h)
    each first (suc k) d h = omega (arith, ints, first, top (suc k) d h, up 0 (suc k) d (omega arith) h)

    by : (b : Bool) → int_le n y ≡ b → with_number n ys ≡ ys ++ n ∷ [] → (if b then n ∷ y ∷ ys else y ∷ with_number n ys) ≡ y ∷ (ys ++ n ∷ [])
    by true is more = same_ends n (y ∷ ys) (each (int_le_true n y is))
    by false is more = ap (λ (l : List ℤ). y ∷ l) more

-- the first of some numbers that ascend are in order
in_order_first : (xs : List ℤ) (i : ℕ) → IsAscending xs → i ≤ length xs → ascending_of (take i xs) ≡ take i xs
in_order_first xs zero asc h = refl
in_order_first xs (suc i) asc h =
    let less : i < length xs = omega arith in
    let n : ℤ = get_or xs i (pos 0) in
    let more : suc i ≡ i + 1 = omega arith in
    let len : length (take i xs) ≤ i = omega (arith, length-take i xs) in
    let up : (j k : ℕ) (d : ℤ) → j < k → k < length (take i xs) → get_or (take i xs) j d ≤ℤ get_or (take i xs) k d =
    λ j k d jk hk. rw (get_or-take i xs j d (omega arith), get_or-take i xs k d (omega arith)) (asc j k d jk (omega arith)) in
    let top : (k : ℕ) (d : ℤ) → k < length (take i xs) → get_or (take i xs) k d ≤ℤ n =
    λ k d hk. rw (get_or-take i xs k d (omega arith), get_or_default xs i (pos 0) d less) (asc k i d (omega arith) less) in
    ap (λ (m : ℕ). ascending_of (take m xs)) more
    ∙ fold_more (λ (done : List ℤ) (m : ℤ). with_number m done) [] xs i (pos 0) less
    ∙ ap (with_number n) (in_order_first xs i asc (omega arith))
    ∙ put_last n (take i xs) up top
    ∙ sym (take_more xs i (pos 0) less)
    ∙ ap (λ (m : ℕ). take m xs) (sym more)

-- numbers that ascend are in order
pub ascending_stays : (xs : List ℤ) → IsAscending xs → ascending_of xs ≡ xs
ascending_stays xs asc =
    let all : take (length xs) xs ≡ xs = take_all (length xs) xs (omega arith) in
    ap ascending_of (sym all) ∙ in_order_first xs (length xs) asc (omega arith) ∙ all

-- the numbers of a bag as the parts between commas
pub bag_parts : (n : ℤ) (ns : List ℤ) → AllAmounts (n ∷ ns) → parts_at 44 (signed_decimal n ++ more_numbers ns) ≡ amount_words (n ∷ ns)
bag_parts n [] all = ap (parts_at 44) (append-nil (signed_decimal n)) ∙ one_part 44 (signed_decimal n) (amount_lacks 44 n refl refl all.0)
bag_parts n (m ∷ ms) all =
    first_part_is 44 (signed_decimal n) (signed_decimal m ++ more_numbers ms) (amount_lacks 44 n refl refl all.0)
    ∙ ap (λ (ps : List (List ℕ)). signed_decimal n ∷ ps) (bag_parts m ms all.1)

-- what stands between a bag's braces
pub within : (inner : List ℕ) (n : ℤ) (ns : List ℤ) → 123 ∷ (inner ++ 125 ∷ []) ≡ bag_text (n ∷ ns) → inner ≡ signed_decimal n ++ more_numbers ns
within inner n ns is =
    let tails : inner ++ 125 ∷ [] ≡ signed_decimal n ++ (more_numbers ns ++ 125 ∷ []) = cc in
    append_cancel_right inner (signed_decimal n ++ more_numbers ns) (125 ∷ []) (tails ∙ sym (append_assoc (signed_decimal n) (more_numbers ns) (125 ∷ [])))

-- so a bag is its parts
parts_of_bag : (field inner : List ℕ) (ns : List ℤ) → field ≡ 123 ∷ (inner ++ 125 ∷ []) → (inner ≡ [] → ⊥) → field ≡ bag_text ns → AllAmounts ns → parts_at 44 inner ≡ amount_words ns
parts_of_bag field inner [] braces some is all =
    let tails : inner ++ 125 ∷ [] ≡ 125 ∷ [] = cc in
    absurd (some (append_cancel_right inner [] (125 ∷ []) tails))
parts_of_bag field inner (n ∷ ns) braces some is all = ap (parts_at 44) (within inner n ns (sym braces ∙ is)) ∙ bag_parts n ns all

pub no_numbers : (field inner : List ℕ) → field ≡ 123 ∷ (inner ++ 125 ∷ []) → (inner ≡ [] → ⊥) → ((ns : List ℤ) → parts_at 44 inner ≡ amount_words ns → AllAmounts ns → ⊥)
    → (ns : List ℤ) → field ≡ bag_text ns → IsBag ns → ⊥
no_numbers field inner braces some only ns is may = only ns (parts_of_bag field inner ns braces some is may.1) may.1

-- numbers that don't ascend are no bag's
pub not_up : (field inner : List ℕ) (read : List ℤ) → field ≡ 123 ∷ (inner ++ 125 ∷ []) → (inner ≡ [] → ⊥) → parts_at 44 inner ≡ amount_words read → AllAmounts read → (IsAscending read → ⊥)
    → (ns : List ℤ) → field ≡ bag_text ns → IsBag ns → ⊥
not_up field inner read braces some parts all other ns is may =
    let same : read ≡ ns = each_one signed_decimal (λ n. IsAmount n) signed_one read ns (sym parts ∙ parts_of_bag field inner ns braces some is may.1) all may.1 in
    other (subst (λ (xs : List ℤ). IsAscending xs) (sym same) may.0)

-- lists of numbers that compare as equal
pub same_numbers : (xs ys : List ℤ) (b : Bool) → b ≡ not (pointwise int_eq xs ys) → b ≡ false → xs ≡ ys
same_numbers xs ys b is off =
    let d = slice_eq-Decides Decides-int_eq xs ys (pointwise int_eq xs ys) refl in
    d.0 (by (pointwise int_eq xs ys) (sym is ∙ off))
  where
    by : (t : Bool) → not t ≡ false → t ≡ true
    by true h = refl
    by false h = cc

-- lists of numbers that compare as different
pub other_numbers : (xs ys : List ℤ) (b : Bool) → b ≡ not (pointwise int_eq xs ys) → b ≡ true → xs ≡ ys → ⊥
other_numbers xs ys b is on same =
    let d = slice_eq-Decides Decides-int_eq xs ys (pointwise int_eq xs ys) refl in
    let both : pointwise int_eq xs ys ≡ true = d.1 same in
    let turned : b ≡ false = is ∙ ap not both in
    cc

-- the bag whose parts these are
pub bag_read : (field inner : List ℕ) (read : List ℤ) → field ≡ 123 ∷ (inner ++ 125 ∷ []) → parts_at 44 inner ≡ amount_words read → AllAmounts read → field ≡ bag_text read
bag_read field inner [] braces parts all = absurd (some_part 44 inner parts)
bag_read field inner (n ∷ ns) braces parts all =
    let text : List ℕ = signed_decimal n ++ more_numbers ns in
    let same : inner ≡ text =
    sym (join_with_byte-slice_split 44 inner) ∙ ap (join_with_byte 44) (parts ∙ sym (bag_parts n ns all)) ∙ join_with_byte-slice_split 44 text in
    braces ∙ ap (λ (t : List ℕ). 123 ∷ (t ++ 125 ∷ [])) same ∙ ap (λ (t : List ℕ). 123 ∷ t) (append_assoc (signed_decimal n) (more_numbers ns) (125 ∷ []))

-- what isn't in braces is no bag
pub not_braced : (field : List ℕ) → ((inner : List ℕ) → field ≡ 123 ∷ (inner ++ 125 ∷ []) → ⊥) → (ns : List ℤ) → field ≡ bag_text ns → IsBag ns → ⊥
not_braced field only [] is may = only [] is
not_braced field only (n ∷ ns) is may = only (signed_decimal n ++ more_numbers ns) (is ∙ ap (λ (t : List ℕ). 123 ∷ t) (sym (append_assoc (signed_decimal n) (more_numbers ns) (125 ∷ []))))
