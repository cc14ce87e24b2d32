-- What is kept of a bag, its puts ascending, shows what it is worth at each version.
use Rattle.std.proofs.Common.{◌≡◌, ℕ, zero, suc, ◌+◌, ◌<◌, ◌≤◌, Bool, true, false, List, [], ◌∷◌, ◌++◌, length, take, drop, get_or, refl, ℤ, max, ap, sym, ◌∙◌, arith, Some}
use Rattle.std.specs.Prelude.{if◌then◌else◌, ◌==◌, ◌≤ℤ◌, fold, nat_le, int_le, slice_get}
use Rattle.std.specs.List.{insert, remove}
use Rattle.std.proofs.lemmas.Bool.Decides.{nat_tests}
use Rattle.std.proofs.lemmas.Grind.{common_steps}
use Rattle.std.proofs.lemmas.Int.{ints}
use Rattle.std.proofs.lemmas.List.{append-nil, append_assoc, drop_more, take_all, take_more}
use Rattle.std.proofs.lemmas.Option.{get_or_from_slice_get}
use Rattle.std.proofs.lemmas.List.Sums.{fold-append}
use Rattle.commute_ops.specs.declared.kinds.Op.TheVariants as ops
use Rattle.commute_ops.specs.declared.value.Value.{Value}
use Rattle.commute_ops.specs.declared.value.Value.TheVariants.{Bag}
use Rattle.commute_ops.specs.Laws.{with_number-comm}
use Rattle.commute_ops.specs.Numbers.{with_number}
use Rattle.commute_ops.specs.Ops.{applied}
use Rattle.script_parts.specs.Deeds.{after_deed}
use Rattle.script_parts.specs.declared.parts.Deed.{Deed}
use Rattle.script_parts.specs.declared.parts.Deed.TheVariants.{Apply, Get, Set, Draw}
use Rattle.worth_steps.specs.declared.puts.Put.{Put}
use Rattle.worth_steps.specs.Worth.{Noted, after_noted, in_order, noted_in, worth_of}
use Rattle.worth_steps.specs.Puts.{AllFrom, ArePuts, Rises, newest_put, shown_to}
use Rattle.worth_steps.specs.inside.Editing.{put_rank, with_put}
use Rattle.worth_steps.proofs.Acting.{deeds_by, last_more}

-- A put at its place.

pub insert_put : (p : Put) (ps : List Put) → insert ps (put_rank p.number ps) p ≡ with_put p ps
insert_put p [] = refl
insert_put p (x ∷ xs) = let h = insert_put p xs in grind (arith, ints, common_steps)

pub remove_inserted : (i : ℕ) (ps : List Put) (p : Put) → i ≤ length ps → remove (insert ps i p) i ≡ ps
remove_inserted zero ps p le = refl
remove_inserted (suc i) [] p le = absurd (omega arith)
remove_inserted (suc i) (x ∷ xs) p le = ap (λ (ys : List Put). x ∷ ys) (remove_inserted i xs p (omega arith))

-- Deeds on a bag.

-- a bag with a number more, put in before other deeds or after them
abbrev put_in : ℤ → Value → Value
put_in n w = after_deed (Apply (ops.Put n)) w

swapped : (n : ℤ) (d : Deed) (ns : List ℤ) → after_deed d (put_in n (Bag ns)) ≡ put_in n (after_deed d (Bag ns))
swapped n (Apply (ops.Add a)) ns = refl
swapped n (Apply (ops.Top a)) ns = refl
swapped n (Apply (ops.Put a)) ns = ap Bag (with_number-comm n a ns)
swapped n Get ns = refl
swapped n (Set a) ns = refl
swapped n (Draw a) ns = refl

-- a bag stays one
abbrev numbers_after : Deed → List ℤ → List ℤ
numbers_after (Apply (ops.Add a)) ns = ns
numbers_after (Apply (ops.Top a)) ns = ns
numbers_after (Apply (ops.Put a)) ns = with_number a ns
numbers_after Get ns = ns
numbers_after (Set a) ns = ns
numbers_after (Draw a) ns = ns

stays_bag : (d : Deed) (ns : List ℤ) → after_deed d (Bag ns) ≡ Bag (numbers_after d ns)
stays_bag (Apply (ops.Add a)) ns = refl
stays_bag (Apply (ops.Top a)) ns = refl
stays_bag (Apply (ops.Put a)) ns = refl
stays_bag Get ns = refl
stays_bag (Set a) ns = refl
stays_bag (Draw a) ns = refl

later : (n : ℤ) (ns : List ℤ) (xs : List Noted) → fold after_noted (put_in n (Bag ns)) xs ≡ put_in n (fold after_noted (Bag ns) xs)
later n ns [] = refl
later n ns (x ∷ xs) =
    ap (λ (w : Value). fold after_noted w xs) (swapped n x.deed ns ∙ ap (put_in n) (stays_bag x.deed ns))
    ∙ later n (numbers_after x.deed ns) xs
    ∙ ap (λ (w : Value). put_in n (fold after_noted w xs)) (sym (stays_bag x.deed ns))

-- the tests of a version and of the next
by_next : (n : ℤ) (xs : List Noted) (ns : List ℤ) (le eq : Bool) → (le ≡ true → eq ≡ false)
    → (if eq then put_in n (fold after_noted (if le then put_in n (Bag ns) else Bag ns) xs) else fold after_noted (if le then put_in n (Bag ns) else Bag ns) xs)
    ≡ (if (if le then true else eq) then put_in n (fold after_noted (Bag ns) xs) else fold after_noted (Bag ns) xs)
by_next n xs ns true true not = absurd (cc (not refl))
by_next n xs ns true false not = later n ns xs
by_next n xs ns false true not = refl
by_next n xs ns false false not = refl

zero_tests : (u : ℕ) → (u == zero) ≡ nat_le u zero
zero_tests u = grind (arith, nat_tests)

next_tests : (u v : ℕ) → (if nat_le u v then true else u == suc v) ≡ nat_le u (suc v)
next_tests u v = grind (arith, nat_tests)

not_both : (u v : ℕ) → nat_le u v ≡ true → (u == suc v) ≡ false
not_both u v le = grind (arith, nat_tests)

-- one put more of version u is shown in each version from u up, and in no other
abbrev a_put : ℕ → ℤ → Noted
a_put u n = record { version = u; deed = Apply (ops.Put n) }

bag_more : (u : ℕ) (n : ℤ) (ns : List Noted) (shown : ℕ → List ℤ) → ((v : ℕ) → worth_of (Bag []) ns v ≡ Bag (shown v)) → (v : ℕ)
    → worth_of (Bag []) (ns ++ a_put u n ∷ []) v ≡ (if nat_le u v then put_in n (worth_of (Bag []) ns v) else worth_of (Bag []) ns v)
bag_more u n ns shown are zero =
    deeds_by zero ns (a_put u n) (Bag [])
    ∙ ap (λ (b : Bool). if b then put_in n (worth_of (Bag []) ns zero) else worth_of (Bag []) ns zero) (zero_tests u)
bag_more u n ns shown are (suc v) =
    let w : Value = worth_of (Bag []) ns v in
    let more : List Noted = noted_in (suc v) ns in
    fold-append after_noted (Bag []) (in_order (ns ++ a_put u n ∷ []) v) (noted_in (suc v) (ns ++ a_put u n ∷ []))
    ∙ ap (λ (x : Value). fold after_noted x (noted_in (suc v) (ns ++ a_put u n ∷ []))) (bag_more u n ns shown are v)
    ∙ deeds_by (suc v) ns (a_put u n) (if nat_le u v then put_in n w else w)
    ∙ ap (λ (x : Value). if u == suc v then put_in n (fold after_noted (if nat_le u v then put_in n x else x) more) else fold after_noted (if nat_le u v then put_in n x else x) more) (are v)
    ∙ by_next n more (shown v) (nat_le u v) (u == suc v) (not_both u v)
    ∙ ap (λ (x : Value). if (if nat_le u v then true else u == suc v) then put_in n (fold after_noted x more) else fold after_noted x more) (sym (are v))
    ∙ ap (λ (b : Bool). if b then put_in n (fold after_noted w more) else fold after_noted w more) (next_tests u v)
    ∙ ap (λ (x : Value). if nat_le u (suc v) then put_in n x else x) (sym (fold-append after_noted (Bag []) (in_order ns v) more))

-- What is kept.

-- no number in front of one that comes after it
front_by : (n m : ℤ) (ns : List ℤ) (b : Bool) → (b ≡ true → n ≤ℤ m) → with_number n ns ≡ n ∷ ns
    → with_number n (if b then m ∷ ns else ns) ≡ n ∷ (if b then m ∷ ns else ns)
front_by n m ns true up rest = let le : int_le n m ≡ true = grind (arith, ints, up refl) in rw le refl
front_by n m ns false up rest = rest

front_is : (n : ℤ) (v : ℕ) (xs : List Put) → AllFrom n xs → with_number n (shown_to v xs) ≡ n ∷ shown_to v xs
front_is n v [] up = refl
front_is n v (x ∷ xs) up = front_by n x.number (shown_to v xs) (nat_le x.version.0 v) (λ e. up.0) (front_is n v xs up.1)

from_less : (m n : ℤ) (xs : List Put) → m ≤ℤ n → AllFrom n xs → AllFrom m xs
from_less m n [] le up = tt
from_less m n (x ∷ xs) le up = (omega (arith, ints, le, up.0), from_less m n xs le up.1)

-- one more is shown from its version on
more_by : (v : ℕ) (p x : Put) (xs : List Put) → AllFrom x.number xs
    → shown_to v (with_put p xs) ≡ (if nat_le p.version.0 v then with_number p.number (shown_to v xs) else shown_to v xs)
    → (le new old : Bool) → int_le p.number x.number ≡ le → nat_le p.version.0 v ≡ new → nat_le x.version.0 v ≡ old
    → shown_to v (if le then p ∷ x ∷ xs else x ∷ with_put p xs)
    ≡ (if new then with_number p.number (if old then x.number ∷ shown_to v xs else shown_to v xs)
    else (if old then x.number ∷ shown_to v xs else shown_to v xs))
more_by v p x xs up rest true true true le new old = rw (new, old, le) refl
more_by v p x xs up rest true true false le new old =
    rw (new, old) (sym (front_is p.number v xs (from_less p.number x.number xs (let lt : p.number ≤ℤ x.number = grind (arith, ints, le) in lt) up)))
more_by v p x xs up rest true false old le new is = rw (new, is) refl
more_by v p x xs up rest false true true le new old = rw (old, le) (ap (λ (ns : List ℤ). x.number ∷ ns) (rest ∙ rw new refl))
more_by v p x xs up rest false true false le new old = rw old (rest ∙ rw new refl)
more_by v p x xs up rest false false true le new old = rw old (ap (λ (ns : List ℤ). x.number ∷ ns) (rest ∙ rw new refl))
more_by v p x xs up rest false false false le new old = rw old (rest ∙ rw new refl)

shown_more : (v : ℕ) (p : Put) (xs : List Put) → Rises xs
    → shown_to v (with_put p xs) ≡ (if nat_le p.version.0 v then with_number p.number (shown_to v xs) else shown_to v xs)
shown_more v p [] up = refl
shown_more v p (x ∷ xs) up =
    more_by v p x xs up.0 (shown_more v p xs up.1) (int_le p.number x.number) (nat_le p.version.0 v) (nat_le x.version.0 v) refl refl refl

-- they stay in order
from_by : (n : ℤ) (p x : Put) (xs : List Put) → n ≤ℤ p.number → AllFrom n (x ∷ xs) → AllFrom n (with_put p xs)
    → (b : Bool) → AllFrom n (if b then p ∷ x ∷ xs else x ∷ with_put p xs)
from_by n p x xs le up rest true = (le, up)
from_by n p x xs le up rest false = (up.0, rest)

from_more : (n : ℤ) (p : Put) (xs : List Put) → n ≤ℤ p.number → AllFrom n xs → AllFrom n (with_put p xs)
from_more n p [] le up = (le, tt)
from_more n p (x ∷ xs) le up = from_by n p x xs le up (from_more n p xs le up.1) (int_le p.number x.number)

rises_by : (p x : Put) (xs : List Put) → Rises (x ∷ xs) → Rises (with_put p xs) → (b : Bool) → int_le p.number x.number ≡ b
    → Rises (if b then p ∷ x ∷ xs else x ∷ with_put p xs)
rises_by p x xs up rest true is =
    let le : p.number ≤ℤ x.number = grind (arith, ints, is) in ((le, from_less p.number x.number xs le up.0), up)
rises_by p x xs up rest false is =
    let le : x.number ≤ℤ p.number = grind (arith, ints, is) in (from_more x.number p xs le up.0, rest)

pub rises_more : (p : Put) (xs : List Put) → Rises xs → Rises (with_put p xs)
rises_more p [] up = (tt, tt)
rises_more p (x ∷ xs) up = rises_by p x xs up (rises_more p xs up.1) (int_le p.number x.number) refl

newest_by : (p x : Put) (xs : List Put) → newest_put (with_put p xs) ≡ max p.version.0 (newest_put xs) → (b : Bool)
    → newest_put (if b then p ∷ x ∷ xs else x ∷ with_put p xs) ≡ max p.version.0 (max x.version.0 (newest_put xs))
newest_by p x xs rest true = refl
newest_by p x xs rest false = omega (arith, rest)

newest_more : (p : Put) (xs : List Put) → newest_put (with_put p xs) ≡ max p.version.0 (newest_put xs)
newest_more p [] = refl
newest_more p (x ∷ xs) = newest_by p x xs (newest_more p xs) (int_le p.number x.number)

put_by : (n : ℤ) (ns : List ℤ) (w : Value) (b : Bool) → w ≡ Bag ns
    → (if b then put_in n w else w) ≡ Bag (if b then with_number n ns else ns)
put_by n ns w true is = ap (put_in n) is
put_by n ns w false is = is

-- with one put more
pub puts_more : (ns : List Noted) (ps : List Put) (p : Put) → Rises ps → ArePuts ns ps
    → ArePuts (ns ++ a_put p.version.0 p.number ∷ []) (with_put p ps)
puts_more ns ps p up are = record {
  shows = λ v.
      bag_more p.version.0 p.number ns (λ u. shown_to u ps) are.shows v
      ∙ put_by p.number (shown_to v ps) (worth_of (Bag []) ns v) (nat_le p.version.0 v) (are.shows v)
      ∙ ap Bag (sym (shown_more v p ps up));
  newest =
      last_more ns (a_put p.version.0 p.number) ∙ ap (max p.version.0) are.newest ∙ sym (newest_more p ps);
}

worth_none : (v : ℕ) → worth_of (Bag []) [] v ≡ Bag []
worth_none zero = refl
worth_none (suc v) = fold-append after_noted (Bag []) (in_order [] v) [] ∙ worth_none v

pub puts_none : ArePuts [] []
puts_none = record { shows = worth_none; newest = refl }

-- A bag of the numbers that are shown.

abbrev pub filled : List ℤ → List ℤ → List ℤ
filled xs ns = fold (λ (ms : List ℤ) (n : ℤ). with_number n ms) xs ns

filled_later : (n : ℤ) (xs ns : List ℤ) → filled (with_number n xs) ns ≡ with_number n (filled xs ns)
filled_later n xs [] = refl
filled_later n xs (m ∷ ns) =
    ap (λ (ys : List ℤ). filled ys ns) (with_number-comm n m xs) ∙ filled_later n (with_number m xs) ns

filled_by : (v : ℕ) (x : Put) (xs : List Put) → AllFrom x.number xs → filled [] (shown_to v xs) ≡ shown_to v xs → (b : Bool)
    → filled [] (if b then x.number ∷ shown_to v xs else shown_to v xs) ≡ (if b then x.number ∷ shown_to v xs else shown_to v xs)
filled_by v x xs up rest true =
    filled_later x.number [] (shown_to v xs) ∙ ap (with_number x.number) rest ∙ front_is x.number v xs up
filled_by v x xs up rest false = rest

-- they are the bag that they fill
pub filled_is : (v : ℕ) (xs : List Put) → Rises xs → filled [] (shown_to v xs) ≡ shown_to v xs
filled_is v [] up = refl
filled_is v (x ∷ xs) up = filled_by v x xs up.0 (filled_is v xs up.1) (nat_le x.version.0 v)

shown-append : (v : ℕ) (xs ys : List Put) → shown_to v (xs ++ ys) ≡ shown_to v xs ++ shown_to v ys
shown-append v [] ys = refl
shown-append v (x ∷ xs) ys = let h = shown-append v xs ys in grind arith

-- the numbers that the first puts show, with one put more
pub shown_push : (v : ℕ) (ps : List Put) (i : ℕ) (d : Put) → i < length ps
    → shown_to v (take (i + 1) ps) ≡ shown_to v (take i ps) ++ shown_to v (get_or ps i d ∷ [])
shown_push v ps i d lt = ap (shown_to v) (take_more ps i d lt) ∙ shown-append v (take i ps) (get_or ps i d ∷ [])

pub put_shown : (v : ℕ) (ps : List Put) (i : ℕ) (d : Put) (bag next : Value) → i < length ps → (get_or ps i d).version.0 ≤ v
    → bag ≡ Bag (filled [] (shown_to v (take i ps))) → next ≡ applied bag (ops.Put (get_or ps i d).number)
    → next ≡ Bag (filled [] (shown_to v (take (i + 1) ps)))
put_shown v ps i d bag next lt le is made =
    let x : Put = get_or ps i d in
    let shown : nat_le x.version.0 v ≡ true = grind (arith, nat_tests) in
    made ∙ ap (λ (w : Value). applied w (ops.Put x.number)) is
    ∙ ap (λ (ns : List ℤ). Bag ns) (sym (
    ap (filled []) (shown_push v ps i d lt ∙ ap (λ (b : Bool). shown_to v (take i ps) ++ (if b then x.number ∷ [] else [])) shown)
    ∙ fold-append (λ (ms : List ℤ) (n : ℤ). with_number n ms) [] (shown_to v (take i ps)) (x.number ∷ [])))

pub put_hidden : (v : ℕ) (ps : List Put) (i : ℕ) (d : Put) (bag : Value) → i < length ps → v < (get_or ps i d).version.0
    → bag ≡ Bag (filled [] (shown_to v (take i ps))) → bag ≡ Bag (filled [] (shown_to v (take (i + 1) ps)))
put_hidden v ps i d bag lt over is =
    let x : Put = get_or ps i d in
    let hidden : nat_le x.version.0 v ≡ false = grind (arith, nat_tests) in
    is ∙ ap (λ (ns : List ℤ). Bag (filled [] ns)) (sym (
    shown_push v ps i d lt ∙ ap (λ (b : Bool). shown_to v (take i ps) ++ (if b then x.number ∷ [] else [])) hidden
    ∙ append-nil (shown_to v (take i ps))))

-- at the end all are gone over
pub filled_all : (v : ℕ) (ps : List Put) (i : ℕ) (bag : Value) → Rises ps → length ps ≤ i
    → bag ≡ Bag (filled [] (shown_to v (take i ps))) → bag ≡ Bag (shown_to v ps)
filled_all v ps i bag up all is =
    is ∙ ap (λ (xs : List Put). Bag (filled [] (shown_to v xs))) (take_all i ps all) ∙ ap (λ (ns : List ℤ). Bag ns) (filled_is v ps up)

-- Numbers compared in place.

-- the rest of the numbers that are shown
pub rest_shown : (v : ℕ) (ps : List Put) (i : ℕ) (d : Put) → i < length ps → (get_or ps i d).version.0 ≤ v
    → shown_to v (drop i ps) ≡ (get_or ps i d).number ∷ shown_to v (drop (i + 1) ps)
rest_shown v ps i d lt le =
    let shown : nat_le (get_or ps i d).version.0 v ≡ true = grind (arith, nat_tests) in
    ap (shown_to v) (drop_more ps i d lt)
    ∙ ap (λ (b : Bool). if b then (get_or ps i d).number ∷ shown_to v (drop (i + 1) ps) else shown_to v (drop (i + 1) ps)) shown

pub rest_hidden : (v : ℕ) (ps : List Put) (i : ℕ) (d : Put) → i < length ps → v < (get_or ps i d).version.0
    → shown_to v (drop i ps) ≡ shown_to v (drop (i + 1) ps)
rest_hidden v ps i d lt over =
    let hidden : nat_le (get_or ps i d).version.0 v ≡ false = grind (arith, nat_tests) in
    ap (shown_to v) (drop_more ps i d lt)
    ∙ ap (λ (b : Bool). if b then (get_or ps i d).number ∷ shown_to v (drop (i + 1) ps) else shown_to v (drop (i + 1) ps)) hidden

-- what stands behind the first numbers of a list
next_is : (m : ℕ) (ns : List ℤ) (n : ℤ) (rest : List ℤ) → m ≤ length ns → take m ns ++ n ∷ rest ≡ ns → slice_get ns m ≡ Some n
next_is zero [] n rest le is = absurd (cc is)
next_is zero (k ∷ ns) n rest le is = ap (λ (xs : List ℤ). slice_get xs 0) (sym is)
next_is (suc m) [] n rest le is = absurd (omega arith)
next_is (suc m) (k ∷ ns) n rest le is = next_is m ns n rest (omega arith) (ap (drop 1) is)

pub not_shown : (v : ℕ) (ps : List Put) (ns : List ℤ) (i m : ℕ) (d : Put) → i < length ps → (get_or ps i d).version.0 ≤ v
    → m ≤ length ns → take m ns ++ shown_to v (drop i ps) ≡ shown_to v ps
    → (slice_get ns m ≡ Some (get_or ps i d).number → ⊥) → shown_to v ps ≡ ns → ⊥
not_shown v ps ns i m d lt le within met other same =
    other (next_is m ns (get_or ps i d).number (shown_to v (drop (i + 1) ps)) within
    (ap (λ (xs : List ℤ). take m ns ++ xs) (sym (rest_shown v ps i d lt le)) ∙ met ∙ same))

at_within : (m : ℕ) (ns : List ℤ) (n : ℤ) → slice_get ns m ≡ Some n → m + 1 ≤ length ns
at_within m [] n at = absurd (cc at)
at_within zero (k ∷ ns) n at = omega arith
at_within (suc m) (k ∷ ns) n at = omega (arith, at_within m ns n at)

take_next : (m : ℕ) (ns : List ℤ) (n : ℤ) → slice_get ns m ≡ Some n → take (m + 1) ns ≡ take m ns ++ n ∷ []
take_next m ns n at =
    take_more ns m n (omega (arith, at_within m ns n at))
    ∙ ap (λ (j : ℤ). take m ns ++ j ∷ []) (get_or_from_slice_get ns m n n at)

pub is_shown : (v : ℕ) (ps : List Put) (ns : List ℤ) (i m : ℕ) (d : Put) → i < length ps → (get_or ps i d).version.0 ≤ v
    → take m ns ++ shown_to v (drop i ps) ≡ shown_to v ps → slice_get ns m ≡ Some (get_or ps i d).number
    → (m + 1 ≤ length ns) × (take (m + 1) ns ++ shown_to v (drop (i + 1) ps) ≡ shown_to v ps)
is_shown v ps ns i m d lt le met at =
    let x : Put = get_or ps i d in (
      at_within m ns x.number at,
      ap (λ (xs : List ℤ). xs ++ shown_to v (drop (i + 1) ps)) (take_next m ns x.number at)
          ∙ append_assoc (take m ns) (x.number ∷ []) (shown_to v (drop (i + 1) ps))
          ∙ ap (λ (xs : List ℤ). take m ns ++ xs) (sym (rest_shown v ps i d lt le))
          ∙ met,
    )
