-- The places with one key are those of the messages that it finds, in the order in which they came.
use Rattle.std.proofs.Common.{◌≡◌, ◌<◌, ℕ, Bool, true, false, not, ◌&&◌, ◌||◌, List, [], ◌∷◌, refl, ap, subst, sym, ◌∙◌, arith, cond, Option, Some, None}
use Rattle.std.specs.Prelude.{IsSome}
use Rattle.std.specs.BTreeMap.Range.{range_contains}
use Rattle.std.specs.List.{AllByRecursion, filter}
use Rattle.std.specs.List.Sorted.{IsStrictlySortedBy}
use Rattle.std.specs.Map.{keys_of}
use Rattle.std.specs.declared.cmp.Ordering.{Ordering}
use Rattle.std.specs.declared.cmp.Ordering.TheVariants.{Less, Equal, Greater}
use Rattle.std.specs.declared.ops.Bound.TheVariants.{Included, Excluded}
use Rattle.std.specs.Ordering.{is_eq, is_le, nat_cmp, ordering_then}
use Rattle.std.proofs.lemmas.Bool.Decides.{nat_tests}
use Rattle.std.proofs.lemmas.List.Kept.{IsStrictlySortedBy-filter}
use Rattle.std.proofs.lemmas.Map.Keys.{sorted_head, sorted_tail}
use Rattle.std.proofs.lemmas.Map.Lookups.{btree_set_from_contains}
use Rattle.std.proofs.lemmas.Map.Views.{any-filter_same}
use Rattle.letter_types.specs.declared.kept.KeptLetter.{KeptLetter}
use Rattle.node_machine.specs.declared.places.Key.{Key}
use Rattle.node_machine.specs.declared.places.KeptPlace.{KeptPlace}
use Rattle.node_machine.specs.inside.Arrivals.{ArePlaced, Arrived, came, is_found}
use Rattle.node_machine.specs.inside.Places.{has_place, key_order, place_order, place_by}
use Rattle.node_machine.proofs.deferred.KeyOrder.{is_eq-place, key_itself, number_itself, place_exact, place_total, same_key, same_number, same_place}
use Rattle.node_machine.proofs.deferred.FirstCalled.{AllAfter}

-- the places of the messages that a key finds
abbrev pub places_of : Key → Arrived → List KeptPlace
places_of q [] = []
places_of q (e ∷ es) = cond (is_found q (Some e.1)) (place_by q e.0 ∷ places_of q es) (places_of q es)

-- they are in order
same-key : (q : Key) (a b : ℕ) → place_order (place_by q a) (place_by q b) ≡ nat_cmp a b
same-key q a b = ap (λ (r : Ordering). ordering_then r (nat_cmp a b)) (key_itself q)

behind-by : (q : Key) (a : ℕ) (e : ℕ × KeptLetter) (es : Arrived) (b : Bool) → nat_cmp a e.0 ≡ Less
    → AllByRecursion (λ r. place_order (place_by q a) r ≡ Less) (places_of q es)
    → AllByRecursion (λ r. place_order (place_by q a) r ≡ Less)
    (cond b (place_by q e.0 ∷ places_of q es) (places_of q es))
behind-by q a e es true less rest = (same-key q a e.0 ∙ less, rest)
behind-by q a e es false less rest = rest

behind : (q : Key) (a : ℕ) (es : Arrived) → AllAfter a (keys_of es)
    → AllByRecursion (λ r. place_order (place_by q a) r ≡ Less) (places_of q es)
behind q a [] after = tt
behind q a (e ∷ es) after = behind-by q a e es (is_found q (Some e.1)) after.0 (behind q a es after.1)

sorted-cons : (p : KeptPlace) (ps : List KeptPlace) → AllByRecursion (λ r. place_order p r ≡ Less) ps
    → IsStrictlySortedBy place_order ps → IsStrictlySortedBy place_order (p ∷ ps)
unfolding IsStrictlySortedBy
sorted-cons p ps behind up = (behind, up)

sorted-none : IsStrictlySortedBy place_order []
unfolding IsStrictlySortedBy
sorted-none = tt

sorted-by : (q : Key) (e : ℕ × KeptLetter) (es : Arrived) (b : Bool) → AllAfter e.0 (keys_of es)
    → IsStrictlySortedBy place_order (places_of q es)
    → IsStrictlySortedBy place_order (cond b (place_by q e.0 ∷ places_of q es) (places_of q es))
sorted-by q e es true after up = sorted-cons (place_by q e.0) (places_of q es) (behind q e.0 es after) up
sorted-by q e es false after up = up

sorted-places : (q : Key) (es : Arrived) → IsStrictlySortedBy nat_cmp (keys_of es)
    → IsStrictlySortedBy place_order (places_of q es)
sorted-places q [] up = sorted-none
sorted-places q (e ∷ es) up =
    sorted-by q e es (is_found q (Some e.1)) (sorted_head nat_cmp e.0 (keys_of es) up)
    (sorted-places q es (sorted_tail nat_cmp e.0 (keys_of es) up))

-- a place is one of them if its key is this and finds what came then
none-after : (a b : ℕ) (es : Arrived) → is_eq (nat_cmp a b) ≡ true → AllAfter b (keys_of es) → came a es ≡ None
none-after a b [] same after = refl
none-after a b (e ∷ es) same after =
    let apart : is_eq (nat_cmp a e.0) ≡ false = apart-of a b e.0 (same_number a b same) after.0 in
    ap (λ (c : Bool). cond c (Some e.1) (came a es)) apart ∙ none-after a b es same after.1
  where
    apart-of : (a b c : ℕ) → a ≡ b → nat_cmp b c ≡ Less → is_eq (nat_cmp a c) ≡ false
    apart-of a b c same less = grind (arith, nat_tests)

has-by : (q : Key) (a : ℕ) (e : ℕ × KeptLetter) (es : Arrived) (f s : Bool) → is_found q (Some e.1) ≡ f
    → is_eq (nat_cmp a e.0) ≡ s → (s ≡ true → came a es ≡ None)
    → has_place (place_by q a) (places_of q es) ≡ is_found q (came a es)
    → has_place (place_by q a) (cond f (place_by q e.0 ∷ places_of q es) (places_of q es))
    ≡ is_found q (cond s (Some e.1) (came a es))
has-by q a e es true true found same none rest =
    ap (λ (r : Ordering). is_eq r || has_place (place_by q a) (places_of q es)) (same-key q a e.0)
    ∙ ap (λ (b : Bool). b || has_place (place_by q a) (places_of q es)) same ∙ sym found
has-by q a e es true false found same none rest =
    ap (λ (r : Ordering). is_eq r || has_place (place_by q a) (places_of q es)) (same-key q a e.0)
    ∙ ap (λ (b : Bool). b || has_place (place_by q a) (places_of q es)) same ∙ rest
has-by q a e es false true found same none rest =
    rest ∙ ap (λ (o : Option KeptLetter). is_found q o) (none refl) ∙ sym found
has-by q a e es false false found same none rest = rest

has-own : (q : Key) (a : ℕ) (es : Arrived) → IsStrictlySortedBy nat_cmp (keys_of es)
    → has_place (place_by q a) (places_of q es) ≡ is_found q (came a es)
has-own q a [] up = refl
has-own q a (e ∷ es) up =
    has-by q a e es (is_found q (Some e.1)) (is_eq (nat_cmp a e.0)) refl refl
    (λ same. none-after a e.0 es same (sorted_head nat_cmp e.0 (keys_of es) up))
    (has-own q a es (sorted_tail nat_cmp e.0 (keys_of es) up))

other-by : (p : KeptPlace) (q : Key) (b : ℕ) (ps : List KeptPlace) (f : Bool) → is_eq (key_order p.key q) ≡ false
    → has_place p ps ≡ false → has_place p (cond f (place_by q b ∷ ps) ps) ≡ false
other-by p q b ps true apart rest =
    ap (λ (t : Bool). t || has_place p ps)
    (is_eq-place p (place_by q b) ∙ ap (λ (t : Bool). t && is_eq (nat_cmp p.arrival b)) apart)
    ∙ rest
other-by p q b ps false apart rest = rest

has-other : (p : KeptPlace) (q : Key) (es : Arrived) → is_eq (key_order p.key q) ≡ false
    → has_place p (places_of q es) ≡ false
has-other p q [] apart = refl
has-other p q (e ∷ es) apart =
    other-by p q e.0 (places_of q es) (is_found q (Some e.1)) apart (has-other p q es apart)

-- the place has this key and came before the next
abbrev in_part : Key → ℕ → KeptPlace → Bool
in_part q next p = range_contains place_order (Included (place_by q 0)) (Excluded (place_by q next)) p

-- the part of a set of places with one key, of all that came before the next
abbrev pub part_of : Key → ℕ → List KeptPlace → List KeptPlace
part_of q next ps = filter (in_part q next) ps

in-range : (r : Ordering) (a next : ℕ) → a < next
    → (is_le (ordering_then r (nat_cmp 0 a)) && not (is_le (ordering_then r (nat_cmp next a)))) ≡ is_eq r
in-range Less a next less = refl
in-range Equal a next less = grind (arith, nat_tests)
in-range Greater a next less = refl

part-by : (q : Key) (next : ℕ) (p : KeptPlace) (o : Option KeptLetter) → (IsSome o → p.arrival < next)
    → (in_part q next p && is_found p.key o) ≡ (is_eq (key_order q p.key) && is_found p.key o)
part-by q next p None before = both-none (in_part q next p) (is_eq (key_order q p.key))
  where
    both-none : (a b : Bool) → (a && false) ≡ (b && false)
    both-none true true = refl
    both-none true false = refl
    both-none false true = refl
    both-none false false = refl
part-by q next p (Some x) before =
    ap (λ (b : Bool). b && is_found p.key (Some x)) (in-range (key_order q p.key) p.arrival next (before refl))

turned : (p q : Key) → is_eq (key_order q p) ≡ is_eq (key_order p q)
turned p q = turned-by p q (is_eq (key_order q p)) (is_eq (key_order p q)) refl refl
  where
    turned-by : (p q : Key) (a b : Bool) → is_eq (key_order q p) ≡ a → is_eq (key_order p q) ≡ b → a ≡ b
    turned-by p q true b e f =
        let same = same_key q p e in
        sym (ap is_eq (key_itself q)) ∙ ap (λ (k : Key). is_eq (key_order k q)) same ∙ f
    turned-by p q false true e f =
        let same = same_key p q f in
        sym e ∙ ap (λ (k : Key). is_eq (key_order k p)) (sym same) ∙ ap is_eq (key_itself p)
    turned-by p q false false e f = refl

own-by : (p : KeptPlace) (q : Key) (es : Arrived) (b : Bool) → IsStrictlySortedBy nat_cmp (keys_of es)
    → is_eq (key_order p.key q) ≡ b
    → has_place p (places_of q es) ≡ (b && is_found p.key (came p.arrival es))
own-by p q es true up same =
    let keys = same_key p.key q same in
    subst (λ (q : Key). has_place p (places_of q es) ≡ is_found p.key (came p.arrival es)) keys
    (has-own p.key p.arrival es up)
own-by p q es false up apart = has-other p q es apart

part-has : (q : Key) (next : ℕ) (es : Arrived) (ps : List KeptPlace) → ArePlaced next es ps → (p : KeptPlace)
    → has_place p (part_of q next ps) ≡ has_place p (places_of q es)
part-has q next es ps kept p =
    any-filter_same (λ r. is_eq (place_order p r)) (in_part q next) (in_part q next p)
    (λ r same. ap (in_part q next) (sym (same_place p r same))) ps
    ∙ ap (λ (b : Bool). in_part q next p && b) (kept.found p)
    ∙ part-by q next p (came p.arrival es) (kept.before p.arrival)
    ∙ ap (λ (b : Bool). b && is_found p.key (came p.arrival es)) (turned p.key q)
    ∙ sym (own-by p q es (is_eq (key_order p.key q)) kept.ascending refl)

pub part_is : (q : Key) (next : ℕ) (es : Arrived) (ps : List KeptPlace) → ArePlaced next es ps
    → part_of q next ps ≡ places_of q es
part_is q next es ps kept =
    btree_set_from_contains place_total (record { keys = part_of q next ps }) (record { keys = places_of q es })
    (IsStrictlySortedBy-filter place_order (in_part q next) ps kept.in_order) (sorted-places q es kept.ascending)
    (part-has q next es ps kept) place_exact

abbrev nothing : Option KeptLetter
nothing = None

not-none : IsSome nothing → ⊥
not-none some = let no : false ≡ true = some in cc

-- each message is what came then
pub each_came : (es all : Arrived) → IsStrictlySortedBy nat_cmp (keys_of es)
    → ((a : ℕ) → IsSome (came a es) → came a all ≡ came a es)
    → AllByRecursion (λ e. came e.0 all ≡ Some e.1) es
each_came [] all up here = tt
each_came (e ∷ es) all up here =
    let first : came e.0 (e ∷ es) ≡ Some e.1 =
    ap (λ (r : Ordering). cond (is_eq r) (Some e.1) (came e.0 es)) (number_itself e.0) in
    let some : IsSome (came e.0 (e ∷ es)) = rw first refl in (
      here e.0 some ∙ first,
      each_came es all (sorted_tail nat_cmp e.0 (keys_of es) up)
          (λ a there. later e es all (sorted_head nat_cmp e.0 (keys_of es) up) here a
          (is_eq (nat_cmp a e.0)) refl there),
    )
  where
    later : (e : ℕ × KeptLetter) (es all : Arrived) → AllAfter e.0 (keys_of es)
        → ((a : ℕ) → IsSome (came a (e ∷ es)) → came a all ≡ came a (e ∷ es))
        → (a : ℕ) (b : Bool) → is_eq (nat_cmp a e.0) ≡ b → IsSome (came a es) → came a all ≡ came a es
    later e es all after here a true same there =
        let gone = none-after a e.0 es same after in
        absurd (subst (λ (o : Option KeptLetter). IsSome o → ⊥) (sym gone) not-none there)
    later e es all after here a false apart there =
        let is : came a (e ∷ es) ≡ came a es = ap (λ (b : Bool). cond b (Some e.1) (came a es)) apart in
        let some : IsSome (came a (e ∷ es)) = rw is there in
        here a some ∙ is
