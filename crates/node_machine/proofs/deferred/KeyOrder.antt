-- Keys and places are ordered, and only a place itself is equal to it.
use Rattle.std.proofs.Common.{◌≡◌, ℕ, true, ◌&&◌, refl}
use Rattle.std.specs.declared.cmp.Ordering.TheVariants.{Less, Equal, Greater}
use Rattle.std.specs.Cmp.{IsTotalOrder}
use Rattle.std.specs.Ordering.{nat_cmp, is_eq}
use Rattle.std.proofs.lemmas.Cmp.{nat_cmp_total, tied_itself}
use Rattle.std.proofs.lemmas.Map.Lookups.{CmpEqualImpliesEq, exact_unsigned}
use Rattle.tv_base.proofs.Orderings.{is_eq-then, is_eq-true, then_first, then_second}
use Rattle.node_machine.specs.declared.places.Key.{Key}
use Rattle.node_machine.specs.declared.places.Key.TheVariants.{Sub, Show, Holder}
use Rattle.node_machine.specs.declared.places.KeptPlace.{KeptPlace}
use Rattle.node_machine.specs.contracts.places.KeyOrd.TheImpl.Laws as key
use Rattle.node_machine.specs.contracts.places.KeptPlaceOrd.TheImpl.Laws as place
use Rattle.node_machine.specs.inside.Places.{key_order, place_order}

pub key_total : IsTotalOrder key_order
key_total = key.total-law

pub place_total : IsTotalOrder place_order
place_total = place.total-law

pub key_exact : CmpEqualImpliesEq key_order
key_exact (Sub t k) (Sub u l) e =
    let first = exact_unsigned t.0 u.0 (then_first (nat_cmp t.0 u.0) (nat_cmp k.0 l.0) e) in
    let second = exact_unsigned k.0 l.0 (then_second (nat_cmp t.0 u.0) (nat_cmp k.0 l.0) e) in
    λ i. Sub (record { 0 = first i }) (record { 0 = second i })
key_exact (Sub t k) Show e = let no : Less ≡ Equal = e in cc
key_exact (Sub t k) (Holder u) e = let no : Less ≡ Equal = e in cc
key_exact Show (Sub t k) e = let no : Greater ≡ Equal = e in cc
key_exact Show Show e = refl
key_exact Show (Holder t) e = let no : Less ≡ Equal = e in cc
key_exact (Holder t) (Sub u k) e = let no : Greater ≡ Equal = e in cc
key_exact (Holder t) Show e = let no : Greater ≡ Equal = e in cc
key_exact (Holder t) (Holder u) e = let same = exact_unsigned t.0 u.0 e in λ i. Holder (record { 0 = same i })

pub place_exact : CmpEqualImpliesEq place_order
place_exact a b e =
    let keys = key_exact a.key b.key (then_first (key_order a.key b.key) (nat_cmp a.arrival b.arrival) e) in
    let arrivals =
    exact_unsigned a.arrival b.arrival (then_second (key_order a.key b.key) (nat_cmp a.arrival b.arrival) e) in
    λ i. record { key = keys i; arrival = arrivals i }

pub same_number : (a b : ℕ) → is_eq (nat_cmp a b) ≡ true → a ≡ b
same_number a b e = exact_unsigned a b (is_eq-true (nat_cmp a b) e)

pub same_key : (a b : Key) → is_eq (key_order a b) ≡ true → a ≡ b
same_key a b e = key_exact a b (is_eq-true (key_order a b) e)

pub same_place : (a b : KeptPlace) → is_eq (place_order a b) ≡ true → a ≡ b
same_place a b e = place_exact a b (is_eq-true (place_order a b) e)

pub number_itself : (a : ℕ) → nat_cmp a a ≡ Equal
number_itself a = tied_itself nat_cmp_total a

pub key_itself : (a : Key) → key_order a a ≡ Equal
key_itself a = tied_itself key_total a

pub is_eq-place : (a b : KeptPlace)
    → is_eq (place_order a b) ≡ (is_eq (key_order a.key b.key) && is_eq (nat_cmp a.arrival b.arrival))
is_eq-place a b = is_eq-then (key_order a.key b.key) (nat_cmp a.arrival b.arrival)
