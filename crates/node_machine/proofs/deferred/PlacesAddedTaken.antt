-- The places of a message come and go.
use Rattle.std.proofs.Common.{◌≡◌, ℕ, Bool, true, false, not, ◌&&◌, ◌||◌, List, refl, ap, subst, sym, ◌∙◌, cond, Option, Some}
use Rattle.std.specs.Ordering.{is_eq, nat_cmp}
use Rattle.tv_base.specs.declared.numbers.SubNo.{SubNo}
use Rattle.tv_base.specs.declared.numbers.TreeNo.{TreeNo}
use Rattle.letter_types.specs.declared.kept.KeepReason.{KeepReason}
use Rattle.node_machine.specs.declared.places.Key.{Key}
use Rattle.node_machine.specs.declared.places.Key.TheVariants.{Sub}
use Rattle.node_machine.specs.declared.places.KeptPlace.{KeptPlace}
use Rattle.node_machine.specs.inside.Places.{ArePlacesAdded, ArePlacesSame, ArePlacesTaken, IsFree, has_place, is_this, key_of_why, key_order, place_order, place_by}
use Rattle.node_machine.proofs.deferred.KeyOrder.{is_eq-place, same_number}

-- the place is or not, and every other as before
abbrev pub Place-set : KeptPlace → Bool → List KeptPlace → List KeptPlace → Type 0
Place-set a b old new = (q : KeptPlace) → has_place q new ≡ cond (is_eq (place_order a q)) b (has_place q old)

set-parts : (a : KeptPlace) (b : Bool) (old new : List KeptPlace) → Place-set a b old new → (q : KeptPlace)
    → has_place q new
    ≡ cond (is_eq (key_order a.key q.key) && is_eq (nat_cmp a.arrival q.arrival)) b (has_place q old)
set-parts a b old new at q = at q ∙ ap (λ (s : Bool). cond s b (has_place q old)) (is_eq-place a q)

add_two : (a b e h : Bool) → cond (b && e) true (cond (a && e) true h) ≡ (((a || b) && e) || h)
add_two true true true h = refl
add_two true true false h = refl
add_two true false true h = refl
add_two true false false h = refl
add_two false true true h = refl
add_two false true false h = refl
add_two false false true h = refl
add_two false false false h = refl

take_two : (a b e h : Bool) → cond (b && e) false (cond (a && e) false h) ≡ (not ((a || b) && e) && h)
take_two true true true h = refl
take_two true true false h = refl
take_two true false true h = refl
take_two true false false h = refl
take_two false true true h = refl
take_two false true false h = refl
take_two false false true h = refl
take_two false false false h = refl

undo_one : (a e h : Bool) → (e ≡ true → h ≡ false) → cond (a && e) false (cond (a && e) true h) ≡ h
undo_one true true h free = sym (free refl)
undo_one true false h free = refl
undo_one false true h free = refl
undo_one false false h free = refl

-- a message that waits for more than its Wake has two places
pub added_two : (a : ℕ) (t : TreeNo) (k : SubNo) (why : KeepReason) (q : Key) (old mid new : List KeptPlace)
    → key_of_why why ≡ Some q → Place-set (place_by (Sub t k) a) true old mid → Place-set (place_by q a) true mid new
    → ArePlacesAdded a t k why old new
added_two a t k why q old mid new some set set' = record {
  at = λ p.
      let first = is_eq (key_order (Sub t k) p.key) in
      let second = is_eq (key_order q p.key) in
      let then = is_eq (nat_cmp a p.arrival) in
      set-parts (place_by q a) true mid new set' p
      ∙ ap (λ (b : Bool). cond (second && then) true b) (set-parts (place_by (Sub t k) a) true old mid set p)
      ∙ add_two first second then (has_place p old)
      ∙ ap (λ (o : Option Key). ((first || is_this o p.key) && then) || has_place p old) (sym some);
}

pub taken_two : (a : ℕ) (t : TreeNo) (k : SubNo) (why : KeepReason) (q : Key) (old mid new : List KeptPlace)
    → key_of_why why ≡ Some q → Place-set (place_by (Sub t k) a) false old mid → Place-set (place_by q a) false mid new
    → ArePlacesTaken a t k why old new
taken_two a t k why q old mid new some set set' = record {
  at = λ p.
      let first = is_eq (key_order (Sub t k) p.key) in
      let second = is_eq (key_order q p.key) in
      let then = is_eq (nat_cmp a p.arrival) in
      set-parts (place_by q a) false mid new set' p
      ∙ ap (λ (b : Bool). cond (second && then) false b) (set-parts (place_by (Sub t k) a) false old mid set p)
      ∙ take_two first second then (has_place p old)
      ∙ ap (λ (o : Option Key). not ((first || is_this o p.key) && then) && has_place p old) (sym some);
}

-- what was added alone is taken back
pub added_back : (a : ℕ) (t : TreeNo) (k : SubNo) (old mid last new : List KeptPlace) → IsFree a old
    → Place-set (place_by (Sub t k) a) true old mid → last ≡ mid → Place-set (place_by (Sub t k) a) false last new
    → ArePlacesSame old new
added_back a t k old mid last new free set stays set' =
    let P : List KeptPlace → Type 0 = λ ps. Place-set (place_by (Sub t k) a) false ps new in
    let undone = subst P stays set' in
    record {
      at = λ p.
          let first = is_eq (key_order (Sub t k) p.key) in
          let then = is_eq (nat_cmp a p.arrival) in
          set-parts (place_by (Sub t k) a) false mid new undone p
          ∙ ap (λ (b : Bool). cond (first && then) false b) (set-parts (place_by (Sub t k) a) true old mid set p)
          ∙ undo_one first then (has_place p old)
          (λ now. ap (λ (n : ℕ). has_place (place_by p.key n) old) (sym (same_number a p.arrival now)) ∙ free p.key);
    }
