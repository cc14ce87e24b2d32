-- Letters found by their ids among those that were sent, and which ids entries took.
use Rattle.std.proofs.Common.{◌≡◌, ◌≢◌, ℕ, zero, suc, ◌+◌, ◌&&◌, ◌||◌, Bool, true, false, List, [], ◌∷◌, ◌++◌, refl, sym, ap, ◌∙◌, arith, eqb, ne_eqb, Some}
use Rattle.std.specs.Prelude.{if◌then◌else◌, slice_get}
use Rattle.std.specs.Option.{option_map}
use Rattle.std.proofs.Math.Bool.{and-false}
use Rattle.letter_types.specs.declared.entries.Entry.{Entry}
use Rattle.letter_types.specs.declared.entries.Letter.{Letter}
use Rattle.letter_types.specs.declared.entries.LetterId.{LetterId}
use Rattle.letter_types.specs.declared.entries.Outgoing.{Outgoing}
use Rattle.letter_types.specs.Letters.{find_id, same_id, sealed}
use Rattle.letter_types.proofs.Ids.{same_id-self, id_is}
use Rattle.history_reader.specs.Walks.{id_at, was_taken}

-- ids that differ in a part
pub other_stamp : (id : LetterId) (stamp place : ℕ) → id.stamp.0 ≢ stamp → same_id id (id_at stamp place) ≡ false
other_stamp id stamp place ne = ap (λ b. b && eqb id.place place) (ne_eqb id.stamp.0 stamp ne)

pub other_place : (id : LetterId) (stamp place : ℕ) → id.place ≢ place → same_id id (id_at stamp place) ≡ false
other_place id stamp place ne = ap (λ b. eqb id.stamp.0 stamp && b) (ne_eqb id.place place ne) ∙ and-false (eqb id.stamp.0 stamp)

-- the letter that an actor sends at a stamp and a place
abbrev pub sent_as : ℕ → ℕ → ℕ → Outgoing → Letter
sent_as stamp actor place o = record { id = id_at stamp place; from = record { 0 = actor }; to = o.to; body = o.body }

-- what is found of the ids of one stamp is what was sent at their place
pub find_place : (stamp actor first d place : ℕ) (os : List Outgoing) → place ≡ first + d
    → find_id (id_at stamp place) (sealed stamp actor first os) ≡ option_map (sent_as stamp actor place) (slice_get os d)
find_place stamp actor first d place [] at = refl
find_place stamp actor first zero place (o ∷ os) at =
    let here : place ≡ first = omega (arith, at) in
    let found : find_id (id_at stamp first) (sealed stamp actor first (o ∷ os)) ≡ Some (sent_as stamp actor first o) =
    ap (λ (b : Bool). if b then Some (sent_as stamp actor first o) else find_id (id_at stamp first) (sealed stamp actor (first + 1) os))
    (same_id-self (id_at stamp first)) in
    ap (λ (p : ℕ). find_id (id_at stamp p) (sealed stamp actor first (o ∷ os))) here ∙ found
    ∙ ap (λ (p : ℕ). Some (sent_as stamp actor p o)) (sym here)
find_place stamp actor first (suc d) place (o ∷ os) at =
    let ne : place ≢ first = λ is. omega (arith, at, is) in
    ap (λ (b : Bool). if b then Some (sent_as stamp actor first o) else find_id (id_at stamp place) (sealed stamp actor (first + 1) os))
    (other_place (id_at stamp place) stamp first ne)
    ∙ find_place stamp actor (first + 1) d place os (omega (arith, at))

pub find_sent : (stamp actor place : ℕ) (os : List Outgoing)
    → find_id (id_at stamp place) (sealed stamp actor 0 os) ≡ option_map (sent_as stamp actor place) (slice_get os place)
find_sent stamp actor place os = find_place stamp actor 0 place place os (omega arith)

-- an id is taken, or no entry took it
pub never_taken : (id : LetterId) (h : List Entry) → ((k : ℕ) (e : Entry) → slice_get h k ≡ Some e → e.took.id ≢ id)
    → was_taken id h ≡ false
never_taken id [] none = refl
never_taken id (e ∷ h) none =
    by (same_id e.took.id id) (was_taken id h) (λ is. none 0 e refl (id_is e.took.id id is))
    (never_taken id h (λ k d at. none (suc k) d at))
  where
    by : (a b : Bool) → (a ≡ true → ⊥) → b ≡ false → (a || b) ≡ false
    by true b first rest = absurd (first refl)
    by false b first rest = rest

pub taken_never : (id : LetterId) (h : List Entry) (k : ℕ) (e : Entry) → was_taken id h ≡ false → slice_get h k ≡ Some e
    → e.took.id ≢ id
taken_never id [] k e none at is = absurd (cc at)
taken_never id (d ∷ h) zero e none at is =
    let one : d ≡ e = cc at in
    let same : same_id d.took.id id ≡ true =
    ap (λ (x : Entry). same_id x.took.id id) one ∙ ap (λ (i : LetterId). same_id i id) is ∙ same_id-self id in
    by (same_id d.took.id id) (was_taken id h) same none
  where
    by : (a b : Bool) → a ≡ true → (a || b) ≡ false → ⊥
    by true b is none = absurd (cc none)
    by false b is none = absurd (cc is)
taken_never id (d ∷ h) (suc k) e none at is = taken_never id h k e (by (same_id d.took.id id) (was_taken id h) none) at is
  where
    by : (a b : Bool) → (a || b) ≡ false → b ≡ false
    by true b none = absurd (cc none)
    by false b none = none

-- with one entry more
pub taken_more : (id : LetterId) (h : List Entry) (e : Entry)
    → was_taken id (h ++ e ∷ []) ≡ (was_taken id h || same_id e.took.id id)
taken_more id [] e = by (same_id e.took.id id)
  where
    by : (b : Bool) → (b || false) ≡ b
    by true = refl
    by false = refl
taken_more id (d ∷ h) e =
    ap (λ (b : Bool). same_id d.took.id id || b) (taken_more id h e)
    ∙ by (same_id d.took.id id) (was_taken id h) (same_id e.took.id id)
  where
    by : (a b c : Bool) → (a || (b || c)) ≡ ((a || b) || c)
    by true b c = refl
    by false b c = refl

pub taken_last : (h : List Entry) (e : Entry) → was_taken e.took.id (h ++ e ∷ []) ≡ true
taken_last h e = taken_more e.took.id h e ∙ by (was_taken e.took.id h) (same_id e.took.id e.took.id) (same_id-self e.took.id)
  where
    by : (a b : Bool) → b ≡ true → (a || b) ≡ true
    by true b is = refl
    by false b is = is

pub taken_others : (h : List Entry) (e : Entry) (id : LetterId) → same_id e.took.id id ≡ false
    → was_taken id (h ++ e ∷ []) ≡ was_taken id h
taken_others h e id ne = taken_more id h e ∙ by (was_taken id h) (same_id e.took.id id) ne
  where
    by : (a b : Bool) → b ≡ false → (a || b) ≡ a
    by true b is = refl
    by false b is = is
