-- Ids of messages: one is the same as itself alone, and has the stamp of the posting that sent its message.
use Rattle.std.proofs.Common.{◌≡◌, ◌==◌, true, Bool, List, None, Some, [], ap, arith, cond, false, refl, ℕ, ◌+◌, ◌∙◌, ◌∷◌, ◌≢◌}
use Rattle.std.proofs.lemmas.Bool.{and_from}
use Rattle.std.proofs.lemmas.Bool.Decides.{nat_tests}
use Rattle.tv_base.proofs.Truths.{same_test}
use Rattle.letter_types.specs.Letters.{same_id, find_id, sealed}
use Rattle.letter_types.specs.declared.entries.LetterId.{LetterId}
use Rattle.letter_types.specs.declared.entries.Letter.{Letter}
use Rattle.letter_types.specs.declared.entries.Outgoing.{Outgoing}
use Rattle.letter_types.specs.declared.bodies.Body.TheVariants.{Wake}
use Rattle.letter_types.specs.declared.kept.KeptLetter.{KeptLetter}
use Rattle.letter_types.specs.declared.kept.KeepReason.{KeepReason}
use Rattle.letter_types.specs.Kept.{wakes}
use Rattle.letter_types.specs.declared.entries.Posting.{Posting}
use Rattle.letter_types.specs.Postal.{letters_sent}

pub same_id-self : (i : LetterId) → same_id i i ≡ true
same_id-self i = and_from (i.stamp.0 == i.stamp.0) (i.place == i.place) (same_test i.stamp.0) (same_test i.place)

-- ids that are the same are equal
pub id_is : (i j : LetterId) → same_id i j ≡ true → i ≡ j
id_is i j is =
    let a : i.stamp.0 ≡ j.stamp.0 = grind (arith, nat_tests) in
    let b : i.place ≡ j.place = grind (arith, nat_tests) in
    ap (λ (n : ℕ). record { stamp = record { 0 = n }; place = i.place }) a ∙ ap (λ (n : ℕ). record { stamp = j.stamp; place = n }) b

pub none_woken : (test : KeepReason → Bool) (xs : List KeptLetter) → ((why : KeepReason) → test why ≡ false) → wakes test xs ≡ []
none_woken test [] none = refl
none_woken test (x ∷ xs) none =
    ap (λ (b : Bool). cond b (record { to = x.letter.to; body = Wake x.tree x.sub } ∷ wakes test xs) (wakes test xs))
    (none x.why)
    ∙ none_woken test xs none

pub none_sealed : (id : LetterId) (stamp actor place : ℕ) (os : List Outgoing) → id.stamp.0 ≢ stamp
    → find_id id (sealed stamp actor place os) ≡ None
none_sealed id stamp actor place [] ne = refl
none_sealed id stamp actor place (o ∷ os) ne =
    let no : same_id id (record { stamp = record { 0 = stamp }; place = place }) ≡ false = grind (arith, nat_tests) in
    rw no (none_sealed id stamp actor (place + 1) os ne)

pub sealed_stamp_at : (id : LetterId) (stamp actor place : ℕ) (os : List Outgoing) (l : Letter)
    → find_id id (sealed stamp actor place os) ≡ Some l
    → (b : Bool) → (id.stamp.0 == stamp) ≡ b → id.stamp.0 ≡ stamp
sealed_stamp_at id stamp actor place os l at true is = grind (arith, nat_tests)
sealed_stamp_at id stamp actor place os l at false is =
    let none : find_id id (sealed stamp actor place os) ≡ None = none_sealed id stamp actor place os (grind (arith, nat_tests)) in
    absurd (grind arith)

pub sealed_stamp : (id : LetterId) (stamp actor place : ℕ) (os : List Outgoing) (l : Letter)
    → find_id id (sealed stamp actor place os) ≡ Some l → id.stamp.0 ≡ stamp
sealed_stamp id stamp actor place os l at = sealed_stamp_at id stamp actor place os l at (id.stamp.0 == stamp) refl

-- the stamp of a letter's id is that of the posting that sent it
pub id_stamp : (p : Posting) (l : Letter) → find_id l.id (letters_sent p) ≡ Some l → l.id.stamp.0 ≡ p.stamp.0
id_stamp p l is = sealed_stamp l.id p.stamp.0 p.actor.0 0 p.sent l is
