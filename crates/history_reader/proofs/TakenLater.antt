-- What an entry sent may be added before its letter is taken: the letter is the same, and so is what is left.
use Rattle.std.proofs.Common.{◌≡◌, ◌==◌, ◌+◌, ◌-◌, ℕ, zero, suc, Bool, true, false, List, [], ◌∷◌, ◌++◌, length, refl, sym, ap, ◌∙◌, Option, Some, None}
use Rattle.std.specs.Prelude.{if◌then◌else◌, is_some, slice_get, IsNone}
use Rattle.tv_base.specs.declared.numbers.ActorNo.{ActorNo}
use Rattle.tv_base.proofs.ByPlace.{slice_get_left}
use Rattle.letter_types.specs.declared.entries.Entry.{Entry}
use Rattle.letter_types.specs.declared.entries.Letter.{Letter}
use Rattle.letter_types.specs.declared.entries.LetterId.{LetterId}
use Rattle.letter_types.specs.declared.entries.Outgoing.{Outgoing}
use Rattle.history_reader.specs.declared.in_flight.Sender.{Sender}
use Rattle.history_reader.specs.Walks.{LettersLeft}
use Rattle.history_reader.specs.inside.Finding.{addressed, addressee_of, addressee_to, go_left, is_spent, left_without, left_without_if, letter_at, letter_by, letter_for, letter_of, sender_of, spent_by, with_sent}

-- to whom what is left at a place is addressed
pub to_at : (id : LetterId) (from : ActorNo) (at : Option Outgoing) → addressee_of at ≡ addressee_to (letter_at id from at)
to_at id from None = refl
to_at id from (Some o) = by (is_spent o.body)
  where
    by : (b : Bool) → (if b then None else Some o.to) ≡ addressee_to (if b then None else Some (record { id = id; from = from; to = o.to; body = o.body }))
    by true = refl
    by false = refl

-- whether a letter is one for this actor
pub some_addressed : (actor to : ActorNo) (at : Option Letter) → Some to ≡ addressee_to at → (to.0 == actor.0) ≡ is_some (addressed actor at)
some_addressed actor to None is = absurd (cc is)
some_addressed actor to (Some l) is =
    let same : to ≡ l.to = cc is in
    ap (λ (a : ActorNo). a.0 == actor.0) same ∙ by (l.to.0 == actor.0)
  where
    by : (b : Bool) → b ≡ is_some (if b then Some l else None)
    by true = refl
    by false = refl

pub none_addressed : (actor : ActorNo) (at : Option Letter) → None ≡ addressee_to at → false ≡ is_some (addressed actor at)
none_addressed actor None is = refl
none_addressed actor (Some l) is = absurd (cc is)

-- an entry for which a letter is found
record IsForOne (b : Bool) (actor : ActorNo) (at : Option Letter) : Type 0 where
  letter : Letter
  found : at ≡ Some letter
  same : at ≡ (if b then addressed actor at else None)

is_for_one : (b : Bool) (actor : ActorNo) (at : Option Letter) → is_some (if b then addressed actor at else None) ≡ true → IsForOne b actor at
is_for_one false actor at is = absurd (cc is)
is_for_one true actor None is = absurd (cc is)
is_for_one true actor (Some l) is = record { letter = l; found = refl; same = by (l.to.0 == actor.0) is }
  where
    by : (c : Bool) → is_some (if c then Some l else None) ≡ true → Some l ≡ (if c then Some l else None)
    by true is = refl
    by false is = absurd (cc is)

sender_there : (id : LetterId) (at : Option Sender) (l : Letter) → letter_by id at ≡ Some l → (sender : Sender) × (at ≡ Some sender)
sender_there id None l is = absurd (cc is)
sender_there id (Some sender) l is = (sender, refl)

spent_before : (k place : ℕ) (senders : List Sender) (x sender : Sender) → slice_get senders k ≡ Some sender
    → spent_by k place (senders ++ x ∷ []) ≡ spent_by k place senders ++ x ∷ []
spent_before k place [] x sender at = absurd (cc at)
spent_before zero place (d ∷ senders) x sender at = refl
spent_before (suc k) place (d ∷ senders) x sender at = ap (λ (xs : List Sender). d ∷ xs) (spent_before k place senders x sender at)

module _ (client : ℕ) (letters : LettersLeft) (e : Entry) (is : is_some (letter_for client letters e) ≡ true) where
  one : IsForOne (e.stamp.0 == length letters.senders + 1) e.actor (letter_of client letters e.took.id)
  one = is_for_one (e.stamp.0 == length letters.senders + 1) e.actor (letter_of client letters e.took.id) is

  abbrev number : ℕ
  number = e.took.id.stamp.0 - 1

  still : (b : Bool) → (if b then go_left client letters.begun e.took.id.place else letter_by e.took.id (slice_get letters.senders number)) ≡ Some one.letter
      → (if b then go_left client letters.begun e.took.id.place else letter_by e.took.id (slice_get (letters.senders ++ sender_of e ∷ []) number)) ≡ Some one.letter
  still true at = at
  still false at =
      let (sender, there) = sender_there e.took.id (slice_get letters.senders number) one.letter at in
      ap (letter_by e.took.id) (slice_get_left letters.senders (sender_of e ∷ []) number sender there ∙ sym there) ∙ at

  -- by the letters with what the entry sent
  pub found_later : letter_of client (with_sent e letters) e.took.id ≡ letter_for client letters e
  found_later = still (e.took.id.stamp.0 == 0) one.found ∙ sym one.found ∙ one.same

  left : (b : Bool) → (if b then go_left client letters.begun e.took.id.place else letter_by e.took.id (slice_get letters.senders number)) ≡ Some one.letter
      → left_without_if b e.took.id (with_sent e letters) ≡ with_sent e (left_without_if b e.took.id letters)
  left true at = refl
  left false at =
      let (sender, there) = sender_there e.took.id (slice_get letters.senders number) one.letter at in
      ap (λ (xs : List Sender). let l : LettersLeft = record { begun = letters.begun; senders = xs } in l)
      (spent_before number e.took.id.place letters.senders (sender_of e) sender there)

  pub left_later : left_without e.took.id (with_sent e letters) ≡ with_sent e (left_without e.took.id letters)
  left_later = left (e.took.id.stamp.0 == 0) one.found

pub goes_none : (at : Option Letter) → is_some at ≡ false → None ≡ at
goes_none None is = refl
goes_none (Some l) is = absurd (cc is)

pub goes_some : (at letter : Option Letter) (old new : LettersLeft) → is_some at ≡ true → letter ≡ at → IsNone letter → new ≡ old
goes_some None letter old new is same none = absurd (cc is)
goes_some (Some l) None old new is same none = absurd (cc same)
goes_some (Some l) (Some m) old new is same none = absurd (cc none)

-- the letter that is taken, and what is left, where what the entry sent was added first
module _ (client : ℕ) (old added : LettersLeft) (e : Entry) (is : is_some (letter_for client old e) ≡ true) (begun : added.begun ≡ old.begun)
    (senders : added.senders ≡ old.senders ++ record { from = e.actor; sent = e.sent } ∷ []) where
  same : added ≡ with_sent e old
  same = λ i. record { begun = begun i; senders = senders i }

  pub goes_letter : (letter : Option Letter) → letter ≡ letter_of client added e.took.id → letter ≡ letter_for client old e
  goes_letter letter found = found ∙ ap (λ (x : LettersLeft). letter_of client x e.took.id) same ∙ found_later client old e is

  pub goes_left : (new : LettersLeft) → new ≡ left_without e.took.id added → new ≡ with_sent e (left_without e.took.id old)
  goes_left new left = left ∙ ap (left_without e.took.id) same ∙ left_later client old e is
