-- The entry that comes next, by the letter that is found for it.
use Rattle.std.proofs.Common.{◌≡◌, ◌≢◌, inl, inr, ◌==◌, ℕ, ◌+◌, ◌<◌, ◌≤◌, Bool, true, false, List, [], ◌∷◌, ◌++◌, length, refl, sym, ap, ◌∙◌, subst, arith, Option, Some, None}
use Rattle.std.specs.Prelude.{if◌then◌else◌, map, slice_get}
use Rattle.std.specs.List.{AllByRecursion}
use Rattle.std.proofs.lemmas.Bool.Decides.{nat_tests}
use Rattle.std.proofs.lemmas.List.{length-append, length-map, map-append}
use Rattle.std.proofs.lemmas.Option.{slice_get_within}
use Rattle.tv_base.specs.declared.numbers.ActorNo.{ActorNo}
use Rattle.tv_base.specs.declared.numbers.Stamp.{Stamp}
use Rattle.tv_base.proofs.ByPlace.{slice_get_last, slice_get_left}
use Rattle.tv_base.proofs.Truths.{same_test}
use Rattle.letter_types.specs.declared.entries.Entry.{Entry}
use Rattle.letter_types.specs.declared.entries.Letter.{Letter}
use Rattle.letter_types.specs.declared.entries.LetterId.{LetterId}
use Rattle.letter_types.specs.declared.entries.Posting.{Posting}
use Rattle.letter_types.specs.Postal.{IsMessageRun, delivery_of}
use Rattle.letter_types.proofs.Ids.{id_stamp}
use Rattle.letter_types.proofs.Postings.{entry_at, posting_at}
use Rattle.tx_trees.specs.ScriptData.{ScriptData, client_of}
use Rattle.history_text.specs.Printable.{IsPrintable}
use Rattle.history_reader.specs.OneEntry.{TellTheSame}
use Rattle.history_reader.specs.Walks.{IsPostal, LettersLeft, id_at, letters_left, senders_from, was_taken}
use Rattle.history_reader.specs.inside.Finding.{addressed, entry_with, left_without, letter_for, letter_of}
use Rattle.history_reader.proofs.Ids.{never_taken, taken_never}
use Rattle.history_reader.proofs.Left.{begun_more, senders_count, senders_left}
use Rattle.history_reader.proofs.Postings.{CameFrom, came, postal_more, took_stamp}
use Rattle.history_reader.proofs.SentTaken.{IsFound, finds, found, found_id}

-- what a letter that is found for an entry says of the entry
record IsFor (b : Bool) (actor : ActorNo) (at : Option Letter) (l : Letter) : Type 0 where
  stamp : b ≡ true
  found : at ≡ Some l
  to : l.to.0 ≡ actor.0

is_for : (b : Bool) (actor : ActorNo) (at : Option Letter) (l : Letter) → (if b then addressed actor at else None) ≡ Some l
    → IsFor b actor at l
is_for false actor at l is = absurd (cc is)
is_for true actor None l is = absurd (cc is)
is_for true actor (Some x) l is = by (x.to.0 == actor.0) refl is
  where
    by : (c : Bool) → (x.to.0 == actor.0) ≡ c → (if c then Some x else None) ≡ Some l → IsFor true actor (Some x) l
    by false test is = absurd (cc is)
    by true test is =
        let own : x ≡ l = cc is in
        let to : x.to.0 ≡ actor.0 = grind (arith, nat_tests) in
        record { stamp = refl; found = is; to = ap (λ (y : Letter). y.to.0) (sym own) ∙ to }

pub found_for_id : (client : ℕ) (letters : LettersLeft) (e : Entry) (l : Letter) → letter_for client letters e ≡ Some l
    → l.id ≡ e.took.id
found_for_id client letters e l is =
    let own = is_for (e.stamp.0 == length letters.senders + 1) e.actor (letter_of client letters e.took.id) l is in
    found_id client letters e.took.id l own.found

postal_append : (s : ScriptData) (h : List Entry) (e : Entry) → IsMessageRun (client_of s) (map delivery_of h ++ delivery_of e ∷ [])
    → IsPostal s (h ++ e ∷ [])
postal_append s h e post = subst (IsMessageRun (client_of s)) (sym (map-append delivery_of h (e ∷ []))) post

pub append_postal : (s : ScriptData) (h : List Entry) (e : Entry) → IsPostal s (h ++ e ∷ [])
    → IsMessageRun (client_of s) (map delivery_of h ++ delivery_of e ∷ [])
append_postal s h e post = subst (IsMessageRun (client_of s)) (map-append delivery_of h (e ∷ [])) post

-- no letter was taken that the last entry sent
none_of_last : (s : ScriptData) (h : List Entry) (e : Entry) → IsPostal s (h ++ e ∷ []) → (place : ℕ)
    → was_taken (id_at (length h + 1) place) (h ++ e ∷ []) ≡ false
none_of_last s h e post place =
    never_taken (id_at (length h + 1) place) (h ++ e ∷ []) (λ k d at is.
    let stamp : d.took.id.stamp.0 ≡ length h + 1 = ap (λ (i : LetterId). i.stamp.0) is in
    let before : d.took.id.stamp.0 ≤ k =
    took_stamp (client_of s) (map delivery_of (h ++ e ∷ [])) k (delivery_of d) post (posting_at (h ++ e ∷ []) k d at) in
    let within : k < length (h ++ e ∷ []) = slice_get_within (h ++ e ∷ []) k d at in
    omega (arith, stamp, before, within, length-append h (e ∷ [])))

-- an id of stamp 0 is that of Go
go_place : (s : ScriptData) (h : List Entry) (e : Entry) → IsPostal s (h ++ e ∷ []) → e.took.id.stamp.0 ≡ 0
    → e.took.id.place ≡ 0
go_place s h e post zero_is = by (came (client_of s) (map delivery_of h) (delivery_of e) (append_postal s h e post))
  where
    by : CameFrom (client_of s) (map delivery_of h) e.took → e.took.id.place ≡ 0
    by (inl is) = ap (λ (x : Letter). x.id.place) is
    by (inr (j, f, at, stamp, sent)) = absurd (omega (arith, zero_is, stamp, id_stamp f e.took sent))

-- an entry for which a letter is found comes next with that letter
module _ (s : ScriptData) (h : List Entry) (postal : IsPostal s h) (e : Entry) (may : IsPrintable s e) (l : Letter)
    (is : letter_for (client_of s) (letters_left h) e ≡ Some l) where
  own : IsFor (e.stamp.0 == length (senders_from h 1 h) + 1) e.actor (letter_of (client_of s) (letters_left h) e.took.id) l
  own = is_for (e.stamp.0 == length (senders_from h 1 h) + 1) e.actor (letter_of (client_of s) (letters_left h) e.took.id) l is

  stamp_next : e.stamp.0 ≡ length h + 1
  stamp_next =
      let same : e.stamp.0 ≡ length (senders_from h 1 h) + 1 = grind (arith, nat_tests, own.stamp) in
      omega (arith, same, senders_count h 1 h)

  was_found : IsFound (client_of s) h e.took.id l
  was_found =
      found (client_of s) h e.took.id l (λ k d at. postal.stamps k (delivery_of d) (posting_at h k d at)) own.found

  first_taken : (k : ℕ) (p : Posting) → slice_get (map delivery_of h) k ≡ Some p → p.took.id ≢ l.id
  first_taken k p at same =
      let d = entry_at h k p at in
      taken_never e.took.id h k d.0 was_found.left d.1
      (ap (λ (x : Posting). x.took.id) d.2 ∙ same ∙ was_found.same)

  pub next_same : l.id ≡ e.took.id
  next_same = was_found.same

  pub next_postal : IsPostal s (h ++ entry_with e l ∷ [])
  next_postal =
      let stamped : e.stamp.0 ≡ length (map delivery_of h) + 1 = omega (arith, stamp_next, length-map h delivery_of) in
      let known : e.actor.0 < client_of s + 1 = omega (arith, may.actor) in
      postal_append s h (entry_with e l)
      (postal_more (client_of s) (map delivery_of h) (delivery_of (entry_with e l)) postal stamped was_found.came first_taken own.to known)

  pub next_begun : (letters_left (h ++ entry_with e l ∷ [])).begun ≡ (left_without e.took.id (letters_left h)).begun
  next_begun =
      begun_more h (entry_with e l) (λ zero_is. go_place s h (entry_with e l) next_postal zero_is)
      ∙ ap (λ (id : LetterId). (left_without id (letters_left h)).begun) next_same

  pub next_senders : (letters_left (h ++ entry_with e l ∷ [])).senders
      ≡ (left_without e.took.id (letters_left h)).senders ++ record { from = e.actor; sent = e.sent } ∷ []
  next_senders =
      senders_left h (entry_with e l) (none_of_last s h (entry_with e l) next_postal)
      ∙ ap (λ (id : LetterId). (left_without id (letters_left h)).senders ++ record { from = e.actor; sent = e.sent } ∷ []) next_same

-- for an entry that comes next its letter is found
module _ (s : ScriptData) (h : List Entry) (may : AllByRecursion (IsPrintable s) h) (e f : Entry) (alike : TellTheSame e f)
    (post : IsPostal s (h ++ f ∷ [])) where
  last_there : slice_get (h ++ f ∷ []) (length h) ≡ Some f
  last_there = slice_get_last h f

  last_posting : slice_get (map delivery_of (h ++ f ∷ [])) (length h) ≡ Some (delivery_of f)
  last_posting = posting_at (h ++ f ∷ []) (length h) f last_there

  not_yet : was_taken f.took.id h ≡ false
  not_yet = never_taken f.took.id h (λ k d at.
      post.once k (length h) (delivery_of d) (delivery_of f) (slice_get_within h k d at)
      (posting_at (h ++ f ∷ []) k d (slice_get_left h (f ∷ []) k d at)) last_posting)

  found_for : letter_of (client_of s) (letters_left h) f.took.id ≡ Some f.took
  found_for =
      finds s (client_of s) h may f.took not_yet
      (came (client_of s) (map delivery_of h) (delivery_of f) (append_postal s h f post))

  pub finds_next : letter_for (client_of s) (letters_left h) e ≡ Some f.took
  finds_next =
      let stamp : f.stamp.0 ≡ length h + 1 = post.stamps (length h) (delivery_of f) last_posting in
      let same : e.stamp.0 ≡ length (senders_from h 1 h) + 1 =
      ap (λ (x : Stamp). x.0) alike.stamp ∙ omega (arith, stamp, senders_count h 1 h) in
      let first : (e.stamp.0 == length (senders_from h 1 h) + 1) ≡ true =
      ap (λ (n : ℕ). n == length (senders_from h 1 h) + 1) same ∙ same_test (length (senders_from h 1 h) + 1) in
      let found_here : letter_of (client_of s) (letters_left h) e.took.id ≡ Some f.took =
      ap (letter_of (client_of s) (letters_left h)) alike.took ∙ found_for in
      let to : f.took.to.0 ≡ e.actor.0 =
      post.addressee (length h) (delivery_of f) last_posting ∙ ap (λ (a : ActorNo). a.0) (sym alike.actor) in
      let addressee : (f.took.to.0 == e.actor.0) ≡ true = ap (λ (n : ℕ). n == e.actor.0) to ∙ same_test e.actor.0 in
      ap (λ (b : Bool). if b then addressed e.actor (letter_of (client_of s) (letters_left h) e.took.id) else None) first
      ∙ ap (addressed e.actor) found_here
      ∙ ap (λ (b : Bool). if b then Some f.took else None) addressee
