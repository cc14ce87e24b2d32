-- What is found among the letters in flight is Go or was sent by an entry, and wasn't taken; and all that is so is found.
use Rattle.std.proofs.Common.{◌≡◌, inl, inr, ◌==◌, ℕ, zero, suc, ◌+◌, ◌-◌, ◌&&◌, Bool, true, false, List, refl, sym, ap, ◌∙◌, subst, arith, Option, Some, None}
use Rattle.std.specs.Prelude.{if◌then◌else◌, map, not, slice_get}
use Rattle.std.specs.Option.{option_map}
use Rattle.std.specs.List.{AllByRecursion}
use Rattle.std.proofs.lemmas.Bool.Decides.{nat_tests}
use Rattle.tv_base.specs.declared.numbers.ActorNo.{ActorNo}
use Rattle.tx_trees.proofs.SubsOf.{all_at}
use Rattle.letter_types.specs.declared.bodies.Body.{Body}
use Rattle.letter_types.specs.declared.bodies.Body.TheVariants.{Go}
use Rattle.letter_types.specs.declared.entries.Entry.{Entry}
use Rattle.letter_types.specs.declared.entries.Letter.{Letter}
use Rattle.letter_types.specs.declared.entries.LetterId.{LetterId}
use Rattle.letter_types.specs.declared.entries.Outgoing.{Outgoing}
use Rattle.letter_types.specs.declared.entries.Posting.{Posting}
use Rattle.letter_types.specs.Letters.{find_id, go}
use Rattle.letter_types.specs.Postal.{delivery_of, letters_sent}
use Rattle.letter_types.proofs.Ids.{id_stamp}
use Rattle.letter_types.proofs.Postings.{entry_at, posting_at}
use Rattle.tx_trees.specs.ScriptData.{ScriptData}
use Rattle.history_text.specs.Printable.{IsBody, IsPrintable, IsSent}
use Rattle.history_reader.specs.declared.in_flight.Sender.{Sender}
use Rattle.history_reader.specs.Walks.{LettersLeft, id_at, letter_left, letters_left, senders_from, was_taken}
use Rattle.history_reader.specs.inside.Finding.{go_left, is_spent, letter_at, letter_by, letter_of}
use Rattle.history_reader.proofs.Ids.{find_sent, sent_as}
use Rattle.history_reader.proofs.Left.{left_place, sender_of, sender_place}
use Rattle.history_reader.proofs.Postings.{CameFrom}

-- entries have their stamps
abbrev pub AreStamped : List Entry → Type 0
AreStamped h = (k : ℕ) (e : Entry) → slice_get h k ≡ Some e → e.stamp.0 ≡ k + 1

-- what is there of the letter of an id whose stamp isn't 0
found_there : (client : ℕ) (h : List Entry) (id : LetterId) (k : ℕ) → id.stamp.0 ≡ k + 1
    → letter_of client (letters_left h) id ≡ letter_by id (option_map (sender_of h (k + 1)) (slice_get h k))
found_there client h id k at =
    let test : (id.stamp.0 == 0) ≡ false = grind (arith, nat_tests) in
    let number : id.stamp.0 - 1 ≡ k = omega (arith, at) in
    let stamp : 1 + k ≡ k + 1 = omega arith in
    ap (λ (b : Bool). if b then go_left client (was_taken (id_at 0 0) h) id.place else letter_by id (slice_get (senders_from h 1 h) (id.stamp.0 - 1))) test
    ∙ ap (λ (n : ℕ). letter_by id (slice_get (senders_from h 1 h) n)) number
    ∙ ap (letter_by id) (sender_place h 1 k h)
    ∙ ap (λ (n : ℕ). letter_by id (option_map (sender_of h n) (slice_get h k))) stamp

found_by : (h : List Entry) (id : LetterId) (stamp : ℕ) (e : Entry)
    → letter_by id (Some (sender_of h stamp e)) ≡ letter_at id e.actor (option_map (letter_left h stamp id.place) (slice_get e.sent id.place))
found_by h id stamp e =
    let here : 0 + id.place ≡ id.place = omega arith in
    ap (letter_at id e.actor) (left_place h stamp 0 id.place e.sent)
    ∙ ap (λ (p : ℕ). letter_at id e.actor (option_map (letter_left h stamp p) (slice_get e.sent id.place))) here

-- where it is found it wasn't taken
kept_if : (b : Bool) (id : LetterId) (from : ActorNo) (o : Outgoing) (l : Letter)
    → letter_at id from (Some (record { to = o.to; body = (if b then Go else o.body) })) ≡ Some l
    → (b ≡ false) × (l ≡ record { id = id; from = from; to = o.to; body = o.body })
kept_if true id from o l is = absurd (cc is)
kept_if false id from o l is = (refl, by (is_spent o.body) is)
  where
    by : (c : Bool) → (if c then None else Some (record { id = id; from = from; to = o.to; body = o.body })) ≡ Some l
        → l ≡ record { id = id; from = from; to = o.to; body = o.body }
    by true is = absurd (cc is)
    by false is = cc is

-- what is found of a sent letter
pub record IsFound (client : ℕ) (h : List Entry) (id : LetterId) (l : Letter) : Type 0 where
  pub same : l.id ≡ id
  pub came : CameFrom client (map delivery_of h) l
  pub left : was_taken id h ≡ false

found_sent : (client : ℕ) (h : List Entry) (id : LetterId) (k : ℕ) (e : Entry) (at : Option Outgoing) (l : Letter) → AreStamped h
    → id.stamp.0 ≡ k + 1 → slice_get h k ≡ Some e → slice_get e.sent id.place ≡ at
    → letter_at id e.actor (option_map (letter_left h (k + 1) id.place) at) ≡ Some l → IsFound client h id l
found_sent client h id k e None l stamped stamp there at is = absurd (cc is)
found_sent client h id k e (Some o) l stamped stamp there at is =
    let kept = kept_if (was_taken (id_at (k + 1) id.place) h) id e.actor o l is in
    let own : id_at (k + 1) id.place ≡ id = λ i. record { stamp = record { 0 = sym stamp i }; place = id.place } in
    let by_stamp : id_at e.stamp.0 id.place ≡ id = λ i. record { stamp = record { 0 = (stamped k e there ∙ sym stamp) i }; place = id.place } in
    let letter : sent_as e.stamp.0 e.actor.0 id.place o ≡ l =
    (λ i. record { id = by_stamp i; from = e.actor; to = o.to; body = o.body }) ∙ sym kept.1 in
    let same : l.id ≡ id = ap (λ (x : Letter). x.id) kept.1 in
    record {
      same = same;
      came = inr (
        k,
        delivery_of e,
        posting_at h k e there,
        stamped k e there,
        ap (λ (i : LetterId). find_id i (letters_sent (delivery_of e))) (same ∙ sym by_stamp)
            ∙ find_sent e.stamp.0 e.actor.0 id.place e.sent
            ∙ ap (option_map (sent_as e.stamp.0 e.actor.0 id.place)) at
            ∙ ap (λ (x : Letter). Some x) letter,
      );
      left = ap (λ (i : LetterId). was_taken i h) (sym own) ∙ kept.0;
    }

found_of : (client : ℕ) (h : List Entry) (id : LetterId) (k : ℕ) (e : Option Entry) (l : Letter) → AreStamped h
    → id.stamp.0 ≡ k + 1 → slice_get h k ≡ e → letter_by id (option_map (sender_of h (k + 1)) e) ≡ Some l → IsFound client h id l
found_of client h id k None l stamped stamp there is = absurd (cc is)
found_of client h id k (Some e) l stamped stamp there is =
    found_sent client h id k e (slice_get e.sent id.place) l stamped stamp there refl (sym (found_by h id (k + 1) e) ∙ is)

found_go : (client place : ℕ) (begun : Bool) (l : Letter) → go_left client begun place ≡ Some l
    → (place ≡ 0) × (begun ≡ false) × (l ≡ go client)
found_go client place begun l is = by (place == 0) begun refl is
  where
    by : (b c : Bool) → (place == 0) ≡ b → (if b && not c then Some (go client) else None) ≡ Some l → (place ≡ 0) × (c ≡ false) × (l ≡ go client)
    by true true at is = absurd (cc is)
    by true false at is = let here : place ≡ 0 = grind (arith, nat_tests) in (here, refl, cc is)
    by false c at is = absurd (cc is)

-- whatever letters are left, what is found has the id that was looked for
id_there : (id : LetterId) (from : ActorNo) (at : Option Outgoing) (l : Letter) → letter_at id from at ≡ Some l → l.id ≡ id
id_there id from None l is = absurd (cc is)
id_there id from (Some o) l is = by (is_spent o.body) is
  where
    by : (c : Bool) → (if c then None else Some (record { id = id; from = from; to = o.to; body = o.body })) ≡ Some l → l.id ≡ id
    by true is = absurd (cc is)
    by false is =
        let own : record { id = id; from = from; to = o.to; body = o.body } ≡ l = cc is in
        ap (λ (x : Letter). x.id) (sym own)

id_by : (id : LetterId) (sender : Option Sender) (l : Letter) → letter_by id sender ≡ Some l → l.id ≡ id
id_by id None l is = absurd (cc is)
id_by id (Some sender) l is = id_there id sender.from (slice_get sender.sent id.place) l is

pub found_id : (client : ℕ) (letters : LettersLeft) (id : LetterId) (l : Letter) → letter_of client letters id ≡ Some l → l.id ≡ id
found_id client letters id l is = by (id.stamp.0 == 0) refl is
  where
    by : (b : Bool) → (id.stamp.0 == 0) ≡ b
        → (if b then go_left client letters.begun id.place else letter_by id (slice_get letters.senders (id.stamp.0 - 1))) ≡ Some l
        → l.id ≡ id
    by true at is =
        let stamp : id.stamp.0 ≡ 0 = grind (arith, nat_tests) in
        let f = found_go client id.place letters.begun l is in
        let own : id_at 0 0 ≡ id = λ i. record { stamp = record { 0 = sym stamp i }; place = sym f.0 i } in
        ap (λ (x : Letter). x.id) f.2 ∙ own
    by false at is = id_by id (slice_get letters.senders (id.stamp.0 - 1)) l is

pub found : (client : ℕ) (h : List Entry) (id : LetterId) (l : Letter) → AreStamped h
    → letter_of client (letters_left h) id ≡ Some l → IsFound client h id l
found client h id l stamped is = by id.stamp.0 refl
  where
    by : (n : ℕ) → id.stamp.0 ≡ n → IsFound client h id l
    by zero at =
        let test : (id.stamp.0 == 0) ≡ true = grind (arith, nat_tests) in
        let here : go_left client (was_taken (id_at 0 0) h) id.place ≡ Some l =
        sym (ap (λ (b : Bool). if b then go_left client (was_taken (id_at 0 0) h) id.place else letter_by id (slice_get (senders_from h 1 h) (id.stamp.0 - 1))) test) ∙ is in
        let f = found_go client id.place (was_taken (id_at 0 0) h) l here in
        let own : id_at 0 0 ≡ id = λ i. record { stamp = record { 0 = sym at i }; place = sym f.0 i } in
        record {
          same = ap (λ (x : Letter). x.id) f.2 ∙ own;
          came = inl f.2;
          left = ap (λ (i : LetterId). was_taken i h) (sym own) ∙ f.1;
        }
    by (suc k) at =
        let next : id.stamp.0 ≡ k + 1 = omega (arith, at) in
        found_of client h id k (slice_get h k) l stamped next refl (sym (found_there client h id k next) ∙ is)

-- No entry sends Go. So a letter that was sent and not taken is found.
not_go : (s : ScriptData) (body : Body) → IsBody s body → is_spent body ≡ false
not_go s Go may = absurd may.0
not_go s _ may = refl

finds_left : (id : LetterId) (from : ActorNo) (b : Bool) (o : Outgoing) → b ≡ false → is_spent o.body ≡ false
    → letter_at id from (Some (record { to = o.to; body = (if b then Go else o.body) }))
    ≡ Some (record { id = id; from = from; to = o.to; body = o.body })
finds_left id from b o left body =
    ap (λ (c : Bool). letter_at id from (Some (record { to = o.to; body = (if c then Go else o.body) }))) left
    ∙ ap (λ (c : Bool). if c then None else Some (record { id = id; from = from; to = o.to; body = o.body })) body

module _ (s : ScriptData) (client : ℕ) (h : List Entry) (may : AllByRecursion (IsPrintable s) h) (l : Letter)
    (left : was_taken l.id h ≡ false) where
  finds_there : (k : ℕ) (e : Entry) (at : Option Outgoing) → slice_get h k ≡ Some e → e.stamp.0 ≡ k + 1 → l.id.stamp.0 ≡ k + 1
      → slice_get e.sent l.id.place ≡ at → option_map (sent_as e.stamp.0 e.actor.0 l.id.place) at ≡ Some l
      → letter_of client (letters_left h) l.id ≡ Some l
  finds_there k e None there stamp same at is = absurd (cc is)
  finds_there k e (Some o) there stamp same at is =
      let own : l.id ≡ id_at (k + 1) l.id.place = λ i. record { stamp = record { 0 = same i }; place = l.id.place } in
      let unspent : was_taken (id_at (k + 1) l.id.place) h ≡ false = ap (λ (i : LetterId). was_taken i h) (sym own) ∙ left in
      let sent : IsSent s o = all_at (IsSent s) e.sent l.id.place o (all_at (IsPrintable s) h k e may there).sent at in
      let by_stamp : l.id ≡ id_at e.stamp.0 l.id.place = λ i. record { stamp = record { 0 = (same ∙ sym stamp) i }; place = l.id.place } in
      let letter : sent_as e.stamp.0 e.actor.0 l.id.place o ≡ l = cc is in
      let made : record { id = l.id; from = e.actor; to = o.to; body = o.body } ≡ l =
      (λ i. record { id = by_stamp i; from = e.actor; to = o.to; body = o.body }) ∙ letter in
      found_there client h l.id k same
      ∙ ap (λ (x : Option Entry). letter_by l.id (option_map (sender_of h (k + 1)) x)) there
      ∙ found_by h l.id (k + 1) e
      ∙ ap (λ (x : Option Outgoing). letter_at l.id e.actor (option_map (letter_left h (k + 1) l.id.place) x)) at
      ∙ finds_left l.id e.actor (was_taken (id_at (k + 1) l.id.place) h) o unspent (not_go s o.body sent.1)
      ∙ ap (λ (x : Letter). Some x) made

  finds_by : (k : ℕ) (e : Entry) → slice_get h k ≡ Some e → e.stamp.0 ≡ k + 1
      → find_id l.id (letters_sent (delivery_of e)) ≡ Some l → letter_of client (letters_left h) l.id ≡ Some l
  finds_by k e there stamp found =
      let same : l.id.stamp.0 ≡ e.stamp.0 = id_stamp (delivery_of e) l found in
      let own : id_at e.stamp.0 l.id.place ≡ l.id = λ i. record { stamp = record { 0 = sym same i }; place = l.id.place } in
      finds_there k e (slice_get e.sent l.id.place) there stamp (same ∙ stamp) refl
      (sym (find_sent e.stamp.0 e.actor.0 l.id.place e.sent) ∙ ap (λ (i : LetterId). find_id i (letters_sent (delivery_of e))) own ∙ found)

  finds_go : l ≡ go client → letter_of client (letters_left h) l.id ≡ Some l
  finds_go is =
      let own : l.id ≡ id_at 0 0 = ap (λ (x : Letter). x.id) is in
      let unspent : was_taken (id_at 0 0) h ≡ false = ap (λ (i : LetterId). was_taken i h) (sym own) ∙ left in
      ap (letter_of client (letters_left h)) own
      ∙ ap (λ (b : Bool). if not b then Some (go client) else None) unspent
      ∙ ap (λ (x : Letter). Some x) (sym is)

  pub finds : CameFrom client (map delivery_of h) l → letter_of client (letters_left h) l.id ≡ Some l
  finds (inl is) = finds_go is
  finds (inr (j, f, at, stamp, found)) =
      let e = entry_at h j f at in
      finds_by j e.0 e.1 (ap (λ (p : Posting). p.stamp.0) e.2 ∙ stamp)
      (subst (λ (p : Posting). find_id l.id (letters_sent p) ≡ Some l) (sym e.2) found)
