-- The steps, at views that are known; and the seats of a new post.
use Rattle.std.proofs.Common.{◌≡◌, ℕ, zero, suc, ◌+◌, ◌-◌, ◌%◌, ◌^◌, ◌<◌, List, [], ◌∷◌, ◌++◌, length, map, sym, ap, ◌∙◌, append_assoc, subst, arith, drop, Option, Some, None}
use Rattle.std.specs.Prelude.{slice_get, All}
use Rattle.std.proofs.lemmas.List.{map-append}
use mathlib.Core.Option.{none, some}
use lib.ListN.{get_elem?}
use Rattle.atomic_table.specs.Table.{Me, step, Allows, Splits, Joins, Final, Seen}
use Rattle.letter_types.specs.declared.entries.Letter.{Letter}
use Rattle.letter_types.specs.declared.entries.Outgoing.{Outgoing}
use Rattle.letter_types.specs.declared.entries.Posting.{Posting}
use Rattle.tv_base.specs.declared.numbers.Stamp.{Stamp}
use Rattle.letter_types.specs.Postal.{letters_sent}
use Rattle.stamp_post.specs.declared.rule.JoinedSeat.{JoinedSeat}
use Rattle.stamp_post.specs.declared.rule.JoinedReceipt.{JoinedReceipt}
use Rattle.stamp_post.specs.declared.rule.View.{View}
use Rattle.stamp_post.specs.declared.rule.View.TheVariants.{Gathering, Acting, Sending, Carrying, Spent}
use Rattle.stamp_post.specs.Logs.{most}
use Rattle.stamp_post.specs.Rules.{Ruled}
use Rattle.stamp_post.specs.Moves.{Stamped, carrying, with_actor, new_actor, without_go, go_off, without_outbox, outbox_off, without_letter, letter_off, witness_off, with_letter, with_seat, with_receipt}
use Rattle.stamp_post.specs.Shown.{Gathers, PostId, SeatData, seat_data, new_seats}
use Rattle.stamp_post.proofs.Lists.{sent_as, sealed_at}
use Rattle.stamp_post.proofs.Steps.{stamps, splits_actor, splits_go, splits_outbox, splits_envelope, splits_witness, joins_envelope, joins_seat, joins_receipt, commits_by}

pub actor_split : (actors id m : ℕ) (first : Option Letter) (seats : List JoinedSeat) (receipts : List JoinedReceipt)
    (v : View) → v ≡ Gathering m first seats receipts → m < actors
    → Splits (Ruled actors) id v (with_actor v) (new_actor v)
actor_split actors id m first seats receipts v is room =
    subst (λ (u : View). Splits (Ruled actors) id u (with_actor u) (new_actor u)) (sym is)
    (splits_actor actors id m first seats receipts room)

pub go_split : (actors id m : ℕ) (l : Letter) (seats : List JoinedSeat) (receipts : List JoinedReceipt) (v : View)
    → v ≡ Gathering m (Some l) seats receipts
    → Splits (Ruled actors) id v (without_go v) (go_off v)
go_split actors id m l seats receipts v is =
    subst (λ (u : View). Splits (Ruled actors) id u (without_go u) (go_off u)) (sym is)
    (splits_go actors id m l seats receipts)

pub outbox_split : (actors id n : ℕ) (own : List Posting) (taken : Option Letter) (p : Posting) (v : View)
    → v ≡ Acting n own taken (Some p)
    → Splits (Ruled actors) id v (without_outbox v) (outbox_off v)
outbox_split actors id n own taken p v is =
    subst (λ (u : View). Splits (Ruled actors) id u (without_outbox u) (outbox_off u)) (sym is)
    (splits_outbox actors id n own taken p)

-- the letter of a posting at a place
pub letter_there : (p : Posting) (k : ℕ) (o : Outgoing) → slice_get p.sent k ≡ Some o
    → slice_get (letters_sent p) k ≡ Some (sent_as p.stamp.0 p.actor.0 k o)
letter_there p k o at =
    let here : 0 + k ≡ k = omega arith in
    sealed_at p.stamp.0 p.actor.0 0 k p.sent o at ∙ ap (λ (n : ℕ). Some (sent_as p.stamp.0 p.actor.0 n o)) here

pub envelope_split : (actors id n : ℕ) (own : List Posting) (p : Posting) (next : ℕ) (o : Outgoing) (v : View)
    → v ≡ Sending n own p next → slice_get p.sent next ≡ Some o
    → Splits (Ruled actors) id v (without_letter v) (letter_off v)
envelope_split actors id n own p next o v is at =
    subst (λ (u : View). Splits (Ruled actors) id u (without_letter u) (letter_off u)) (sym is)
    (subst (λ (l : Option Letter). Splits (Ruled actors) id (Sending n own p next) (Sending n own p (next + 1))
    (carrying l)) (sym (letter_there p next o at))
    (splits_envelope actors id n own p next o at))

pub witness_split : (actors id n : ℕ) (own : List Posting) (p : Posting) (next : ℕ) (v : View) → v ≡ Sending n own p next
    → Splits (Ruled actors) id v v (witness_off v)
witness_split actors id n own p next v is =
    subst (λ (u : View). Splits (Ruled actors) id u u (witness_off u)) (sym is) (splits_witness actors id n own p next)

pub envelope_join : (actors id n : ℕ) (own : List Posting) (unsent : Option Posting) (other : ℕ) (l : Letter)
    (v w : View) → v ≡ Acting n own None unsent → w ≡ Carrying l → l.to.0 ≡ n
    → Joins (Ruled actors) id v other w (with_letter v w) Spent
envelope_join actors id n own unsent other l v w is is' home =
    subst (λ (z : View × View). Joins (Ruled actors) id z.0 other z.1 (with_letter z.0 z.1) Spent)
    (λ k. (sym is k, sym is' k)) (joins_envelope actors id n own unsent other l home)

pub seat_join : (actors id m : ℕ) (first : Option Letter) (seats : List JoinedSeat) (receipts : List JoinedReceipt)
    (other n : ℕ) (own : List Posting) (taken : Option Letter) (unsent : Option Posting) (v w : View)
    → v ≡ Gathering m first seats receipts → w ≡ Acting n own taken unsent → Joins (Ruled actors) id v other w
    (with_seat v w) Spent
seat_join actors id m first seats receipts other n own taken unsent v w is is' =
    subst (λ (z : View × View). Joins (Ruled actors) id z.0 other z.1 (with_seat z.0 z.1) Spent)
    (λ k. (sym is k, sym is' k)) (joins_seat actors id m first seats receipts other n own taken unsent)

pub receipt_join : (actors id m : ℕ) (first : Option Letter) (seats : List JoinedSeat) (receipts : List JoinedReceipt)
    (other n : ℕ) (own : List Posting) (p : Posting) (next : ℕ) (v w : View)
    → v ≡ Gathering m first seats receipts → w ≡ Sending n own p next → Joins (Ruled actors) id v other w
    (with_receipt v w) Spent
receipt_join actors id m first seats receipts other n own p next v w is is' =
    subst (λ (z : View × View). Joins (Ruled actors) id z.0 other z.1 (with_receipt z.0 z.1) Spent)
    (λ k. (sym is k, sym is' k)) (joins_receipt actors id m first seats receipts other n own p next)

pub stamp_step : (actors slots id n : ℕ) (own : List Posting) (l : Letter) (unsent : Option Posting)
    (sent : List Outgoing) (me : Me (Unit {0}) View) (rest : List (ℕ × Unit {0}))
    → me ≡ (Acting n own (Some l) unsent, rest) → length own < most
    → Allows (Ruled actors) slots id me 1 (λ x. (x + 1) % 2 ^ 64) (Stamped sent (step slots 1 1 0 none) me)
stamp_step actors slots id n own l unsent sent me rest is room =
    subst (λ (m : Me (Unit {0}) View). Allows (Ruled actors) slots id m 1 (λ x. (x + 1) % 2 ^ 64)
    (Stamped sent (step slots 1 1 0 none) m)) (sym is) (stamps actors slots id n own l unsent rest sent room)

pub last_state : (actors id m n : ℕ) (v : View) (first : Option Letter) (seats seats' : List JoinedSeat)
    (receipts receipts' : List JoinedReceipt) (words : List ℕ) (slots : List (Unit {0})) (actors' : ℕ)
    → v ≡ Gathering m first seats receipts
    → Final (Seen (Ruled actors) id v) words slots → get_elem? words 1 ≡ some n → actors ≡ actors' → seats ≡ seats'
    → receipts ≡ receipts' → (g : Gathers actors' seats' receipts') × (length g.log ≡ n)
last_state actors id m n v first seats seats' receipts receipts' words slots actors' is last count e e' e'' =
    subst (λ (z : ℕ × List JoinedSeat × List JoinedReceipt). (g : Gathers z.0 z.1 z.2) × (length g.log ≡ n))
    (λ k. (e k, e' k, e'' k)) (commits_by actors id m n v first seats receipts words slots is last count)

-- the first of what is left of a list
pub head_there : (os : List Outgoing) (k : ℕ) (o : Outgoing) (rest : List Outgoing) → drop k os ≡ o ∷ rest
    → slice_get os k ≡ Some o
head_there [] zero o rest e = absurd cc
head_there [] (suc k) o rest e = absurd cc
head_there (x ∷ os) zero o rest e = ap Some cc
head_there (x ∷ os) (suc k) o rest e = head_there os k o rest e

-- and what is left after it
pub tail_there : (os : List Outgoing) (k : ℕ) (o : Outgoing) (rest : List Outgoing) → drop k os ≡ o ∷ rest
    → drop (suc k) os ≡ rest
tail_there [] zero o rest e = absurd cc
tail_there [] (suc k) o rest e = absurd cc
tail_there (x ∷ os) zero o rest e = cc
tail_there (x ∷ os) (suc k) o rest e = tail_there os k o rest e

-- a seat more at the end of the new ones
pub new_seats_more : (post : PostId) (n count : ℕ)
    → new_seats post n (suc count) ≡ new_seats post n count ++ seat_data post (n + count) [] None None ∷ []
new_seats_more post n zero = let here : n ≡ n + 0 = omega arith in λ i. seat_data post (here i) [] None None ∷ []
new_seats_more post n (suc count) =
    let there : (n + 1) + count ≡ n + suc count = omega arith in
    ap (λ (ss : List SeatData). seat_data post n [] None None ∷ ss) (new_seats_more post (n + 1) count)
    ∙ ap (λ (k : ℕ). seat_data post n [] None None ∷
    (new_seats post (n + 1) count ++ seat_data post k [] None None ∷ [])) there

-- the first of the new seats, and those after it
pub new_seats_first : (post : PostId) (n count : ℕ) (one : SeatData) (rest : List SeatData)
    → new_seats post n count ≡ one ∷ rest
    → (one ≡ seat_data post n [] None None) × (rest ≡ new_seats post (n + 1) (count - 1)) × (0 < count)
new_seats_first post n zero one rest e = absurd cc
new_seats_first post n (suc count) one rest e =
    let less : count ≡ suc count - 1 = omega arith in
    let head : seat_data post n [] None None ≡ one = cc in
    let tail : new_seats post (n + 1) count ≡ rest = cc in
    (sym head, sym tail ∙ ap (new_seats post (n + 1)) less, omega arith)

-- what holds of all of a list holds of its first, and of the rest
pub head_of : {A : Type 0} (P : A → Type 0) (x : A) (xs ys : List A) → ys ≡ x ∷ xs → All P ys → P x
head_of P x xs ys is all = subst (λ zs. All P zs) is all 0 x (omega arith)

pub tail_of : {A : Type 0} (P : A → Type 0) (x : A) (xs ys : List A) → ys ≡ x ∷ xs → All P ys → All P xs
tail_of P x xs ys is all = λ k d lt. subst (λ zs. All P zs) is all (suc k) d (omega (arith, lt))

-- the letter of a posting, as an outbox makes it
pub letter_made : (p : Posting) (n next : ℕ) (stamp : Stamp) (o : Outgoing) → p.stamp ≡ stamp → p.actor.0 ≡ n
    → slice_get p.sent next ≡ Some o
    → slice_get (letters_sent p) next ≡ Some (record {
      id = record { stamp = stamp; place = next };
      from =
          record { 0 = n };
      to = o.to;
      body = o.body;
    })
letter_made p n next stamp o same mine at =
    letter_there p next o at
    ∙ (λ k. Some (record {
      id = record { stamp = same k; place = next };
      from = record { 0 = mine k };
      to =
          o.to;
      body = o.body;
    }))

pub envelope_made : (v : View) (n : ℕ) (own : List Posting) (p : Posting) (next : ℕ) (stamp : Stamp) (o : Outgoing)
    → v ≡ Sending n own p next → p.stamp ≡ stamp → p.actor.0 ≡ n → slice_get p.sent next ≡ Some o
    → letter_off v ≡ Carrying (record {
      id = record { stamp = stamp; place = next };
      from = record { 0 = n };
      to =
          o.to;
      body = o.body;
    })
envelope_made v n own p next stamp o is same mine at = ap letter_off is
    ∙ ap carrying (letter_made p n next stamp o same mine at)

-- one more at the end of what was mapped
pub mapped_more : {A B : Type 0} (f : A → B) (bs : List B) (xs : List A) (x : A)
    → (bs ++ map f xs) ++ f x ∷ [] ≡ bs ++ map f (xs ++ x ∷ [])
mapped_more f bs xs x = append_assoc bs (map f xs) (f x ∷ []) ∙ ap (λ ys. bs ++ ys) (sym (map-append f xs (x ∷ [])))
