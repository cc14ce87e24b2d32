-- What a seat knows stays true while the log grows, and while messages go from seat to seat.
use Rattle.std.proofs.Common.{◌≡◌, ◌≢◌, ◌⊎◌, ℕ, suc, eqb, ◌+◌, ◌<◌, ◌≤◌, ◌&&◌, Bool, true, false, List, [], ◌∷◌, ◌++◌, length, refl, sym, ap, ◌∙◌, subst, inl, inr, arith, eq-eqb, ne_eqb, append_assoc, Option, Some, None}
use Rattle.std.specs.Prelude.{slice_get}
use Rattle.std.proofs.lemmas.Bool.Decides.{nat_tests}
use Rattle.std.proofs.lemmas.Option.{slice_get_within}
use Rattle.std.proofs.lemmas.Bool.{and_parts}
use Rattle.std.proofs.Math.Bool.{and-false}
use Rattle.tv_base.proofs.ByPlace.{slice_get_left, slice_get_last, slice_get_split}
use native.Mathlib.Decide.{ℕ_discrete}
use Rattle.letter_types.specs.declared.entries.Letter.{Letter}
use Rattle.letter_types.specs.declared.entries.LetterId.{LetterId}
use Rattle.letter_types.specs.declared.entries.Outgoing.{Outgoing}
use Rattle.letter_types.specs.declared.entries.Posting.{Posting}
use Rattle.letter_types.specs.Letters.{go, find_id}
use Rattle.letter_types.specs.Postal.{IsMessageRun, letters_sent}
use Rattle.letter_types.proofs.Ids.{id_stamp}
use Rattle.stamp_post.specs.declared.rule.View.{View}
use Rattle.stamp_post.specs.declared.rule.View.TheVariants.{Gathering, Acting, Sending, Carrying, Spent}
use Rattle.stamp_post.specs.Logs.{Stands, AreFirst, WasSent}
use Rattle.stamp_post.specs.Rules.{Holds, HoldsGo, HoldsRest, HoldsTaken, HoldsUnsent, Fits}
use Rattle.stamp_post.proofs.Lists.{same_there, own_here, own_other, found, finds, sent_as, choose}

-- the log grows
stands_more : (log : List Posting) (d p : Posting) → Stands log p → Stands (log ++ d ∷ []) p
stands_more log d p s = (s.0, slice_get_left log (d ∷ []) s.0 p s.1, s.2)

pub stands_last : (log : List Posting) (p : Posting) → p.stamp.0 ≡ length log + 1 → Stands (log ++ p ∷ []) p
stands_last log p is = (length log, slice_get_last log p, is)

pub sent_more : (client : ℕ) (log : List Posting) (d : Posting) (l : Letter) → WasSent client log l
    → WasSent client (log ++ d ∷ []) l
sent_more client log d l (inl is) = inl is
sent_more client log d l (inr s) = inr (s.0, stands_more log d s.0 s.1, s.2)

-- so it is no greater than the length
pub sent_before : (client : ℕ) (log : List Posting) (l : Letter) → WasSent client log l → l.id.stamp.0 ≤ length log
sent_before client log l (inl is) = let zero_is : l.id.stamp.0 ≡ 0 = ap (λ (x : Letter). x.id.stamp.0) is in
    omega (arith, zero_is)
sent_before client log l (inr s) =
    let within : s.1.0 < length log = slice_get_within log s.1.0 s.0 s.1.1 in
    let is : l.id.stamp.0 ≡ s.0.stamp.0 = id_stamp s.0 l s.2 in
    let at : s.0.stamp.0 ≡ s.1.0 + 1 = s.1.2 in
    omega (arith, within, is, at)

-- a log that went as letters do, with one posting more
module _ (client : ℕ) (log : List Posting) (p : Posting) (old : IsMessageRun client log)
    (stamped : p.stamp.0 ≡ length log + 1) (came : WasSent client log p.took)
    (first : (k : ℕ) (d : Posting) → slice_get log k ≡ Some d → d.took.id ≢ p.took.id)
    (addressed : p.took.to.0 ≡ p.actor.0) (known : p.actor.0 < client + 1) where
  abbrev WasSentBy : List Posting → ℕ → Posting → Type 0
  WasSentBy h k e = (e.took ≡ go client) ⊎ ((j : ℕ) × (f : Posting) × (j < k) × (slice_get h j ≡ Some f)
      × (find_id e.took.id (letters_sent f) ≡ Some e.took))

  sent_then : (k : ℕ) (e : Posting) → WasSentBy log k e → WasSentBy (log ++ p ∷ []) k e
  sent_then k e (inl is) = inl is
  sent_then k e (inr s) = inr (s.0, s.1, s.2, slice_get_left log (p ∷ []) s.0 s.1 s.3, s.4)

  sent_now : (k : ℕ) → k ≡ length log → WasSent client log p.took → WasSentBy (log ++ p ∷ []) k p
  sent_now k here (inl is) = inl is
  sent_now k here (inr s) = inr (
    s.1.0,
    s.0,
    (let lt = slice_get_within log s.1.0 s.0 s.1.1 in
        omega (arith, lt, here)),
    slice_get_left log (p ∷ []) s.1.0 s.0 s.1.1,
    s.2,
  )

  pub postal_more : IsMessageRun client (log ++ p ∷ [])
  postal_more = record {
    stamps = λ k e at. elim (slice_get_split log p k e at) [
      | inl t ↦ old.stamps k e t.1
      | inr t ↦ subst (λ (x : Posting). x.stamp.0 ≡ k + 1) t.1 (omega (arith, stamped, t.0))
    ];
    sent = λ k e at. elim (slice_get_split log p k e at) [
      | inl t ↦ sent_then k e (old.sent k e t.1)
      | inr t ↦ subst (λ (x : Posting). WasSentBy (log ++ p ∷ []) k x) t.1 (sent_now k t.0 came)
    ];
    once = λ j k d e lt at at'. elim (slice_get_split log p k e at') [
      | inl t' ↦ elim (slice_get_split log p j d at) [
        | inl t ↦ old.once j k d e lt t.1 t'.1
        | inr t ↦ absurd (omega (arith, lt, t.0, t'.0))
      ]
      | inr t' ↦ elim (slice_get_split log p j d at) [
        | inl t ↦ subst (λ (x : Posting). d.took.id ≢ x.took.id) t'.1
            (first j d t.1)
        | inr t ↦ absurd (omega (arith, lt, t.0, t'.0))
      ]
    ];
    addressee = λ k e at. elim (slice_get_split log p k e at) [
      | inl t ↦ old.addressee k e t.1
      | inr t ↦ subst (λ (x : Posting). x.took.to.0 ≡ x.actor.0) t.1 addressed
    ];
    known = λ k e at. elim (slice_get_split log p k e at) [
      | inl t ↦ old.known k e t.1
      | inr t ↦ subst (λ (x : Posting). x.actor.0 < client + 1) t.1 known
    ];
  }

-- what a posting of the log took was sent
pub was_taken : (client : ℕ) (log : List Posting) (k : ℕ) (e : Posting) → IsMessageRun client log → slice_get log k ≡ Some e
    → WasSent client log e.took
was_taken client log k e postal at = elim (postal.sent k e at) [
  | inl is ↦ inl is
  | inr s ↦ inr (s.1, (s.0, s.3, postal.stamps s.0 s.1 s.3), s.4)
]

begins_if : (log : List Posting) (p : Posting) (n : ℕ) (own : List Posting) → Dec (p.actor.0 ≡ n) → AreFirst log n own
    → AreFirst (log ++ p ∷ []) n own
begins_if log p n own (yes same) b = (
  b.0 ++ p ∷ [],
  own_here n log p same
      ∙ ap (λ (es : List Posting). es ++ p ∷ []) b.1 ∙ append_assoc own b.0 (p ∷ []),
)
begins_if log p n own (no apart) b = (b.0, own_other n log p apart ∙ b.1)

begins_more : (log : List Posting) (p : Posting) (n : ℕ) (own : List Posting) → AreFirst log n own
    → AreFirst (log ++ p ∷ []) n own
begins_more log p n own b = begins_if log p n own (ℕ_discrete p.actor.0 n) b

module _ (client : ℕ) (log : List Posting) (owner : ℕ → ℕ) (made : ℕ) (holder : ℕ → ℕ → ℕ) (id : ℕ) (p : Posting) where
  go_more : (first : Option Letter) → HoldsGo client log owner made holder id first
      → HoldsGo client (log ++ p ∷ []) owner made holder id first
  go_more None h = tt
  go_more (Some l) h = (sent_more client log p l h.0, h.1)

  taken_more : (n : ℕ) (taken : Option Letter) → HoldsTaken client log owner made holder id n taken
      → HoldsTaken client (log ++ p ∷ []) owner made holder id n taken
  taken_more n None h = tt
  taken_more n (Some l) h = ((sent_more client log p l h.0.0, h.0.1), h.1)

  unsent_more : (n : ℕ) (unsent : Option Posting) → HoldsUnsent client log owner made holder id n unsent
      → HoldsUnsent client (log ++ p ∷ []) owner made holder id n unsent
  unsent_more n None h = tt
  unsent_more n (Some d) h = (stands_more log p d h.0, h.1, h.2)

  -- a posting of an actor that another seat has changes nothing for this seat
  pub fits_more : (me : ℕ) (v : View) → owner p.actor.0 ≡ me → id ≢ me → Fits client log owner made holder id v
      → Fits client (log ++ p ∷ []) owner made holder id v
  fits_more me (Gathering m first seats receipts) his apart f = (
    f.0,
    f.1,
    (λ k s at. let old = f.2 k s at in
        (old.0, old.1, old.2 ∙ sym (own_other s.number log p (λ same. apart (sym old.0 ∙ ap owner (sym same) ∙ his))))),
    go_more first f.3,
    (λ k r at. let old = f.4 k r at in (begins_more log p r.number r.own old.0, stands_more log p r.posting old.1)),
  )
  fits_more me (Acting n own taken unsent) his apart f = (
    f.0,
    f.1,
    f.2 ∙ sym (own_other n log p (λ same. apart (sym f.1 ∙ ap owner (sym same) ∙ his))),
    taken_more n taken f.3,
    unsent_more n unsent f.4,
    f.5,
  )
  fits_more me (Sending n own d next) his apart f = (begins_more log p n own f.0, stands_more log p d f.1, f.2, f.3)
  fits_more me (Carrying l) his apart f = (sent_more client log p l f.0, f.1)
  fits_more me Spent his apart f = tt

-- the letters that are selected go to another seat
abbrev pub move : (ℕ → ℕ → ℕ) → (ℕ → ℕ → Bool) → ℕ → ℕ → ℕ → ℕ
move holder sel new s p = choose (sel s p) new (holder s p)

pub moved_in : (holder : ℕ → ℕ → ℕ) (sel : ℕ → ℕ → Bool) (new s p : ℕ) → sel s p ≡ true → move holder sel new s p ≡ new
moved_in holder sel new s p is = ap (λ b. choose b new (holder s p)) is

pub moved_out : (holder : ℕ → ℕ → ℕ) (sel : ℕ → ℕ → Bool) (new s p : ℕ) → sel s p ≡ false
    → move holder sel new s p ≡ holder s p
moved_out holder sel new s p is = ap (λ b. choose b new (holder s p)) is

-- the letters that go are all of one seat
abbrev pub AllOf : ℕ → List Posting → (ℕ → ℕ → ℕ) → (ℕ → ℕ → Bool) → ℕ → Type 0
AllOf client log holder sel old = (l : Letter) → WasSent client log l → sel l.id.stamp.0 l.id.place ≡ true
    → holder l.id.stamp.0 l.id.place ≡ old

-- the letter that a posting of the log sent at a place
pub sent_there : (client : ℕ) (log : List Posting) (p : Posting) (k : ℕ) (o : Outgoing) → Stands log p
    → slice_get p.sent k ≡ Some o → WasSent client log (sent_as p.stamp.0 p.actor.0 k o)
sent_there client log p k o stands at =
    let here : 0 + k ≡ k = omega arith in
    inr (
      p,
      stands,
      subst (λ (n : ℕ). find_id (record { stamp = record { 0 = p.stamp.0 }; place = n })
          (letters_sent p) ≡ Some (sent_as p.stamp.0 p.actor.0 n o)) here (finds p.stamp.0 p.actor.0 0 k p.sent o at),
    )

module _ (client : ℕ) (log : List Posting) (holder : ℕ → ℕ → ℕ) (sel : ℕ → ℕ → Bool) (old new : ℕ)
    (all : AllOf client log holder sel old) where
  stays_if : (b : Bool) (l : Letter) (h : ℕ) → sel l.id.stamp.0 l.id.place ≡ b → WasSent client log l
      → holder l.id.stamp.0 l.id.place ≡ h → h ≢ old → move holder sel new l.id.stamp.0 l.id.place ≡ h
  stays_if true l h is sent at apart = absurd (apart (sym at ∙ all l sent is))
  stays_if false l h is sent at apart = moved_out holder sel new l.id.stamp.0 l.id.place is ∙ at

  -- a letter of another seat stays there
  pub stays : (l : Letter) (h : ℕ) → WasSent client log l → holder l.id.stamp.0 l.id.place ≡ h → h ≢ old
      → move holder sel new l.id.stamp.0 l.id.place ≡ h
  stays l h sent at apart = stays_if (sel l.id.stamp.0 l.id.place) l h refl sent at apart

  module _ (owner : ℕ → ℕ) (made : ℕ) (id : ℕ) (apart : suc id ≢ old) where
    letter_moved : (l : Letter) → Holds client log owner made holder id l → Holds client log owner made
        (move holder sel new) id l
    letter_moved l h = (h.0, stays l (suc id) h.0 h.1 apart)

    go_moved : (first : Option Letter) → HoldsGo client log owner made holder id first → HoldsGo client log owner made
        (move holder sel new) id first
    go_moved None h = tt
    go_moved (Some l) h = letter_moved l h

    rest_moved : (p : Posting) (next : ℕ) → Stands log p → HoldsRest client log owner made holder id p next
        → HoldsRest client log owner made (move holder sel new) id p next
    rest_moved p next stands rest k o le at = stays (sent_as p.stamp.0 p.actor.0 k o) (suc id)
        (sent_there client log p k o stands at) (rest k o le at) apart

    taken_moved : (n : ℕ) (taken : Option Letter) → HoldsTaken client log owner made holder id n taken
        → HoldsTaken client log owner made (move holder sel new) id n taken
    taken_moved n None h = tt
    taken_moved n (Some l) h = (letter_moved l h.0, h.1)

    unsent_moved : (n : ℕ) (unsent : Option Posting) → HoldsUnsent client log owner made holder id n unsent
        → HoldsUnsent client log owner made (move holder sel new) id n unsent
    unsent_moved n None h = tt
    unsent_moved n (Some p) h = (h.0, h.1, rest_moved p 0 h.0 h.2)

    -- letters of another seat go to another seat, which changes nothing for this seat
    pub fits_moved : (v : View) → Fits client log owner made holder id v → Fits client log owner made
        (move holder sel new) id v
    fits_moved (Gathering m first seats receipts) f = (f.0, f.1, f.2, go_moved first f.3, f.4)
    fits_moved (Acting n own taken unsent) f = (f.0, f.1, f.2, taken_moved n taken f.3, unsent_moved n unsent f.4, f.5)
    fits_moved (Sending n own p next) f = (f.0, f.1, f.2, rest_moved p next f.1 f.3)
    fits_moved (Carrying l) f = letter_moved l f
    fits_moved Spent f = tt

-- one letter
abbrev pub is_id : LetterId → ℕ → ℕ → Bool
is_id i s p = eqb s i.stamp.0 && eqb p i.place

-- the letters of one posting
abbrev pub is_stamp : ℕ → ℕ → ℕ → Bool
is_stamp stamp s p = eqb s stamp

pub id_is : (i : LetterId) (s p : ℕ) → is_id i s p ≡ true → (s ≡ i.stamp.0) × (p ≡ i.place)
id_is i s p e = let both = and_parts (eqb s i.stamp.0) (eqb p i.place) e in (
  grind (arith, nat_tests, both.0),
  grind (arith, nat_tests, both.1),
)

pub id_here : (i : LetterId) → is_id i i.stamp.0 i.place ≡ true
id_here i = ap (λ b. b && eqb i.place i.place) (eq-eqb i.stamp.0 i.stamp.0 refl) ∙ eq-eqb i.place i.place refl

pub id_other_place : (i : LetterId) (s p : ℕ) → p ≢ i.place → is_id i s p ≡ false
id_other_place i s p ne = ap (λ b. eqb s i.stamp.0 && b) (ne_eqb p i.place ne) ∙ and-false (eqb s i.stamp.0)

pub id_other_stamp : (i : LetterId) (s p : ℕ) → s ≢ i.stamp.0 → is_id i s p ≡ false
id_other_stamp i s p ne = ap (λ b. b && eqb p i.place) (ne_eqb s i.stamp.0 ne)

pub stamp_is : (stamp s p : ℕ) → is_stamp stamp s p ≡ true → s ≡ stamp
stamp_is stamp s p e = grind (arith, nat_tests)

-- one letter that a seat holds is all of that seat's that goes
pub all_id : (client : ℕ) (log : List Posting) (holder : ℕ → ℕ → ℕ) (i : LetterId) (old : ℕ)
    → holder i.stamp.0 i.place ≡ old → AllOf client log holder (is_id i) old
all_id client log holder i old at l sent is =
    let same = id_is i l.id.stamp.0 l.id.place is in
    ap (λ (s : ℕ). holder s l.id.place) same.0 ∙ ap (λ (p : ℕ). holder i.stamp.0 p) same.1 ∙ at

-- no letter has a stamp above the clock
pub all_new : (client : ℕ) (log : List Posting) (holder : ℕ → ℕ → ℕ) (stamp old : ℕ) → length log < stamp
    → AllOf client log holder (is_stamp stamp) old
all_new client log holder stamp old above l sent is =
    let le = sent_before client log l sent in
    let same = stamp_is stamp l.id.stamp.0 l.id.place is in
    absurd (omega (arith, le, same, above))

-- a letter with the stamp of a posting of the log is one of that posting's
pub is_of_posting : (client : ℕ) (log : List Posting) (p : Posting) (l : Letter) → Stands log p → WasSent client log l
    → l.id.stamp.0 ≡ p.stamp.0
    → (o : Outgoing) × (slice_get p.sent l.id.place ≡ Some o)
is_of_posting client log p l stands (inl is) same =
    let zero_is : l.id.stamp.0 ≡ 0 = ap (λ (x : Letter). x.id.stamp.0) is in
    let at : p.stamp.0 ≡ stands.0 + 1 = stands.2 in
    absurd (omega (arith, zero_is, at, same))
is_of_posting client log p l stands (inr s) same =
    let at : s.0.stamp.0 ≡ s.1.0 + 1 = s.1.2 in
    let at' : p.stamp.0 ≡ stands.0 + 1 = stands.2 in
    let of : l.id.stamp.0 ≡ s.0.stamp.0 = id_stamp s.0 l s.2 in
    let place : s.1.0 ≡ stands.0 = omega (arith, at, at', of, same) in
    let one : s.0 ≡ p = same_there log s.1.0 stands.0 s.0 p place s.1.1 stands.1 in
    let is : find_id l.id (letters_sent p) ≡ Some l = subst (λ (x : Posting). find_id l.id (letters_sent x) ≡ Some l)
    one s.2 in
    let f = found p.stamp.0 p.actor.0 0 p.sent l.id l is in
    let there : f.at ≡ l.id.place = omega (arith, f.place) in
    (f.out, ap (slice_get p.sent) (sym there) ∙ f.here)

-- the letters of a posting, of which a seat has all
pub all_stamp : (client : ℕ) (log : List Posting) (owner : ℕ → ℕ) (made : ℕ) (holder : ℕ → ℕ → ℕ) (id : ℕ)
    (p : Posting) → Stands log p → HoldsRest client log owner made holder id p 0
    → AllOf client log holder (is_stamp p.stamp.0) (suc id)
all_stamp client log owner made holder id p stands rest l sent is =
    let same = stamp_is p.stamp.0 l.id.stamp.0 l.id.place is in
    let one = is_of_posting client log p l stands sent same in
    ap (λ (s : ℕ). holder s l.id.place) same ∙ rest l.id.place one.0 (omega arith) one.1
