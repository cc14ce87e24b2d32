-- What is left of the letters of a history: one entry more takes one of them away and adds its own.
use Rattle.std.proofs.Common.{◌≡◌, ◌≢◌, ◌==◌, ℕ, zero, suc, ◌+◌, ◌-◌, ◌≤◌, Bool, true, false, List, [], ◌∷◌, ◌++◌, length, refl, sym, ap, ◌∙◌, arith, Some}
use Rattle.std.specs.Prelude.{if◌then◌else◌, slice_get}
use Rattle.std.specs.Option.{option_map}
use Rattle.std.proofs.lemmas.Bool.Decides.{nat_tests}
use Rattle.letter_types.specs.declared.bodies.Body.TheVariants.{Go}
use Rattle.letter_types.specs.declared.entries.Entry.{Entry}
use Rattle.letter_types.specs.declared.entries.LetterId.{LetterId}
use Rattle.letter_types.specs.declared.entries.Outgoing.{Outgoing}
use Rattle.letter_types.specs.Letters.{same_id}
use Rattle.history_reader.specs.declared.in_flight.Sender.{Sender}
use Rattle.history_reader.specs.Walks.{id_at, left_at, letter_left, letters_left, senders_from, was_taken}
use Rattle.history_reader.specs.inside.Finding.{left_without, left_without_if, spent_at, spent_by}
use Rattle.history_reader.proofs.Ids.{other_place, other_stamp, taken_last, taken_others}

-- what is left of what an entry of this stamp sent
abbrev pub sender_of : List Entry → ℕ → Entry → Sender
sender_of h stamp e = record { from = e.actor; sent = left_at h stamp 0 e.sent }

-- by places
pub left_place : (h : List Entry) (stamp place d : ℕ) (os : List Outgoing)
    → slice_get (left_at h stamp place os) d ≡ option_map (letter_left h stamp (place + d)) (slice_get os d)
left_place h stamp place d [] = refl
left_place h stamp place zero (o ∷ os) =
    let here : place ≡ place + 0 = omega arith in
    ap (λ (p : ℕ). Some (letter_left h stamp p o)) here
left_place h stamp place (suc d) (o ∷ os) =
    let here : (place + 1) + d ≡ place + suc d = omega arith in
    left_place h stamp (place + 1) d os ∙ ap (λ (p : ℕ). option_map (letter_left h stamp p) (slice_get os d)) here

pub sender_place : (h : List Entry) (stamp k : ℕ) (es : List Entry)
    → slice_get (senders_from h stamp es) k ≡ option_map (sender_of h (stamp + k)) (slice_get es k)
sender_place h stamp k [] = refl
sender_place h stamp zero (e ∷ es) =
    let here : stamp ≡ stamp + 0 = omega arith in
    ap (λ (n : ℕ). Some (sender_of h n e)) here
sender_place h stamp (suc k) (e ∷ es) =
    let here : (stamp + 1) + k ≡ stamp + suc k = omega arith in
    sender_place h (stamp + 1) k es ∙ ap (λ (n : ℕ). option_map (sender_of h n) (slice_get es k)) here

pub senders_count : (h : List Entry) (stamp : ℕ) (es : List Entry) → length (senders_from h stamp es) ≡ length es
senders_count h stamp [] = refl
senders_count h stamp (e ∷ es) = ap suc (senders_count h (stamp + 1) es)

-- letters of which none was taken
pub none_spent : (h : List Entry) (stamp place : ℕ) (os : List Outgoing)
    → ((p : ℕ) → was_taken (id_at stamp p) h ≡ false) → left_at h stamp place os ≡ os
none_spent h stamp place [] none = refl
none_spent h stamp place (o ∷ os) none =
    let first : letter_left h stamp place o ≡ o =
    ap (λ (b : Bool). record { to = o.to; body = (if b then Go else o.body) }) (none place) in
    let rest : left_at h stamp (place + 1) os ≡ os = none_spent h stamp (place + 1) os none in
    λ i. first i ∷ rest i

-- two histories in which the same letters were taken, from a place or a stamp on
same_left : (h g : List Entry) (stamp place : ℕ) (os : List Outgoing)
    → ((p : ℕ) → place ≤ p → was_taken (id_at stamp p) g ≡ was_taken (id_at stamp p) h)
    → left_at g stamp place os ≡ left_at h stamp place os
same_left h g stamp place [] same = refl
same_left h g stamp place (o ∷ os) same =
    let first : letter_left g stamp place o ≡ letter_left h stamp place o =
    ap (λ (b : Bool). record { to = o.to; body = (if b then Go else o.body) }) (same place (omega arith)) in
    let rest : left_at g stamp (place + 1) os ≡ left_at h stamp (place + 1) os =
    same_left h g stamp (place + 1) os (λ p le. same p (omega (arith, le))) in
    λ i. first i ∷ rest i

same_senders : (h g : List Entry) (stamp : ℕ) (es : List Entry)
    → ((n p : ℕ) → stamp ≤ n → was_taken (id_at n p) g ≡ was_taken (id_at n p) h)
    → senders_from g stamp es ≡ senders_from h stamp es
same_senders h g stamp [] same = refl
same_senders h g stamp (e ∷ es) same =
    let first : left_at g stamp 0 e.sent ≡ left_at h stamp 0 e.sent =
    same_left h g stamp 0 e.sent (λ p le. same stamp p (omega arith)) in
    let rest : senders_from g (stamp + 1) es ≡ senders_from h (stamp + 1) es =
    same_senders h g (stamp + 1) es (λ n p le. same n p (omega (arith, le))) in
    λ i. record { from = e.actor; sent = first i } ∷ rest i

-- two of which the second has one letter taken more
module _ (id : LetterId) (h g : List Entry) (has : was_taken id g ≡ true)
    (others : (other : LetterId) → same_id id other ≡ false → was_taken other g ≡ was_taken other h) where
  spent_left : (stamp place d : ℕ) (os : List Outgoing) → id.stamp.0 ≡ stamp → id.place ≡ place + d
      → left_at g stamp place os ≡ spent_at d (left_at h stamp place os)
  spent_left stamp place d [] at here = by d
    where
      by : (d : ℕ) → [] ≡ spent_at d []
      by zero = refl
      by (suc d) = refl
  spent_left stamp place zero (o ∷ os) at here =
      let same_place : id.place ≡ place = omega (arith, here) in
      let own : id ≡ id_at stamp place = λ i. record { stamp = record { 0 = at i }; place = same_place i } in
      let first : letter_left g stamp place o ≡ record { to = o.to; body = Go } =
      ap (λ (b : Bool). record { to = o.to; body = (if b then Go else o.body) }) (ap (λ (x : LetterId). was_taken x g) (sym own) ∙ has) in
      let rest : left_at g stamp (place + 1) os ≡ left_at h stamp (place + 1) os =
      same_left h g stamp (place + 1) os (λ p le. others (id_at stamp p) (other_place id stamp p (λ is. omega (arith, is, le, same_place)))) in
      λ i. first i ∷ rest i
  spent_left stamp place (suc d) (o ∷ os) at here =
      let ne : id.place ≢ place = λ is. omega (arith, is, here) in
      let first : letter_left g stamp place o ≡ letter_left h stamp place o =
      ap (λ (b : Bool). record { to = o.to; body = (if b then Go else o.body) }) (others (id_at stamp place) (other_place id stamp place ne)) in
      let rest : left_at g stamp (place + 1) os ≡ spent_at d (left_at h stamp (place + 1) os) =
      spent_left stamp (place + 1) d os at (omega (arith, here)) in
      λ i. first i ∷ rest i

  spent_senders : (stamp k : ℕ) (es : List Entry) → id.stamp.0 ≡ stamp + k
      → senders_from g stamp es ≡ spent_by k id.place (senders_from h stamp es)
  spent_senders stamp k [] at = by k
    where
      by : (k : ℕ) → [] ≡ spent_by k id.place []
      by zero = refl
      by (suc k) = refl
  spent_senders stamp zero (e ∷ es) at =
      let same_stamp : id.stamp.0 ≡ stamp = omega (arith, at) in
      let first : left_at g stamp 0 e.sent ≡ spent_at id.place (left_at h stamp 0 e.sent) =
      spent_left stamp 0 id.place e.sent same_stamp (omega arith) in
      let rest : senders_from g (stamp + 1) es ≡ senders_from h (stamp + 1) es =
      same_senders h g (stamp + 1) es (λ n p le. others (id_at n p) (other_stamp id n p (λ is. omega (arith, is, le, same_stamp)))) in
      λ i. record { from = e.actor; sent = first i } ∷ rest i
  spent_senders stamp (suc k) (e ∷ es) at =
      let ne : id.stamp.0 ≢ stamp = λ is. omega (arith, is, at) in
      let first : left_at g stamp 0 e.sent ≡ left_at h stamp 0 e.sent =
      same_left h g stamp 0 e.sent (λ p le. others (id_at stamp p) (other_stamp id stamp p ne)) in
      let rest : senders_from g (stamp + 1) es ≡ spent_by k id.place (senders_from h (stamp + 1) es) =
      spent_senders (stamp + 1) k es (omega (arith, at)) in
      λ i. record { from = e.actor; sent = first i } ∷ rest i

senders_more : (h : List Entry) (stamp : ℕ) (es : List Entry) (e : Entry)
    → senders_from h stamp (es ++ e ∷ []) ≡ senders_from h stamp es ++ sender_of h (stamp + length es) e ∷ []
senders_more h stamp [] e =
    let here : stamp ≡ stamp + 0 = omega arith in
    ap (λ (n : ℕ). sender_of h n e ∷ []) here
senders_more h stamp (d ∷ es) e =
    let here : (stamp + 1) + length es ≡ stamp + suc (length es) = omega arith in
    ap (λ (xs : List Sender). sender_of h stamp d ∷ xs)
    (senders_more h (stamp + 1) es e ∙ ap (λ (n : ℕ). senders_from h (stamp + 1) es ++ sender_of h n e ∷ []) here)

-- what is left behind one entry more
module _ (h : List Entry) (e : Entry) where
  only_taken : (other : LetterId) → same_id e.took.id other ≡ false → was_taken other (h ++ e ∷ []) ≡ was_taken other h
  only_taken other ne = taken_others h e other ne

  pub begun_more : (e.took.id.stamp.0 ≡ 0 → e.took.id.place ≡ 0)
      → was_taken (id_at 0 0) (h ++ e ∷ []) ≡ (left_without e.took.id (letters_left h)).begun
  begun_more first = by (e.took.id.stamp.0 == 0) refl
    where
      by : (b : Bool) → (e.took.id.stamp.0 == 0) ≡ b
          → was_taken (id_at 0 0) (h ++ e ∷ []) ≡ (left_without_if b e.took.id (letters_left h)).begun
      by true is =
          let stamp : e.took.id.stamp.0 ≡ 0 = grind (arith, nat_tests) in
          let place : e.took.id.place ≡ 0 = first stamp in
          let own : e.took.id ≡ id_at 0 0 = λ i. record { stamp = record { 0 = stamp i }; place = place i } in
          ap (λ (x : LetterId). was_taken x (h ++ e ∷ [])) (sym own) ∙ taken_last h e
      by false is =
          let ne : e.took.id.stamp.0 ≢ 0 = grind (arith, nat_tests) in
          only_taken (id_at 0 0) (other_stamp e.took.id 0 0 ne)

  kept_more : senders_from (h ++ e ∷ []) 1 h ≡ (left_without e.took.id (letters_left h)).senders
  kept_more = by (e.took.id.stamp.0 == 0) refl
    where
      by : (b : Bool) → (e.took.id.stamp.0 == 0) ≡ b
          → senders_from (h ++ e ∷ []) 1 h ≡ (left_without_if b e.took.id (letters_left h)).senders
      by true is =
          let stamp : e.took.id.stamp.0 ≡ 0 = grind (arith, nat_tests) in
          same_senders h (h ++ e ∷ []) 1 h
          (λ n p le. only_taken (id_at n p) (other_stamp e.took.id n p (λ same. omega (arith, same, le, stamp))))
      by false is =
          let ne : e.took.id.stamp.0 ≢ 0 = grind (arith, nat_tests) in
          spent_senders e.took.id h (h ++ e ∷ []) (taken_last h e) only_taken 1 (e.took.id.stamp.0 - 1) h (omega (arith, ne))

  pub senders_left : ((p : ℕ) → was_taken (id_at (length h + 1) p) (h ++ e ∷ []) ≡ false)
      → senders_from (h ++ e ∷ []) 1 (h ++ e ∷ []) ≡ (left_without e.took.id (letters_left h)).senders ++ record { from = e.actor; sent = e.sent } ∷ []
  senders_left fresh =
      let here : 1 + length h ≡ length h + 1 = omega arith in
      let own : left_at (h ++ e ∷ []) (1 + length h) 0 e.sent ≡ e.sent =
      ap (λ (n : ℕ). left_at (h ++ e ∷ []) n 0 e.sent) here ∙ none_spent (h ++ e ∷ []) (length h + 1) 0 e.sent fresh in
      let last : sender_of (h ++ e ∷ []) (1 + length h) e ≡ record { from = e.actor; sent = e.sent } =
      λ i. record { from = e.actor; sent = own i } in
      senders_more (h ++ e ∷ []) 1 h e
      ∙ (λ i. kept_more i ++ last i ∷ [])
