-- Postings of a log that went as letters do, and such a log with one posting more.
use Rattle.std.proofs.Common.{◌≡◌, ◌≢◌, ◌⊎◌, inl, inr, ℕ, ◌+◌, ◌<◌, ◌≤◌, List, [], ◌∷◌, ◌++◌, length, ap, subst, arith, Some}
use Rattle.std.specs.Prelude.{slice_get}
use Rattle.std.proofs.lemmas.Option.{slice_get_within}
use Rattle.tv_base.proofs.ByPlace.{slice_get_last, slice_get_left, slice_get_split}
use Rattle.letter_types.specs.declared.entries.Letter.{Letter}
use Rattle.letter_types.specs.declared.entries.Posting.{Posting}
use Rattle.letter_types.specs.Letters.{find_id, go}
use Rattle.letter_types.specs.Postal.{IsMessageRun, letters_sent}
use Rattle.letter_types.proofs.Ids.{id_stamp}

-- Go, or what a posting of the log sent under its id
abbrev pub CameFrom : ℕ → List Posting → Letter → Type 0
CameFrom client log l = (l ≡ go client)
    ⊎ ((j : ℕ) × (f : Posting) × (slice_get log j ≡ Some f) × (f.stamp.0 ≡ j + 1) × (find_id l.id (letters_sent f) ≡ Some l))

-- what the last posting took came from those before it
came_by : (client : ℕ) (log : List Posting) (p : Posting) → IsMessageRun client (log ++ p ∷ [])
    → (p.took ≡ go client) ⊎ ((j : ℕ) × (f : Posting) × (j < length log) × (slice_get (log ++ p ∷ []) j ≡ Some f)
    × (find_id p.took.id (letters_sent f) ≡ Some p.took))
    → CameFrom client log p.took
came_by client log p post (inl is) = inl is
came_by client log p post (inr (j, f, lt, at, found)) = elim (slice_get_split log p j f at) [
  | inl t ↦ inr (j, f, t.1, post.stamps j f at, found)
  | inr t ↦ absurd (omega (arith, lt, t.0))
]

pub came : (client : ℕ) (log : List Posting) (p : Posting) → IsMessageRun client (log ++ p ∷ []) → CameFrom client log p.took
came client log p post = came_by client log p post (post.sent (length log) p (slice_get_last log p))

-- a letter was sent before it was taken, so its stamp is no greater than the place
pub took_stamp : (client : ℕ) (log : List Posting) (k : ℕ) (p : Posting) → IsMessageRun client log → slice_get log k ≡ Some p
    → p.took.id.stamp.0 ≤ k
took_stamp client log k p post at = by (post.sent k p at)
  where
    by : (p.took ≡ go client) ⊎ ((j : ℕ) × (f : Posting) × (j < k) × (slice_get log j ≡ Some f)
        × (find_id p.took.id (letters_sent f) ≡ Some p.took)) → p.took.id.stamp.0 ≤ k
    by (inl is) =
        let first : p.took.id.stamp.0 ≡ 0 = ap (λ (x : Letter). x.id.stamp.0) is in
        omega (arith, first)
    by (inr (j, f, lt, there, found)) = omega (arith, lt, id_stamp f p.took found, post.stamps j f there)

-- a log with one posting more
module _ (client : ℕ) (log : List Posting) (p : Posting) (old : IsMessageRun client log)
    (stamped : p.stamp.0 ≡ length log + 1) (from : CameFrom client log p.took)
    (first : (k : ℕ) (d : Posting) → slice_get log k ≡ Some d → d.took.id ≢ p.took.id)
    (addressed : p.took.to.0 ≡ p.actor.0) (known : p.actor.0 < client + 1) where
  abbrev WasSentBy : List Posting → ℕ → Posting → Type 0
  WasSentBy h k e = (e.took ≡ go client) ⊎ ((j : ℕ) × (f : Posting) × (j < k) × (slice_get h j ≡ Some f)
      × (find_id e.took.id (letters_sent f) ≡ Some e.took))

  sent_then : (k : ℕ) (e : Posting) → WasSentBy log k e → WasSentBy (log ++ p ∷ []) k e
  sent_then k e (inl is) = inl is
  sent_then k e (inr (j, f, lt, at, found)) = inr (j, f, lt, slice_get_left log (p ∷ []) j f at, found)

  sent_now : (k : ℕ) → k ≡ length log → CameFrom client log p.took → WasSentBy (log ++ p ∷ []) k p
  sent_now k here (inl is) = inl is
  sent_now k here (inr (j, f, at, stamp, found)) =
      let within : j < length log = slice_get_within log j f at in
      inr (j, f, omega (arith, within, here), slice_get_left log (p ∷ []) j f at, found)

  pub postal_more : IsMessageRun client (log ++ p ∷ [])
  postal_more = record {
    stamps = λ k e at. elim (slice_get_split log p k e at) [
      | inl t ↦ old.stamps k e t.1
      | inr t ↦ subst (λ (x : Posting). x.stamp.0 ≡ k + 1) t.1 (omega (arith, stamped, t.0))
    ];
    sent = λ k e at. elim (slice_get_split log p k e at) [
      | inl t ↦ sent_then k e (old.sent k e t.1)
      | inr t ↦ subst (λ (x : Posting). WasSentBy (log ++ p ∷ []) k x) t.1 (sent_now k t.0 from)
    ];
    once = λ j k d e lt at at'. elim (slice_get_split log p k e at') [
      | inl t' ↦ elim (slice_get_split log p j d at) [
        | inl t ↦ old.once j k d e lt t.1 t'.1
        | inr t ↦ absurd (omega (arith, lt, t.0, t'.0))
      ]
      | inr t' ↦ elim (slice_get_split log p j d at) [
        | inl t ↦ subst (λ (x : Posting). d.took.id ≢ x.took.id) t'.1 (first j d t.1)
        | inr t ↦ absurd (omega (arith, lt, t.0, t'.0))
      ]
    ];
    addressee = λ k e at. elim (slice_get_split log p k e at) [
      | inl t ↦ old.addressee k e t.1
      | inr t ↦ subst (λ (x : Posting). x.took.to.0 ≡ x.actor.0) t.1 addressed
    ];
    known = λ k e at. elim (slice_get_split log p k e at) [
      | inl t ↦ old.known k e t.1
      | inr t ↦ subst (λ (x : Posting). x.actor.0 < client + 1) t.1 known
    ];
  }
