-- What a worker has in hand when it stops.
use Rattle.std.specs.Prelude.{◌≡◌, ◌+◌, ◌⊎◌, ℕ, slice_get, Some}
use Rattle.letter_types.specs.declared.entries.Posting.{Posting}
use Rattle.letter_types.specs.Postal.{letters_sent}
use Rattle.stamp_post.specs.Shown.{EnvelopeData, PostId}
use Rattle.actor_schedule.specs.declared.stop.InHand.{InHand}
use Rattle.actor_schedule.specs.declared.stop.InHand.TheVariants.{Undelivered, Unplaced}

-- a message of the posting is held, and the outbox with all after it
abbrev pub KeepsRest : PostId → Posting → InHand → Type 0
KeepsRest post p (Unplaced e rest) =
    (e.post ≡ post) × (rest.post ≡ post) × (rest.posting ≡ p)
    × ((place : ℕ) × (slice_get (letters_sent p) place ≡ Some e.letter) × (rest.next ≡ place + 1))
KeepsRest post p _ = ⊥

-- the envelope itself is held, or what is left of the posting that took its message
abbrev pub KeepsLetter : PostId → EnvelopeData → InHand → Type 0
KeepsLetter post e held = (held ≡ Undelivered e) ⊎ ((p : Posting) × (p.took ≡ e.letter) × KeepsRest post p held)
