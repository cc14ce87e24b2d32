-- What a worker has on its desk.
use Rattle.std.specs.Prelude.{◌≡◌, ℕ, List, [], ◌∷◌, ◌++◌, drop, replicate, slice_index_or, slice_set}
use Rattle.letter_types.specs.declared.entries.Letter.{Letter}
use Rattle.letter_types.specs.Postal.{letters_sent}
use Rattle.stamp_post.specs.Shown.{EnvelopeData, OutboxData, PostId, envelope_data}
use Rattle.actor_schedule.specs.declared.stop.InHand.{InHand}
use Rattle.actor_schedule.specs.declared.stop.InHand.TheVariants.{Unplaced}

-- a worker's desk: the messages in hand, and a tray for each actor with those that are to be put into its mailbox
pub record DeskData : Type 0 where
  pub hand : List EnvelopeData
  pub trays : List (List EnvelopeData)

abbrev pub desk_data : List EnvelopeData → List (List EnvelopeData) → DeskData
desk_data hand trays = record { hand = hand; trays = trays }

-- that many trays in which nothing lies
abbrev pub empty_trays : ℕ → List (List EnvelopeData)
empty_trays actors = replicate actors []

-- the trays with this message last in its addressee's
abbrev pub sorted_in : EnvelopeData → List (List EnvelopeData) → List (List EnvelopeData)
sorted_in e trays = slice_set trays e.letter.to.0 (slice_index_or trays e.letter.to.0 [] ++ e ∷ [])

-- the trays with these messages of a post sorted in, one after the other
abbrev pub all_sorted_in : PostId → List Letter → List (List EnvelopeData) → List (List EnvelopeData)
all_sorted_in post [] trays = trays
all_sorted_in post (l ∷ ls) trays = all_sorted_in post ls (sorted_in (envelope_data post l) trays)

-- the messages of an outbox that aren't out yet
abbrev pub left_in : OutboxData → List Letter
left_in o = drop o.next (letters_sent o.posting)

-- the messages that are held, those of an outbox that are left among them
abbrev pub letters_held : InHand → List Letter
letters_held (Unplaced e rest) = e.letter ∷ left_in rest
letters_held _ = []

-- what is held goes where it belongs: sorted in, it makes of the trays what all of these messages make of the old ones
abbrev pub WouldGo : PostId → List Letter → List (List EnvelopeData) → List (List EnvelopeData) → InHand → Type 0
WouldGo post letters old new held = all_sorted_in post (letters_held held) new ≡ all_sorted_in post letters old
