-- The messages that lie in a mailbox, what is taken out of it, and what goes into a worker's hand.
use Rattle.std.specs.Prelude.{Bool, true, false, List, [], ◌∷◌, ◌++◌, Option, drop, slice_get}
use Rattle.stamp_post.specs.Shown.{EnvelopeData}

-- an actor's mailbox: what a worker gave back, what came since, and whether the actor is ready or a worker has it
pub record MailboxData : Type 0 where
  pub older : List EnvelopeData
  pub newer : List EnvelopeData
  pub attended : Bool

abbrev pub mailbox_data : List EnvelopeData → List EnvelopeData → Bool → MailboxData
mailbox_data older newer attended = record { older = older; newer = newer; attended = attended }

-- all messages of a mailbox, the oldest first
abbrev pub letters_in : MailboxData → List EnvelopeData
letters_in m = m.older ++ m.newer

-- the oldest message of a mailbox: the first of those given back, or else of those that came since
abbrev pub oldest : MailboxData → Option EnvelopeData
oldest m = slice_get (letters_in m) 0

-- the mailbox with these messages last, and attended to
abbrev pub with_newer : List EnvelopeData → MailboxData → MailboxData
with_newer es m = mailbox_data m.older (m.newer ++ es) true

-- the mailbox without its oldest message, attended to if there was one
abbrev pub without_oldest : MailboxData → MailboxData
without_oldest m = without m.older m.newer where
  without : List EnvelopeData → List EnvelopeData → MailboxData
  without [] [] = mailbox_data [] [] false
  without [] (e ∷ es) = mailbox_data [] es true
  without (e ∷ es) newer = mailbox_data es newer true

-- what goes into the hand: the messages behind the oldest, of those given back if it is one of these, or else of those
-- that came since
abbrev pub behind_oldest : MailboxData → List EnvelopeData
behind_oldest m = behind m.older m.newer where
  behind : List EnvelopeData → List EnvelopeData → List EnvelopeData
  behind [] newer = drop 1 newer
  behind (e ∷ es) _ = es

-- what stays: the hand, which was empty, lies where the messages were that went into it; attended to if a message came
abbrev pub after_hand : List EnvelopeData → MailboxData → MailboxData
after_hand hand m = after m.older m.newer where
  after : List EnvelopeData → List EnvelopeData → MailboxData
  after [] [] = mailbox_data [] hand false
  after [] (e ∷ es) = mailbox_data [] hand true
  after (e ∷ es) newer = mailbox_data hand newer true
