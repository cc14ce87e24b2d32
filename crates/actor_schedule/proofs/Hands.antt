-- What goes into a worker's hand, also if a mailbox has no message.
use Rattle.std.proofs.Common.{◌≡◌, Bool, List, [], ◌∷◌, ◌++◌, refl}
use Rattle.std.specs.Prelude.{IsNone, slice_get}
use Rattle.stamp_post.specs.Shown.{EnvelopeData}
use Rattle.actor_schedule.specs.Mailboxes.{MailboxData, behind_oldest, mailbox_data, oldest}

behind_none : (older newer : List EnvelopeData) (b : Bool) → IsNone (slice_get (older ++ newer) 0) → behind_oldest (mailbox_data older newer b) ≡ []
behind_none [] [] b none = refl
behind_none [] (e ∷ es) b none = absurd (cc none)
behind_none (e ∷ es) newer b none = absurd (cc none)

-- where there is no letter, nothing goes into the hand
pub nothing_behind : (m : MailboxData) → IsNone (oldest m) → behind_oldest m ≡ []
nothing_behind m none = behind_none m.older m.newer m.attended none
