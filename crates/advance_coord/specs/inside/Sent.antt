-- What goes out if an actor doesn't act. These are the definitions that private code alone cites.
use Rattle.std.specs.Prelude.{List, []}
use Rattle.letter_types.specs.declared.entries.Outgoing.{Outgoing}
use Rattle.letter_types.specs.declared.entries.StepOut.{StepOut}

-- these messages, and no act
abbrev pub letters_alone : List Outgoing → StepOut
letters_alone sent = record { sent = sent; acts = [] }
