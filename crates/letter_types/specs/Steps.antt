-- What an actor makes of a message.
use Rattle.std.specs.Prelude.{List, []}
use Rattle.letter_types.specs.declared.acts.Act.{Act}
use Rattle.letter_types.specs.declared.entries.Outgoing.{Outgoing}
use Rattle.letter_types.specs.declared.entries.StepOut.{StepOut}

-- its state after the message, the messages that it sends and its acts
pub record Out (St : Type 0) : Type 0 where
  pub state : St
  pub sent : List Outgoing
  pub acts : List Act

-- any other message changes and sends nothing
abbrev pub still : {St : Type 0} → St → Out St
still st = record { state = st; sent = []; acts = [] }

-- a state and what goes out, as a table's row
abbrev pub made : {St : Type 0} → St → StepOut → Out St
made st out = record { state = st; sent = out.sent; acts = out.acts }
