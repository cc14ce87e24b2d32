-- The messages and acts of a history, in order.
use Rattle.std.specs.Prelude.{ℕ, ◌+◌, List, [], ◌∷◌, ◌++◌, length}
use Rattle.std.specs.List.{flat_map}
use Rattle.tv_base.specs.declared.numbers.ActorNo.{ActorNo}
use Rattle.letter_types.specs.declared.acts.Act.{Act}
use Rattle.letter_types.specs.declared.entries.Entry.{Entry}
use Rattle.letter_types.specs.declared.entries.Letter.{Letter}
use Rattle.letter_types.specs.declared.entries.Outgoing.{Outgoing}
use Rattle.letter_types.specs.Letters.{letters_of}

-- what a message says and to whom
abbrev pub outgoing_of : Letter → Outgoing
outgoing_of l = record { to = l.to; body = l.body }

-- all messages that entries sent, each with its id
abbrev pub messages_of : List Entry → List Letter
messages_of es = flat_map letters_of es

-- all acts of entries
abbrev pub acts_of : List Entry → List Act
acts_of es = flat_map (λ e. e.acts) es

-- the entry behind n others, of an actor that took a message, sent these and did these
abbrev pub entry_behind : ℕ → ActorNo → Letter → List Outgoing → List Act → Entry
entry_behind n actor l sent acts = record { stamp = record { 0 = n + 1 }; actor = actor; took = l; sent = sent; acts = acts }

-- these entries, and behind them that of an actor that took a message, sent these and did these
abbrev pub entries_then : List Entry → ActorNo → Letter → List Outgoing → List Act → List Entry
entries_then es actor l sent acts = es ++ entry_behind (length es) actor l sent acts ∷ []
