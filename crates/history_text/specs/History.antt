-- The lines of a history: a function of the script and the history.
use Rattle.std.specs.Prelude.{ℕ, List, ◌++◌, codes, flat_map}
use Rattle.letter_types.specs.declared.acts.Act.{Act}
use Rattle.letter_types.specs.declared.entries.Entry.{Entry}
use Rattle.letter_types.specs.declared.entries.LetterId.{LetterId}
use Rattle.letter_types.specs.declared.entries.Outgoing.{Outgoing}
use Rattle.tx_trees.specs.ScriptData.{ScriptData}
use Rattle.history_text.specs.Values.{count_text}
use Rattle.history_text.specs.LineParts.{act_parts, body_parts, parts_text}
use Rattle.history_text.specs.TreeNames.{actor_text}

-- the message that was taken, by the stamp of the entry that sent it and its place there
abbrev pub took_text : LetterId → List ℕ
took_text id = count_text (codes " took ") id.stamp.0 ++ count_text (codes ".") id.place

abbrev pub entry_line : ScriptData → Entry → List ℕ
entry_line s e =
    count_text (codes "entry ") e.stamp.0
    ++ (codes " " ++ (actor_text s e.actor.0 ++ (took_text e.took.id ++ codes "\n")))

abbrev pub sent_line : ScriptData → Outgoing → List ℕ
sent_line s o = codes "sent " ++ (actor_text s o.to.0 ++ (parts_text s (body_parts o.body) ++ codes "\n"))

abbrev pub act_line : ScriptData → Act → List ℕ
act_line s a = codes "act" ++ (parts_text s (act_parts a) ++ codes "\n")

abbrev pub sent_lines : ScriptData → List Outgoing → List ℕ
sent_lines s os = flat_map (sent_line s) os

abbrev pub act_lines : ScriptData → List Act → List ℕ
act_lines s acts = flat_map (act_line s) acts

-- an entry, the messages that it sent, and what it did beside
abbrev pub entry_lines : ScriptData → Entry → List ℕ
entry_lines s e = entry_line s e ++ (sent_lines s e.sent ++ act_lines s e.acts)

-- the lines of all entries, in order
abbrev pub history_lines_of : ScriptData → List Entry → List ℕ
history_lines_of s h = flat_map (entry_lines s) h
