-- The line that begins an entry, and the lines of letters and acts, word by word.
use Rattle.std.specs.Prelude.{ℕ, List, [], ◌∷◌, ◌++◌, codes, decimal}
use Rattle.letter_types.specs.declared.acts.Act.{Act}
use Rattle.letter_types.specs.declared.entries.LetterId.{LetterId}
use Rattle.letter_types.specs.declared.entries.Outgoing.{Outgoing}
use Rattle.tx_trees.specs.ScriptData.{ScriptData}
use Rattle.history_text.specs.TreeNames.{actor_text}
use Rattle.history_text.specs.Printable.{IsActor, IsHalfWord, IsWord}
use Rattle.history_reader.specs.declared.heads.Head.{Head}
use Rattle.history_reader.specs.inside.BodyWords.{act_words, body_words}

-- a letter's id: a stamp and a place
abbrev pub id_word : LetterId → List ℕ
id_word id = decimal id.stamp.0 ++ (codes "." ++ decimal id.place)

abbrev pub IsId : LetterId → Type 0
IsId id = IsWord id.stamp.0 × IsHalfWord id.place

abbrev pub head_words : ScriptData → Head → List (List ℕ)
head_words s h =
    codes "entry" ∷ decimal h.stamp.0 ∷ actor_text s h.actor.0 ∷ codes "took" ∷ id_word h.took ∷ []

abbrev pub IsHead : ScriptData → Head → Type 0
IsHead s h = IsWord h.stamp.0 × IsActor s h.actor.0 × IsId h.took

abbrev pub sent_words : ScriptData → Outgoing → List (List ℕ)
sent_words s o = codes "sent" ∷ actor_text s o.to.0 ∷ body_words s o.body

abbrev pub act_line_words : ScriptData → Act → List (List ℕ)
act_line_words s a = codes "act" ∷ act_words s a
