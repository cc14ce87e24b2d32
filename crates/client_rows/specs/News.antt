-- News, and what the client knows then.
use Rattle.std.specs.Prelude.{ℕ, Bool, true, ◌+◌, ◌-◌, ◌^◌, max, min, List, [], ◌∷◌, slice_set}
use Rattle.tx_trees.specs.ScriptData.{ScriptData}
use Rattle.letter_types.specs.declared.entries.Outgoing.{Outgoing}
use Rattle.world_model.specs.Client.{Client, nudge}
use Rattle.client_rows.specs.declared.news.News.{News}
use Rattle.client_rows.specs.declared.news.News.TheVariants.{Answered, Ended, EndedTo}

-- which transactions are answered then
abbrev pub answered_after : News → List Bool → List Bool
answered_after (Answered t) answered = slice_set answered t.0 true
answered_after Ended answered = answered
answered_after _ answered = answered

-- how many advancements have ended then
abbrev pub ended_after : News → ℕ → ℕ
ended_after (Answered t) ended = ended
ended_after Ended ended = min (ended + 1) (2 ^ 64 - 1)
ended_after (EndedTo v) ended = max ended v.0
ended_after _ ended = ended

-- the client's state with the news, before it submits
abbrev pub client_with_news : News → Client → Client
client_with_news news c = record c { answered = answered_after news c.answered; ended = ended_after news c.ended }

-- what is sent before the rows
abbrev pub sent_first : ScriptData → News → List Outgoing
sent_first s (Answered t) = nudge s ∷ []
sent_first s Ended = []
sent_first s _ = []
