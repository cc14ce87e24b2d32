-- What the client does with a message, by what it hears from it. These are the definitions that private code alone cites.
use Rattle.std.specs.Prelude.{if◌then◌else◌, ℕ, Bool, nat_lt, length}
use Rattle.tv_base.specs.declared.numbers.Version.{Version}
use Rattle.tx_trees.specs.ScriptData.{ScriptData}
use Rattle.letter_types.specs.declared.bodies.Body.{Body}
use Rattle.letter_types.specs.declared.bodies.Body.TheVariants.{Go, Reply, Advanced, Ask, Wanted}
use Rattle.letter_types.specs.declared.entries.Outgoing.{Outgoing}
use Rattle.letter_types.specs.Steps.{Out, still}
use Rattle.world_model.specs.Client.{Client, client_finishes, next_after, submit, wanted}
use Rattle.tx_trees.specs.Counts.{is_lossy}
use Rattle.client_rows.specs.News.{client_with_news, sent_first}
use Rattle.client_rows.specs.declared.news.News.{News}
use Rattle.client_rows.specs.declared.news.News.TheVariants.{Begun, Answered, Ended, EndedTo}
use Rattle.client_rows.specs.declared.news.Heard.{Heard}
use Rattle.client_rows.specs.declared.news.Heard.TheVariants.{Nothing, Told, Asked}

-- what the end of an advancement tells, which comes with this version
abbrev pub news_of_end : ScriptData → Version → News
news_of_end s v = if is_lossy s then EndedTo v else Ended

-- what the client of a script hears from a message of this body
abbrev pub heard_of : ScriptData → Body → Heard
heard_of s Go = Told Begun
heard_of s (Reply t v answer) = if nat_lt t.0 (length s.trees) then Told (Answered t) else Nothing
heard_of s (Advanced v) = Told (news_of_end s v)
heard_of s (Ask e) = if is_lossy s then Asked e else Nothing
heard_of s _ = Nothing

-- at news the client submits what it may
abbrev pub submit_at : ScriptData → News → Client → Out Client
submit_at s news c = submit s (client_with_news news c) (sent_first s news)

-- with the news, and all submitted that may be, the client finishes
abbrev pub finishes_with_news : ScriptData → News → Client → Bool
finishes_with_news s news c =
    client_finishes s (next_after s (client_with_news news c)) (client_with_news news c)

-- the answer to a coordinator that has forgotten: how many advancements the client asked for
abbrev pub wanted_letter : ScriptData → ℕ → ℕ → Outgoing
wanted_letter s e asked = record { to = record { 0 = s.nodes }; body = Wanted e asked }

-- what it does with what it hears
abbrev pub heard_row : ScriptData → Client → Heard → Out Client
heard_row s c Nothing = still c
heard_row s c (Told news) = submit_at s news c
heard_row s c (Asked e) = wanted s e c
