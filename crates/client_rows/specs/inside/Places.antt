-- How far the client is among the rows. These are the definitions that private code alone cites.
use Rattle.std.specs.Prelude.{ℕ, Bool, false, ◌+◌, not, List, take, drop, ◌==◌, ◌&&◌, nat_le}
use Rattle.tx_trees.specs.Adding.{advances_in}
use Rattle.tx_trees.specs.declared.parts.ScriptRow.{ScriptRow}
use Rattle.tx_trees.specs.declared.parts.ScriptRow.TheVariants.{Tree as TreeRow, Settle as SettleRow}
use Rattle.world_model.specs.Client.{Client, submitted}
use Rattle.client_rows.specs.Kept.{trees_in, unanswered_in}
use Rattle.client_rows.specs.News.{answered_after, ended_after}
use Rattle.client_rows.specs.declared.news.News.{News}
use Rattle.client_rows.specs.declared.places.RowPlace.{RowPlace}

-- all that was submitted up to a place has ended
abbrev pub is_over : RowPlace → ℕ → Bool
is_over at ended = (at.unanswered == 0) && nat_le at.asked ended

-- the place with this many rows submitted and these transactions answered
abbrev pub place_at : List ScriptRow → List Bool → ℕ → RowPlace
place_at rows answered next = record {
  next = next;
  sent = trees_in (take next rows);
  unanswered = unanswered_in answered (take next rows);
  asked = advances_in (take next rows);
}

-- whether the client waits at a row: at a settle row, until all before it has ended
abbrev pub waits : RowPlace → ℕ → ScriptRow → Bool
waits at ended (TreeRow t) = false
waits at ended SettleRow = not (is_over at ended)
waits at ended _ = false

-- a state that knows these transactions answered and this many advancements ended
abbrev pub knowing : List Bool → ℕ → Client
knowing answered ended = record { next = 0; answered = answered; ended = ended; finished = false }

-- how many rows are submitted in the end, if `next` are by now
abbrev pub furthest : List Bool → ℕ → List ScriptRow → ℕ → ℕ
furthest answered ended rows next = next + submitted (knowing answered ended) (take next rows) (drop next rows)

-- the place with as many rows submitted as are in the end, if `next` are by now
abbrev pub furthest_place : List ScriptRow → List Bool → ℕ → ℕ → RowPlace
furthest_place rows answered ended next = place_at rows answered (furthest answered ended rows next)

-- the place after the last row that the client may submit once it has the news
abbrev pub place_reached : List ScriptRow → News → Client → RowPlace
place_reached rows news c =
    furthest_place rows (answered_after news c.answered) (ended_after news c.ended) c.next
