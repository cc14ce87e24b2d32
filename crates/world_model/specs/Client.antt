-- The client's table.
use Rattle.std.specs.Prelude.{if◌then◌else◌, ℕ, Bool, true, false, not, ◌==◌, ◌&&◌, ◌||◌, ◌+◌, ◌-◌, ◌^◌, max, min, nat_le, nat_lt, List, [], ◌∷◌, ◌++◌, length, take, drop, replicate, slice_set, get_or}
use Rattle.script_parts.specs.ScriptData.{ScriptData, home_of}
use Rattle.script_parts.specs.Adding.{advances_in}
use Rattle.script_parts.specs.declared.parts.ScriptRow.{ScriptRow}
use Rattle.script_parts.specs.declared.parts.ScriptRow.TheVariants.{Tree as TreeRow, Advance as AdvanceRow, Settle as SettleRow, Lose as LoseRow}
use Rattle.letter_types.specs.declared.acts.Act.TheVariants.{Finished}
use Rattle.letter_types.specs.declared.bodies.Body.{Body}
use Rattle.letter_types.specs.declared.bodies.Body.TheVariants.{Go, Root, Reply, Nudge, Advance, Advanced, AdvanceNo, Ask, Lose, Wanted}
use Rattle.letter_types.specs.declared.entries.Outgoing.{Outgoing}
use Rattle.letter_types.specs.Steps.{Out, still}
use Rattle.tv_base.specs.declared.numbers.Version.{Version}
use Rattle.script_parts.specs.Counts.{is_lossy}

-- how many rows are submitted, which transactions are answered, how many advancements have ended, whether all is
-- finished
pub record Client : Type 0 where
  pub next : ℕ
  pub answered : List Bool
  pub ended : ℕ
  pub finished : Bool

abbrev pub start_client : ScriptData → Client
start_client s = record { next = 0; answered = replicate (length s.trees) false; ended = 0; finished = false }

-- each transaction of these rows is answered
abbrev pub all_answered : List Bool → List ScriptRow → Bool
all_answered answered [] = true
all_answered answered (TreeRow t ∷ rows) = get_or answered t.0 false && all_answered answered rows
all_answered answered (AdvanceRow ∷ rows) = all_answered answered rows
all_answered answered (_ ∷ rows) = all_answered answered rows

-- all that these rows asked for has ended
abbrev pub have_ended : Client → List ScriptRow → Bool
have_ended c rows = all_answered c.answered rows && nat_le (advances_in rows) c.ended

-- how many of the rows from here on are submitted, after those before them: a settle row waits until all before it has
-- ended
abbrev pub submitted : Client → List ScriptRow → List ScriptRow → ℕ
submitted c before [] = 0
submitted c before (SettleRow ∷ rows) =
    if have_ended c before then submitted c (before ++ SettleRow ∷ []) rows + 1 else 0
submitted c before (row ∷ rows) = submitted c (before ++ row ∷ []) rows + 1

-- the message that asks for the advancement after that many: it has a number if the coordinator may forget
abbrev pub advance_letter : ScriptData → ℕ → Body
advance_letter s k = if is_lossy s then AdvanceNo (k + 1) else Advance

-- a Root to its home for each transaction, a message to the coordinator for each advancement and for each row that
-- makes it forget, of rows before which that many advancements were asked for
abbrev pub rows_letters : ScriptData → ℕ → List ScriptRow → List Outgoing
rows_letters s k [] = []
rows_letters s k (TreeRow t ∷ rows) = record { to = record { 0 = home_of s t.0 }; body = Root t } ∷ rows_letters s k rows
rows_letters s k (AdvanceRow ∷ rows) = record { to = record { 0 = s.nodes }; body = advance_letter s k } ∷ rows_letters s (k + 1) rows
rows_letters s k (LoseRow ∷ rows) = record { to = record { 0 = s.nodes }; body = Lose } ∷ rows_letters s k rows
rows_letters s k (_ ∷ rows) = rows_letters s k rows

-- how many advancements the client has asked for
abbrev pub advances_sent : ScriptData → Client → ℕ
advances_sent s c = advances_in (take c.next s.rows)

-- how many rows are submitted once the client has submitted what it may
abbrev pub next_after : ScriptData → Client → ℕ
next_after s c = c.next + submitted c (take c.next s.rows) (drop c.next s.rows)

-- with that many rows submitted, everything has ended, and the client hasn't finished
abbrev pub client_finishes : ScriptData → ℕ → Client → Bool
client_finishes s next c = (next == length s.rows) && (have_ended c s.rows && not c.finished)

-- the client submits what it may, after the messages that are sent first, and finishes if all is over
abbrev pub submit : ScriptData → Client → List Outgoing → Out Client
submit s c first = record {
  state = record {
    next = next_after s c;
    answered = c.answered;
    ended = c.ended;
    finished = c.finished || client_finishes s (next_after s c) c;
  };
  sent = first
      ++ rows_letters s (advances_sent s c) (take (submitted c (take c.next s.rows) (drop c.next s.rows)) (drop c.next s.rows));
  acts = if client_finishes s (next_after s c) c then Finished ∷ [] else [];
}

-- transaction t is answered
abbrev pub with_answer : ℕ → Client → Client
with_answer t c = record c { answered = slice_set c.answered t true }

-- there are places for the answers of that many more transactions, which aren't answered
abbrev pub with_places : ℕ → Client → Client
with_places k c = record c { answered = c.answered ++ replicate k false }

-- one more advancement has ended, or that many have, if the coordinator may forget; the number stays at its type's end
abbrev pub with_end : ScriptData → Version → Client → Client
with_end s v c = record c { ended = if is_lossy s then max c.ended v.0 else min (c.ended + 1) (2 ^ 64 - 1) }

-- a coordinator that has forgotten is told how many advancements it was asked for
abbrev pub wanted : ScriptData → ℕ → Client → Out Client
wanted s e c = record {
  state = c;
  sent = record { to = record { 0 = s.nodes }; body = Wanted e (advances_sent s c) } ∷ [];
  acts = [];
}

-- the coordinator hears that a transaction was answered
abbrev pub nudge : ScriptData → Outgoing
nudge s = record { to = record { 0 = s.nodes }; body = Nudge }

-- what the client does with a message of this body
abbrev pub client_row : ScriptData → Client → Body → Out Client
client_row s c Go = submit s c []
client_row s c (Reply t v answer) =
    if nat_lt t.0 (length s.trees) then submit s (with_answer t.0 c) (nudge s ∷ []) else still c
client_row s c (Advanced v) = submit s (with_end s v c) []
client_row s c (Ask e) = if is_lossy s then wanted s e c else still c
client_row s c _ = still c
