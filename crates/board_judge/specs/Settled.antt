-- Acts that are moves, and the transactions that take effect by them.
use Rattle.std.specs.Prelude.{if◌then◌else◌, ℕ, ◌≡◌, List, [], filter, take, Option, Some, None, slice_get}
use Rattle.script_parts.specs.ScriptData.{ScriptData}
use Rattle.board_rules.specs.ButCause.{IsMoveButCause}
use Rattle.board_rules.specs.Histories.{Place}
use Rattle.board_rules.specs.Serial.{commit_order, is_settled_in}
pub use Rattle.board_tallies.specs.Board.{closes_in}

-- the acts, one after the other, are moves, but for the causes of votes, whatever was before their entries
abbrev pub IsMoveRun : ScriptData → List Place → Type 0
IsMoveRun s xs = (i : ℕ) (y : Place) → slice_get xs i ≡ Some y → IsMoveButCause s [] (take i xs) y

-- the transactions that take effect, in order of their last closing act
abbrev pub settled_order : ScriptData → List Place → List ℕ
settled_order s xs = filter (is_settled_in s xs) (commit_order s xs)

-- the transaction that takes effect by an act, after which the acts are these
abbrev pub if_settled : ScriptData → List Place → Option ℕ → Option ℕ
if_settled s xs closed = elim closed [ Some t ↦ if is_settled_in s xs t then Some t else None | None ↦ None ]
