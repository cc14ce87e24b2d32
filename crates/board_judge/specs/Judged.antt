-- What a judge knows, when it has taken a history, and what it says of an entry that it refuses.
use Rattle.std.specs.Prelude.{◌≡◌, List, ℕ, ◌++◌, ◌∷◌, []}
use Rattle.letter_types.specs.declared.entries.Entry.{Entry}
use Rattle.script_parts.specs.ScriptData.{ScriptData}
use Rattle.script_parts.specs.Valid.{IsValid}
use Rattle.board_rules.specs.Histories.{places_of}
use Rattle.board_rules.specs.Judging.{Breaks, IsAccepted, MayCome}
use Rattle.board_tallies.specs.Board.{BoardData, IsBoardOf}
use Rattle.board_tallies.specs.GateRows.{AreGatesOf, GatesData}
use Rattle.board_judge.specs.Notes.{AreAllWorths}
use Rattle.board_judge.specs.Settled.{IsMoveRun}
use Rattle.board_judge.specs.Views.{AreUsersOf, UsersData}
use Rattle.worth_steps.specs.Kept.{WorthsData}
use Rattle.board_judge.specs.declared.judge.Refused.{Refused}
use Rattle.board_judge.specs.declared.judge.Refused.TheVariants.{Wrong, NoMemory}
use Rattle.board_rules.specs.Worth.{worth_in}
use Rattle.commute_ops.specs.declared.value.Value.{Value}

-- a script, its gates and its operations on each item, and the tallies of acts
pub record JudgeData : Type 0 where
  pub script : ScriptData
  pub gates : GatesData
  pub users : UsersData
  pub board : BoardData
  pub worths : List WorthsData

-- the judge has taken this history: it is accepted, and the tallies are those of its acts
pub record HasJudged (j : JudgeData) (h : List Entry) : Type 0 where
  pub accepted : IsAccepted j.script h
  pub valid : IsValid j.script
  pub gates : AreGatesOf j.script j.gates
  pub users : AreUsersOf j.script j.users
  pub run : IsMoveRun j.script (places_of h)
  pub board : IsBoardOf j.script (places_of h) j.board
  pub worths : AreAllWorths j.script (places_of h) j.worths

-- the first judge may take the entry, whatever history it has taken, and the second one has taken it too
abbrev pub HasTakenEntry : JudgeData → Entry → JudgeData → Type 0
HasTakenEntry j e k = (h : List Entry) → HasJudged j h → MayCome j.script h e × HasJudged k (h ++ e ∷ [])

-- what an item is worth at version v after the history that the judge has taken
abbrev pub IsWorthBy : JudgeData → ℕ → ℕ → Value → Type 0
IsWorthBy j x v worth = (h : List Entry) → HasJudged j h → worth ≡ worth_in j.script (places_of h) x v

-- a refusal of the entry, whatever history was taken: its stamp, and the first rule that it breaks
abbrev pub IsRefusal : JudgeData → Entry → Refused → Type 0
IsRefusal j e NoMemory = Unit {0}
IsRefusal j e (Wrong wrong) = (wrong.stamp ≡ e.stamp) × ((h : List Entry) → HasJudged j h → Breaks j.script h e wrong.rule)
