-- An entry that is tried, and why it is refused.
use Rattle.std.specs.Prelude.{◌++◌, ◌∷◌, [], List, Option, Some, None, Result, Ok, Err}
use Rattle.tv_base.specs.declared.numbers.Stamp.{Stamp}
use Rattle.tv_base.specs.declared.numbers.NoMemory.{NoMemory}
use Rattle.letter_types.specs.declared.entries.Entry.{Entry}
use Rattle.board_rules.specs.declared.rule_names.Rule.{Rule}
use Rattle.board_rules.specs.Judging.{Breaks, MayCome}
use Rattle.board_tallies.specs.Board.{BoardData}
use Rattle.worth_steps.specs.Kept.{WorthsData}
use Rattle.board_judge.specs.Judged.{HasJudged, JudgeData}
use Rattle.board_judge.specs.declared.judge.Refused.{Refused}
use Rattle.board_judge.specs.declared.judge.Refused.TheVariants as refused
use Rattle.board_judge.specs.declared.noting.Tallies.{Tallies}
use Rattle.board_judge.specs.declared.rewriting.ItemWorths.{ItemWorths}
use Rattle.board_judge.specs.declared.votes.Basis.{Basis}

-- what was made of a script, with these tallies
abbrev pub judge_of : Basis → BoardData → List WorthsData → JudgeData
judge_of basis b ws =
    record { script = basis.script.now; gates = basis.gates; users = basis.users; board = b; worths = ws }

-- why an entry of this stamp is refused
abbrev pub refused_for : Stamp → Result (Option Rule) NoMemory → Option Refused
refused_for stamp (Ok None) = None
refused_for stamp (Ok (Some rule)) = Some (refused.Wrong (record { stamp = stamp; rule = rule }))
refused_for stamp (Err none) = Some refused.NoMemory

-- what trying an entry after the history h has found: nothing, and then these are the tallies with it, or the first
-- rule that it breaks
abbrev pub IsTried : JudgeData → List Entry → Entry → Option Rule → BoardData → List WorthsData → Type 0
IsTried j h e None b ws = MayCome j.script h e × HasJudged (record j { board = b; worths = ws }) (h ++ e ∷ [])
IsTried j h e (Some rule) b ws = Breaks j.script h e rule

-- the same, whatever history the judge has taken
abbrev pub IsTriedBy : JudgeData → Entry → BoardData → List WorthsData → Option Rule → Type 0
IsTriedBy j e b ws broken = (h : List Entry) → HasJudged j h → IsTried j h e broken b ws

-- the same of what was made of a script, with the tallies and worths from which the entry is tried, and those after it
abbrev pub IsTriedFrom : Basis → Tallies → ItemWorths → Entry → Tallies → ItemWorths → Option Rule → Type 0
IsTriedFrom basis tallies kept e tallies' kept' broken =
    IsTriedBy (judge_of basis tallies.board kept.worths.items) e tallies'.board kept'.worths.items broken
