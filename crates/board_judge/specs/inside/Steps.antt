-- Acts that were noted one after the other, and how they are taken back.
use Rattle.std.specs.Prelude.{◌≡◌, List, [], ◌∷◌, ◌++◌, Decides, Bool, true, IfSome, IsNone, Option}
use Rattle.std.specs.List.{list_all}
use Rattle.letter_types.specs.declared.entries.Entry.{Entry}
use Rattle.script_parts.specs.ScriptData.{ScriptData}
use Rattle.board_rules.specs.Gates.{KeepsTo}
use Rattle.board_rules.specs.Histories.{Place, places_of, places_at}
use Rattle.board_rules.specs.Moves.{IsMove, OneByOne}
use Rattle.board_tallies.specs.Board.{BoardData, IsBoardOf, closes_in, tree_number}
use Rattle.board_tallies.specs.TakenBack.{taken_back}
use Rattle.board_judge.specs.declared.noting.NotedStep.{NotedStep}
use Rattle.board_judge.specs.inside.Votes.{IsMidwayOf, IsRightYes, OfHistory, OfMidway, script_before}
use Rattle.board_rules.specs.Judging.{FirstFails}
use Rattle.board_rules.specs.declared.rule_names.Rule.{Rule}
use Rattle.board_judge.specs.declared.votes.Before.{Before}
use Rattle.board_judge.specs.declared.noting.Tallies.{Tallies}

-- an act that was noted after the acts xs, and what was found of it
pub record IsStepped (s : ScriptData) (h : List Entry) (xs : List Place) (x : Place) (st : NotedStep) (b : BoardData) : Type 0 where
  pub moves : IsMove s h xs x
  pub keeps : Decides st.keeps (KeepsTo s xs x)
  pub right : Decides st.right (IsRightYes s h (xs ++ x ∷ []) x.act)
  pub closes : tree_number st.noted.closed ≡ closes_in s (xs ++ x ∷ []) x.act
  pub board : IsBoardOf s (xs ++ x ∷ []) b

-- what the steps say of the transactions that these acts close, after the acts xs
abbrev pub AreClosings : ScriptData → List Place → List Place → List NotedStep → Type 0
AreClosings s xs [] [] = Unit {0}
AreClosings s xs [] (st ∷ sts) = ⊥
AreClosings s xs (y ∷ ys) [] = ⊥
AreClosings s xs (y ∷ ys) (st ∷ sts) =
    (tree_number st.noted.closed ≡ closes_in s (xs ++ y ∷ []) y.act) × AreClosings s (xs ++ y ∷ []) ys sts

-- these acts of an entry after the history h were noted, one after the other, with these steps
pub record AreNoted (s : ScriptData) (h : List Entry) (ys : List Place) (steps : List NotedStep) (b : BoardData) : Type 0 where
  pub moves : OneByOne (IsMove s h) (places_of h) ys
  pub keeps : Decides (list_all (λ (st : NotedStep). st.keeps) steps) (OneByOne (KeepsTo s) (places_of h) ys)
  pub right : Decides (list_all (λ (st : NotedStep). st.right) steps)
      (OneByOne (λ (xs : List Place) (x : Place). IsRightYes s h (xs ++ x ∷ []) x.act) (places_of h) ys)
  pub closings : AreClosings s (places_of h) ys steps
  pub board : IsBoardOf s (places_of h ++ ys) b

-- the tallies with these steps taken back, the last one first
abbrev pub restored : List NotedStep → BoardData → BoardData
restored [] b = b
restored (st ∷ sts) b = taken_back st.noted (restored sts b)

-- the act x was noted with this step, and these are the tallies after it, whatever was before
abbrev pub IsStepOf : Before → BoardData → Place → BoardData → NotedStep → Type 0
IsStepOf before b x new st = OfMidway before b (λ h xs. IsStepped (script_before before) h xs x st new)

abbrev pub IsStepIfNoted : Before → BoardData → Place → BoardData → Option NotedStep → Type 0
IsStepIfNoted before b x new step = IfSome step (IsStepOf before b x new)

-- if the act x is a move, it was noted behind those of its entry, whichever were noted with the first tallies: with it
-- these are the second ones
abbrev pub AreNotedIf : Before → Place → Tallies → Tallies → Bool → Type 0
AreNotedIf before x old new moves = moves ≡ true → (h : List Entry) (ys : List Place)
    → IsMidwayOf before h (places_of h ++ ys) old.board → AreNoted (script_before before) h ys old.steps.items old.board
    → AreNoted (script_before before) h (ys ++ x ∷ []) new.steps.items new.board

-- all acts of an entry were noted, and these are the tallies with them; the same unless a rule is broken; and the first
-- act that isn't a move is of this rule
abbrev pub AreAllNoted : Before → BoardData → Entry → Tallies → Type 0
AreAllNoted before b e new =
    OfHistory before b (λ h. AreNoted (script_before before) h (places_at e) new.steps.items new.board)

abbrev pub AreAllNotedUnless : Before → BoardData → Entry → Tallies → Option Rule → Type 0
AreAllNotedUnless before b e new broken = IsNone broken → AreAllNoted before b e new

abbrev pub FailsFirst : Before → BoardData → Entry → Rule → Type 0
FailsFirst before b e rule = OfHistory before b (λ h. FirstFails (script_before before) h e rule)

-- the Board's tallies with these steps taken back
abbrev pub board_before : Tallies → BoardData
board_before t = restored t.steps.items t.board
