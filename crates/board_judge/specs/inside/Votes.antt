-- In the midst of an entry; what votes name, and what votes and reads give.
use Rattle.std.specs.Prelude.{Bool, true, false, ◌≡◌, ◌==◌, ◌&&◌, List, [], Option, Some, None, ℕ, ◌∷◌, ◌++◌, Decides}
use Rattle.std.specs.Ordering.{int_eq}
use Rattle.tv_base.specs.declared.numbers.ItemNo.{ItemNo}
use Rattle.commute_ops.specs.declared.value.Value.{Value}
use Rattle.letter_types.specs.declared.acts.Act.{Act}
use Rattle.letter_types.specs.declared.acts.Act.TheVariants.{Did, Voted, Finished}
use Rattle.letter_types.specs.declared.entries.Entry.{Entry}
use Rattle.letter_types.specs.declared.votes.Cause.{Cause}
use Rattle.letter_types.specs.declared.votes.Cause.TheVariants.{Conflict, Newer, Short}
use Rattle.letter_types.specs.declared.votes.Vote.TheVariants.{Yes, No}
use Rattle.script_parts.specs.ScriptData.{ScriptData, ops_of}
use Rattle.board_rules.specs.Histories.{Place, places_of, version_in, act_at, is_strict_tree}
use Rattle.board_rules.specs.Right.{IsRightAct, IsShown, gets_among}
use Rattle.board_rules.specs.Stands.{refusal_in, cause_of}
use Rattle.board_tallies.specs.Board.{BoardData, IsBoardOf}
use Rattle.board_tallies.specs.GateRows.{AreGatesOf, GatesData}
use Rattle.board_judge.specs.Notes.{AreKnown}
use Rattle.board_judge.specs.Views.{IsView, UsersData}
use Rattle.board_judge.specs.declared.at_once.Asked.{Asked}
use Rattle.worth_steps.specs.Kept.{WorthsData}
use Rattle.board_judge.specs.declared.votes.NamedVote.{NamedVote}
use Rattle.board_judge.specs.declared.votes.Given.{Given}
use Rattle.board_rules.specs.ButCause.{IsMoveButCause}
use Rattle.board_rules.specs.Moves.{IsMove}
use Rattle.board_rules.specs.Worth.{worth_in}
use Rattle.board_judge.specs.declared.votes.Before.{Before}

-- after acts of an entry, before which the history was h, all acts so far were xs: these are their tallies, and the
-- worths are still those of the history
pub record IsMidway (s : ScriptData) (g : GatesData) (u : UsersData) (h : List Entry) (xs : List Place) (b : BoardData)
    (ws : List WorthsData) : Type 0 where
  pub gates : AreGatesOf s g
  pub view : IsView s xs b u
  pub known : AreKnown s (places_of h) ws

-- the script by which an entry's acts are judged
abbrev pub script_before : Before → ScriptData
script_before before = before.basis.now.script.now

-- these are the tallies in the midst of an entry, by what its acts are judged by
abbrev pub IsMidwayOf : Before → List Entry → List Place → BoardData → Type 0
IsMidwayOf before h xs b =
    IsMidway (script_before before) before.basis.now.gates before.basis.now.users h xs b before.worths.now

-- what holds of whatever history these are the worths after, and whatever acts of its next entry these are the tallies
-- with
abbrev pub OfMidway : Before → BoardData → (List Entry → List Place → Type 0) → Type 0
OfMidway before b P = (h : List Entry) (xs : List Place) → IsMidwayOf before h xs b → P h xs

-- what holds of whatever history these are the tallies and the worths after
abbrev pub OfHistory : Before → BoardData → (List Entry → Type 0) → Type 0
OfHistory before b P = (h : List Entry) → IsMidwayOf before h (places_of h) b → P h

-- the act x is a move there; and it isn't
abbrev pub DecidesMove : Before → BoardData → Place → Bool → Type 0
DecidesMove before b x moves = OfMidway before b (λ h xs. Decides moves (IsMove (script_before before) h xs x))

abbrev pub IsNoMove : Before → BoardData → Place → Type 0
IsNoMove before b x = OfMidway before b (λ h xs. IsMove (script_before before) h xs x → ⊥)

-- why a subtransaction of a strict transaction has to vote no there, at node p, if it has to
abbrev pub IsCauseThere : Before → BoardData → ℕ → Asked → Option Cause → Type 0
IsCauseThere before b p asked cause =
    OfMidway before b (λ h xs. is_strict_tree (script_before before) asked.tree.0 ≡ true → cause ≡ cause_of
    (script_before before) h xs p asked.tree.0 (ops_of (script_before before) asked.tree.0 asked.sub.0))

-- the vote that an act is
abbrev pub ballot_of : Act → Option NamedVote
ballot_of (Voted t k vote) = Some (record { asked = record { tree = t; sub = k }; refusal = refusal_in vote })
ballot_of Finished = None
ballot_of _ = None

-- two causes are the same
abbrev pub same_cause : Option Cause → Option Cause → Bool
same_cause None None = true
same_cause (Some (Conflict x h)) (Some (Conflict y k)) = (x.0 == y.0) && (h.0 == k.0)
same_cause (Some (Newer x v)) (Some (Newer y w)) = (x.0 == y.0) && (v.0 == w.0)
same_cause (Some (Short x n)) (Some (Short y m)) = (x.0 == y.0) && int_eq n m
same_cause _ _ = false

-- the values that a yes or a Did gives, and whose they are
pub record Values : Type 0 where
  pub asked : Asked
  pub values : List (ItemNo × Value)

abbrev pub given_by : Given → Values
given_by given = record { asked = given.asked; values = given.values.now }

abbrev pub yes_of : Act → Option Values
yes_of (Voted t k (Yes values)) = Some (record { asked = record { tree = t; sub = k }; values = values })
yes_of (Voted t k (No cause)) = None
yes_of Finished = None
yes_of _ = None

abbrev pub did_of : Act → Option Values
did_of (Did t k values) = Some (record { asked = record { tree = t; sub = k }; values = values })
did_of Finished = None
did_of _ = None

-- of an act the part that speaks of votes, and the part that speaks of reads
abbrev pub IsRightYes : ScriptData → List Entry → List Place → Act → Type 0
IsRightYes s h upto (Voted t k vote) = IsRightAct s h upto (Voted t k vote)
IsRightYes s h upto Finished = Unit {0}
IsRightYes s h upto _ = Unit {0}

abbrev pub IsRightRead : ScriptData → List Place → Act → Type 0
IsRightRead s upto (Did t k values) = IsRightAct s [] upto (Did t k values)
IsRightRead s upto Finished = Unit {0}
IsRightRead s upto _ = Unit {0}

-- the act's transaction has the same version after these acts and after those
abbrev pub HasVersions : List Place → List Place → Act → Type 0
HasVersions xs upto (Did t k values) = version_in t.0 upto ≡ version_in t.0 xs
HasVersions xs upto Finished = Unit {0}
HasVersions xs upto _ = Unit {0}

-- what holds of whatever acts these are the tallies of, and of whatever acts these are the worths after
abbrev pub OfBoth : ScriptData → BoardData → List WorthsData → (List Place → List Place → Type 0) → Type 0
OfBoth s b ws P = (xs upto : List Place) → IsBoardOf s xs b → AreKnown s upto ws → P xs upto

-- the act shows what was worth after those acts, if it is a read transaction's; and these values are what the
-- subtransaction's gets were worth after them
abbrev pub DecidesRead : ScriptData → BoardData → List WorthsData → Act → Bool → Type 0
DecidesRead s b ws act right =
    OfBoth s b ws (λ xs upto. HasVersions xs upto act → Decides right (IsRightRead s upto act))

abbrev pub DecidesGiven : ScriptData → BoardData → List WorthsData → Values → Bool → Type 0
DecidesGiven s b ws given right = OfBoth s b ws (λ xs upto. Decides right (IsShown (worth_in s upto)
    (gets_among (ops_of s given.asked.tree.0 given.asked.sub.0)) given.values (version_in given.asked.tree.0 xs)))

-- an act that is a move shows what was worth in the history before its entry, if it is a yes
abbrev pub DecidesYes : ScriptData → BoardData → List WorthsData → Act → Bool → Type 0
DecidesYes s b ws act right =
    (h : List Entry) (xs : List Place) (p : ℕ) → IsBoardOf s xs b → AreKnown s (places_of h) ws
    → IsMoveButCause s h xs (act_at p act) → Decides right (IsRightYes s h (xs ++ act_at p act ∷ []) act)
