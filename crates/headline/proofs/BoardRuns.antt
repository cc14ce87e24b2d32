-- Every run is a run of the Board: each act is a move but for the cause of a vote, and each vote names its cause.
use Rattle.std.proofs.Common.{ℕ, List, [], ◌∷◌, ◌++◌, take, reverse}
use Rattle.letter_types.specs.declared.acts.Act.{Act}
use Rattle.letter_types.specs.declared.acts.Act.TheVariants as acts
use Rattle.letter_types.specs.declared.entries.Entry.{Entry}
use Rattle.tx_trees.specs.ScriptData.{ScriptData}
use Rattle.tx_trees.specs.Valid.{IsValid}
use Rattle.world_model.specs.Runs.{IsStepRun}
use Rattle.board_rules.specs.Histories.{Place, places_at, places_of}
use Rattle.board_rules.specs.Moves.{IsBoardRun, IsMove, IsMoveAt, OneByOne}
use Rattle.board_rules.specs.ButCause.{IsMoveButCause, IsMoveButCauseAt}
use Rattle.run_laws.proofs.act_order.AllMoves.{moves_but_cause}
use Rattle.run_laws.specs.Causes.{NamesItsCause}
use Rattle.run_laws.proofs.strict.VoteCauses.{names_causes}

-- what follows from two that hold of acts one after the other
both_one_by_one : (P Q R : List Place → Place → Type 0) (xs ys : List Place) → ((zs : List Place) (y : Place) → P zs y → Q zs y → R zs y)
    → OneByOne P xs ys → OneByOne Q xs ys → OneByOne R xs ys
both_one_by_one P Q R xs [] step one two = tt
both_one_by_one P Q R xs (y ∷ ys) step one two =
    (step xs y one.0 two.0, both_one_by_one P Q R (xs ++ y ∷ []) ys step one.1 two.1)

move_is : (s : ScriptData) (before : List Entry) (xs : List Place) (p : ℕ) (a : Act) → IsMoveButCauseAt s before xs p a
    → NamesItsCause s before xs p a → IsMoveAt s before xs p a
move_is s before xs p (acts.Voted t k vote) asked cause = record {
  strict = asked.strict;
  born = asked.born;
  asked = asked.asked;
  once = asked.once;
  node = asked.node;
  cause = cause;
}
move_is s before xs p (acts.Born t v) move cause = move
move_is s before xs p (acts.Did t k values) move cause = move
move_is s before xs p (acts.Turned v) move cause = move
move_is s before xs p (acts.Showed v) move cause = move
move_is s before xs p (acts.Swept v) move cause = move
move_is s before xs p (acts.Waits t u r) move cause = move
move_is s before xs p (acts.Freed t) move cause = move
move_is s before xs p (acts.Decided t commit) move cause = move
move_is s before xs p (acts.Applied t commit) move cause = move
move_is s before xs p (acts.Parked t k item holder) move cause = move
move_is s before xs p acts.Finished move cause = tt

pub board_run : (s : ScriptData) (past : List Entry) → IsValid s → IsStepRun s past → IsBoardRun s (reverse past)
board_run s past valid run = λ n e here.
    let b : List Entry = take n (reverse past) in
    both_one_by_one (IsMoveButCause s b) (λ (xs : List Place) (y : Place). NamesItsCause s b xs y.node y.act) (IsMove s b)
    (places_of b) (places_at e) (λ xs y move cause. move_is s b xs y.node y.act move cause)
    (moves_but_cause s past valid run n e here) (names_causes s past valid run n e here)
