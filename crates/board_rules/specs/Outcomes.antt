-- How a transaction comes out, by acts: what its subtransactions did and voted, what was decided of it, and what it
-- gives.
use Rattle.std.specs.Prelude.{if◌then◌else◌, ℕ, ◌+◌, Bool, ◌==◌, ◌&&◌, List, [], ◌∷◌, ◌++◌, map, Option, Some, None}
use Rattle.std.specs.Option.{option_and_then, option_map_or, option_or, unwrap_or}
use Rattle.tv_base.specs.declared.numbers.ItemNo.{ItemNo}
use Rattle.commute_ops.specs.declared.value.Value.{Value}
use Rattle.letter_types.specs.declared.acts.Act.{Act}
use Rattle.letter_types.specs.declared.acts.Act.TheVariants.{Did, Voted, Decided}
use Rattle.letter_types.specs.declared.votes.Cause.{Cause}
use Rattle.letter_types.specs.declared.votes.Vote.{Vote}
use Rattle.letter_types.specs.declared.votes.Vote.TheVariants.{Yes, No}
use Rattle.script_parts.specs.declared.parts.Sub.{Sub}
use Rattle.board_rules.specs.Histories.{Place}
use Rattle.board_rules.specs.Stands.{refusal_in}

-- the acts at these places, in order
abbrev pub acts_in : List Place → List Act
acts_in xs = map (λ (x : Place). x.act) xs

-- the values of a Did of subtransaction k of transaction t
abbrev pub did_by : ℕ → ℕ → Act → Option (List (ItemNo × Value))
did_by t k (Did u j values) = if (u.0 == t) && (j.0 == k) then Some values else None
did_by t k _ = None

-- the values of the first such among these acts
abbrev pub did_in : ℕ → ℕ → List Act → Option (List (ItemNo × Value))
did_in t k [] = None
did_in t k (a ∷ acts) = option_or (did_by t k a) (did_in t k acts)

-- the vote that the act is of subtransaction k of transaction t
abbrev pub vote_by : ℕ → ℕ → Act → Option Vote
vote_by t k (Voted u j vote) = if (u.0 == t) && (j.0 == k) then Some vote else None
vote_by t k _ = None

-- the first vote of subtransaction k of transaction t among these acts
abbrev pub vote_in : ℕ → ℕ → List Act → Option Vote
vote_in t k [] = None
vote_in t k (a ∷ acts) = option_or (vote_by t k a) (vote_in t k acts)

-- what the act decides of transaction t: whether it commits
abbrev pub decision_by : ℕ → Act → Option Bool
decision_by t (Decided u commit) = if u.0 == t then Some commit else None
decision_by t _ = None

-- what these acts first decide of transaction t
abbrev pub decision_in : ℕ → List Act → Option Bool
decision_in t [] = None
decision_in t (a ∷ acts) = option_or (decision_by t a) (decision_in t acts)

-- the values of the Dids of transaction t in these acts, by subtransaction, if the list begins with subtransaction k
abbrev pub did_from : List Act → ℕ → ℕ → List Sub → List (ItemNo × Value)
did_from acts t k [] = []
did_from acts t k (sub ∷ subs) = unwrap_or (did_in t k acts) [] ++ did_from acts t (k + 1) subs

-- the values that a vote gives
abbrev pub got_of : Vote → List (ItemNo × Value)
got_of (Yes values) = values
got_of (No cause) = []

-- the values of the yes votes of transaction t in these acts, by subtransaction, if the list begins with subtransaction
-- k
abbrev pub got_from : List Act → ℕ → ℕ → List Sub → List (ItemNo × Value)
got_from acts t k [] = []
got_from acts t k (sub ∷ subs) = option_map_or got_of (vote_in t k acts) [] ++ got_from acts t (k + 1) subs

-- the cause of the first of these subtransactions that votes no
abbrev pub cause_from : List Act → ℕ → ℕ → List Sub → Option Cause
cause_from acts t k [] = None
cause_from acts t k (sub ∷ subs) = option_or (option_and_then refusal_in (vote_in t k acts)) (cause_from acts t (k + 1) subs)
