-- Of the acts of a history, the votes of each transaction and what is decided of it. Only the text of reports cites it.
use Rattle.std.specs.Prelude.{ℕ, ◌+◌, Bool, false, ◌==◌, List, [], ◌∷◌, filter}
use Rattle.letter_types.specs.declared.acts.Act.{Act}
use Rattle.letter_types.specs.declared.acts.Act.TheVariants.{Voted, Decided}
use Rattle.letter_types.specs.declared.entries.Entry.{Entry}
use Rattle.tx_trees.specs.ScriptData.{ScriptData}
use Rattle.tx_trees.specs.declared.parts.Tree.{Tree}
use Rattle.board_rules.specs.Histories.{places_of}
use Rattle.board_rules.specs.Outcomes.{acts_in}

-- the act is a vote of transaction t, or decides it
abbrev pub tells_of : ℕ → Act → Bool
tells_of t (Voted u j vote) = u.0 == t
tells_of t (Decided u commit) = u.0 == t
tells_of t _ = false

-- of these acts, the votes of each transaction and what is decided of it, if the list begins with transaction t
abbrev pub ballots_from : List Act → ℕ → List Tree → List (List Act)
ballots_from acts t [] = []
ballots_from acts t (tree ∷ ts) = filter (tells_of t) acts ∷ ballots_from acts (t + 1) ts

-- the same of all acts of a history, by transaction number
abbrev pub ballots_of : ScriptData → List Entry → List (List Act)
ballots_of s h = ballots_from (acts_in (places_of h)) 0 s.trees
