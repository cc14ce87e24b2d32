-- What a history says of each transaction, side by side. Only the code of the report cites it.
use Rattle.std.specs.Prelude.{ℕ, ◌+◌, true, List, [], ◌∷◌}
use Rattle.letter_types.specs.declared.entries.Entry.{Entry}
use Rattle.tx_trees.specs.ScriptData.{ScriptData}
use Rattle.tx_trees.specs.declared.parts.Tree.{Tree}
use Rattle.board_model.specs.declared.standings.Standing.{Standing}
use Rattle.board_rules.specs.Histories.{is_whole, places_of, version_of, was_decided_as}

abbrev pub standing_of : ScriptData → List Entry → ℕ → Standing
standing_of s h t = record { born = version_of h t; whole = is_whole s h t; committed = was_decided_as t true (places_of h) }

-- if the list begins with transaction t
abbrev pub standings_from : ScriptData → List Entry → ℕ → List Tree → List Standing
standings_from s h t [] = []
standings_from s h t (tree ∷ ts) = standing_of s h t ∷ standings_from s h (t + 1) ts

-- the version of each transaction, whether it is complete, and whether it was decided to commit, by transaction number
abbrev pub standings_of : ScriptData → List Entry → List Standing
standings_of s h = standings_from s h 0 s.trees
