-- What is kept of the votes of transactions while a history is gone over. These are the definitions that private code
-- alone cites.
use Rattle.std.specs.Prelude.{List, [], ◌∷◌, ◌++◌}
use Rattle.letter_types.specs.declared.acts.Act.{Act}
use Rattle.letter_types.specs.declared.acts.Act.TheVariants.{Voted, Decided, Finished}
use Rattle.tx_trees.specs.declared.parts.Tree.{Tree}
use Rattle.board_model.specs.inside.Tallies.{on_row}

-- an empty row for each transaction
abbrev pub no_ballots : List Tree → List (List Act)
no_ballots [] = []
no_ballots (tree ∷ ts) = [] ∷ no_ballots ts

-- an act more at the end of a row
abbrev pub with_act : Act → List Act → List Act
with_act a acts = acts ++ a ∷ []

-- the rows with an act more, if it tells of a transaction that has a row
abbrev pub ballots_with_act : Act → List (List Act) → List (List Act)
ballots_with_act (Voted t k vote) rows = on_row t.0 (with_act (Voted t k vote)) rows
ballots_with_act (Decided t commit) rows = on_row t.0 (with_act (Decided t commit)) rows
ballots_with_act Finished rows = rows
ballots_with_act _ rows = rows

-- the rows after acts, from the first one
abbrev pub ballots_after : List Act → List (List Act) → List (List Act)
ballots_after [] rows = rows
ballots_after (a ∷ acts) rows = ballots_after acts (ballots_with_act a rows)
