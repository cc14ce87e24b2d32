-- Which acts are moves of the Board, but for the cause of a vote: that a negative vote names what is in the way is said
-- of votes alone.
use Rattle.std.specs.Prelude.{ℕ, false, ◌≡◌, ◌<◌, IsTrue, List}
use Rattle.letter_types.specs.declared.acts.Act.{Act}
use Rattle.letter_types.specs.declared.acts.Act.TheVariants.{Voted, Finished}
use Rattle.letter_types.specs.declared.entries.Entry.{Entry}
use Rattle.script_parts.specs.ScriptData.{ScriptData, node_of}
use Rattle.board_rules.specs.Histories.{Place, is_strict_tree, was_born}
use Rattle.board_rules.specs.Moves.{IsAsked, IsMoveAt}
use Rattle.board_rules.specs.Stands.{was_voted}

-- a subtransaction of a strict transaction votes at its node, once, in a transaction that is born, and after its parent
pub record IsVotingAsked (s : ScriptData) (xs : List Place) (p t k : ℕ) : Type 0 where
  pub strict : IsTrue (is_strict_tree s t)
  pub born : IsTrue (was_born xs t)
  pub asked : IsAsked s (λ (j : ℕ). was_voted t j xs) t k
  pub once : was_voted t k xs ≡ false
  pub node : (p < s.nodes) × (node_of s t k ≡ p)

-- the act is a move at node p, after the acts xs, but for the cause of a vote
abbrev pub IsMoveButCauseAt : ScriptData → List Entry → List Place → ℕ → Act → Type 0
IsMoveButCauseAt s before xs p (Voted t k vote) = IsVotingAsked s xs p t.0 k.0
IsMoveButCauseAt s before xs p Finished = Unit {0}
IsMoveButCauseAt s before xs p act = IsMoveAt s before xs p act

abbrev pub IsMoveButCause : ScriptData → List Entry → List Place → Place → Type 0
IsMoveButCause s before xs x = IsMoveButCauseAt s before xs x.node x.act
