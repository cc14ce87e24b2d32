-- What a vote names.
use Rattle.std.specs.Prelude.{ℕ, ◌≡◌, List}
use Rattle.letter_types.specs.declared.acts.Act.{Act}
use Rattle.letter_types.specs.declared.acts.Act.TheVariants.{Voted}
use Rattle.letter_types.specs.declared.entries.Entry.{Entry}
use Rattle.script_parts.specs.ScriptData.{ScriptData, ops_of}
use Rattle.board_rules.specs.Histories.{Place}
use Rattle.board_rules.specs.Moves.{AtEachAct}
use Rattle.board_rules.specs.Stands.{cause_of, refusal_in}

-- a vote at node p, after the acts xs, in an entry before which the history was this one, is a negative vote exactly if
-- the look back finds a cause, and names that cause
abbrev pub NamesItsCause : ScriptData → List Entry → List Place → ℕ → Act → Type 0
NamesItsCause s before xs p (Voted t k vote) = refusal_in vote ≡ cause_of s before xs p t.0 (ops_of s t.0 k.0)
NamesItsCause s before xs p _ = Unit {0}

-- each vote of a history does
abbrev pub VotesNameTheirCauses : ScriptData → List Entry → Type 0
VotesNameTheirCauses s h = AtEachAct (λ (before : List Entry) (xs : List Place) (x : Place). NamesItsCause s before xs x.node x.act) h
