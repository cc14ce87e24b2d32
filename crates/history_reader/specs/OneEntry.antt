-- When two entries are printed alike.
use Rattle.std.specs.Prelude.{◌≡◌, ℕ, List}
use Rattle.letter_types.specs.declared.entries.Entry.{Entry}
use Rattle.tx_trees.specs.ScriptData.{ScriptData}
use Rattle.history_text.specs.Printable.{Begins}

-- two entries with the same stamp, actor, letters sent and acts, that took letters of the same id
pub record TellTheSame (e f : Entry) : Type 0 where
  pub stamp : e.stamp ≡ f.stamp
  pub actor : e.actor ≡ f.actor
  pub took : e.took.id ≡ f.took.id
  pub sent : e.sent ≡ f.sent
  pub acts : e.acts ≡ f.acts

-- all entries with whose lines the text begins are printed alike, and the same is behind them
abbrev pub BeginsWithOne : ScriptData → List ℕ → Type 0
BeginsWithOne s text = (e f : Entry) (rest more : List ℕ) → Begins s text e rest → Begins s text f more
    → (rest ≡ more) × TellTheSame e f
