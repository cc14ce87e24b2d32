-- Where a text of records may be cut.
use Rattle.std.specs.Prelude.{ℕ, suc, ◌≡◌, ◌<◌, ◌⊎◌, true, List, [], ◌∷◌, ◌++◌, length}
use Rattle.csv.specs.Machine.{Feeds, carriage_return, line_feed}
use Rattle.csv.specs.Reading.{default_config, records_from}
use Rattle.csv.specs.declared.parser.State.{State}
use Rattle.csv.specs.declared.parser.State.TheVariants as st

-- the bytes x, read from state s, are a record of these fields, which ends with the last of them
pub record EndsRecord (s : State) (x : List ℕ) (fields : List (List ℕ)) : Type 0 where
  pub state : State
  pub field : List ℕ
  pub feeds : Feeds default_config s [] [] x state fields field true

-- a byte that ends a line
abbrev pub EndsLine : ℕ → Type 0
EndsLine c = (c ≡ line_feed) ⊎ (c ≡ carriage_return)

-- the first n records of the bytes b, from where a record starts
abbrev pub first_records : ℕ → List ℕ → List (List (List ℕ))
first_records n b = records_from default_config n st.StartRecord b

-- the records are that of x and then those of the rest: of the rest alone, and of the rest behind a byte that ends a
-- line, where no byte order mark can stand
abbrev pub RecordsAreCut : Type 0
RecordsAreCut =
    (n c : ℕ) (x b : List ℕ) (fields : List (List ℕ)) → EndsRecord st.StartRecord x fields → EndsLine c
    → (first_records (suc n) (x ++ b) ≡ fields ∷ first_records n b) × (first_records n (c ∷ b) ≡ first_records n b)

-- a text has no more records than bytes: whoever asks for more of them is given the same
abbrev pub RecordsAreFew : Type 0
RecordsAreFew =
    (n m : ℕ) (b : List ℕ) → length b < n → length b < m → first_records n b ≡ first_records m b
