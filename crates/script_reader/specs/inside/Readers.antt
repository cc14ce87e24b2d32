-- How a reader of csv over bytes in memory goes on. These are the definitions that private code alone cites.
use Rattle.std.specs.Prelude.{◌≡◌, ℕ, suc, Bool, true, false, List, [], ◌∷◌, Option, Some, None}
use Rattle.std.specs.Borrow.{Bor}
use Rattle.csv.specs.Reading.{Ready, default_config, reader_config, reader_state, reader_trim, records_from, source_of}
use Rattle.csv.specs.declared.parser.State.{State}
use Rattle.csv.specs.declared.reader.Reader.{Reader}
use Rattle.csv.specs.declared.reader.Trim.TheVariants as trim

-- the next n records of known bytes
abbrev pub of_bytes : ℕ → State → Option (List ℕ) → List (List (List ℕ))
of_bytes n s None = []
of_bytes n s (Some bytes) = records_from default_config n s bytes

-- the next n records
abbrev pub rows_left : ℕ → Reader (Bor (List ℕ)) → List (List (List ℕ))
rows_left n r = of_bytes n (reader_state r) (source_of (λ s. Some s.now) r)

-- as it was set up, and of known bytes
pub record IsReading (r : Reader (Bor (List ℕ))) : Type 0 where
  pub trim : reader_trim r ≡ trim.None
  pub ready : Ready r
  pub config : reader_config r ≡ default_config
  pub bytes : List ℕ
  pub known : source_of (λ s. Some s.now) r ≡ Some bytes

-- one record was read, or there is none
abbrev pub ReadsRow : Reader (Bor (List ℕ)) → Bool → List (List ℕ) → Reader (Bor (List ℕ)) → Type 0
ReadsRow old true fields new = IsReading new × ((n : ℕ) → rows_left (suc n) old ≡ fields ∷ rows_left n new)
ReadsRow old false fields new = (n : ℕ) → rows_left n old ≡ []
