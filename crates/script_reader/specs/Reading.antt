-- The script that bytes are, or the first fault.
use Rattle.std.specs.Prelude.{ℕ, ◌≡◌, ◌+◌, nat_lt, List, [], ◌∷◌, length}
use Rattle.std.specs.Result.{result_map_both}
use Rattle.std.specs.Option.{option_map_or}
use Rattle.std.specs.Prelude.{Result, Ok, Err, if◌then◌else◌, ⊤}
use Rattle.tv_base.specs.declared.moving.TheConstants.{MOST_BYTES}
use Rattle.tx_trees.specs.ScriptData.{ScriptData}
use Rattle.tx_trees.specs.declared.why.Why.{Why}
use Rattle.tx_trees.specs.declared.why.Why.TheVariants as why
use Rattle.script_reader.specs.Records.{records_in}
use Rattle.script_reader.specs.Rows.{and_then, first_row, later_row, second_row}
use Rattle.script_reader.specs.declared.reading.ScriptFault.{ScriptFault}
use Rattle.script_reader.specs.declared.reading.ScriptRefusal.{ScriptRefusal}
use Rattle.script_reader.specs.declared.reading.ScriptRefusal.TheVariants as ends

-- the reason of a row
abbrev pub fault : ℕ → Why → ScriptFault
fault row why = record { row = row; why = why }

-- what a record makes, or its fault, and the records after it
abbrev pub then_rows : {A : Type 0} → ℕ → Result A Why → (A → Result ScriptData ScriptFault) → Result ScriptData ScriptFault
then_rows row made more = and_then (result_map_both (λ a. a) (fault row) made) more

-- the records from this row on
unfoldable pub rows_from : ScriptData → ℕ → List (List (List ℕ)) → Result ScriptData ScriptFault
rows_from s row [] = Ok s
rows_from s row (r ∷ rs) = then_rows row (later_row s r) (λ t. rows_from t (row + 1) rs)

-- the records after one that names the second form: the first of them makes a script
abbrev pub second_rows : List (List (List ℕ)) → Result ScriptData ScriptFault
second_rows [] = Err (fault 2 why.NodesFirst)
second_rows (r ∷ rs) = then_rows 2 (second_row r) (λ s. rows_from s 3 rs)

-- all records: the first makes a script, or names the second form, and then the second does; each later one adds to it
abbrev pub read_rows : List (List (List ℕ)) → Result ScriptData ScriptFault
read_rows [] = Err (fault 1 why.NodesFirst)
read_rows (r ∷ rs) = then_rows 1 (first_row r) (λ begun. option_map_or (λ s. rows_from s 2 rs) begun (second_rows rs))

-- the script that bytes are, or the first faulty record and the lowest of its reasons; a text that is too long is none
abbrev pub read_of : List ℕ → Result ScriptData ScriptFault
read_of bytes =
    if nat_lt MOST_BYTES (length bytes) then Err (fault 0 why.TooLong) else read_rows (records_in bytes)

-- what a call gave is what reading gives, unless memory ran out
abbrev pub Gives : Result ScriptData ScriptRefusal → Result ScriptData ScriptFault → Type 0
Gives (Ok s) read = read ≡ Ok s
Gives (Err (ends.Fault f)) read = read ≡ Err f
Gives (Err ends.NoMemory) read = ⊤
