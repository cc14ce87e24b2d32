-- What each row does to a script, with its conditions in the order of their numbers. These are the definitions that
-- private code alone cites.
use Rattle.std.specs.Prelude.{◌≡◌, ◌==◌, ℕ, Bool, not, [], ◌∷◌, Option, Result, Ok, Err, ⊤, if◌then◌else◌}
use Rattle.std.specs.Option.{option_map_or}
use Rattle.tx_trees.specs.Adding.{taken_unless}
use Rattle.tx_trees.specs.Ranges.{is_in_range}
use Rattle.tx_trees.specs.ScriptData.{ScriptData}
use Rattle.tx_trees.specs.declared.parts.Deed.{Deed}
use Rattle.tx_trees.specs.declared.parts.Form.{Form}
use Rattle.tx_trees.specs.declared.why.Why.{Why}
use Rattle.tx_trees.specs.declared.why.Why.TheVariants as why
use Rattle.tx_trees.specs.declared.why.Refusal.{Refusal}
use Rattle.tx_trees.specs.declared.why.Refusal.TheVariants as refusals
use Rattle.script_reader.specs.Words.{RowShape}
use Rattle.script_reader.specs.declared.words.RowWord.{RowWord}

-- what a call made, or why it did not
abbrev pub Makes : Result ScriptData Why → Result ScriptData Refusal → Type 0
Makes made (Ok s) = made ≡ Ok s
Makes made (Err (refusals.Why w)) = made ≡ Err w
Makes made (Err refusals.NoMemory) = ⊤

-- why an operation is refused whose item has no name
abbrev pub unnamed : Form → Deed → Why
unnamed form deed = if is_in_range form deed then why.UnknownItem else why.OutOfRange

-- what the first record made: a script, or, if it names the second form, none yet
abbrev pub HasBegunWith : Result (Option ScriptData) Why → Result (Option ScriptData) Refusal → Type 0
HasBegunWith begun (Ok s) = begun ≡ Ok s
HasBegunWith begun (Err (refusals.Why w)) = begun ≡ Err w
HasBegunWith begun (Err refusals.NoMemory) = ⊤

-- what a call made of a script that it borrowed, or why it did not
abbrev pub Leaves : {T : Type 0} → Result ScriptData Why → Result T Refusal → ScriptData → Type 0
Leaves made (Ok done) new = made ≡ Ok new
Leaves made (Err (refusals.Why w)) new = made ≡ Err w
Leaves made (Err refusals.NoMemory) new = ⊤

-- what a record of that many fields is, by what its word says, if such a row may stand here
abbrev pub row_by : (RowWord → Bool) → ℕ → Option RowShape → Result RowWord Why
row_by may len found =
    option_map_or
    (λ e. taken_unless ((not (may e.0), why.UnknownRow) ∷ (not (len == e.1), why.WrongFields) ∷ []) e.0)
    found (Err why.UnknownRow)
