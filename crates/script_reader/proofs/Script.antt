-- Reading the records one after the other.
use Rattle.std.proofs.Common.{◌≡◌, ◌+◌, ℕ, Bool, true, false, List, [], ◌∷◌, Result, Ok, Err, ap, ◌∙◌}
use Rattle.tx_trees.specs.ScriptData.{ScriptData}
use Rattle.tx_trees.specs.declared.why.Why.{Why}
use Rattle.script_reader.specs.declared.reading.ScriptFault.{ScriptFault}
use Rattle.script_reader.specs.Rows.{later_row}
use Rattle.script_reader.specs.inside.Rows.{Leaves}
use Rattle.tx_trees.specs.declared.why.Refusal.{Refusal}
use Rattle.tx_trees.specs.declared.why.Refusal.TheVariants as refusals
use Rattle.script_reader.specs.declared.reading.ScriptRefusal.{ScriptRefusal}
use Rattle.script_reader.specs.inside.Records.{Takes}
use Rattle.script_reader.specs.Reading.{Gives, fault, rows_from, then_rows}
use Rattle.script_reader.specs.inside.Reading.{refused_at}

-- a row that is taken
pub goes_on : (s t : ScriptData) (at : ℕ) (rows : List (List (List ℕ))) (r : List (List ℕ)) (rs : List (List (List ℕ))) → rows ≡ r ∷ rs → later_row s r ≡ Ok t → rows_from s at rows ≡ rows_from t (at + 1) rs
unfolding rows_from
goes_on s t at rows r rs e h = ap (rows_from s at) e ∙ ap (λ (x : Result ScriptData Why). then_rows at x (λ u. rows_from u (at + 1) rs)) h

-- a row that is refused
pub stops : (s : ScriptData) (w : Why) (at : ℕ) (rows : List (List (List ℕ))) (r : List (List ℕ)) (rs : List (List (List ℕ))) → rows ≡ r ∷ rs → later_row s r ≡ Err w → rows_from s at rows ≡ Err (fault at w)
unfolding rows_from
stops s w at rows r rs e h = ap (rows_from s at) e ∙ ap (λ (x : Result ScriptData Why). then_rows at x (λ u. rows_from u (at + 1) rs)) h

-- no row is left
pub ends : (s : ScriptData) (at : ℕ) (rows : List (List (List ℕ))) → rows ≡ [] → rows_from s at rows ≡ Ok s
unfolding rows_from
ends s at rows e = ap (rows_from s at) e

-- what was read if there was a record
pub takes_true : (old : List (List (List ℕ))) (found : Bool) (r : List (List ℕ)) (new : List (List (List ℕ))) → found ≡ true → Takes old found r new → old ≡ r ∷ new
takes_true old true r new e h = h
takes_true old false r new e h = absurd cc

-- and if there was none
pub takes_false : (old : List (List (List ℕ))) (found : Bool) (r : List (List ℕ)) (new : List (List (List ℕ))) → found ≡ false → Takes old found r new → old ≡ []
takes_false old true r new e h = absurd cc
takes_false old false r new e h = h

-- a row that is refused ends the reading
pub refuses : (s t : ScriptData) (why : Refusal) (at : ℕ) (rows : List (List (List ℕ))) (r : List (List ℕ)) (rs : List (List (List ℕ))) (total : Result ScriptData ScriptFault) (told : ScriptRefusal)
    → total ≡ rows_from s at rows → rows ≡ r ∷ rs → Leaves {T = Unit {0}} (later_row s r) (Err why) t → told ≡ refused_at at why → Gives (Err told) total
refuses s t (refusals.Why w) at rows r rs total told so_far e h is = rw is (so_far ∙ stops s w at rows r rs e h)
refuses s t refusals.NoMemory at rows r rs total told so_far e h is = rw is tt
