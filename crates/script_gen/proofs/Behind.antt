-- The rows of the generated script: how many advancements they ask for, and how the script goes on after a transaction.
use Rattle.std.proofs.Common.{◌≡◌, ◌+◌, ◌/◌, ◌%◌, ◌<◌, ◌≤◌, ◌∙◌, ◌∷◌, ◌++◌, [], List, Bool, true, false, ℕ, zero, suc, refl, ap, arith}
use Rattle.std.specs.Prelude.{◌==◌, nat_le, Ok}
use Rattle.std.proofs.lemmas.Bool.Decides.{nat_tests}
use Rattle.std.proofs.lemmas.Bool.{lt-leb}
use Rattle.tx_trees.proofs.Stays.{advances-settle}
use Rattle.tx_trees.specs.Adding.{adds_advance, advances_in, with_row}
use Rattle.tx_trees.specs.ScriptData.{ScriptData}
use Rattle.tx_trees.specs.declared.parts.ScriptRow.{ScriptRow}
use Rattle.tx_trees.specs.declared.parts.ScriptRow.TheVariants as rows
use Rattle.tx_trees.specs.declared.parts.Tree.{Tree}
use Rattle.tx_trees.proofs.Rebuilding.{advances_in-append}
use Rattle.script_gen.specs.Generated.{advances_behind, rows_up_to}
use Rattle.script_gen.specs.inside.Within.{HasTrees, with_begun}

behind_by : (b : Bool) (j : ℕ) → ((j + 1) % 250 == 0) ≡ b → suc j / 250 ≡ j / 250 + advances_in (advances_behind j)
behind_by true j e =
    let divides : (j + 1) % 250 ≡ 0 = grind (arith, nat_tests) in
    rw e (next j divides) where
      next : (j : ℕ) → (j + 1) % 250 ≡ 0 → suc j / 250 ≡ j / 250 + 1
      next j h = omega arith
behind_by false j e =
    let more : 0 < (j + 1) % 250 = grind (arith, nat_tests) in
    rw e (next j more) where
      next : (j : ℕ) → 0 < (j + 1) % 250 → suc j / 250 ≡ j / 250 + 0
      next j h = omega arith

-- one advancement for every 250 trees
advances_up_to : (n : ℕ) → advances_in (rows_up_to n) ≡ n / 250
advances_up_to zero = omega arith
advances_up_to (suc j) =
    let all : advances_in (rows_up_to (suc j)) ≡ advances_in (rows_up_to j) + advances_in (rows.Tree (record { 0 = j }) ∷ advances_behind j)
    = advances_in-append (rows_up_to j) (rows.Tree (record { 0 = j }) ∷ advances_behind j) in
    let own : advances_in (rows.Tree (record { 0 = j }) ∷ advances_behind j) ≡ 0 + advances_in (advances_behind j) = refl in
    omega (arith, all, own, advances_up_to j, behind_by ((j + 1) % 250 == 0) j refl)

pub few_in : (seed j : ℕ) (s : ScriptData) → j ≤ 20000 → HasTrees seed j s → advances_in s.rows < 100
few_in seed j s few has = omega (arith, ap (λ (rs : List ScriptRow). advances_in rs) has.rows, advances_up_to j)

pub few_behind : (seed j : ℕ) (s now : ScriptData) (t : Tree) → j < 20000 → HasTrees seed j s → now ≡ with_begun s j t → advances_in now.rows < 100
few_behind seed j s now t few has made =
    let all : advances_in (s.rows ++ rows.Tree (record { 0 = j }) ∷ []) ≡ advances_in s.rows + 0
    = advances_in-append s.rows (rows.Tree (record { 0 = j }) ∷ []) in
    omega (arith, ap (λ (z : ScriptData). advances_in z.rows) made, all, few_in seed j s (omega arith) has)

-- after it, one more advancement is taken
pub advance_taken : (s t : ScriptData) → advances_in s.rows < 100 → t ≡ with_row s rows.Settle → adds_advance t ≡ Ok (with_row t rows.Advance)
advance_taken s t few e =
    let count : advances_in t.rows ≡ advances_in s.rows = ap (λ (z : ScriptData). advances_in z.rows) e ∙ advances-settle s.rows in
    let less : nat_le 100 (advances_in t.rows) ≡ false = lt-leb 100 (advances_in t.rows) (omega (arith, count, few)) in
    rw less refl
