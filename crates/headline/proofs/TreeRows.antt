-- Each transaction has its row, and where that is.
use Rattle.std.proofs.Common.{◌≡◌, ℕ, zero, suc, ◌+◌, ◌<◌, ◌≤◌, ◌==◌, Bool, true, false, List, [], ◌∷◌, length, take, refl, ap, arith, Some}
use Rattle.std.specs.Prelude.{slice_get}
use Rattle.std.proofs.lemmas.Bool.Decides.{nat_tests}
use Rattle.std.proofs.lemmas.List.{take_all}
use Rattle.tv_base.specs.declared.numbers.TreeNo.{TreeNo}
use Rattle.tx_trees.specs.ScriptData.{ScriptData}
use Rattle.tx_trees.specs.Valid.{IsValid}
use Rattle.tx_trees.specs.declared.parts.ScriptRow.{ScriptRow}
use Rattle.tx_trees.specs.declared.parts.ScriptRow.TheVariants.{Tree as TreeRow, Advance as AdvanceRow, Settle as SettleRow, Lose as LoseRow}
use Rattle.world_model.specs.Counts.{one_if}
use Rattle.tree_laws.specs.Dids.{roots_sent}
use Rattle.tree_laws.proofs.homes.Sent.{rooted_once}

-- where the first rows send the root of a tree, one of them is its row
tree_row_by : (t n : ℕ) (u : TreeNo) (rows : List ScriptRow) (test : Bool) → (u.0 == t) ≡ test
    → (1 ≤ roots_sent t (take n rows) → (i : ℕ) × (i < n) × (slice_get rows i ≡ Some (TreeRow (record { 0 = t }))))
    → 1 ≤ one_if (u.0 == t) + roots_sent t (take n rows)
    → (i : ℕ) × (i < suc n) × (slice_get (TreeRow u ∷ rows) i ≡ Some (TreeRow (record { 0 = t })))
tree_row_by t n u rows true is rest some =
    let same : u.0 ≡ t = grind (arith, nat_tests) in
    (0, omega arith, ap (λ (m : ℕ). Some (TreeRow (record { 0 = m }))) same)
tree_row_by t n u rows false is rest some =
    let none : one_if (u.0 == t) ≡ 0 = ap one_if is in
    let (i, lt, at) = rest (omega (arith, some, none)) in (suc i, omega (arith, lt), at)

row_behind : (n : ℕ) (r row : ScriptRow) (rows : List ScriptRow) → (i : ℕ) × (i < n) × (slice_get rows i ≡ Some row)
    → (i : ℕ) × (i < suc n) × (slice_get (r ∷ rows) i ≡ Some row)
row_behind n r row rows found = let (i, lt, at) = found in (suc i, omega (arith, lt), at)

pub tree_row : (t n : ℕ) (rows : List ScriptRow) → 1 ≤ roots_sent t (take n rows)
    → (i : ℕ) × (i < n) × (slice_get rows i ≡ Some (TreeRow (record { 0 = t })))
tree_row t zero rows some = absurd (omega (arith, some))
tree_row t (suc n) [] some = absurd (omega (arith, some))
tree_row t (suc n) (TreeRow u ∷ rows) some = tree_row_by t n u rows (u.0 == t) refl (tree_row t n rows) some
tree_row t (suc n) (AdvanceRow ∷ rows) some =
    row_behind n AdvanceRow (TreeRow (record { 0 = t })) rows (tree_row t n rows (omega (arith, some)))
tree_row t (suc n) (SettleRow ∷ rows) some =
    row_behind n SettleRow (TreeRow (record { 0 = t })) rows (tree_row t n rows (omega (arith, some)))
tree_row t (suc n) (LoseRow ∷ rows) some =
    row_behind n LoseRow (TreeRow (record { 0 = t })) rows (tree_row t n rows (omega (arith, some)))

-- each tree of a script has its row
pub row_there : (s : ScriptData) (t : ℕ) → IsValid s → t < length s.trees
    → (i : ℕ) × (i < length s.rows) × (slice_get s.rows i ≡ Some (TreeRow (record { 0 = t })))
row_there s t valid lt =
    let all : take (length s.rows) s.rows ≡ s.rows = take_all (length s.rows) s.rows (omega arith) in
    tree_row t (length s.rows) s.rows
    (omega (arith, ap (λ (rows : List ScriptRow). roots_sent t rows) all, rooted_once (length s.trees) t s.rows valid.rows lt))
