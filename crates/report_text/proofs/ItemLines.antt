-- The lines of the items by their values are those of the report.
use Rattle.std.proofs.Common.{◌≡◌, ℕ, ◌+◌, List, [], ◌∷◌, ◌++◌, length, refl, ap, arith}
use Rattle.letter_types.specs.declared.entries.Entry.{Entry}
use Rattle.tx_trees.specs.ScriptData.{ScriptData}
use Rattle.tx_trees.specs.declared.parts.ItemRow.{ItemRow}
use Rattle.board_model.specs.Balances.{by_number, worths, written_items}
use Rattle.board_rules.specs.Worth.{is_written, worth}
use Rattle.report_text.specs.inside.Lines.{rows_lines}
use Rattle.report_text.specs.Report.{item_line, items_text}

length-by_number : {A : Type 0} (f : ℕ → A) (x : ℕ) (rows : List ItemRow) → length (by_number f x rows) ≡ length rows
length-by_number f x [] = refl
length-by_number f x (row ∷ rows) = let rest = length-by_number f (x + 1) rows in omega (arith, rest)

pub length-worths : (s : ScriptData) (h : List Entry) (v : ℕ) → length (worths s h v) ≡ length s.items
length-worths s h v = length-by_number (λ (x : ℕ). worth s h x v) 0 s.items

pub length-written : (s : ScriptData) (h : List Entry) (v : ℕ) → length (written_items s h v) ≡ length s.items
length-written s h v = length-by_number (λ (x : ℕ). is_written s h x v) 0 s.items

lines_from : (s : ScriptData) (h : List Entry) (a x : ℕ) (rows : List ItemRow)
    → rows_lines a rows (by_number (λ (k : ℕ). worth s h k a) x rows) (by_number (λ (k : ℕ). worth s h k (a + 1)) x rows)
    (by_number (λ (k : ℕ). is_written s h k (a + 1)) x rows) ≡ items_text s h a x rows
lines_from s h a x [] = refl
lines_from s h a x (row ∷ rows) =
    ap (λ (z : List ℕ). item_line a row (worth s h x a) (worth s h x (a + 1)) (is_written s h x (a + 1)) ++ z) (lines_from s h a (x + 1) rows)

pub items_all : (s : ScriptData) (h : List Entry) (a : ℕ)
    → rows_lines a s.items (worths s h a) (worths s h (a + 1)) (written_items s h (a + 1)) ≡ items_text s h a 0 s.items
items_all s h a = lines_from s h a 0 s.items

-- for the items of a script
pub ruleset of_items = (items_all, length-worths, length-written)
