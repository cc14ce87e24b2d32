-- The gate of each row that the client has submitted, and of the one that it is at, is open.
use Rattle.std.proofs.Common.{◌≡◌, ℕ, zero, suc, ◌+◌, ◌<◌, ◌≤◌, Bool, true, false, List, [], ◌∷◌, length, reverse, get_or, take, ap, subst, arith, Some}
use Rattle.std.specs.Prelude.{if◌then◌else◌, nat_le, slice_get}
use Rattle.std.specs.List.{list_any}
use Rattle.std.proofs.lemmas.Bool.{and_parts, leb-true}
use Rattle.tv_base.specs.declared.numbers.TreeNo.{TreeNo}
use Rattle.letter_types.specs.declared.entries.Entry.{Entry}
use Rattle.tx_trees.specs.Counts.{advances_in}
use Rattle.tx_trees.specs.ScriptData.{ScriptData}
use Rattle.tx_trees.specs.Valid.{IsValid}
use Rattle.tx_trees.specs.declared.parts.ScriptRow.{ScriptRow}
use Rattle.tx_trees.specs.declared.parts.ScriptRow.TheVariants.{Tree as TreeRow, Advance as AdvanceRow, Settle as SettleRow, Lose as LoseRow}
use Rattle.board_rules.specs.Gates.{IsOpen, awaited, before_settle, is_settle_row}
use Rattle.board_rules.specs.Histories.{places_of}
use Rattle.world_model.specs.Client.{all_answered}
use Rattle.world_model.specs.Counts.{Each}
use Rattle.world_model.specs.Runs.{IsStepRun, client_in}
use Rattle.world_model.proofs.Fits.{each_take}
use Rattle.world_model.proofs.MeantRows.{NamesTree, rows_name}
use Rattle.run_laws.proofs.each_tree.InTime.{advancing_run}
use Rattle.headline.proofs.Answered.{answered_whole, answered_yet}
use Rattle.headline.proofs.Passes.{passed_run}
use Rattle.headline.proofs.Swept.{swept_run}

-- What holds of each row holds of those before the last settle row, and of one of them.
each_before_by : (P : ScriptRow → Type 0) (r : ScriptRow) (rs : List ScriptRow) (test : Bool) → P r → Each P (before_settle rs)
    → Each P (if test then r ∷ before_settle rs else [])
each_before_by P r rs true one rest = (one, rest)
each_before_by P r rs false one rest = tt

each_before : (P : ScriptRow → Type 0) (rows : List ScriptRow) → Each P rows → Each P (before_settle rows)
each_before P [] all = tt
each_before P (r ∷ rs) all = each_before_by P r rs (list_any is_settle_row rs) all.0 (each_before P rs all.1)

each_at : {X : Type 0} (P : X → Type 0) (xs : List X) (j : ℕ) (x : X) → Each P xs → slice_get xs j ≡ Some x → P x
each_at P [] j x all here = absurd (cc here)
each_at P (y ∷ xs) zero x all here = let same : y ≡ x = cc here in subst P same all.0
each_at P (y ∷ xs) (suc j) x all here = each_at P xs j x all.1 here

-- so is one for which a row waits
tree_there : (s : ScriptData) (i j t : ℕ) → IsValid s → slice_get (awaited s i) j ≡ Some (TreeRow (record { 0 = t })) → t < length s.trees
tree_there s i j t valid here =
    each_at (NamesTree s) (awaited s i) j (TreeRow (record { 0 = t }))
    (each_before (NamesTree s) (take i s.rows) (each_take (NamesTree s) i s.rows (rows_name s valid))) here

-- Where all trees of these rows are answered, each is.
pub answered_at : (answered : List Bool) (j t : ℕ) (rows : List ScriptRow) → all_answered answered rows ≡ true
    → slice_get rows j ≡ Some (TreeRow (record { 0 = t })) → get_or answered t false ≡ true
answered_at answered j t [] all here = absurd (cc here)
answered_at answered zero t (TreeRow u ∷ rows) all here =
    let parts = and_parts (get_or answered u.0 false) (all_answered answered rows) all in
    let tree : u ≡ record { 0 = t } = cc here in
    let same : u.0 ≡ t = ap (λ (x : TreeNo). x.0) tree in
    subst (λ (n : ℕ). get_or answered n false ≡ true) same parts.0
answered_at answered zero t (AdvanceRow ∷ rows) all here = absurd (cc here)
answered_at answered zero t (SettleRow ∷ rows) all here = absurd (cc here)
answered_at answered zero t (LoseRow ∷ rows) all here = absurd (cc here)
answered_at answered (suc j) t (TreeRow u ∷ rows) all here =
    answered_at answered j t rows (and_parts (get_or answered u.0 false) (all_answered answered rows) all).1 here
answered_at answered (suc j) t (AdvanceRow ∷ rows) all here = answered_at answered j t rows all here
answered_at answered (suc j) t (SettleRow ∷ rows) all here = answered_at answered j t rows all here
answered_at answered (suc j) t (LoseRow ∷ rows) all here = answered_at answered j t rows all here

-- in every run
pub open_run : (s : ScriptData) (past : List Entry) (i : ℕ) → IsValid s → IsStepRun s past → i ≤ (client_in s past).next
    → IsOpen s (places_of (reverse past)) i
open_run s past i valid run le =
    let c = client_in s past in
    let rows = awaited s i in
    let parts = and_parts (all_answered c.answered rows) (nat_le (advances_in rows) c.ended) ((passed_run s past valid run).passed i le) in
    let ended = leb-true (advances_in rows) c.ended parts.1 in
    record {
      trees = λ j t here.
          answered_whole s past t valid run (tree_there s i j t valid here)
          (answered_yet s past t valid run (answered_at c.answered j t rows parts.0 here));
      advances = λ a p lt pl. swept_run s past p valid run pl (a + 1) (omega arith) (omega (
        arith,
        lt,
        ended,
        (advancing_run s past valid run).heard p pl,
      ));
    }
