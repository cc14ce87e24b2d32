-- One turn of the loop over a script's rows.
use Rattle.std.proofs.Common.{◌≡◌, ℕ, ◌+◌, ◌<◌, false, List, [], ◌∷◌, ◌++◌, length, refl, sym, ap, subst, ◌∙◌, take, get_or}
use Rattle.std.proofs.lemmas.List.{take_more}
use Rattle.tv_base.specs.declared.numbers.TreeNo.{TreeNo}
use Rattle.script_parts.specs.Counts.{is_advance}
use Rattle.script_parts.specs.declared.parts.ScriptRow.{ScriptRow}
use Rattle.script_parts.specs.declared.parts.ScriptRow.TheVariants as rows
use Rattle.board_rules.specs.Gates.{is_settle_row}
use Rattle.board_rules.proofs.Settles.{behind_other, behind_settle}
use Rattle.board_tallies.specs.GateRows.{AreGatesFor, gate_behind, is_tree_row, rows_passing}
use Rattle.board_tallies.specs.declared.gates.RowGate.{RowGate}
use Rattle.board_tallies.proofs.Settling.{gates_none, gates_push, gates_skip}

-- the gates of the rows so far, and the gate of a row that comes next
pub record IsGated (rs : List ScriptRow) (trees advances : List RowGate) (gate : RowGate) : Type 0 where
  pub of_trees : AreGatesFor is_tree_row rs trees
  pub of_advances : AreGatesFor is_advance rs advances
  pub next : gate ≡ gate_behind rs

behind_same : (rs : List ScriptRow) (r : ScriptRow) → is_settle_row r ≡ false → gate_behind rs ≡ gate_behind (rs ++ r ∷ [])
behind_same rs r is = λ i. record {
  trees = rows_passing is_tree_row (sym (behind_other rs r is) i);
  advances = rows_passing is_advance (sym (behind_other rs r is) i);
}

pub gated_none : IsGated [] [] [] (gate_behind [])
gated_none = record { of_trees = gates_none is_tree_row; of_advances = gates_none is_advance; next = refl }

pub gated_tree : (rs : List ScriptRow) (trees advances : List RowGate) (gate : RowGate) (t : TreeNo) → IsGated rs trees advances gate
    → IsGated (rs ++ rows.Tree t ∷ []) (trees ++ gate ∷ []) advances gate
gated_tree rs trees advances gate t gated = record {
  of_trees = gates_push is_tree_row rs trees (rows.Tree t) gate refl gated.next gated.of_trees;
  of_advances = gates_skip is_advance rs advances (rows.Tree t) refl gated.of_advances;
  next = gated.next ∙ behind_same rs (rows.Tree t) refl;
}

pub gated_advance : (rs : List ScriptRow) (trees advances : List RowGate) (gate : RowGate) → IsGated rs trees advances gate
    → IsGated (rs ++ rows.Advance ∷ []) trees (advances ++ gate ∷ []) gate
gated_advance rs trees advances gate gated = record {
  of_trees = gates_skip is_tree_row rs trees rows.Advance refl gated.of_trees;
  of_advances = gates_push is_advance rs advances rows.Advance gate refl gated.next gated.of_advances;
  next = gated.next ∙ behind_same rs rows.Advance refl;
}

pub gated_settle : (rs : List ScriptRow) (trees advances : List RowGate) (gate : RowGate) → IsGated rs trees advances gate
    → IsGated (rs ++ rows.Settle ∷ []) trees advances (record { trees = length trees; advances = length advances })
gated_settle rs trees advances gate gated = record {
  of_trees = gates_skip is_tree_row rs trees rows.Settle refl gated.of_trees;
  of_advances = gates_skip is_advance rs advances rows.Settle refl gated.of_advances;
  next = λ i. record {
    trees = (gated.of_trees.many ∙ ap (rows_passing is_tree_row) (sym (behind_settle rs rows.Settle refl))) i;
    advances = (gated.of_advances.many ∙ ap (rows_passing is_advance) (sym (behind_settle rs rows.Settle refl))) i;
  };
}

pub gated_lose : (rs : List ScriptRow) (trees advances : List RowGate) (gate : RowGate) → IsGated rs trees advances gate
    → IsGated (rs ++ rows.Lose ∷ []) trees advances gate
gated_lose rs trees advances gate gated = record {
  of_trees = gates_skip is_tree_row rs trees rows.Lose refl gated.of_trees;
  of_advances = gates_skip is_advance rs advances rows.Lose refl gated.of_advances;
  next = gated.next ∙ behind_same rs rows.Lose refl;
}

-- the row at a place, and what is gated with it
gated_at : (rs : List ScriptRow) (i : ℕ) (r d : ScriptRow) (trees advances : List RowGate) (gate : RowGate) → i < length rs
    → get_or rs i d ≡ r → IsGated (take i rs ++ r ∷ []) trees advances gate → IsGated (take (i + 1) rs) trees advances gate
gated_at rs i r d trees advances gate lt is gated =
    subst (λ (front : List ScriptRow). IsGated front trees advances gate)
    (sym (take_more rs i d lt ∙ ap (λ (one : ScriptRow). take i rs ++ one ∷ []) is)) gated

-- the same of equal lists and an equal gate
pub regated : (rs : List ScriptRow) (i : ℕ) (r d : ScriptRow) (trees advances trees' advances' : List RowGate) (gate gate' : RowGate)
    → i < length rs → get_or rs i d ≡ r → trees' ≡ trees → advances' ≡ advances → gate' ≡ gate
    → IsGated (take i rs ++ r ∷ []) trees advances gate → IsGated (take (i + 1) rs) trees' advances' gate'
regated rs i r d trees advances trees' advances' gate gate' lt is one two three gated =
    subst (λ (ts : List RowGate). IsGated (take (i + 1) rs) ts advances' gate') (sym one)
    (subst (λ (others : List RowGate). IsGated (take (i + 1) rs) trees others gate') (sym two)
    (subst (λ (g : RowGate). IsGated (take (i + 1) rs) trees advances g) (sym three)
    (gated_at rs i r d trees advances gate lt is gated)))
