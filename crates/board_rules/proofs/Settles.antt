-- The rows before the last `settle` row, with one row more.
use Rattle.std.proofs.Common.{Bool, List, [], ap, false, refl, true, ◌++◌, ◌∙◌, ◌∷◌, ◌≡◌}
use Rattle.std.specs.Prelude.{if◌then◌else◌, ◌||◌}
use Rattle.std.specs.List.{list_any}
use Rattle.std.proofs.Math.Bool.{or-false}
use Rattle.std.proofs.lemmas.Bool.{or_right}
use Rattle.std.proofs.lemmas.List.Folds.{list_any-append}
use Rattle.script_parts.specs.declared.parts.ScriptRow.{ScriptRow}
use Rattle.board_rules.specs.Gates.{before_settle, is_settle_row}

settle_last : (r : ScriptRow) (rs : List ScriptRow) → is_settle_row r ≡ true → list_any is_settle_row (rs ++ r ∷ []) ≡ true
settle_last r rs is =
    list_any-append is_settle_row rs (r ∷ [])
    ∙ or_right (list_any is_settle_row rs) (is_settle_row r || false) (or-false (is_settle_row r) ∙ is)

other_last : (r : ScriptRow) (rs : List ScriptRow) → is_settle_row r ≡ false
    → list_any is_settle_row (rs ++ r ∷ []) ≡ list_any is_settle_row rs
other_last r rs is =
    list_any-append is_settle_row rs (r ∷ [])
    ∙ ap (λ (b : Bool). list_any is_settle_row rs || b) (or-false (is_settle_row r) ∙ is)
    ∙ or-false (list_any is_settle_row rs)

-- a `settle` row is behind all before it
pub behind_settle : (rs : List ScriptRow) (r : ScriptRow) → is_settle_row r ≡ true → before_settle (rs ++ r ∷ []) ≡ rs
behind_settle [] r is = refl
behind_settle (x ∷ rs) r is =
    ap (λ (b : Bool). if b then x ∷ before_settle (rs ++ r ∷ []) else []) (settle_last r rs is)
    ∙ ap (λ (ys : List ScriptRow). x ∷ ys) (behind_settle rs r is)

-- and another one leaves them
pub behind_other : (rs : List ScriptRow) (r : ScriptRow) → is_settle_row r ≡ false → before_settle (rs ++ r ∷ []) ≡ before_settle rs
behind_other [] r is = refl
behind_other (x ∷ rs) r is =
    λ i. if other_last r rs is i then x ∷ behind_other rs r is i else []
