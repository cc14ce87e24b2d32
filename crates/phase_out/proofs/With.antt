-- What a round would be with one row more.
use Rattle.std.proofs.Common.{◌≡◌, ℕ, zero, suc, ◌+◌, ◌-◌, ◌<◌, ◌&&◌, List, [], ◌∷◌, take, drop, length, refl, ap, arith, Some, None, ◌≤◌, false, replicate}
use Rattle.std.specs.Prelude.{slice_get, slice_set}
use Rattle.std.proofs.lemmas.List.{take_rest}
use Rattle.std.proofs.Math.Numerals.{add-one}
use Rattle.phase_out.specs.Rounds.{NodeRows, RoundData, all_in, verdict_of}

-- if one row is put in, none is missing if none of the others is
in-around : (ks : NodeRows) (p : ℕ) (row : List ℕ) → p < length ks
    → all_in (slice_set ks p (Some row)) ≡ (all_in (take p ks) && all_in (drop (suc p) ks))
in-around [] p row lt = absurd (omega (arith, lt))
in-around (k ∷ ks) zero row lt = refl
in-around (None ∷ ks) (suc p) row lt = refl
in-around (Some kept ∷ ks) (suc p) row lt = in-around ks p row (omega (arith, lt))

-- the same, with what comes after the place as a slice has it
pub in-with : (ks : NodeRows) (p : ℕ) (row : List ℕ) → p < length ks
    → all_in (slice_set ks p (Some row)) ≡ (all_in (take p ks) && all_in (take (length ks - (p + 1)) (drop (p + 1) ks)))
in-with ks p row lt =
    rw (take_rest ks (p + 1), add-one p) (in-around ks p row lt)

-- the first node's row, put in place of itself, leaves the verdict as it is
first-kept : (ks : NodeRows) (row : List ℕ) → slice_get ks 0 ≡ Some (Some row) → slice_set ks 0 (Some row) ≡ ks
first-kept [] row is = refl
first-kept (k ∷ ks) row is = cc

pub own-verdict : (r : RoundData) (row : List ℕ) → slice_get r.askeds 0 ≡ Some (Some row)
    → verdict_of (record r { askeds = slice_set r.askeds 0 (Some row) }) ≡ verdict_of r
own-verdict r row is = ap (λ (ks : NodeRows). verdict_of (record r { askeds = ks })) (first-kept r.askeds row is)

-- of rows none of which has come, not all are there
pub none_in : (n : ℕ) → 1 ≤ n → all_in (replicate n None) ≡ false
none_in zero some = absurd (omega (arith, some))
none_in (suc n) some = refl
