-- Where the parts of an entry begin.
use Rattle.std.proofs.Common.{◌≡◌, ℕ, zero, suc, ◌<◌, List, [], ◌∷◌, length, refl, arith}
use Rattle.std.specs.Prelude.{get_or}
use Rattle.run_history.specs.declared.record.Slot.{Slot}
use Rattle.run_history.specs.inside.Slots.{slot_begins}

pub begins_first : (f : Slot → ℕ) (d : ℕ) (ps : List Slot) → slot_begins f d ps 0 ≡ d
begins_first f d [] = refl
begins_first f d (p ∷ ps) = refl

pub begins_later : (f : Slot → ℕ) (d : ℕ) (ps : List Slot) (k : ℕ) (p : Slot) → k < length ps
    → slot_begins f d ps (suc k) ≡ f (get_or ps k p)
begins_later f d [] k p lt = absurd (omega arith)
begins_later f d (q ∷ ps) zero p lt = begins_first f (f q) ps
begins_later f d (q ∷ ps) (suc k) p lt = begins_later f (f q) ps k p (omega arith)
