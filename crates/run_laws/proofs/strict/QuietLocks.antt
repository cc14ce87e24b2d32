-- What a transaction meets by the look back is the same after acts that don't last.
use Rattle.std.proofs.Common.{◌≡◌, ℕ, zero, suc, ◌==◌, ◌&&◌, Bool, true, false, not, List, [], ◌∷◌, ◌++◌, map, refl, ap, ◌∙◌, append-nil, Option, Some}
use Rattle.std.specs.Prelude.{if◌then◌else◌, fold, length}
use Rattle.std.specs.List.{list_any}
use Rattle.std.specs.Option.{option_or}
use Rattle.std.proofs.lemmas.List.Sums.{fold-append}
use Rattle.letter_types.specs.declared.acts.Act.{Act}
use Rattle.letter_types.specs.declared.acts.Act.TheVariants.{Did, Voted, Freed, Applied, Finished}
use Rattle.letter_types.specs.declared.votes.Cause.{Cause}
use Rattle.nc_locks.specs.declared.modes.Mode.{Mode}
use Rattle.nc_locks.specs.Modes.{modes_conflict}
use Rattle.script_parts.specs.Wants.{mode_wanted}
use Rattle.script_parts.specs.declared.parts.SubOp.{SubOp}
use Rattle.script_parts.specs.ScriptData.{ScriptData}
use Rattle.board_rules.specs.Histories.{Place}
use Rattle.board_rules.specs.Stands.{conflict_of, conflict_with, conflicts_with, holder_of, least_from, locked_by, modes_after, modes_on, modes_standing}
use Rattle.board_rules.proofs.ActTests.{releases}
use Rattle.run_laws.proofs.act_order.RowActs.{is_lasting, lasting}
use Rattle.run_laws.proofs.act_order.Fronts.{placed}

-- An act that doesn't last takes and frees no lock.
no_change : (b : Bool) (modes : List Mode) → (if b && false then [] else modes ++ []) ≡ modes
no_change true modes = append-nil modes
no_change false modes = append-nil modes

quiet_at : (s : ScriptData) (p x k n : ℕ) (modes : List Mode) (a : Act) → is_lasting a ≡ false
    → (if (n == p) && releases k a then [] else modes ++ modes_on x (locked_by s k a)) ≡ modes
quiet_at s p x k n modes (Did t j values) quiet = absurd (cc quiet)
quiet_at s p x k n modes (Voted t j vote) quiet = absurd (cc quiet)
quiet_at s p x k n modes (Freed t) quiet = absurd (cc quiet)
quiet_at s p x k n modes (Applied t commit) quiet = absurd (cc quiet)
quiet_at s p x k n modes Finished quiet = no_change (n == p) modes
quiet_at s p x k n modes _ quiet = no_change (n == p) modes

none_of : (a : Act) (xs : List Act) (b : Bool) → is_lasting a ≡ b → (if b then a ∷ lasting xs else lasting xs) ≡ []
    → (is_lasting a ≡ false) × (lasting xs ≡ [])
none_of a xs true is none = absurd (cc none)
none_of a xs false is none = (is, none)

pub first_quiet : (a : Act) (xs : List Act) → lasting (a ∷ xs) ≡ [] → (is_lasting a ≡ false) × (lasting xs ≡ [])
first_quiet a xs none = none_of a xs (is_lasting a) refl none

quiet_fold : (s : ScriptData) (p x k n : ℕ) (modes : List Mode) (ys : List Act) → lasting ys ≡ []
    → fold (modes_after s p x k) modes (map (placed n) ys) ≡ modes
quiet_fold s p x k n modes [] none = refl
quiet_fold s p x k n modes (a ∷ ys) none =
    let q = first_quiet a ys none in
    ap (λ (ms : List Mode). fold (modes_after s p x k) ms (map (placed n) ys)) (quiet_at s p x k n modes a q.0)
    ∙ quiet_fold s p x k n modes ys q.1

modes_stay : (s : ScriptData) (xs : List Place) (p x k n : ℕ) (ys : List Act) → lasting ys ≡ []
    → modes_standing s (xs ++ map (placed n) ys) p x k ≡ modes_standing s xs p x k
modes_stay s xs p x k n ys none = fold-append (modes_after s p x k) [] xs (map (placed n) ys) ∙ quiet_fold s p x k n (modes_standing s xs p x k) ys none

-- So it changes nothing of what is met.
least_same : (f g : ℕ → Bool) (m n : ℕ) → ((k : ℕ) → f k ≡ g k) → least_from f m n ≡ least_from g m n
least_same f g m zero same = refl
least_same f g m (suc n) same =
    ap (λ (b : Bool). if b then Some m else least_from f (suc m) n) (same m)
    ∙ ap (λ (o : Option ℕ). if g m then Some m else o) (least_same f g (suc m) n same)

conflict_same : (s : ScriptData) (xs ys : List Place) (p t : ℕ) (os : List SubOp)
    → ((x k : ℕ) → modes_standing s ys p x k ≡ modes_standing s xs p x k) → conflict_of s ys p t os ≡ conflict_of s xs p t os
conflict_same s xs ys p t [] same = refl
conflict_same s xs ys p t (o ∷ os) same =
    let mode : Mode = mode_wanted o.deed in
    let holder : holder_of s ys p t o.item.0 mode ≡ holder_of s xs p t o.item.0 mode =
    least_same (λ (k : ℕ). not (k == t) && conflicts_with s ys p o.item.0 mode k) (λ (k : ℕ). not (k == t) && conflicts_with s xs p o.item.0 mode k)
    0 (length s.trees) (λ k. ap (λ (ms : List Mode). not (k == t) && list_any (modes_conflict mode) ms) (same o.item.0 k)) in
    ap (λ (h : Option ℕ). option_or (conflict_with o.item h) (conflict_of s ys p t os)) holder
    ∙ ap (λ (r : Option Cause). option_or (conflict_with o.item (holder_of s xs p t o.item.0 mode)) r) (conflict_same s xs ys p t os same)

pub conflict_stays : (s : ScriptData) (xs : List Place) (p t n : ℕ) (os : List SubOp) (ys : List Act) → lasting ys ≡ []
    → conflict_of s (xs ++ map (placed n) ys) p t os ≡ conflict_of s xs p t os
conflict_stays s xs p t n os ys none =
    conflict_same s xs (xs ++ map (placed n) ys) p t os (λ x k. modes_stay s xs p x k n ys none)
