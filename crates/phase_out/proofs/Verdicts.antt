-- What a verdict says of rows and pairs.
use Rattle.std.proofs.Common.{◌≡◌, ℕ, zero, suc, ◌<◌, Bool, true, false, ◌&&◌, [], ◌∷◌, refl, arith, inl, inr, Some, None}
use Rattle.std.specs.Prelude.{◌↔◌, IsNone, IsTrue}
use Rattle.std.proofs.lemmas.Bool.{cases_eq, eq-eqb, ne_eqb}
use Rattle.std.proofs.lemmas.Bool.Decides.{nat_tests}
use Rattle.phase_out.specs.Rounds.{NodeRows, RoundData, all_in, IsMissing, MissesRow, PairDiffers, pair_agrees, kept_number, all_below, agrees, verdict_of}

-- a test that fails at one number below n fails
pub all_below-false : (n k : ℕ) (f : ℕ → Bool) → k < n → f k ≡ false → all_below n f ≡ false
all_below-false zero k f lt fails = absurd (omega arith)
all_below-false (suc n) k f lt fails =
    elim (cases_eq k n) [
      | inl eq ↦ let fails' : f n ≡ false = rw (← eq) fails in grind (arith, nat_tests)
      | inr ne ↦ let rest = all_below-false n k f (omega arith) fails in grind (arith, nat_tests)
    ]

-- a test that fails, fails at some number
fails-next : (n : ℕ) (f : ℕ → Bool) → (all_below n f ≡ false → (k : ℕ) × ((k < n) × (f k ≡ false))) → (a b : Bool) → all_below n f ≡ a → f n ≡ b → (a && b) ≡ false → (k : ℕ) × ((k < suc n) × (f k ≡ false))
fails-next n f rest a false was is fails = (n, (omega arith, is))
fails-next n f rest false true was is fails = let (k, found) = rest was in (k, (omega (arith, found.0), found.1))
fails-next n f rest true true was is fails = absurd (let h = fails in cc)

pub fails-below : (n : ℕ) (f : ℕ → Bool) → all_below n f ≡ false → (k : ℕ) × ((k < n) × (f k ≡ false))
fails-below zero f fails = absurd (let h = fails in cc)
fails-below (suc n) f fails = fails-next n f (λ h. fails-below n f h) (all_below n f) (f n) refl refl fails

-- a test that does not fail holds at each number
holds-at : (n k : ℕ) (f : ℕ → Bool) → all_below n f ≡ true → k < n → (b : Bool) → f k ≡ b → f k ≡ true
holds-at n k f all lt true is = is
holds-at n k f all lt false is = absurd (let fails = all_below-false n k f lt is in cc)

pub holds-below : (n k : ℕ) (f : ℕ → Bool) → all_below n f ≡ true → k < n → f k ≡ true
holds-below n k f all lt = holds-at n k f all lt (f k) refl

-- some row is missing; no row is
pub missing-somewhere : (ks : NodeRows) → all_in ks ≡ false → (p : ℕ) × IsMissing ks p
missing-somewhere [] fails = absurd (let h = fails in cc)
missing-somewhere (None ∷ ks) fails = (0, refl)
missing-somewhere (Some row ∷ ks) fails = let (p, missing) = missing-somewhere ks fails in (suc p, missing)

pub missing-nowhere : (ks : NodeRows) (p : ℕ) → all_in ks ≡ true → IsMissing ks p → ⊥
missing-nowhere [] p all missing = cc
missing-nowhere (None ∷ ks) p all missing = cc
missing-nowhere (Some row ∷ ks) zero all missing = cc
missing-nowhere (Some row ∷ ks) (suc p) all missing = missing-nowhere ks p all missing

-- no answer if a row is missing
none-missing : (r : RoundData) → all_in r.dones ≡ true → all_in r.askeds ≡ true → MissesRow r → ⊥
none-missing r da aa m =
    elim m.1 [ inl d ↦ missing-nowhere r.dones m.0 da d | inr a ↦ missing-nowhere r.askeds m.0 aa a ]

missing-when : (r : RoundData) (a b : Bool) → all_in r.dones ≡ a → all_in r.askeds ≡ b → IsNone (verdict_of r) ↔ MissesRow r
missing-when r true true da aa =
    rw (da, aa) ((λ fails. absurd (let h = fails in cc)), (λ m. absurd (none-missing r da aa m)))
missing-when r true false da aa =
    let (p, missing) = missing-somewhere r.askeds aa in
    rw (da, aa) ((λ fails. (p, inr missing)), (λ m. refl))
missing-when r false b da aa =
    let (p, missing) = missing-somewhere r.dones da in
    rw da ((λ fails. (p, inl missing)), (λ m. refl))

pub verdict-missing : (r : RoundData) → IsNone (verdict_of r) ↔ MissesRow r
verdict-missing r = missing-when r (all_in r.dones) (all_in r.askeds) refl refl

-- a pair that differs, and no pair that does
pub differs-some : (r : RoundData) → agrees r.nodes r.askeds r.dones ≡ false → PairDiffers r
differs-some r fails =
    let (p, found) = fails-below r.nodes (λ p. all_below r.nodes (pair_agrees r.askeds r.dones p)) fails in
    let (q, there) = fails-below r.nodes (pair_agrees r.askeds r.dones p) found.1 in
    (p, (q, (found.0, there.0, λ same. absurd (let eq = eq-eqb (kept_number r.askeds p q) (kept_number r.dones q p) same in cc))))

pub differs-none : (r : RoundData) → agrees r.nodes r.askeds r.dones ≡ true → PairDiffers r → ⊥
differs-none r all d =
    let (p, (q, (within, within', differ))) = d in
    let row = holds-below r.nodes p (λ p. all_below r.nodes (pair_agrees r.askeds r.dones p)) all within in
    let pair = holds-below r.nodes q (pair_agrees r.askeds r.dones p) row within' in
    let differs = ne_eqb (kept_number r.askeds p q) (kept_number r.dones q p) differ in
    cc

-- false if none is missing and a pair differs
differs-when : (r : RoundData) (a b c : Bool) → all_in r.dones ≡ a → all_in r.askeds ≡ b → agrees r.nodes r.askeds r.dones ≡ c → (verdict_of r ≡ Some false) ↔ ((MissesRow r → ⊥) × PairDiffers r)
differs-when r true true true da aa ag =
    rw (da, aa, ag) ((λ h. absurd (let e = h in cc)), (λ d. absurd (differs-none r ag d.1)))
differs-when r true true false da aa ag =
    rw (da, aa, ag) ((λ _. (none-missing r da aa, differs-some r ag)), (λ _. refl))
differs-when r true false c da aa ag =
    let (p, missing) = missing-somewhere r.askeds aa in
    rw (da, aa) ((λ h. absurd (let e = h in cc)), (λ d. absurd (d.0 (p, inr missing))))
differs-when r false b c da aa ag =
    let (p, missing) = missing-somewhere r.dones da in
    rw da ((λ h. absurd (let e = h in cc)), (λ d. absurd (d.0 (p, inl missing))))

pub verdict-differs : (r : RoundData) → (verdict_of r ≡ Some false) ↔ ((MissesRow r → ⊥) × PairDiffers r)
verdict-differs r = differs-when r (all_in r.dones) (all_in r.askeds) (agrees r.nodes r.askeds r.dones) refl refl refl

-- all are in exactly if none is missing
in-when : (ks : NodeRows) (b : Bool) → all_in ks ≡ b → IsTrue (all_in ks) ↔ ((p : ℕ) → IsMissing ks p → ⊥)
in-when ks true all = rw all ((λ _ p missing. missing-nowhere ks p all missing), (λ _. refl))
in-when ks false fails =
    let (p, missing) = missing-somewhere ks fails in
    rw fails ((λ h. absurd (let e = h in cc)), (λ none. absurd (none p missing)))

pub in-each : (ks : NodeRows) → IsTrue (all_in ks) ↔ ((p : ℕ) → IsMissing ks p → ⊥)
in-each ks = in-when ks (all_in ks) refl
