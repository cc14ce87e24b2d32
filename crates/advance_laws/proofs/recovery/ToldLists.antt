-- What each node told, once all have: the least low version, and some node with a version that is asked for.
use Rattle.std.proofs.Common.{◌≡◌, ◌≢◌, ◌⊎◌, inl, inr, ℕ, zero, suc, ◌<◌, ◌≤◌, ◌==◌, ◌||◌, Bool, true, false, [], ◌∷◌, length, refl, sym, ap, ◌∙◌, arith, Option, Some, None}
use Rattle.std.specs.Prelude.{is_some, min, not, replicate, slice_get}
use Rattle.std.specs.List.{list_all, list_any}
use Rattle.std.proofs.lemmas.Bool.{eqb-true}
use Rattle.world_model.specs.Restarting.{AllTold, least_low, low_differs, read_is, update_is}
use Rattle.world_model.specs.declared.restarting.Told.{Told}

-- node q told this
abbrev pub HasTold : AllTold → ℕ → Told → Type 0
HasTold ts q t = slice_get ts q ≡ Some (Some t)

-- some node did, and it fits
pub record SomeTold (ts : AllTold) (P : Told → Type 0) : Type 0 where
  pub node : ℕ
  pub told : Told
  pub below : node < length ts
  pub has : HasTold ts node told
  pub fits : P told

later : (o : Option Told) (ts : AllTold) (P : Told → Type 0) → SomeTold ts P → SomeTold (o ∷ ts) P
later o ts P some = record { node = suc some.node; told = some.told; below = omega (arith, some.below); has = some.has; fits = some.fits }

-- once all have told
pub all_told : (ts : AllTold) (q : ℕ) → list_all is_some ts ≡ true → q < length ts → (t : Told) × HasTold ts q t
all_told [] q all lt = absurd (omega (arith, lt))
all_told (None ∷ ts) q all lt = absurd (cc all)
all_told (Some t ∷ ts) zero all lt = (t, refl)
all_told (Some t ∷ ts) (suc q) all lt = all_told ts q all (omega (arith, lt))

-- none told less than the least
pub least_most : (ts : AllTold) (q : ℕ) (t : Told) → HasTold ts q t → least_low ts ≤ t.low.0
least_most [] q t has = absurd (cc has)
least_most (None ∷ ts) zero t has = absurd (cc has)
least_most (None ∷ ts) (suc q) t has = least_most ts q t has
least_most (Some u ∷ ts) zero t has =
    let same : u ≡ t = cc has in omega (arith, ap (λ (x : Told). x.low.0) same)
least_most (Some u ∷ ts) (suc q) t has = omega (arith, least_most ts q t has)

-- and some node told just that, where all told small numbers
abbrev pub AreSmall : AllTold → Type 0
AreSmall ts = (q : ℕ) (t : Told) → HasTold ts q t → t.low.0 ≤ 100

small_rest : (o : Option Told) (ts : AllTold) → AreSmall (o ∷ ts) → AreSmall ts
small_rest o ts small = λ q t has. small (suc q) t has

min_is : (a b : ℕ) → (min a b ≡ a) ⊎ (min a b ≡ b)
min_is a b = grind arith

pub least_told : (ts : AllTold) → list_all is_some ts ≡ true → 1 ≤ length ts → AreSmall ts → SomeTold ts (λ (t : Told). t.low.0 ≡ least_low ts)
least_told [] all some small = absurd (omega (arith, some))
least_told (None ∷ ts) all some small = absurd (cc all)
least_told (Some t ∷ []) all some small =
    record { node = 0; told = t; below = omega arith; has = refl; fits = let few = small 0 t refl in omega (arith, few) }
least_told (Some t ∷ o ∷ ts) all some small =
    by (least_told (o ∷ ts) all (omega arith) (small_rest (Some t) (o ∷ ts) small)) (min_is t.low.0 (least_low (o ∷ ts))) where
      by : SomeTold (o ∷ ts) (λ (u : Told). u.low.0 ≡ least_low (o ∷ ts))
          → (min t.low.0 (least_low (o ∷ ts)) ≡ t.low.0) ⊎ (min t.low.0 (least_low (o ∷ ts)) ≡ least_low (o ∷ ts))
          → SomeTold (Some t ∷ o ∷ ts) (λ (u : Told). u.low.0 ≡ least_low (Some t ∷ o ∷ ts))
      by rest (inl is) = record { node = 0; told = t; below = omega arith; has = refl; fits = sym is }
      by rest (inr is) =
          later (Some t) (o ∷ ts) (λ (u : Told). u.low.0 ≡ min t.low.0 (least_low (o ∷ ts)))
          (record { node = rest.node; told = rest.told; below = rest.below; has = rest.has; fits = rest.fits ∙ sym is })

-- A test that some node passes.
some_told : (test : Option Told → Bool) (P : Told → Type 0) (ts : AllTold) → test None ≡ false → ((t : Told) → test (Some t) ≡ true → P t)
    → list_any test ts ≡ true → SomeTold ts P
some_told test P [] none fits any = absurd (cc any)
some_told test P (None ∷ ts) none fits any =
    let rest : list_any test ts ≡ true = sym (ap (λ (b : Bool). b || list_any test ts) none) ∙ any in
    later None ts P (some_told test P ts none fits rest)
some_told test P (Some t ∷ ts) none fits any = by (λ rest. some_told test P ts none fits rest) (test (Some t)) refl where
  by : (list_any test ts ≡ true → SomeTold ts P) → (b : Bool) → test (Some t) ≡ b → SomeTold (Some t ∷ ts) P
  by rest true is = record { node = 0; told = t; below = omega arith; has = refl; fits = fits t is }
  by rest false is = later (Some t) ts P (rest (sym (ap (λ (b : Bool). b || list_any test ts) is) ∙ any))

differs_is : (a f : ℕ) → not (a == f) ≡ true → a ≢ f
differs_is a f is = grind arith

pub some_low : (ts : AllTold) (f : ℕ) → list_any (low_differs f) ts ≡ true → SomeTold ts (λ (t : Told). t.low.0 ≢ f)
some_low ts f any = some_told (low_differs f) (λ (t : Told). t.low.0 ≢ f) ts refl (λ t is. differs_is t.low.0 f is) any

pub some_read : (ts : AllTold) (v : ℕ) → list_any (read_is v) ts ≡ true → SomeTold ts (λ (t : Told). t.read.0 ≡ v)
some_read ts v any = some_told (read_is v) (λ (t : Told). t.read.0 ≡ v) ts refl (λ t is. eqb-true t.read.0 v is) any

pub some_update : (ts : AllTold) (v : ℕ) → list_any (update_is v) ts ≡ true → SomeTold ts (λ (t : Told). t.update.0 ≡ v)
some_update ts v any = some_told (update_is v) (λ (t : Told). t.update.0 ≡ v) ts refl (λ t is. eqb-true t.update.0 v is) any

-- Nothing was told yet.
pub none_told : (n q : ℕ) (t : Told) → HasTold (replicate n None) q t → ⊥
none_told zero q t has = cc has
none_told (suc n) zero t has = cc has
none_told (suc n) (suc q) t has = none_told n q t has
