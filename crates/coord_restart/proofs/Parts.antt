-- What holds of what nodes told, by its three parts: each told, some pass a test, the least low version. And one place
-- of a list between the others.
use Rattle.std.proofs.Common.{◌≡◌, ◌≤◌, ◌-◌, ◌^◌, ◌∙◌, ap, sym, ℕ, zero, suc, ◌&&◌, [], ◌∷◌, ◌++◌, arith, Some, None, length, take, drop, Option}
use Rattle.std.specs.Prelude.{◌+◌, ◌<◌, ◌||◌, min, is_some, slice_set}
use Rattle.std.specs.List.{list_all, list_any}
use Rattle.std.proofs.lemmas.List.{take-append-drop, take-set-le, drop-set}
use Rattle.std.proofs.lemmas.List.Folds.{list_all-append, list_any-append}
use Rattle.world_model.specs.declared.restarting.Told.{Told}
use Rattle.world_model.specs.Restarting.{AllTold, least_low}
use Rattle.coord_restart.specs.declared.tellings.Test.{Test}
use Rattle.coord_restart.specs.inside.Tests.{passes}

-- each node told
pub all_parts : (xs ys zs : AllTold)
    → list_all is_some (xs ++ (ys ++ zs)) ≡ (list_all is_some xs && (list_all is_some ys && list_all is_some zs))
all_parts xs ys zs = list_all-append is_some xs (ys ++ zs) ∙ ap (λ b. list_all is_some xs && b) (list_all-append is_some ys zs)

-- what some node told passes a test
pub any_parts : (test : Test) (xs ys zs : AllTold) → list_any (passes test) (xs ++ (ys ++ zs))
    ≡ (list_any (passes test) xs || (list_any (passes test) ys || list_any (passes test) zs))
any_parts test xs ys zs =
    list_any-append (passes test) xs (ys ++ zs)
    ∙ ap (λ b. list_any (passes test) xs || b) (list_any-append (passes test) ys zs)

-- the least low version is a number of 64 bits
least_low-fits : (ts : AllTold) → least_low ts ≤ 2 ^ 64 - 1
least_low-fits [] = omega arith
least_low-fits (None ∷ ts) = least_low-fits ts
least_low-fits (Some t ∷ ts) = omega (arith, least_low-fits ts)

least_low-append : (xs ys : AllTold) → least_low (xs ++ ys) ≡ min (least_low xs) (least_low ys)
least_low-append [] ys = omega (arith, least_low-fits ys)
least_low-append (None ∷ xs) ys = least_low-append xs ys
least_low-append (Some t ∷ xs) ys = omega (arith, least_low-append xs ys)

-- the same, looked for one after the other: at first, and at the end
pub least_first : (ts : AllTold) → min (2 ^ 64 - 1) (least_low ts) ≡ least_low ts
least_first ts = omega (arith, least_low-fits ts)

pub least_last : (ts : AllTold) (i m : ℕ) → length ts ≤ i → m ≤ 2 ^ 64 - 1 → min m (least_low (drop i ts)) ≡ m
least_last [] zero m all fits = omega (arith, fits)
least_last [] (suc i) m all fits = omega (arith, fits)
least_last (t ∷ ts) zero m all fits = absurd (omega (arith, all))
least_last (t ∷ ts) (suc i) m all fits = least_last ts i m (omega (arith, all)) fits

pub least_parts : (xs ys zs : AllTold)
    → least_low (xs ++ (ys ++ zs)) ≡ min (least_low xs) (min (least_low ys) (least_low zs))
least_parts xs ys zs = least_low-append xs (ys ++ zs) ∙ ap (λ n. min (least_low xs) n) (least_low-append ys zs)

-- one place of a list, between those before it and those after it
pub set_parts : (ts : AllTold) (i : ℕ) (t : Option Told) → i < length ts → take i ts ++ (t ∷ drop (i + 1) ts) ≡ slice_set ts i t
set_parts ts i t lt =
    ap (λ (xs : AllTold). xs ++ (t ∷ drop (i + 1) ts)) (sym (take-set-le i ts i t (omega arith)))
    ∙ ap (λ (xs : AllTold). take i (slice_set ts i t) ++ xs) (sym (drop-set ts i t lt))
    ∙ take-append-drop i (slice_set ts i t)
