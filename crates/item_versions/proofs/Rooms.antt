-- Why an item's places are enough, what is below a version or left when one is taken out, and which value needed
-- memory: a bag that is seen is held.
use Rattle.std.specs.Prelude.{IsTrue, ◌||◌, if◌then◌else◌, Some}
use Rattle.std.specs.List.{remove}
use Rattle.std.proofs.Common.{◌≡◌, ℕ, ◌+◌, ◌<◌, ◌≤◌, true, false, [], ◌∷◌, ◌++◌, length, take, leb, refl, ap, ◌∙◌, arith}
use Rattle.std.proofs.lemmas.Bool.Decides.{nat_tests}
use Rattle.std.proofs.lemmas.Grind.{common_steps}
use Rattle.std.proofs.lemmas.List.{length-map}
use Rattle.tv_base.specs.declared.numbers.Version.{Version}
use Rattle.commute_ops.specs.declared.value.Value.{Value}
use Rattle.commute_ops.specs.declared.kinds.Op.{Op}
use Rattle.commute_ops.specs.Ops.{is_bag}
use Rattle.item_versions.specs.declared.item.TheConstants.{MOST_VERSIONS}
use Rattle.item_versions.specs.inside.InPlace.{raised_from}
use Rattle.item_versions.specs.Item.{Held, AscendsAbove, IsHeld, below, above, applied_to_all, seen, seen_after, holds, has_room, has_bag}
use Rattle.item_versions.proofs.Order.{below-nil}
use Rattle.item_versions.proofs.Seen.{above-later}

parts-le : (v : Version) (xs : Held) → length (below v xs) + length (above v xs) ≤ length xs
parts-le v [] = omega arith
parts-le v (x ∷ xs) = let h = parts-le v xs in grind (arith, nat_tests)

parts-lt : (v : Version) (xs : Held) → holds v xs ≡ true → length (below v xs) + length (above v xs) < length xs
parts-lt v [] is = absurd (cc is)
parts-lt v (x ∷ xs) is = let h = parts-lt v xs in let le = parts-le v xs in grind (arith, nat_tests)

-- a version held is neither below itself nor above; else one place more is free
pub places_enough : (v : Version) (xs : Held) → has_room v xs ≡ true → length xs ≤ MOST_VERSIONS
    → length (below v xs) + (1 + length (above v xs)) ≤ MOST_VERSIONS
places_enough v xs room few =
    let lt = parts-lt v xs in
    let le = parts-le v xs in
    grind (arith, nat_tests)

seen_after_bag : (w : Value) (v : Version) (xs : Held) → is_bag (seen_after w v xs) ≡ true
    → (is_bag w || has_bag xs) ≡ true
seen_after_bag w v [] is = grind arith
seen_after_bag w v (x ∷ xs) is =
    let h = seen_after_bag (if leb x.0.0 v.0 then x.1 else w) v xs is in
    grind (arith, nat_tests)

-- a bag that is seen is held
pub seen_bag : (v : Version) (w : Value) (xs : Held) → seen v xs ≡ Some w → IsTrue (is_bag w) → IsTrue (has_bag xs)
seen_bag v w [] is bag = absurd (cc is)
seen_bag v w (x ∷ xs) is bag =
    let e : seen_after x.1 v xs ≡ w = cc is in
    seen_after_bag x.1 v xs (ap is_bag e ∙ bag)

-- the versions below v are the first ones
below-first_above : (v : Version) (n : ℕ) (xs : Held) → AscendsAbove n xs → take (length (below v xs)) xs ≡ below v xs
below-first_above v n [] up = refl
below-first_above v n (x ∷ xs) up =
    let none : v.0 ≤ x.0.0 → below v xs ≡ [] = λ le. below-nil v x.0.0 xs le up.1 in
    let rest = below-first_above v x.0.0 xs up.1 in
    grind (arith, nat_tests, common_steps)

pub below-first : (v : Version) (xs : Held) → IsHeld xs → take (length (below v xs)) xs ≡ below v xs
below-first v [] held = refl
below-first v (x ∷ xs) held =
    let none : v.0 ≤ x.0.0 → below v xs ≡ [] = λ le. below-nil v x.0.0 xs le held in
    let rest = below-first_above v x.0.0 xs held in
    grind (arith, nat_tests, common_steps)

-- a version held is below no other place than its own
pub place-held : (v : Version) (xs : Held) → holds v xs ≡ true → length (below v xs) < length xs
place-held v xs is = let lt = parts-lt v xs is in omega arith

pub holds-later : (v : Version) (n : ℕ) (xs : Held) → v.0 ≤ n → AscendsAbove n xs → holds v xs ≡ false
holds-later v n [] le up = refl
holds-later v n (x ∷ xs) le up =
    let rest = holds-later v x.0.0 xs (omega (arith, up.0)) up.1 in
    let less = up.0 in
    grind (arith, nat_tests)

-- a version held is taken out of its place
without-rest : (v : Version) (x : Version × Value) (xs : Held) → AscendsAbove x.0.0 xs → holds v (x ∷ xs) ≡ true
    → remove (x ∷ xs) (length (below v (x ∷ xs))) ≡ below v (x ∷ xs) ++ above v (x ∷ xs)
without-rest v x [] up is = grind (arith, nat_tests, common_steps)
without-rest v x (y ∷ ys) up is =
    let none : v.0 ≤ x.0.0 → below v (y ∷ ys) ≡ [] = λ le. below-nil v x.0.0 (y ∷ ys) le up in
    let all : v.0 ≤ x.0.0 → above v (y ∷ ys) ≡ y ∷ ys = λ le. above-later v x.0.0 (y ∷ ys) le up in
    let past : v.0 ≤ x.0.0 → holds v (y ∷ ys) ≡ false = λ le. holds-later v x.0.0 (y ∷ ys) le up in
    let rest = without-rest v y ys up.1 in
    grind (arith, nat_tests, common_steps)

pub without-held : (v : Version) (xs : Held) → IsHeld xs → holds v xs ≡ true
    → remove xs (length (below v xs)) ≡ below v xs ++ above v xs
without-held v [] held is = absurd held
without-held v (x ∷ xs) held is = without-rest v x xs held is

-- a version that is not held is not there to be taken out
none-first : (v : Version) (x : Version × Value) (xs : Held) → AscendsAbove x.0.0 xs
    → (holds v xs ≡ false → xs ≡ below v xs ++ above v xs) → holds v (x ∷ xs) ≡ false
    → x ∷ xs ≡ below v (x ∷ xs) ++ above v (x ∷ xs)
none-first v x xs up rest is =
    let none : v.0 ≤ x.0.0 → below v xs ≡ [] = λ le. below-nil v x.0.0 xs le up in
    let all : v.0 ≤ x.0.0 → above v xs ≡ xs = λ le. above-later v x.0.0 xs le up in
    grind (arith, nat_tests, common_steps)

without-none_above : (v : Version) (n : ℕ) (xs : Held) → AscendsAbove n xs → holds v xs ≡ false
    → xs ≡ below v xs ++ above v xs
without-none_above v n [] up is = refl
without-none_above v n (x ∷ xs) up is = none-first v x xs up.1 (without-none_above v x.0.0 xs up.1) is

pub without-none : (v : Version) (xs : Held) → IsHeld xs → holds v xs ≡ false → xs ≡ below v xs ++ above v xs
without-none v [] held is = refl
without-none v (x ∷ xs) held is = none-first v x xs held (without-none_above v x.0.0 xs held) is

-- after an update, version v and those above it are there
pub length-raised : (v : Version) (op : Op) (xs : Held) → IsHeld xs
    → length (raised_from v op xs) ≡ 1 + length (above v xs)
length-raised v op [] held = absurd held
length-raised v op (x ∷ xs) held =
    let same : length (applied_to_all op (above v (x ∷ xs))) ≡ length (above v (x ∷ xs)) = simp length-map in
    omega arith

pub ruleset taking = (place-held, without-held, without-none)
