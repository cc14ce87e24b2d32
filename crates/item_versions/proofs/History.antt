-- Any list of updates and collections.
use Rattle.std.proofs.Common.{◌≡◌, ◌≤◌, false, ◌&&◌, ◌||◌, ◌==◌, List, [], ◌∷◌, ◌++◌, ltb, refl, ap, ◌∙◌, arith, Some, inl, inr, option_map}
use Rattle.std.proofs.lemmas.Bool.{cases_lt, lt-ltb, le-ltb, le-leb, lt-leb}
use Rattle.std.proofs.lemmas.Bool.Decides.{nat_tests}
use Rattle.tv_base.specs.declared.numbers.Version.{Version}
use Rattle.commute_ops.specs.declared.value.Value.{Value}
use Rattle.commute_ops.specs.declared.kinds.Op.{Op}
use Rattle.commute_ops.specs.Ops.{applied}
use Rattle.item_versions.specs.Item.{Held, IsHeld, below, above, applied_to_all, touched, holds, collected, seen, seen_after}
use Rattle.item_versions.specs.History.{Step, touch, collect, new_held, held_after_steps, CanRun, low_after_steps, ops_up_to, applied_each, touches, SeesUpdates, HoldsUpdated, StaysHeld}
use Rattle.item_versions.proofs.Order.{IsHeld-touched, IsHeld-collected, below-nil}
use Rattle.item_versions.proofs.Rooms.{holds-later}
use Rattle.item_versions.proofs.Seen.{seen-touched_from, seen-touched_below, seen-collected}

abbrev LowestIs : Version → Held → Type 0
LowestIs f [] = ⊥
LowestIs f (x ∷ xs) = x.0.0 ≡ f.0

LowestIs-touched : (f v : Version) (op : Op) (x : Version × Value) (xs : Held) → IsHeld (x ∷ xs) → x.0.0 ≡ f.0 → f.0 ≤ v.0 → LowestIs f (touched v op (x ∷ xs))
LowestIs-touched f v op x xs held low le =
    elim (cases_lt x.0.0 v.0) [
      | inl less ↦ rw (lt-ltb x.0.0 v.0 less) low
      | inr more ↦ rw (le-ltb x.0.0 v.0 more, below-nil v x.0.0 xs more held) (omega arith)
    ]

low-grows : (steps : List Step) (f : Version) (h : Held) → IsHeld h → LowestIs f h → CanRun f steps h → f.0 ≤ (low_after_steps f steps).0
low-grows steps f [] held low can = absurd low
low-grows [] f (x ∷ xs) held low can = omega arith
low-grows (touch v op ∷ steps) f (x ∷ xs) held low can =
    low-grows steps f (touched v op (x ∷ xs)) (IsHeld-touched v op (x ∷ xs) held) (LowestIs-touched f v op x xs held low can.0) can.3
low-grows (collect g ∷ steps) f (x ∷ xs) held low can =
    let rest = low-grows steps g (collected g (x ∷ xs)) (IsHeld-collected g (x ∷ xs) held) refl can.1 in omega (arith, can.0, low)

seen-after : (v : Version) (steps : List Step) (f : Version) (h : Held) (w : Value) → IsHeld h → LowestIs f h → CanRun f steps h → (low_after_steps f steps).0 ≤ v.0 → seen v h ≡ Some w → seen v (held_after_steps steps h) ≡ Some (applied_each w (ops_up_to v steps))
seen-after v steps f [] w held low can le is = absurd low
seen-after v [] f (x ∷ xs) w held low can le is = is
seen-after v (touch u op ∷ steps) f (x ∷ xs) w held low can le is =
    let held' = IsHeld-touched u op (x ∷ xs) held in
    let low' = LowestIs-touched f u op x xs held low can.0 in
    let first = low-grows (touch u op ∷ steps) f (x ∷ xs) held low can in
    elim (cases_lt v.0 u.0) [
      | inl less ↦
          rw (lt-leb u.0 v.0 less)
          (seen-after v steps f (touched u op (x ∷ xs)) w held' low' can.3 le (seen-touched_below v u op x xs (omega arith) less ∙ is))
      | inr more ↦
          rw (le-leb u.0 v.0 more)
          (seen-after v steps f (touched u op (x ∷ xs)) (applied w op) held' low' can.3 le (seen-touched_from v u op x xs held more ∙ ap (λ o. option_map (λ z. applied z op) o) is))
    ]
seen-after v (collect g ∷ steps) f (x ∷ xs) w held low can le is =
    let held' = IsHeld-collected g (x ∷ xs) held in
    let first = low-grows steps g (collected g (x ∷ xs)) held' refl can.1 in
    seen-after v steps g (collected g (x ∷ xs)) w held' refl can.1 le (seen-collected v g (x ∷ xs) held (omega arith) ∙ is)

pub sees_updates : SeesUpdates
sees_updates w steps v can le = seen-after v steps (record { 0 = 0 }) (new_held w) w tt refl can le refl

stays_held_from : (steps : List Step) (h : Held) → IsHeld h → IsHeld (held_after_steps steps h)
stays_held_from [] h held = held
stays_held_from (touch v op ∷ steps) h held = stays_held_from steps (touched v op h) (IsHeld-touched v op h held)
stays_held_from (collect f ∷ steps) h held = stays_held_from steps (collected f h) (IsHeld-collected f h held)

pub stays_held : StaysHeld
stays_held w steps = stays_held_from steps (new_held w) tt

-- the versions held
pub holds-append : (n : Version) (xs ys : Held) → holds n (xs ++ ys) ≡ (holds n xs || holds n ys)
holds-append n [] ys = refl
holds-append n (x ∷ xs) ys = let rest = holds-append n xs ys in grind (arith, nat_tests)

holds-applied : (n : Version) (op : Op) (xs : Held) → holds n (applied_to_all op xs) ≡ holds n xs
holds-applied n op [] = refl
holds-applied n op (x ∷ xs) = ap (λ b. x.0.0 == n.0 || b) (holds-applied n op xs)

pub holds-below : (n v : Version) (xs : Held) → holds n (below v xs) ≡ (ltb n.0 v.0 && holds n xs)
holds-below n v [] = grind (arith, nat_tests)
holds-below n v (x ∷ xs) = let rest = holds-below n v xs in grind (arith, nat_tests)

pub holds-above : (n v : Version) (xs : Held) → holds n (above v xs) ≡ (ltb v.0 n.0 && holds n xs)
holds-above n v [] = grind (arith, nat_tests)
holds-above n v (x ∷ xs) = let rest = holds-above n v xs in grind (arith, nat_tests)

pub holds-touched : (n v : Version) (op : Op) (x : Version × Value) (xs : Held) → holds n (touched v op (x ∷ xs)) ≡ (v.0 == n.0 || holds n (x ∷ xs))
holds-touched n v op x xs =
    let w = applied (seen_after x.1 v xs) op in
    let joined = holds-append n (below v (x ∷ xs)) ((v, w) ∷ applied_to_all op (above v (x ∷ xs))) in
    let lower = holds-below n v (x ∷ xs) in
    let all = holds-applied n op (above v (x ∷ xs)) in
    let upper = holds-above n v (x ∷ xs) in
    joined ∙ (let e : (holds n (below v (x ∷ xs)) || (v.0 == n.0 || holds n (applied_to_all op (above v (x ∷ xs))))) ≡ (v.0 == n.0 || holds n (x ∷ xs)) = rw (lower, all, upper) (grind (arith, nat_tests)) in e)

holds-run : (n : Version) (steps : List Step) (f : Version) (h : Held) → IsHeld h → LowestIs f h → CanRun f steps h → holds n (held_after_steps steps h) ≡ ((low_after_steps f steps).0 == n.0 || (ltb (low_after_steps f steps).0 n.0 && (holds n h || touches n steps)))
holds-run n steps f [] held low can = absurd low
holds-run n [] f (x ∷ xs) held low can =
    let later : n.0 ≤ x.0.0 → holds n xs ≡ false = λ le. holds-later n x.0.0 xs le held in grind (arith, nat_tests)
holds-run n (touch v op ∷ steps) f (x ∷ xs) held low can =
    let rest = holds-run n steps f (touched v op (x ∷ xs)) (IsHeld-touched v op (x ∷ xs) held) (LowestIs-touched f v op x xs held low can.0) can.3 in
    let same = holds-touched n v op x xs in
    rest ∙ rw same (grind (arith, nat_tests))
holds-run n (collect g ∷ steps) f (x ∷ xs) held low can =
    let held' = IsHeld-collected g (x ∷ xs) held in
    let rest = holds-run n steps g (collected g (x ∷ xs)) held' refl can.1 in
    let first = low-grows steps g (collected g (x ∷ xs)) held' refl can.1 in
    let upper = holds-above n g (x ∷ xs) in
    rest ∙ rw upper (grind (arith, nat_tests))

pub holds_updated : HoldsUpdated
holds_updated w steps v can =
    let run = holds-run v steps (record { 0 = 0 }) (new_held w) tt refl can in grind (arith, nat_tests)
