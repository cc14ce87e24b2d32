-- Lists that grow at their end, or whose last is changed: what holds of all, what is distinct, and what is a sum.
use Rattle.std.proofs.Common.{◌≡◌, ◌<◌, ◌≤◌, ◌+◌, ℕ, zero, suc, Bool, true, false, List, [], ◌∷◌, ◌++◌, get_or, length, replicate, refl, ap, ◌∙◌, subst, arith, length-append}
use Rattle.std.specs.Prelude.{◌||◌, Option, Some, None, slice_get}
use Rattle.std.specs.List.{AllByRecursion, IsDistinct, list_any}
use Rattle.std.proofs.Math.Seq.{get_or-append_seam}
use Rattle.std.proofs.lemmas.List.{get_or_default}
use Rattle.std.proofs.lemmas.Option.{slice_get-get_or}
use Rattle.std.proofs.lemmas.Bool.{or_from}
use Rattle.script_parts.specs.Adding.{last_of, on_last}

-- tests

pub or_left : (a b : Bool) → (a || b) ≡ false → a ≡ false
or_left true b e = absurd cc
or_left false b e = refl

pub or_right : (a b : Bool) → (a || b) ≡ false → b ≡ false
or_right true b e = absurd cc
or_right false b e = e

-- places

pub slice_get-seam : {A : Type 0} (xs ys : List A) (y : A) → slice_get (xs ++ y ∷ ys) (length xs) ≡ Some y
slice_get-seam xs ys y =
    let more : length xs < length (xs ++ y ∷ ys) = omega (arith, length-append xs (y ∷ ys)) in
    slice_get-get_or (xs ++ y ∷ ys) (length xs) y more ∙ ap Some (get_or-append_seam xs y ys y)

-- each of a list of equal ones
pub get_replicate : {A : Type 0} (n i : ℕ) (a : A) → get_or (replicate n a) i a ≡ a
get_replicate zero i a = refl
get_replicate (suc n) zero a = refl
get_replicate (suc n) (suc i) a = get_replicate n i a

-- what holds of all

pub all-push : {A : Type 0} (P : A → Type 0) (xs : List A) (x : A) → AllByRecursion P xs → P x → AllByRecursion P (xs ++ x ∷ [])
all-push P [] x h p = (p, tt)
all-push P (y ∷ xs) x h p = (h.0, all-push P xs x h.1 p)

pub all-seam : {A : Type 0} (P : A → Type 0) (xs ys : List A) (y : A) → AllByRecursion P (xs ++ y ∷ ys) → P y
all-seam P [] ys y h = h.0
all-seam P (x ∷ xs) ys y h = all-seam P xs ys y h.1

pub all-before : {A : Type 0} (P : A → Type 0) (xs ys : List A) → AllByRecursion P (xs ++ ys) → AllByRecursion P xs
all-before P [] ys h = tt
all-before P (x ∷ xs) ys h = (h.0, all-before P xs ys h.1)

pub all-weaker : {A : Type 0} (P Q : A → Type 0) → ((x : A) → P x → Q x) → (xs : List A) → AllByRecursion P xs → AllByRecursion Q xs
all-weaker P Q f [] h = tt
all-weaker P Q f (x ∷ xs) h = (f x h.0, all-weaker P Q f xs h.1)

-- what holds of all, where the last has changed, held before
pub all-before_last : {A : Type 0} (P : A → Type 0) (f : A → A) → ((x : A) → P (f x) → P x) → (xs : List A) → AllByRecursion P (on_last f xs) → AllByRecursion P xs
all-before_last P f step [] h = tt
all-before_last P f step (x ∷ []) h = (step x h.0, tt)
all-before_last P f step (x ∷ y ∷ ys) h = (h.0, all-before_last P f step (y ∷ ys) h.1)

pub all-on_last : {A : Type 0} (P : A → Type 0) (f : A → A) (xs : List A) → AllByRecursion P xs → ((x : A) → last_of xs ≡ Some x → P x → P (f x)) → AllByRecursion P (on_last f xs)
all-on_last P f [] h step = tt
all-on_last P f (x ∷ []) h step = (step x refl h.0, tt)
all-on_last P f (x ∷ y ∷ ys) h step = (h.0, all-on_last P f (y ∷ ys) h.1 step)

pub all-last : {A : Type 0} (P : A → Type 0) (xs : List A) (x : A) → AllByRecursion P xs → last_of xs ≡ Some x → P x
all-last P [] x h e = absurd cc
all-last {A} P (y ∷ []) x h e = let Q : Option A → Type 0 = λ o. elim o [ None ↦ Unit {0} | Some z ↦ P z ] in subst Q e h.0
all-last P (y ∷ z ∷ zs) x h e = all-last P (z ∷ zs) x h.1 e

pub last_some : {A : Type 0} (xs : List A) → 0 < length xs → (x : A) × (last_of xs ≡ Some x)
last_some [] some = absurd (omega arith)
last_some (x ∷ []) some = (x, refl)
last_some (x ∷ y ∷ ys) some = last_some (y ∷ ys) (omega arith)

pub last_of-seam : {A : Type 0} (xs : List A) (x : A) → last_of (xs ++ x ∷ []) ≡ Some x
last_of-seam [] x = refl
last_of-seam (y ∷ []) x = refl
last_of-seam (y ∷ z ∷ zs) x = last_of-seam (z ∷ zs) x

pub last_of-on_last : {A : Type 0} (f : A → A) (xs : List A) (x : A) → last_of xs ≡ Some x → last_of (on_last f xs) ≡ Some (f x)
last_of-on_last f [] x e = absurd cc
last_of-on_last f (y ∷ []) x e = let is : y ≡ x = cc in ap (λ (z : _). Some (f z)) is
last_of-on_last f (y ∷ z ∷ []) x e = last_of-on_last f (z ∷ []) x e
last_of-on_last f (y ∷ z ∷ w ∷ ws) x e = last_of-on_last f (z ∷ w ∷ ws) x e

-- the last of some, and those before it
pub split_last : {A : Type 0} (xs : List A) → 0 < length xs → (front : List A) × (x : A) × (xs ≡ front ++ x ∷ [])
split_last [] some = absurd (omega arith)
split_last (x ∷ []) some = ([], x, refl)
split_last (x ∷ y ∷ ys) some =
    let more = split_last (y ∷ ys) (omega arith) in
    (x ∷ more.0, more.1, ap (λ (r : List _). x ∷ r) more.2)

pub on_last-seam : {A : Type 0} (f : A → A) (xs : List A) (x : A) → on_last f (xs ++ x ∷ []) ≡ xs ++ f x ∷ []
on_last-seam f [] x = refl
on_last-seam f (y ∷ []) x = refl
on_last-seam f (y ∷ z ∷ zs) x = ap (λ (r : List _). y ∷ r) (on_last-seam f (z ∷ zs) x)

-- what is distinct

module _ {K : Type 0} (e : K → K → Bool) where
  pub distinct-push : (flips : (x y : K) → e x y ≡ e y x) (xs : List K) (x : K) → IsDistinct e xs → list_any (e x) xs ≡ false → IsDistinct e (xs ++ x ∷ [])
  unfolding IsDistinct
  distinct-push flips [] x d absent = (tt, tt)
  distinct-push flips (y ∷ ys) x d absent = (
    all-push (λ (z : K). e y z ≡ false) ys x d.0 (flips y x ∙ or_left (e x y) (list_any (e x) ys) absent),
    distinct-push flips ys x d.1 (or_right (e x y) (list_any (e x) ys) absent),
  )

  pub distinct-before : (xs ys : List K) → IsDistinct e (xs ++ ys) → IsDistinct e xs
  unfolding IsDistinct
  distinct-before [] ys d = tt
  distinct-before (x ∷ xs) ys d = (all-before (λ (z : K). e x z ≡ false) xs ys d.0, distinct-before xs ys d.1)

  -- none of those before it is the same
  pub distinct-front : (flips : (x y : K) → e x y ≡ e y x) (xs ys : List K) (x : K) → IsDistinct e (xs ++ x ∷ ys) → list_any (e x) xs ≡ false
  unfolding IsDistinct
  distinct-front flips [] ys x d = refl
  distinct-front flips (y ∷ xs) ys x d =
      or_from (e x y) (list_any (e x) xs) (flips x y ∙ all-seam (λ (z : K). e y z ≡ false) xs ys x d.0) (distinct-front flips xs ys x d.1)

-- a number of a list that is the sum of numbers of its items

pub record IsSum {A : Type 0} (m : A → ℕ) (M : List A → ℕ) : Type 0 where
  pub none : M [] ≡ 0
  pub one_more : (x : A) (xs : List A) → M (x ∷ xs) ≡ m x + M xs

pub sum-append : {A : Type 0} (m : A → ℕ) (M : List A → ℕ) → IsSum m M → (xs ys : List A) → M (xs ++ ys) ≡ M xs + M ys
sum-append m M h [] ys = omega (arith, h.none)
sum-append m M h (x ∷ xs) ys = omega (arith, h.one_more x (xs ++ ys), h.one_more x xs, sum-append m M h xs ys)

pub sum-push : {A : Type 0} (m : A → ℕ) (M : List A → ℕ) → IsSum m M → (xs : List A) (x : A) → M (xs ++ x ∷ []) ≡ M xs + m x
sum-push m M h xs x = omega (arith, sum-append m M h xs (x ∷ []), h.one_more x [], h.none)

pub sum-replaced : {A : Type 0} (m : A → ℕ) (M : List A → ℕ) → IsSum m M → (f : A → A) (xs : List A) (x : A) → last_of xs ≡ Some x → M (on_last f xs) + m x ≡ M xs + m (f x)
sum-replaced m M h f [] x e = absurd cc
sum-replaced m M h f (y ∷ []) x e =
    let is : y ≡ x = cc in
    omega (arith, h.one_more (f y) [], h.one_more y [], ap m is, ap (λ (z : _). m (f z)) is)
sum-replaced m M h f (y ∷ z ∷ zs) x e = omega (arith, h.one_more y (on_last f (z ∷ zs)), h.one_more y (z ∷ zs), sum-replaced m M h f (z ∷ zs) x e)

-- the last weighs no more than all
pub last_weight : {A : Type 0} (m : A → ℕ) (M : List A → ℕ) → IsSum m M → (xs : List A) (x : A) → last_of xs ≡ Some x → m x ≤ M xs
last_weight m M h [] x e = absurd cc
last_weight m M h (y ∷ []) x e = let is : y ≡ x = cc in omega (arith, h.one_more y [], ap m is)
last_weight m M h (y ∷ z ∷ zs) x e = omega (arith, h.one_more y (z ∷ zs), last_weight m M h (z ∷ zs) x e)

pub sum-on_last : {A : Type 0} (m : A → ℕ) (M : List A → ℕ) → IsSum m M → (f : A → A) (d : ℕ) (xs : List A) → 0 < length xs
    → ((x : A) → last_of xs ≡ Some x → m (f x) ≡ m x + d) → M (on_last f xs) ≡ M xs + d
sum-on_last m M h f d [] some step = absurd (omega arith)
sum-on_last m M h f d (x ∷ []) some step = omega (arith, h.one_more (f x) [], h.one_more x [], step x refl)
sum-on_last m M h f d (x ∷ y ∷ ys) some step = omega (arith, h.one_more x (on_last f (y ∷ ys)), h.one_more x (y ∷ ys), sum-on_last m M h f d (y ∷ ys) (omega arith) step)

-- what is at a place, with 0 past the end
pub cell_is : (xs : List ℕ) (k x : ℕ) → k < length xs → x ≡ get_or xs k x → x ≡ get_or xs k 0
cell_is xs k x lt e = e ∙ get_or_default xs k x 0 lt
