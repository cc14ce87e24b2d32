-- A table that is collected item by item, and so goes to its next window.
use Rattle.std.proofs.Common.{◌≡◌, ℕ, true, zero, suc, ◌+◌, ◌<◌, ◌≤◌, List, [], ◌∷◌, ◌++◌, length, take, drop, set, refl, ap, sym, ◌∙◌, subst, add-one, arith, Option, Some, None}
use Rattle.std.specs.Prelude.{slice_get, IfSome}
use Rattle.std.proofs.lemmas.Bool.Decides.{nat_tests}
use Rattle.tv_base.specs.declared.numbers.ItemNo.{ItemNo}
use Rattle.tv_base.specs.declared.numbers.Version.{Version}
use Rattle.tv_base.proofs.Truths.{left_true, right_true}
use Rattle.item_versions.specs.Item.{Held, CanCollect, collected, seen}
use Rattle.item_versions.specs.Table.{Table, IsHeldTable}
use Rattle.item_versions.specs.Window.{IsWindowedTable}
use Rattle.item_versions.proofs.Holding.{none-past}
use Rattle.item_versions.proofs.Order.{IsHeld-collected}
use Rattle.item_versions.proofs.Seen.{seen-collected}
use Rattle.item_versions.proofs.Window.{IsWindowed-collected, CanCollect-windowed}
use Rattle.item_versions.specs.Collecting.{may_collect, may_collect_all, collected_all, items_seen_in, numbers_in}

-- the next item is as it was
pub next-item : (f : Version) (t : Table) (i : ℕ) → slice_get (collected_all f (take i t) ++ drop i t) i ≡ slice_get t i
next-item f [] zero = refl
next-item f [] (suc i) = refl
next-item f (e ∷ es) zero = refl
next-item f (e ∷ es) (suc i) = next-item f es i

-- one item more is collected
pub one-more : (f : Version) (t : Table) (i : ℕ) (e : ItemNo × Held) → slice_get t i ≡ Some e → set (collected_all f (take i t) ++ drop i t) i (e.0, collected f e.1) ≡ collected_all f (take (i + 1) t) ++ drop (i + 1) t
one-more f [] i e is = cc
one-more f (x ∷ es) zero e is = let same : x ≡ e = cc in ap (λ (y : ItemNo × Held). (y.0, collected f y.1) ∷ es) (sym same)
one-more f (x ∷ es) (suc i) e is = rw add-one (ap (λ (t : Table). (x.0, collected f x.1) ∷ t) (rw add-one at (one-more f es i e is)))

step-of : (f : Version) (t new : Table) (i : ℕ) (o : Option (ItemNo × Held)) → slice_get t i ≡ o → i < length t → IfSome o (λ e. new ≡ set (collected_all f (take i t) ++ drop i t) i (e.0, collected f e.1)) → new ≡ collected_all f (take (i + 1) t) ++ drop (i + 1) t
step-of f t new i None is lt put = let past = none-past t i is in absurd (omega arith)
step-of f t new i (Some e) is lt put = put ∙ one-more f t i e is

-- one step of the walk over the table
pub step-items : (f : Version) (t now new : Table) (i : ℕ) → i < length t → now ≡ collected_all f (take i t) ++ drop i t → IfSome (slice_get now i) (λ e. new ≡ set now i (e.0, collected f e.1)) → new ≡ collected_all f (take (i + 1) t) ++ drop (i + 1) t
step-items f t now new i lt is put =
    let put' = subst (λ (n : Table). IfSome (slice_get n i) (λ e. new ≡ set n i (e.0, collected f e.1))) is put in
    let before : Table = collected_all f (take i t) ++ drop i t in
    let put'' = subst (λ (o : Option (ItemNo × Held)). IfSome o (λ e. new ≡ set before i (e.0, collected f e.1))) (next-item f t i) put' in
    step-of f t new i (slice_get t i) refl lt put''

-- an item that may be collected, at a place
can-collect : (f : Version) (h : Held) → may_collect f h ≡ true → CanCollect f h
can-collect f [] may = cc
can-collect f (x ∷ xs) may = grind (arith, nat_tests)

pub can-at : (f : Version) (t : Table) (i : ℕ) → may_collect_all f t ≡ true → IfSome (slice_get t i) (λ e. CanCollect f e.1)
can-at f [] i may = tt
can-at f (e ∷ es) zero may = can-collect f e.1 (left_true (may_collect f e.1) (may_collect_all f es) may)
can-at f (e ∷ es) (suc i) may = can-at f es i (right_true (may_collect f e.1) (may_collect_all f es) may)

pub can-next : (f : Version) (t now : Table) (i : ℕ) → may_collect_all f t ≡ true → now ≡ collected_all f (take i t) ++ drop i t → IfSome (slice_get now i) (λ e. CanCollect f e.1)
can-next f t now i may is =
    rw (is, next-item f t i) (can-at f t i may)

whole : (f : Version) (t : Table) (i : ℕ) → length t ≤ i → collected_all f (take i t) ++ drop i t ≡ collected_all f t
whole f [] zero le = refl
whole f [] (suc i) le = refl
whole f (e ∷ es) zero le = absurd (omega arith)
whole f (e ∷ es) (suc i) le = ap (λ (t : Table). (e.0, collected f e.1) ∷ t) (whole f es i (omega arith))

-- at the end of the walk all are collected
pub walked : (f : Version) (t now : Table) (i : ℕ) → length t ≤ i → now ≡ collected_all f (take i t) ++ drop i t → now ≡ collected_all f t
walked f t now i le is = is ∙ whole f t i le

-- a collection changes nothing of what is seen from its version up
pub seen-all : (f v : Version) (t : Table) → IsHeldTable t → f.0 ≤ v.0 → items_seen_in v (collected_all f t) ≡ items_seen_in v t
seen-all f v [] held le = refl
seen-all f v (e ∷ es) held le =
    let rest = seen-all f v es held.1 le in
    let now : seen v (collected f e.1) ≡ seen v e.1 = seen-collected v f e.1 held.0 le in
    λ i. (e.0, now i) ∷ rest i

-- nor of the numbers
pub numbers-all : (f : Version) (t : Table) → numbers_in (collected_all f t) ≡ numbers_in t
numbers-all f [] = refl
numbers-all f (e ∷ es) = ap (λ (ns : List ItemNo). e.0 ∷ ns) (numbers-all f es)

-- a collection keeps the versions of each item in order, and takes each to its next window
pub IsHeldTable-collected_all : (f : Version) (t : Table) → IsHeldTable t → IsHeldTable (collected_all f t)
IsHeldTable-collected_all f [] held = tt
IsHeldTable-collected_all f (e ∷ es) held =
    (IsHeld-collected f e.1 held.0, IsHeldTable-collected_all f es held.1)

pub IsWindowedTable-collected_all : (low : ℕ) (f : Version) (t : Table) → low ≤ f.0 → IsWindowedTable low t
    → IsWindowedTable f.0 (collected_all f t)
IsWindowedTable-collected_all low f [] le win = tt
IsWindowedTable-collected_all low f (e ∷ es) le win = (
  IsWindowed-collected low f e.1 le (CanCollect-windowed low f e.1 win.0 le) win.0,
  IsWindowedTable-collected_all low f es le win.1,
)
