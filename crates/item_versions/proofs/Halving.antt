-- A search by halving, and what a table holds at a place.
use Rattle.std.proofs.Common.{◌≡◌, ℕ, zero, suc, ◌+◌, ◌<◌, ◌≤◌, List, [], ◌∷◌, length, get_or, set, map, refl, ap, sym, ◌∙◌, arith, Some, None, inl, inr}
use Rattle.std.specs.List.{All, slice_get}
use Rattle.std.proofs.Math.ListN.{get_or-map}
use Rattle.std.proofs.Math.Seq.{map-set_same}
use Rattle.std.proofs.lemmas.List.{length-map}
use Rattle.std.proofs.lemmas.Option.{get_or_from_slice_get}
use Rattle.std.proofs.lemmas.Bool.Decides.{nat_tests}
use Rattle.std.proofs.lemmas.Bool.{cases_lt, eq-eqb, ne_eqb}
use Rattle.std.proofs.lemmas.List.Elements.{at_read, All-head, All-tail}
use Rattle.tv_base.specs.declared.numbers.ItemNo.{ItemNo}
use Rattle.item_versions.specs.Item.{Held}
use Rattle.item_versions.specs.Table.{Table, HasAscendingItems, item_in, replaced}

pub before-middle : (t : Table) (m n : ℕ) (x : ItemNo × Held) → HasAscendingItems t → m < length t → x ≡ get_or t m x → x.0.0 < n → (k : ℕ) (d : ItemNo × Held) → k < m + 1 → (get_or t k d).0.0 < n
before-middle t m n x up within is lt k d le =
    let at : (get_or t m d).0.0 < n = at_read t (λ (y : ItemNo × Held). y.0.0 < n) m x within is lt d in
    elim (cases_lt k m) [
      | inl less ↦ let one = up k m d less within in omega arith
      | inr more ↦ let e : k ≡ m = omega arith in rw e at
    ]

pub after-middle : (t : Table) (m n : ℕ) (x : ItemNo × Held) → HasAscendingItems t → m < length t → x ≡ get_or t m x → n < x.0.0 → (k : ℕ) (d : ItemNo × Held) → m ≤ k → k < length t → n < (get_or t k d).0.0
after-middle t m n x up within is lt k d le within' =
    let at : n < (get_or t m d).0.0 = at_read t (λ (y : ItemNo × Held). n < y.0.0) m x within is lt d in
    elim (cases_lt m k) [
      | inl less ↦ let one = up m k d less within' in omega arith
      | inr more ↦ let e : k ≡ m = omega arith in rw e at
    ]

IsAscending-tail : (e : ItemNo × Held) (t : Table) → HasAscendingItems (e ∷ t) → HasAscendingItems t
IsAscending-tail e t up = λ i j d lt within. up (suc i) (suc j) d (omega arith) (omega arith)

pub item_in-at : (n : ItemNo) (t : Table) (p : ℕ) (x : ItemNo × Held) → HasAscendingItems t → p < length t → x ≡ get_or t p x → x.0.0 ≡ n.0 → item_in n t ≡ Some x.1
item_in-at n [] p x up within is eq = absurd (omega arith)
item_in-at n (e ∷ t) zero x up within is eq = rw (← is, eq-eqb x.0.0 n.0 eq) refl
item_in-at n (e ∷ t) (suc p) x up within is eq =
    let first = up zero (suc p) x (omega arith) within in
    let ne : e.0.0 ≡ n.0 → ⊥ = λ same. omega (arith, ap (λ (y : ItemNo × Held). y.0.0) is) in
    rw (ne_eqb e.0.0 n.0 ne) (item_in-at n t p x (IsAscending-tail e t up) (omega arith) is eq)

pub item_in-none : (n : ItemNo) (t : Table) → All (λ e. e.0.0 ≡ n.0 → ⊥) t → item_in n t ≡ None
item_in-none n [] none = refl
item_in-none n (e ∷ t) none =
    rw (ne_eqb e.0.0 n.0 (All-head (λ e. e.0.0 ≡ n.0 → ⊥) e t none)) (item_in-none n t (All-tail (λ e. e.0.0 ≡ n.0 → ⊥) e t none))

-- the item is put at its place
pub replaced-at : (n : ItemNo) (h : Held) (t : Table) (p : ℕ) → HasAscendingItems t → p < length t → ((d : ItemNo × Held) → (get_or t p d).0 ≡ n) → set t p (n, h) ≡ replaced n h t
replaced-at n h [] p up within is = absurd (omega arith)
replaced-at n h (e ∷ t) zero up within is =
    let eq : e.0.0 ≡ n.0 = ap (λ (m : ItemNo). m.0) (is e) in
    rw (eq-eqb e.0.0 n.0 eq) refl
replaced-at n h (e ∷ t) (suc p) up within is =
    let first = up zero (suc p) e (omega arith) within in
    let there : (get_or t p e).0.0 ≡ n.0 = ap (λ (m : ItemNo). m.0) (is e) in
    let ne : e.0.0 ≡ n.0 → ⊥ = λ same. omega arith in
    rw (ne_eqb e.0.0 n.0 ne) (ap (λ z. e ∷ z) (replaced-at n h t p (IsAscending-tail e t up) (omega arith) is))

pub replaced-none : (n : ItemNo) (h : Held) (t : Table) → All (λ e. e.0.0 ≡ n.0 → ⊥) t → replaced n h t ≡ t
replaced-none n h [] none = refl
replaced-none n h (e ∷ t) none =
    rw (ne_eqb e.0.0 n.0 (All-head (λ e. e.0.0 ≡ n.0 → ⊥) e t none)) (ap (λ z. e ∷ z) (replaced-none n h t (All-tail (λ e. e.0.0 ≡ n.0 → ⊥) e t none)))

-- the same numbers are in the same order
abbrev numbers : Table → List ℕ
numbers t = map (λ e. e.0.0) t

numbers-get : (t : Table) (i : ℕ) (d : ItemNo × Held) → (get_or t i d).0.0 ≡ get_or (numbers t) i d.0.0
numbers-get t i d = sym (get_or-map (λ (e : ItemNo × Held). e.0.0) t i d)

same-order : (s t : Table) → numbers s ≡ numbers t → HasAscendingItems t → HasAscendingItems s
same-order s t same up = λ i j d lt within.
    let long : length s ≡ length t = sym (length-map s (λ e. e.0.0)) ∙ ap length same ∙ length-map t (λ e. e.0.0) in
    let at : (k : ℕ) → (get_or s k d).0.0 ≡ (get_or t k d).0.0 = λ k. numbers-get s k d ∙ ap (λ z. get_or z k d.0.0) same ∙ sym (numbers-get t k d) in
    let old = up i j d lt (omega arith) in
    omega (arith, at i, at j)

numbers-replaced : (n : ItemNo) (h : Held) (t : Table) → numbers (replaced n h t) ≡ numbers t
numbers-replaced n h [] = refl
numbers-replaced n h (e ∷ t) = let rest = numbers-replaced n h t in grind (arith, nat_tests)

pub IsAscending-replaced : (n : ItemNo) (h : Held) (t : Table) → HasAscendingItems t → HasAscendingItems (replaced n h t)
IsAscending-replaced n h t up = same-order (replaced n h t) t (numbers-replaced n h t) up

pub IsAscending-set : (t : Table) (p : ℕ) (e : ItemNo × Held) (h : Held) → HasAscendingItems t → slice_get t p ≡ Some e → HasAscendingItems (set t p (e.0, h))
IsAscending-set t p e h up is =
    same-order (set t p (e.0, h)) t (map-set_same (λ (x : ItemNo × Held). x.0.0) t p (e.0, h) e (ap (λ (x : ItemNo × Held). x.0.0) (sym (get_or_from_slice_get t p e e is)))) up

pub ruleset halving = (before-middle, after-middle)

pub ruleset finding = (item_in-at, item_in-none)

pub ruleset replacing = (replaced-at, replaced-none)
