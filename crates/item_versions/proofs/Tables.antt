-- Items in their places, by number, and items that are yet to take them: the table with what is staged, and what holds
-- of each item.
use Rattle.std.specs.List.{AllByRecursion}
use Rattle.std.proofs.Common.{◌==◌, subst, ◌≡◌, ◌<◌, ◌≤◌, [], ◌∷◌, ◌++◌, length, set, refl, ap, sym, ◌∙◌, arith, Some, None, inl, inr}
use Rattle.std.proofs.lemmas.Bool.{cases_eq, cond_both, eq-eqb, ne_eqb}
use Rattle.std.proofs.lemmas.Bool.Decides.{nat_tests}
use Rattle.std.proofs.lemmas.Grind.{common_steps}
use Rattle.tv_base.specs.declared.numbers.ItemNo.{ItemNo}
use Rattle.item_versions.specs.Item.{Held}
use Rattle.item_versions.specs.Table.{Table, item_in, replaced, table_with_item}
use Rattle.item_versions.specs.inside.StagedOps.{copied_over}
use Rattle.item_versions.specs.inside.Places.{item_place}

pub item_place-le : (n : ItemNo) (t : Table) → item_place n t ≤ length t
item_place-le n [] = omega arith
item_place-le n (e ∷ es) = let h = item_place-le n es in grind (arith, nat_tests)

pub set-item_place : (n : ItemNo) (h : Held) (t : Table) → set t (item_place n t) (n, h) ≡ replaced n h t
set-item_place n h [] = refl
set-item_place n h (e ∷ es) = let rest = set-item_place n h es in grind (arith, nat_tests, common_steps)

pub set-place_of_with : (n : ItemNo) (h : Held) (t : Table) → item_place n t < length t → set t (item_place n t) (n, h) ≡ table_with_item n h t
set-place_of_with n h [] lt = absurd (omega arith)
set-place_of_with n h (e ∷ es) lt =
    let rest : item_place n es < length es → set es (item_place n es) (n, h) ≡ table_with_item n h es = set-place_of_with n h es in grind (arith, nat_tests, common_steps)

pub replaced-absent : (n : ItemNo) (h : Held) (t : Table) → length t ≤ item_place n t → replaced n h t ≡ t
replaced-absent n h [] le = refl
replaced-absent n h (e ∷ es) le =
    let rest : length es ≤ item_place n es → replaced n h es ≡ es = replaced-absent n h es in grind (arith, nat_tests, common_steps)

pub with_item-absent : (n : ItemNo) (h : Held) (t : Table) → length t ≤ item_place n t → table_with_item n h t ≡ t ++ (n, h) ∷ []
with_item-absent n h [] le = refl
with_item-absent n h (e ∷ es) le =
    let rest : length es ≤ item_place n es → table_with_item n h es ≡ es ++ (n, h) ∷ [] = with_item-absent n h es in grind (arith, nat_tests, common_steps)

-- one item put in place twice, and two items put in place in either order
replaced-same : (n m : ItemNo) (h k : Held) (t : Table) → m.0 ≡ n.0 → replaced n h (replaced m k t) ≡ replaced n h t
replaced-same n m h k [] eq = refl
replaced-same n m h k (e ∷ es) eq = let rest = replaced-same n m h k es eq in grind (arith, nat_tests)

pub replaced-other : (n m : ItemNo) (h k : Held) (t : Table) → (n.0 ≡ m.0 → ⊥) → replaced n h (replaced m k t) ≡ replaced m k (replaced n h t)
replaced-other n m h k [] ne = refl
replaced-other n m h k (e ∷ es) ne = let rest = replaced-other n m h k es ne in grind (arith, nat_tests)

pub item_in-replaced_other : (n m : ItemNo) (h : Held) (t : Table) → (n.0 ≡ m.0 → ⊥) → item_in n (replaced m h t) ≡ item_in n t
item_in-replaced_other n m h [] ne = refl
item_in-replaced_other n m h (e ∷ es) ne = let rest = item_in-replaced_other n m h es ne in grind (arith, nat_tests)

pub item_in-replaced_same : (n m : ItemNo) (h k : Held) (t : Table) → m.0 ≡ n.0 → item_in n t ≡ Some k → item_in n (replaced m h t) ≡ Some h
item_in-replaced_same n m h k [] eq is = cc
item_in-replaced_same n m h k (e ∷ es) eq is =
    let rest : item_in n es ≡ Some k → item_in n (replaced m h es) ≡ Some h = item_in-replaced_same n m h k es eq in grind (arith, nat_tests)

pub item_in-replaced_none : (n m : ItemNo) (h : Held) (t : Table) → item_in n t ≡ None → item_in n (replaced m h t) ≡ None
item_in-replaced_none n m h [] is = refl
item_in-replaced_none n m h (e ∷ es) is =
    let rest : item_in n es ≡ None → item_in n (replaced m h es) ≡ None = item_in-replaced_none n m h es in grind (arith, nat_tests)

-- what is pending after one more item
pub copied_over-with_item : (n : ItemNo) (h : Held) (s t : Table) → copied_over (table_with_item n h s) t ≡ replaced n h (copied_over s t)
copied_over-with_item n h [] t = refl
copied_over-with_item n h (e ∷ es) t =
    elim (cases_eq e.0.0 n.0) [
      | inl eq ↦ rw (eq-eqb e.0.0 n.0 eq) (sym (replaced-same n e.0 h e.1 (copied_over es t) eq))
      | inr ne ↦
          rw (ne_eqb e.0.0 n.0 ne) (ap (replaced e.0 e.1) (copied_over-with_item n h es t) ∙ replaced-other e.0 n e.1 h (copied_over es t) ne)
    ]

pub copied_over-push : (e : ItemNo × Held) (s t : Table) → copied_over (s ++ e ∷ []) t ≡ copied_over s (replaced e.0 e.1 t)
copied_over-push e [] t = refl
copied_over-push e (x ∷ s) t = ap (replaced x.0 x.1) (copied_over-push e s t)

-- what is pending of one item
pub item_in-copied_none : (n : ItemNo) (s t : Table) → item_in n s ≡ None → item_in n (copied_over s t) ≡ item_in n t
item_in-copied_none n [] t is = refl
item_in-copied_none n (e ∷ es) t is =
    elim (cases_eq e.0.0 n.0) [
      | inl eq ↦ absurd (let no : Some e.1 ≡ None = rw (eq-eqb e.0.0 n.0 eq) at is in cc)
      | inr ne ↦
          item_in-replaced_other n e.0 e.1 (copied_over es t) (λ q. ne (sym q)) ∙ item_in-copied_none n es t (rw (ne_eqb e.0.0 n.0 ne) at is)
    ]

pub item_in-copied_absent : (n : ItemNo) (s t : Table) → item_in n t ≡ None → item_in n (copied_over s t) ≡ None
item_in-copied_absent n [] t is = is
item_in-copied_absent n (e ∷ es) t is = item_in-replaced_none n e.0 e.1 (copied_over es t) (item_in-copied_absent n es t is)

item_in-copied_there : (n : ItemNo) (k : Held) (s t : Table) → item_in n t ≡ Some k → (k' : Held) × (item_in n (copied_over s t) ≡ Some k')
item_in-copied_there n k [] t is = (k, is)
item_in-copied_there n k (e ∷ es) t is =
    let (k', is') = item_in-copied_there n k es t is in
    elim (cases_eq e.0.0 n.0) [
      | inl eq ↦ (e.1, item_in-replaced_same n e.0 e.1 k' (copied_over es t) eq is')
      | inr ne ↦ (k', item_in-replaced_other n e.0 e.1 (copied_over es t) (λ q. ne (sym q)) ∙ is')
    ]

item_in-copied_some : (n : ItemNo) (h k : Held) (s t : Table) → item_in n s ≡ Some h → item_in n t ≡ Some k → item_in n (copied_over s t) ≡ Some h
item_in-copied_some n h k [] t is there = cc
item_in-copied_some n h k (e ∷ es) t is there =
    let (k', is') = item_in-copied_there n k es t there in
    elim (cases_eq e.0.0 n.0) [
      | inl eq ↦
          let same : Some e.1 ≡ Some h = rw (eq-eqb e.0.0 n.0 eq) at is in
          item_in-replaced_same n e.0 e.1 k' (copied_over es t) eq is' ∙ same
      | inr ne ↦
          item_in-replaced_other n e.0 e.1 (copied_over es t) (λ q. ne (sym q)) ∙ item_in-copied_some n h k es t (rw (ne_eqb e.0.0 n.0 ne) at is) there
    ]

-- a pending item of the table is the staged one, or else the table's
pub copied_over-staged : (n : ItemNo) (h k : Held) (s t : Table) → item_in n t ≡ Some k → item_in n s ≡ Some h → item_in n (copied_over s t) ≡ Some h
copied_over-staged n h k s t there is = item_in-copied_some n h k s t is there

-- what holds of each item of a table
module _ (P : Held → Type 0) where
  abbrev pub Each : Table → Type 0
  Each t = AllByRecursion (λ e. P e.1) t

  pub each-replaced : (n : ItemNo) (h : Held) (t : Table) → P h → Each t → Each (replaced n h t)
  each-replaced n h [] one all = tt
  each-replaced n h (e ∷ es) one all =
      cond_both (e.0.0 == n.0) ((n, h) ∷ es) (e ∷ replaced n h es) Each
      (λ _. (one, all.1))
      (λ _. (all.0, each-replaced n h es one all.1))

  pub each-append : (s t : Table) → Each s → Each t → Each (s ++ t)
  each-append [] t alls all = all
  each-append (e ∷ es) t alls all = (alls.0, each-append es t alls.1 all)

  pub each-item : (n : ItemNo) (t : Table) (h : Held) → item_in n t ≡ Some h → Each t → P h
  each-item n [] h is all = cc
  each-item n (e ∷ es) h is all =
      elim (cases_eq e.0.0 n.0) [
        | inl eq ↦
            let same : Some e.1 ≡ Some h = rw (eq-eqb e.0.0 n.0 eq) at is in
            let same' : e.1 ≡ h = cc in
            subst P same' all.0
        | inr ne ↦ each-item n es h (rw (ne_eqb e.0.0 n.0 ne) at is) all.1
      ]

pub ruleset finding = (copied_over-staged, item_in-copied_none, item_in-copied_absent)
