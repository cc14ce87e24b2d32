-- Entries whose numbers ascend are no more than what they have by tree.
use Rattle.std.proofs.Common.{◌≡◌, ℕ, zero, suc, ◌<◌, ◌≤◌, List, [], ◌∷◌, length, get_or, map, refl, ap, sym, ◌∙◌, arith, Option, Some, None, inl, inr}
use Rattle.std.specs.List.{All}
use Rattle.std.specs.List.Sorted.{IsStrictlySortedBy}
use Rattle.std.specs.Ordering.{nat_cmp}
use Rattle.std.proofs.lemmas.Bool.{cases_lt, cases_eq, eq-eqb, ne_eqb}
use Rattle.std.proofs.lemmas.Bool.Decides.{nat_tests}
use Rattle.std.proofs.lemmas.Cmp.{ranked}
use Rattle.std.proofs.lemmas.List.{get_or-map, length-map}
use Rattle.std.proofs.lemmas.List.Elements.{All-head, All-tail}
use Rattle.std.proofs.lemmas.Map.Keys.{Less-from_sorted}
use Rattle.tv_base.specs.declared.numbers.TreeNo.{TreeNo}
use Rattle.tree_home.specs.Maps.{AreAscending, by_tree}

module _ {X : Type 0} where
  -- a map's keys ascend
  pub ascends : (es : List (TreeNo × X)) → IsStrictlySortedBy (λ a b. nat_cmp a.0 b.0) (map (λ e. e.0) es)
      → AreAscending es
  ascends es sorted i j d lt within =
      let key : (TreeNo × X) → TreeNo = λ e. e.0 in
      let before : i < length es = omega arith in
      let within' : j < length (map key es) = omega (arith, length-map es key) in
      let less = Less-from_sorted (λ a b. nat_cmp a.0 b.0) (map key es) i j d.0 sorted lt within' in
      let less' = rw (get_or-map key es i d d.0 before, get_or-map key es j d d.0 within) at less in
      ranked (get_or es i d).0.0 (get_or es j d).0.0 _ (sym less')

  rest-ascends : (e : TreeNo × X) (es : List (TreeNo × X)) → AreAscending (e ∷ es) → AreAscending es
  rest-ascends e es up = λ i j d lt within. up (suc i) (suc j) d (omega arith) (omega arith)

  first-least : (e : TreeNo × X) (es : List (TreeNo × X)) → AreAscending (e ∷ es)
      → All (λ f. e.0.0 < f.0.0) es
  first-least e es up = λ k d within. up zero (suc k) d (omega arith) (omega arith)

  -- no tree is below them all
  none-above : (n m : ℕ) (es : List (TreeNo × X)) → n ≤ m → All (λ f. m < f.0.0) es → by_tree es n ≡ None
  none-above n m [] le all = refl
  none-above n m (e ∷ es) le all =
      let first = All-head (λ (f : TreeNo × X). m < f.0.0) e es all in
      let rest = none-above n m es le (All-tail (λ (f : TreeNo × X). m < f.0.0) e es all) in
      grind (arith, nat_tests)

  first-is : (e : TreeNo × X) (es : List (TreeNo × X)) → by_tree (e ∷ es) e.0.0 ≡ Some e.1
  first-is e es = rw (eq-eqb e.0.0 e.0.0 refl) refl

  -- below the first there is none
  none-below : (n : ℕ) (e : TreeNo × X) (es : List (TreeNo × X)) → AreAscending (e ∷ es) → n < e.0.0
      → by_tree (e ∷ es) n ≡ None
  none-below n e es up less =
      let rest = none-above n e.0.0 es (omega arith) (first-least e es up) in
      grind (arith, nat_tests)

  same-first : (e f : TreeNo × X) → e.0.0 ≡ f.0.0 → Some e.1 ≡ Some f.1 → e ≡ f
  same-first e f number here =
      let of : ℕ → TreeNo = λ n. record { 0 = n } in
      let tree : e.1 ≡ f.1 = cc in
      λ i. (ap of number i, tree i)

  -- the rest has the same trees
  same-rest : (e f : TreeNo × X) (es fs : List (TreeNo × X)) → AreAscending (e ∷ es) → AreAscending (f ∷ fs)
      → e.0.0 ≡ f.0.0 → (j : ℕ) → by_tree (e ∷ es) j ≡ by_tree (f ∷ fs) j → by_tree es j ≡ by_tree fs j
  same-rest e f es fs up up' number j same =
      elim (cases_eq e.0.0 j) [
        | inl eq ↦
            none-above j e.0.0 es (omega arith) (first-least e es up)
            ∙ sym (none-above j f.0.0 fs (omega arith) (first-least f fs up'))
        | inr ne ↦
            let ne' : f.0.0 ≡ j → ⊥ = λ eq. ne (number ∙ eq) in
            rw (ne_eqb e.0.0 j ne, ne_eqb f.0.0 j ne') at same
      ]

  same-by : (es fs : List (TreeNo × X)) → AreAscending es → AreAscending fs
      → ((j : ℕ) → by_tree es j ≡ by_tree fs j) → es ≡ fs
  same-by [] [] up up' same = refl
  same-by [] (f ∷ fs) up up' same = let no : None ≡ Some f.1 = same f.0.0 ∙ first-is f fs in cc
  same-by (e ∷ es) [] up up' same = let no : Some e.1 ≡ None = sym (first-is e es) ∙ same e.0.0 in cc
  same-by (e ∷ es) (f ∷ fs) up up' same =
      elim (cases_lt e.0.0 f.0.0) [
        | inl less ↦
            let no : Some e.1 ≡ None = sym (first-is e es) ∙ same e.0.0 ∙ none-below e.0.0 f fs up' less in cc
        | inr from ↦
            elim (cases_lt f.0.0 e.0.0) [
              | inl less ↦
                  let no : None ≡ Some f.1 = sym (none-below f.0.0 e es up less) ∙ same f.0.0 ∙ first-is f fs in cc
              | inr up_to ↦
                  let number : e.0.0 ≡ f.0.0 = omega arith in
                  let here : Some e.1 ≡ Some f.1 =
                  sym (first-is e es) ∙ same e.0.0 ∙ ap (λ (n : ℕ). by_tree (f ∷ fs) n) number ∙ first-is f fs in
                  let rest =
                  same-by es fs (rest-ascends e es up) (rest-ascends f fs up')
                  (λ j. same-rest e f es fs up up' number j (same j)) in
                  let first = same-first e f number here in
                  λ i. first i ∷ rest i
            ]
      ]

  -- entries that have the same trees are the same
  pub same_entries : (es fs : List (TreeNo × X)) → AreAscending es → AreAscending fs → by_tree es ≡ by_tree fs
      → es ≡ fs
  same_entries es fs up up' same = same-by es fs up up' (λ j. ap (λ (hs : ℕ → Option X). hs j) same)
