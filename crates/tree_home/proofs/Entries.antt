-- A change of a map's entries is the same change of what it has by tree.
use Rattle.std.proofs.Common.{◌≡◌, List, [], ◌∷◌, refl, ap, subst, sym, ◌∙◌, cond, Option, Some, None, MutBor}
use Rattle.std.specs.Map.{lookup}
use Rattle.std.specs.Option.{option_copied_mut}
use Rattle.std.specs.Prelude.{IsSome}
use Rattle.std.specs.Ordering.{is_eq, nat_cmp}
use Rattle.std.proofs.Math.Path.{fun_ext}
use Rattle.tv_base.specs.declared.numbers.TreeNo.{TreeNo}
use Rattle.tv_base.proofs.Orderings.{is_eq-number}
use Rattle.tree_home.specs.Maps.{by_tree, put_at}

module _ {X : Type 0} where
  -- what a map finds of a tree
  abbrev pub found_in : TreeNo → List (TreeNo × X) → Option X
  found_in t es = lookup (λ k. is_eq (nat_cmp t.0 k.0)) es

  -- it is what the map has of it
  pub found : (t : TreeNo) (es : List (TreeNo × X)) → found_in t es ≡ by_tree es t.0
  found t [] = refl
  found t (e ∷ es) = rw (is_eq-number t.0 e.0.0, found t es) refl

module _ {X : Type 0} where
  changed-at : (t : TreeNo) (o : Option X) (es fs : List (TreeNo × X)) (q : TreeNo)
      → found_in q fs ≡ cond (is_eq (nat_cmp t.0 q.0)) o (found_in q es)
      → by_tree fs q.0 ≡ put_at t.0 o (by_tree es) q.0
  changed-at t o es fs q is = sym (found q fs) ∙ is ∙ rw (is_eq-number t.0 q.0, found q es) refl

  -- entries that differ at one tree alone
  pub changed : (t : TreeNo) (o : Option X) (es fs : List (TreeNo × X))
      → ((q : TreeNo) → found_in q fs ≡ cond (is_eq (nat_cmp t.0 q.0)) o (found_in q es))
      → by_tree fs ≡ put_at t.0 o (by_tree es)
  changed t o es fs is = fun_ext (λ j. changed-at t o es fs (record { 0 = j }) (is (record { 0 = j })))

  -- what is lent of a tree is the tree's
  pub lent-some : (r : Option (MutBor X)) (o : Option X) → option_copied_mut r ≡ o → IsSome o → IsSome r
  lent-some None o is some = let P : Option X → Type 0 = λ o. IsSome o in subst P (sym is) some
  lent-some (Some x) o is some = refl

  pub lent-here : (r : Option (MutBor X)) (x : MutBor X) (o : Option X) → option_copied_mut r ≡ o → r ≡ Some x
      → o ≡ Some x.now
  lent-here r x o is at = sym is ∙ ap (λ (r : Option (MutBor X)). option_copied_mut r) at
