-- What a compensated transaction adds up to.
use Rattle.std.proofs.Common.{◌≡◌, ◌+◌, ◌==◌, ◌&&◌, ℕ, suc, Bool, true, false, not, List, [], ◌∷◌, ◌++◌, length, map, get_or, refl, arith}
use Rattle.std.specs.Prelude.{if◌then◌else◌, pos, ◌+ℤ◌, ◌-ℤ◌}
use Rattle.std.proofs.lemmas.Bool.Decides.{nat_tests}
use Rattle.std.proofs.lemmas.Int.{ints}
use Rattle.commute_ops.specs.declared.kinds.Op.TheVariants as ops
use Rattle.tv_base.specs.declared.numbers.NodeNo.{NodeNo}
use Rattle.tv_base.specs.declared.numbers.SubNo.{SubNo}
use Rattle.tx_trees.specs.declared.parts.Deed.{Deed}
use Rattle.tx_trees.specs.declared.parts.Deed.TheVariants as deeds
use Rattle.tx_trees.specs.declared.parts.Sub.{Sub}
use Rattle.tx_trees.specs.declared.parts.SubOp.{SubOp}
use Rattle.tree_undo.specs.Balance.{added, sum_of_ops, sum_of_subs}
use Rattle.tx_trees.specs.Undone.{each_from, goes_from, negated, negated_deed, new_number, stays, undoes, undone}

-- an amount with the other sign takes back what the amount adds
added_negated : (d : Deed) → added (negated_deed d) ≡ pos 0 -ℤ added d
added_negated (deeds.Apply (ops.Add a)) = refl
added_negated (deeds.Apply (ops.Top a)) = refl
added_negated (deeds.Apply (ops.Put a)) = refl
added_negated deeds.Get = refl
added_negated (deeds.Set a) = refl
added_negated (deeds.Draw a) = refl

negated_here : (b : Bool) (d : Deed) → (if b then added (negated_deed d) else pos 0) ≡ pos 0 -ℤ (if b then added d else pos 0)
negated_here true d = added_negated d
negated_here false d = refl

negated_all : (x : ℕ) (os : List SubOp) → sum_of_ops x (map negated os) ≡ pos 0 -ℤ sum_of_ops x os
negated_all x [] = refl
negated_all x (o ∷ os) = omega (arith, ints, negated_here (o.item.0 == x) o.deed, negated_all x os)

-- no operation adds nothing
nothing : (x : ℕ) (os : List SubOp) → (length os == 0) ≡ true → sum_of_ops x os ≡ pos 0
nothing x [] e = refl
nothing x (o ∷ os) e = absurd (some (length os) e)
  where
    some : (n : ℕ) → (suc n == 0) ≡ true → ⊥
    some n e = grind (arith, nat_tests)

added-append : (x : ℕ) (xs ys : List Sub) → sum_of_subs x (xs ++ ys) ≡ sum_of_subs x xs +ℤ sum_of_subs x ys
added-append x [] ys = omega (arith, ints)
added-append x (s ∷ xs) ys = omega (arith, ints, added-append x xs ys)

-- a subtransaction with these operations
abbrev with_ops : SubNo → NodeNo → List SubOp → Sub
with_ops p node os = record { parent = p; node = node; ops = os }

-- what stays of a subtransaction, and what undoes it
even : (x : ℕ) (p q : SubNo) (node : NodeNo) (os : List SubOp) (g f e : Bool) → (length os == 0) ≡ e
    → sum_of_subs x (if g then [] else with_ops p node (if f then [] else os) ∷ []) +ℤ sum_of_subs x (if not g && (not f && not e) then with_ops q node (map negated os) ∷ [] else []) ≡ pos 0
even x p q node os true f e is = refl
even x p q node os false true e is = refl
even x p q node os false false true is = let none = nothing x os is in omega (arith, ints, none)
even x p q node os false false false is = omega (arith, ints, negated_all x os)

-- what stays, and what undoes it
all_even : (failed : ℕ) (goes : List Bool) (k x : ℕ) (ss : List Sub) → sum_of_subs x (each_from (stays failed goes) k ss) +ℤ sum_of_subs x (each_from (undoes failed goes) k ss) ≡ pos 0
all_even failed goes k x [] = refl
all_even failed goes k x (s ∷ ss) =
    let here : sum_of_subs x (stays failed goes k s) +ℤ sum_of_subs x (undoes failed goes k s) ≡ pos 0 =
    even x (record { 0 = new_number goes s.parent.0 }) (record { 0 = new_number goes failed }) s.node s.ops (get_or goes k false) (k == failed) (length s.ops == 0) refl in
    omega (
      arith,
      ints,
      here,
      added-append x (stays failed goes k s) (each_from (stays failed goes) (k + 1) ss),
      added-append x (undoes failed goes k s) (each_from (undoes failed goes) (k + 1) ss),
      all_even failed goes (k + 1) x ss,
    )

-- an undone tree adds up to nothing
pub undone_even : (subs : List Sub) (failed x : ℕ) → sum_of_subs x (undone subs failed) ≡ pos 0
undone_even subs failed x =
    let goes = goes_from failed [] subs in
    omega (arith, ints, added-append x (each_from (stays failed goes) 0 subs) (each_from (undoes failed goes) 0 subs), all_even failed goes 0 x subs)
