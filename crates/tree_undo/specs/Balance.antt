-- What operations add to an item.
use Rattle.std.specs.Prelude.{ℕ, ◌==◌, if◌then◌else◌, List, [], ◌∷◌, ℤ, pos, ◌+ℤ◌}
use Rattle.commute_ops.specs.declared.kinds.Op.TheVariants as ops
use Rattle.tx_trees.specs.declared.parts.Deed.{Deed}
use Rattle.tx_trees.specs.declared.parts.Deed.TheVariants as deeds
use Rattle.tx_trees.specs.declared.parts.Sub.{Sub}
use Rattle.tx_trees.specs.declared.parts.SubOp.{SubOp}

-- the amount of an `add`; nothing else adds
abbrev pub added : Deed → ℤ
added (deeds.Apply (ops.Add a)) = a
added _ = pos 0

-- what operations add to item x
abbrev pub sum_of_ops : ℕ → List SubOp → ℤ
sum_of_ops x [] = pos 0
sum_of_ops x (o ∷ os) = (if o.item.0 == x then added o.deed else pos 0) +ℤ sum_of_ops x os

-- what subtransactions add to item x
abbrev pub sum_of_subs : ℕ → List Sub → ℤ
sum_of_subs x [] = pos 0
sum_of_subs x (s ∷ ss) = sum_of_ops x s.ops +ℤ sum_of_subs x ss
