-- Whether deeds may be done one after another: on one item, and on all items side by side. Only the code of the
-- report cites it.
use Rattle.std.specs.Prelude.{if◌then◌else◌, ℕ, ℤ, Bool, true, ◌==◌, ◌&&◌, List, [], ◌∷◌, Option, Some, None, slice_get}
use Rattle.commute_ops.specs.declared.value.Value.{Value}
use Rattle.commute_ops.specs.declared.value.Value.TheVariants.{Sum, Top, Bag}
use Rattle.commute_ops.specs.Numbers.{is_within}
use Rattle.commute_ops.specs.Ops.{may_apply}
use Rattle.tx_trees.specs.ScriptData.{ScriptData, subs_at}
use Rattle.tx_trees.specs.declared.parts.Deed.{Deed}
use Rattle.tx_trees.specs.declared.parts.Deed.TheVariants as deeds
use Rattle.tx_trees.specs.declared.parts.SubOp.{SubOp}
use Rattle.tx_trees.specs.declared.parts.Sub.{Sub}
use Rattle.board_model.specs.Balances.{all_after_op, all_after_ops, all_after_tree}
use Rattle.board_rules.specs.Worth.{after_deed, after_ops, after_tree}

-- a sum may be lowered: the two magnitudes add up to no more than is allowed
abbrev pub draw_may : ℤ → Value → Bool
draw_may n (Sum s) = is_within s.0 n
draw_may n (Top t) = true
draw_may n (Bag ns) = true

abbrev pub deed_may : Deed → Value → Bool
deed_may (deeds.Apply op) w = may_apply w op
deed_may deeds.Get w = true
deed_may (deeds.Set n) w = true
deed_may (deeds.Draw n) w = draw_may n w

abbrev pub ops_may : ℕ → List SubOp → Value → Bool
ops_may x [] w = true
ops_may x (o ∷ os) w =
    (if o.item.0 == x then deed_may o.deed w else true)
    && ops_may x os (if o.item.0 == x then after_deed o.deed w else w)

abbrev pub subs_may : ℕ → List Sub → Value → Bool
subs_may x [] w = true
subs_may x (k ∷ ks) w = ops_may x k.ops w && subs_may x ks (after_ops x k.ops w)

abbrev pub trees_may : ScriptData → ℕ → List ℕ → Value → Bool
trees_may s x [] w = true
trees_may s x (t ∷ ts) w = subs_may x (subs_at s t) w && trees_may s x ts (after_tree s x w t)

-- a value that isn't there takes any deed
abbrev pub deed_may_at : Deed → Option Value → Bool
deed_may_at deed None = true
deed_may_at deed (Some w) = deed_may deed w

abbrev pub all_op_may : SubOp → List Value → Bool
all_op_may o ws = deed_may_at o.deed (slice_get ws o.item.0)

abbrev pub all_ops_may : List SubOp → List Value → Bool
all_ops_may [] ws = true
all_ops_may (o ∷ os) ws = all_op_may o ws && all_ops_may os (all_after_op o ws)

abbrev pub all_subs_may : List Sub → List Value → Bool
all_subs_may [] ws = true
all_subs_may (k ∷ ks) ws = all_ops_may k.ops ws && all_subs_may ks (all_after_ops k.ops ws)

abbrev pub all_trees_may : ScriptData → List ℕ → List Value → Bool
all_trees_may s [] ws = true
all_trees_may s (t ∷ ts) ws = all_subs_may (subs_at s t) ws && all_trees_may s ts (all_after_tree s ws t)
