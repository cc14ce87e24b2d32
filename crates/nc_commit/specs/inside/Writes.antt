-- What holds while a tree's operations are staged one after the other.
use Rattle.std.specs.Prelude.{◌≡◌, true, List, map, nat_eq}
use Rattle.std.specs.List.{AllByRecursion, IsDistinct}
use Rattle.item_versions.specs.Table.{Table, item_in}
use Rattle.tv_base.specs.declared.numbers.Version.{Version}
use Rattle.nc_commit.specs.Decisions.{applied_in, can_apply}
use Rattle.tx_trees.specs.declared.parts.SubOp.{SubOp}

-- no two of these operations are on one item
abbrev pub AreOnce : List SubOp → Type 0
AreOnce os = IsDistinct nat_eq (map (λ o. o.item.0) os)

-- the items of these operations are as they were
abbrev pub AreUntouched : List SubOp → Table → Table → Type 0
AreUntouched os before items = AllByRecursion (λ o. item_in o.item items ≡ item_in o.item before) os

-- the operations that are left can be applied, and lead from the table as it is to that after all operations
pub record IsStaging (v : Version) (all left : List SubOp) (now before : Table) : Type 0 where
  pub once : AreOnce left
  pub untouched : AreUntouched left before now
  pub can : can_apply v left before ≡ true
  pub leads : applied_in v left now ≡ applied_in v all before
