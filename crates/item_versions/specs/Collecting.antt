-- A table whose items are all collected.
use Rattle.std.specs.Prelude.{Bool, true, false, ◌&&◌, nat_le, List, [], ◌∷◌, map, Option}
use Rattle.tv_base.specs.declared.numbers.ItemNo.{ItemNo}
use Rattle.tv_base.specs.declared.numbers.Version.{Version}
use Rattle.commute_ops.specs.declared.value.Value.{Value}
use Rattle.item_versions.specs.Item.{Held, collected, seen}
use Rattle.item_versions.specs.Table.{Table}

-- an item has a version that is at most f
abbrev pub may_collect : Version → Held → Bool
may_collect f [] = false
may_collect f (x ∷ xs) = nat_le x.0.0 f.0

-- each item has one
abbrev pub may_collect_all : Version → Table → Bool
may_collect_all f [] = true
may_collect_all f (e ∷ es) = may_collect f e.1 && may_collect_all f es

-- every item is collected to version f
abbrev pub collected_all : Version → Table → Table
collected_all f t = map (λ e. (e.0, collected f e.1)) t

-- what is seen of each item at version v
abbrev pub items_seen_in : Version → Table → List (ItemNo × Option Value)
items_seen_in v t = map (λ e. (e.0, seen v e.1)) t

-- the numbers of the items
abbrev pub numbers_in : Table → List ItemNo
numbers_in t = map (λ e. e.0) t
