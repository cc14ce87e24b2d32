-- Where an item is in a table. These are the definitions that private code alone cites.
use Rattle.std.specs.Prelude.{ℕ, ◌+◌, [], ◌∷◌, if◌then◌else◌, ◌==◌}
use Rattle.tv_base.specs.declared.numbers.ItemNo.{ItemNo}
use Rattle.item_versions.specs.Table.{Table}

-- the place of an item, or the number of items where it is not there
abbrev pub item_place : ItemNo → Table → ℕ
item_place n [] = 0
item_place n (e ∷ es) = if e.0.0 == n.0 then 0 else item_place n es + 1
