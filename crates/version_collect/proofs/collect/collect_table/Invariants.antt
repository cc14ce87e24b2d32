use Rattle.std.proofs.Common.{◌≡◌, ◌++◌, take, drop}
use Rattle.item_versions.specs.Collecting.{collected_all}
use Rattle.version_collect.proofs.collect.collect_table.Given as goal

-- the items up to this place are collected
abbrev pub invariant-loop-place : goal.invariant-loop-place
invariant-loop-place l = l.items ≡ collected_all l.f (take l.place l.initial.items) ++ drop l.place l.initial.items
