-- What a home does for a notice, planned. Private code alone cites these definitions.
use Rattle.std.specs.Prelude.{ℕ, ◌≡◌}
use Rattle.tv_base.specs.declared.numbers.SubNo.{SubNo}
use Rattle.tv_base.specs.declared.numbers.TreeNo.{TreeNo}
use Rattle.tree_home.specs.Homes.{Gets, HomesData, OpenTrees, begun, open_trees}
use Rattle.world_model.specs.Notices.{homes_noted}
use Rattle.tree_step.specs.Changes.{MayHome, home_after}
use Rattle.tree_step.specs.Meant.{home_planned_at}
use Rattle.tree_step.specs.declared.asked.Request.{Request}
use Rattle.tree_step.specs.declared.plan.HomePlan.{HomePlan}

-- what is planned for the home of tree t, with these values of its subtransaction k, fits these open trees and makes
-- those of them
pub record MakesHome (t : TreeNo) (k : SubNo) (noted : Gets) (old new : OpenTrees) (home : HomePlan) : Type 0 where
  pub after : home_after (home_planned_at t k noted home) old ≡ new
  pub may : MayHome (home_planned_at t k noted home) old

-- a notice of these values is taken
abbrev pub IsHomeNoted : Request → Gets → Gets → HomesData → HomePlan → Type 0
IsHomeNoted r values noted hs home =
    MakesHome r.tree r.sub noted (open_trees hs) (homes_noted r.tree r.sub values (open_trees hs)) home

-- the root of a tree of n subtransactions was done with these values
abbrev pub IsHomeRooted : Request → ℕ → Gets → Gets → HomesData → HomePlan → Type 0
IsHomeRooted r n values noted hs home =
    MakesHome r.tree (record { 0 = 0 }) noted (open_trees hs)
    (homes_noted r.tree (record { 0 = 0 }) values (begun r.tree n r.version (open_trees hs))) home
