-- A tree that is to be opened is opened before all else. Private code alone cites these definitions.
use Rattle.std.specs.Prelude.{Option, Some, None}
use Rattle.tree_step.specs.declared.plan.Doing.{Doing}
use Rattle.tree_step.specs.declared.plan.Doing.TheVariants.{Tree}
use Rattle.tree_step.specs.declared.doing.Opening.{Opening}
use Rattle.tree_step.specs.declared.plan.HomePlan.{HomePlan}
use Rattle.tree_step.specs.declared.plan.HomePlan.TheVariants.{Open, Note}
use Rattle.tree_step.specs.declared.plan.Plan.{Plan}
use Rattle.tree_step.specs.declared.plan.TreePlan.{TreePlan}

-- the tree that is to be opened
abbrev pub opening_at : TreePlan → HomePlan → Option Opening
opening_at p (Open n v) = Some (record { tree = p.tree; subs = n; version = v })
opening_at p _ = None

abbrev pub opening_by : Doing → Option Opening
opening_by (Tree p) = opening_at p p.home
opening_by _ = None

-- what is left once it is open: its root's notice is noted
abbrev pub tree_once_open : TreePlan → HomePlan → TreePlan
tree_once_open p (Open n v) = record p { sub = record { 0 = 0 }; home = Note }
tree_once_open p _ = p

abbrev pub doing_once_open : Doing → Doing
doing_once_open (Tree p) = Tree (tree_once_open p p.home)
doing_once_open d = d

abbrev pub plan_once_open : Plan → Plan
plan_once_open p = record p { doing = doing_once_open p.doing }
