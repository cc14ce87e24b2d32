-- What a plan means whose tree is opened before all else.
use Rattle.std.proofs.Common.{◌≡◌, ap, refl, Some, None}
use Rattle.tree_home.specs.Homes.{Gets}
use Rattle.tree_step.specs.Changes.{OpensNone, OpensNoTree}
use Rattle.tree_step.specs.steps.Change.{Change}
use Rattle.tree_step.specs.steps.Change as changes
use Rattle.tree_step.specs.steps.HomeChange.{HomeChange}
use Rattle.tree_step.specs.inside.OnceOpen.{changed_once_open, home_once_open, once_open, opening_in, opening_of}
use Rattle.tree_step.specs.declared.plan.Doing.{Doing}
use Rattle.tree_step.specs.declared.plan.Doing.TheVariants.{Still, Tree, Turn, Show, Sweep}
use Rattle.tree_step.specs.declared.doing.Opening.{Opening}
use Rattle.tree_step.specs.declared.plan.HomePlan.{HomePlan}
use Rattle.tree_step.specs.declared.plan.HomePlan.TheVariants.{Stay, Open, Note, Forget}
use Rattle.tree_step.specs.declared.plan.Plan.{Plan}
use Rattle.tree_step.specs.declared.plan.Scratch.{Scratch}
use Rattle.tree_step.specs.declared.plan.TreePlan.{TreePlan}
use Rattle.tree_step.specs.Meant.{core_meant, doing_meant, home_planned_at, holds_meant, out_in, votes_meant}
use Rattle.tree_step.specs.inside.PlanOpening.{doing_once_open, opening_at, opening_by, plan_once_open, tree_once_open}

opening_home : (p : TreePlan) (h : HomePlan) (values : Gets) (o : Opening) → opening_at p h ≡ Some o
    → opening_of (home_planned_at p.tree p.sub values h) ≡ Some o
opening_home p (Open n v) values o is =
    let same : record { tree = p.tree; subs = n; version = v } ≡ o = cc in
    ap (λ (x : Opening). Some x) same
opening_home p Stay values o is = cc
opening_home p Note values o is = cc
opening_home p Forget values o is = cc

pub opening_same : (d : Doing) (x : Scratch) (o : Opening) → opening_by d ≡ Some o
    → opening_in (doing_meant d x) ≡ Some o
opening_same (Tree p) x o is = opening_home p p.home x.values o is
opening_same Still x o is = cc
opening_same (Turn v) x o is = cc
opening_same (Show v) x o is = cc
opening_same (Sweep v) x o is = cc

opens_home : (p : TreePlan) (h : HomePlan) (values : Gets) → opening_at p h ≡ None → OpensNoTree (home_planned_at p.tree p.sub values h)
opens_home p (Open n v) values is = cc
opens_home p Stay values is = tt
opens_home p Note values is = tt
opens_home p Forget values is = tt

pub opens_none : (d : Doing) (x : Scratch) → opening_by d ≡ None → OpensNone (doing_meant d x)
opens_none (Tree p) x is = opens_home p p.home x.values is
opens_none Still x is = tt
opens_none (Turn v) x is = tt
opens_none (Show v) x is = tt
opens_none (Sweep v) x is = tt

-- a tree's change by its home
abbrev change_at : TreePlan → Scratch → HomeChange → Change
change_at p x h = changes.Tree (record { raises = p.raises; staged = x.staged; counting = p.counting; home = h })

tree_same : (p : TreePlan) (h : HomePlan) (x : Scratch) → p.home ≡ h
    → doing_meant (Tree (tree_once_open p h)) x ≡ change_at p x (home_once_open (home_planned_at p.tree p.sub x.values h))
tree_same p (Open n v) x is = refl
tree_same p Stay x is = ap (λ (h : HomePlan). change_at p x (home_planned_at p.tree p.sub x.values h)) is
tree_same p Note x is = ap (λ (h : HomePlan). change_at p x (home_planned_at p.tree p.sub x.values h)) is
tree_same p Forget x is = ap (λ (h : HomePlan). change_at p x (home_planned_at p.tree p.sub x.values h)) is

pub doing_same : (d : Doing) (x : Scratch) → doing_meant (doing_once_open d) x ≡ changed_once_open (doing_meant d x)
doing_same (Tree p) x = tree_same p p.home x refl
doing_same Still x = refl
doing_same (Turn v) x = refl
doing_same (Show v) x = refl
doing_same (Sweep v) x = refl

pub once_same : (p : Plan) (x : Scratch) → core_meant (plan_once_open p) x ≡ once_open (core_meant p x)
once_same p x = λ i. record {
  parts = record { change = doing_same p.doing x i; out = out_in x };
  votes = votes_meant p.votes x;
  holds = holds_meant p.holds x;
  epoch = p.epoch;
}
