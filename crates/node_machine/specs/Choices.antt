-- What a choice of a core and a scratch mean: what is planned of a message.
use Rattle.std.specs.Prelude.{List, Option}
use Rattle.tv_base.specs.declared.numbers.TreeNo.{TreeNo}
use Rattle.letter_types.specs.declared.acts.Act.{Act}
use Rattle.letter_types.specs.declared.entries.Letter.{Letter}
use Rattle.tx_trees.specs.ScriptData.{ScriptData}
use Rattle.tx_trees.specs.declared.parts.TreeKind.{TreeKind}
use Rattle.world_model.specs.Named.{tree_kind_at}
use Rattle.tree_step.specs.Meant.{core_in}
use Rattle.tree_step.specs.declared.node_core.NodeCore.{NodeCore}
use Rattle.tree_step.specs.declared.plan.Scratch.{Scratch}
use Rattle.node_machine.specs.Apt.{IsOwnPlan, IsPlanOfKind, IsPlanOfTree}
use Rattle.node_machine.specs.steps.CoreKept.{CoreKept}
use Rattle.node_machine.specs.declared.node_plan.KeepPlan.{KeepPlan}
use Rattle.node_machine.specs.declared.node_plan.CoreChoice.{CoreChoice}
use Rattle.node_machine.specs.declared.node_plan.CoreChoice.TheVariants as choices
use Rattle.node_machine.specs.steps.ChosenStep.{ChosenStep}
use Rattle.node_machine.specs.steps.ChosenStep as plans

-- a message that a core defers by this plan, with these acts
abbrev pub kept_by_plan : KeepPlan → List Act → CoreKept
kept_by_plan k acts = record { tree = k.tree; sub = k.sub; why = k.why; raises = k.raises; acts = acts }

-- what a core does with a message
abbrev pub choice_meant : CoreChoice → Scratch → ChosenStep
choice_meant choices.Still x = plans.Still
choice_meant (choices.Keeps k) x = plans.Keeps (kept_by_plan k x.acts)
choice_meant choices.Does x = plans.Does (core_in x)

-- a choice and a scratch are a plan of a message that the script's kind of coordinator allows
abbrev pub IsOwnChoice : ScriptData → Letter → NodeCore → Scratch → CoreChoice → Type 0
IsOwnChoice s l n x choice = IsOwnPlan s l n (choice_meant choice x)

-- a choice and a scratch are a plan of a subtransaction of tree t, of this kind, that is known to be due
abbrev pub IsChoiceOfKind : ScriptData → Letter → TreeNo → Option TreeKind → NodeCore → Scratch → CoreChoice → Type 0
IsChoiceOfKind s l t kind n x choice = IsPlanOfKind s l t kind n (choice_meant choice x)

-- whatever its kind
abbrev pub IsDueChoice : ScriptData → Letter → TreeNo → NodeCore → Scratch → CoreChoice → Type 0
IsDueChoice s l t n x choice = IsChoiceOfKind s l t (tree_kind_at s t.0) n x choice

-- and whether it is due or not
abbrev pub IsChoiceOfTree : ScriptData → Letter → TreeNo → NodeCore → Scratch → CoreChoice → Type 0
IsChoiceOfTree s l t n x choice = IsPlanOfTree s l t n (choice_meant choice x)
