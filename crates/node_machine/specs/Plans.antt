-- What a core does with a message.
use Rattle.std.specs.Prelude.{◌≡◌, Bool, true, false, Option, Some, None}
use Rattle.letter_types.specs.declared.entries.Letter.{Letter}
use Rattle.letter_types.specs.Steps.{Out}
use Rattle.tx_trees.specs.ScriptData.{ScriptData}
use Rattle.world_model.specs.Core.{Core}
use Rattle.world_model.specs.Strict.{CoreKeeping, core_keeping, core_row, is_core_apt}
use Rattle.tree_step.specs.CoreChanges.{IsCoreStepOf}
use Rattle.tree_step.specs.Raising.{RaisesNear, raised_by}
use Rattle.tree_step.specs.Core.{core_of}
use Rattle.tree_step.specs.steps.CoreStep.{CoreStep}
use Rattle.tree_step.specs.declared.node_core.NodeCore.{NodeCore}
use Rattle.node_machine.specs.steps.CoreKept.{CoreKept}
use Rattle.node_machine.specs.steps.ChosenStep.{ChosenStep, Still, Keeps, Does}

-- a core that defers a message
abbrev pub kept_core : CoreKept → Core → CoreKeeping
kept_core k c = record {
  tree = k.tree;
  sub = k.sub;
  why = k.why;
  state = record c { node = record c.node { turns = raised_by k.raises c.node.turns } };
  acts = k.acts;
}

-- a message that is enabled, by this test, is one that the core has to defer, and is deferred so
pub record IsKeptBy (test : Bool) (keeping : Option CoreKeeping) (n : NodeCore) (k : CoreKept) : Type 0 where
  pub apt : test ≡ true
  pub kept : keeping ≡ Some (kept_core k (core_of n))
  pub near : RaisesNear k.raises n.parts.turns

-- a message that is enabled, by this test, is one that the core doesn't defer, and a step is this row of it
pub record IsDoneBy (test : Bool) (keeping : Option CoreKeeping) (o : Out Core) (n : NodeCore) (p : CoreStep)
    : Type 0 where
  pub apt : test ≡ true
  pub free : keeping ≡ None
  pub step : IsCoreStepOf o n p

-- a plan by these: nothing if the message isn't enabled; else it is deferred if it has to be, and its row is done if
-- not
abbrev pub IsPlanBy : Bool → Option CoreKeeping → Out Core → NodeCore → ChosenStep → Type 0
IsPlanBy test keeping o n Still = test ≡ false
IsPlanBy test keeping o n (Keeps k) = IsKeptBy test keeping n k
IsPlanBy test keeping o n (Does p) = IsDoneBy test keeping o n p

-- what a core does with a message is planned, if this says whether the message is enabled
abbrev pub IsPlanWhere : Bool → ScriptData → Letter → NodeCore → ChosenStep → Type 0
IsPlanWhere test s l n plan =
    IsPlanBy test (core_keeping s (core_of n) l.body) (core_row s l.to.0 (core_of n) l.from.0 l.body) n plan

-- what a core does with a message is planned
abbrev pub IsPlanOf : ScriptData → Letter → NodeCore → ChosenStep → Type 0
IsPlanOf s l n plan = IsPlanWhere (is_core_apt s l.to.0 (core_of n) l) s l n plan
