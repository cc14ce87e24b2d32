-- How a node with deferred messages changes in a step, and when it may.
use Rattle.std.specs.Prelude.{◌≡◌, ⊤, List, [], ◌∷◌, ◌++◌, IfOk, IsSome, OnErr, OnOk, Option, Result}
use Rattle.tv_base.specs.declared.numbers.NoMemory.{NoMemory}
use Rattle.tv_base.specs.declared.numbers.Version.{Version}
use Rattle.letter_types.specs.declared.entries.StepOut.{StepOut}
use Rattle.letter_types.specs.declared.kept.KeptLetter.{KeptLetter}
use Rattle.letter_types.specs.Kept.{first_called, with_called, without_called}
use Rattle.letter_types.specs.Steps.{Out, made}
use Rattle.node_machine.specs.Again.{kept_again}
use Rattle.pair_counters.specs.Rows.{counts_of}
use Rattle.world_model.specs.Core.{Core}
use Rattle.world_model.specs.Keeping.{KeepingNode}
use Rattle.tree_step.specs.Node.{IsInWindow}
use Rattle.tree_step.specs.CoreChanges.{MayDoCore, after_core_change}
use Rattle.tree_step.specs.Core.{IsApart, core_of}
use Rattle.tree_step.specs.Raising.{RaisesNear, raised_by}
use Rattle.node_machine.specs.steps.Keep.{Keep, New, Again}
use Rattle.node_machine.specs.steps.KeepingStep.{KeepingStep, Still, Keeps, Does}
use Rattle.node_machine.specs.declared.node_plan.KeptPlan.{KeptPlan}
use Rattle.node_machine.specs.declared.node_plan.KeptPlan.TheVariants.{Stay, LetGo, Call}
use Rattle.node_machine.specs.declared.state.KeepingParts.{KeepingParts}
use Rattle.node_machine.specs.State.{keeping_of}
use Rattle.node_machine.specs.Waits.{waits_alike}

-- the deferred messages if one more is deferred
abbrev pub kept_with : Keep → List KeptLetter → List KeptLetter
kept_with (New x) kept = kept ++ x ∷ []
kept_with (Again t k why) kept = kept_again t k why kept

-- and if one is done
abbrev pub kept_after : KeptPlan → List KeptLetter → List KeptLetter
kept_after Stay kept = kept
kept_after (LetGo t k) kept = without_called t k kept
kept_after (Call why) kept = with_called (waits_alike why) kept

-- a core that raises its update version, if it must
abbrev pub raised_core : Option Version → Core → Core
raised_core raises c = record c { node = record c.node { turns = raised_by raises c.node.turns } }

-- a node, and what goes out, after a step, as a table's row
abbrev pub keeping_step_row : KeepingStep → KeepingNode → Out KeepingNode
keeping_step_row (Still out) n = made n out
keeping_step_row (Keeps keep raises out) n =
    made (record { core = raised_core raises n.core; kept = kept_with keep n.kept }) out
keeping_step_row (Does step change) n =
    made (record { core = after_core_change step n.core; kept = kept_after change n.kept }) step.parts.out

-- what is deferred again is there
abbrev pub MayBeKept : Keep → List KeptLetter → Type 0
MayBeKept (New x) kept = ⊤
MayBeKept (Again t k why) kept = IsSome (first_called t k kept)

-- a node's versions are in their window, and of no tree that is open it holds an answer
pub record IsSettled (n : KeepingParts) : Type 0 where
  pub window : IsInWindow n.core.parts
  pub apart : IsApart (core_of n.core)

-- a node may defer a message: what is raised is near, and what is deferred again is there
pub record MayKeepLetter (keep : Keep) (raises : Option Version) (n : KeepingParts) : Type 0 where
  pub settled : IsSettled n
  pub near : RaisesNear raises n.core.parts.turns
  pub there : MayBeKept keep n.kept

-- a node may do a step
abbrev pub MayDoKeeping : KeepingStep → KeepingParts → Type 0
MayDoKeeping (Still out) n = IsSettled n
MayDoKeeping (Keeps keep raises out) n = MayKeepLetter keep raises n
MayDoKeeping (Does step change) n = MayDoCore step n.core

-- a step is this row of a node, and the node may do it
pub record IsKeepingStepOf (o : Out KeepingNode) (n : KeepingParts) (p : KeepingStep) : Type 0 where
  pub row : keeping_step_row p (keeping_of n) ≡ o
  pub may : MayDoKeeping p n

-- what came of a step of a node: it was done, and the node afterwards and what goes out are its row; or no memory was
-- found, and the node is as it was. It counts by as many nodes as before, its versions are in their window, and of no
-- tree that is open an answer is held
pub record IsKeepingDone (p : KeepingStep) (old new : KeepingParts) (r : Result StepOut NoMemory) : Type 0 where
  pub row : IfOk r (λ out. made (keeping_of new) out ≡ keeping_step_row p (keeping_of old))
  pub nodes : OnOk r ((counts_of new.core.parts.counters).nodes ≡ (counts_of old.core.parts.counters).nodes)
  pub window : OnOk r (IsInWindow new.core.parts)
  pub apart : OnOk r (IsApart (core_of new.core))
  pub err : OnErr r (new ≡ old)
