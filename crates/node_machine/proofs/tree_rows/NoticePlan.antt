-- The plan of a notice.
use Rattle.std.proofs.Common.{◌≡◌, ℕ, true, false, refl, subst, ◌∙◌}
use Rattle.tv_base.specs.declared.numbers.SubNo.{SubNo}
use Rattle.tv_base.specs.declared.numbers.TreeNo.{TreeNo}
use Rattle.tv_base.specs.declared.numbers.Version.{Version}
use Rattle.letter_types.specs.declared.bodies.Body.TheVariants.{Done}
use Rattle.letter_types.specs.declared.bodies.Notice.{Notice}
use Rattle.letter_types.specs.declared.entries.Letter.{Letter}
use Rattle.tree_home.specs.Homes.{open_trees}
use Rattle.tx_trees.specs.ScriptData.{ScriptData}
use Rattle.world_model.specs.Notices.{answer_noted, values_of}
use Rattle.world_model.specs.Strict.{is_near_answer, note_core}
use Rattle.tree_step.specs.Due.{is_due}
use Rattle.tree_step.specs.Node.{data_of}
use Rattle.tree_step.specs.CoreChanges.{IsCoreStepOf}
use Rattle.tree_step.specs.Core.{core_of}
use Rattle.tree_step.specs.steps.CoreStep.{CoreStep}
use Rattle.tree_step.specs.declared.node_core.NodeCore.{NodeCore}
use Rattle.node_machine.specs.steps.ChosenStep.{Still, Does}
use Rattle.node_machine.specs.Apt.{IsOwnPlan}
use Rattle.node_machine.proofs.enabled.TestsSayEnabled.{note_apt}
use Rattle.node_machine.proofs.enabled.PlansByBody.{due_body, first_fails, first_holds, plan_one, undue_body}

-- one that isn't due
pub note_undue : (s : ScriptData) (l : Letter) (n : NodeCore) (t : TreeNo) (k : SubNo) (v : Version) (notice : Notice)
    → l.body ≡ Done t k v notice → false ≡ is_due s l.to.0 (data_of n.parts) l.from.0 l.body → IsOwnPlan s l n Still
note_undue s l n t k v notice is due =
    plan_one s l n (Done t k v notice) _ Still is (note_apt s l.to.0 l.from.0 (core_of n) t k v notice)
    (first_fails (is_due s l.to.0 (data_of n.parts) l.from.0 (Done t k v notice))
    (is_near_answer s (data_of n.parts) (answer_noted t k (values_of notice) (open_trees n.parts.homes)))
    (undue_body s l n (Done t k v notice) is due))

-- one after which the node couldn't count the decision
pub note_far : (s : ScriptData) (l : Letter) (n : NodeCore) (t : TreeNo) (k : SubNo) (v : Version) (notice : Notice)
    → l.body ≡ Done t k v notice → true ≡ is_due s l.to.0 (data_of n.parts) l.from.0 l.body
    → is_near_answer s (data_of n.parts) (answer_noted t k (values_of notice) (open_trees n.parts.homes)) ≡ false
    → IsOwnPlan s l n Still
note_far s l n t k v notice is due far =
    plan_one s l n (Done t k v notice) _ Still is (note_apt s l.to.0 l.from.0 (core_of n) t k v notice)
    (first_holds (is_due s l.to.0 (data_of n.parts) l.from.0 (Done t k v notice))
    (is_near_answer s (data_of n.parts) (answer_noted t k (values_of notice) (open_trees n.parts.homes)))
    (due_body s l n (Done t k v notice) is due)
    ∙ far)

-- one that is enabled
pub note_plan : (s : ScriptData) (l : Letter) (n : NodeCore) (t : TreeNo) (k : SubNo) (v : Version) (notice : Notice)
    (from : ℕ) (q : CoreStep) → l.body ≡ Done t k v notice
    → true ≡ is_due s l.to.0 (data_of n.parts) l.from.0 l.body
    → is_near_answer s (data_of n.parts) (answer_noted t k (values_of notice) (open_trees n.parts.homes)) ≡ true
    → from ≡ l.from.0 → IsCoreStepOf (note_core s from t k v notice (core_of n)) n q → IsOwnPlan s l n (Does q)
note_plan s l n t k v notice from q is due near sent step =
    plan_one s l n (Done t k v notice) _ (Does q) is (note_apt s l.to.0 l.from.0 (core_of n) t k v notice)
    (record {
      apt =
          first_holds (is_due s l.to.0 (data_of n.parts) l.from.0 (Done t k v notice))
          (is_near_answer s (data_of n.parts) (answer_noted t k (values_of notice) (open_trees n.parts.homes)))
          (due_body s l n (Done t k v notice) is due)
          ∙ near;
      free = refl;
      step = subst (λ (f : ℕ). IsCoreStepOf (note_core s f t k v notice (core_of n)) n q) sent step;
    })
