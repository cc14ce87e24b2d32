-- A plan by the message's body is a plan of the message, if the script's coordinator has it.
use Rattle.std.proofs.Common.{◌≡◌, ◌&&◌, Bool, true, false, refl, sym, subst, ap, ◌∙◌, Option, Result}
use Rattle.std.specs.Prelude.{IfOk}
use Rattle.tv_base.specs.declared.numbers.NoMemory.{NoMemory}
use Rattle.tv_base.specs.declared.numbers.SubNo.{SubNo}
use Rattle.tv_base.specs.declared.numbers.TreeNo.{TreeNo}
use Rattle.tv_base.specs.declared.numbers.Version.{Version}
use Rattle.letter_types.specs.declared.bodies.Body.{Body}
use Rattle.letter_types.specs.declared.bodies.Body.TheVariants.{Root, Sub as SubLetter}
use Rattle.letter_types.specs.declared.entries.Letter.{Letter}
use Rattle.tx_trees.specs.ScriptData.{ScriptData}
use Rattle.tree_home.specs.HeldAnswers.{held_answers}
use Rattle.tx_trees.specs.declared.parts.TreeKind.{TreeKind}
use Rattle.world_model.specs.Epochs.{suits_coordinator}
use Rattle.world_model.specs.Named.{tree_kind_at}
use Rattle.world_model.specs.Strict.{core_by_kind, core_keeping, core_row, is_unheld, kept_by_kind}
use Rattle.tree_step.specs.Due.{is_due}
use Rattle.tree_step.specs.Node.{data_of}
use Rattle.tree_step.specs.Core.{core_of}
use Rattle.tree_step.specs.declared.node_core.NodeCore.{NodeCore}
use Rattle.tree_step.specs.declared.plan.Scratch.{Scratch}
use Rattle.node_machine.specs.Plans.{IsPlanBy, IsPlanOf, IsPlanWhere}
use Rattle.node_machine.specs.declared.node_plan.CoreChoice.{CoreChoice}
use Rattle.node_machine.specs.steps.ChosenStep.{ChosenStep}
use Rattle.node_machine.specs.Choices.{IsChoiceOfKind, IsChoiceOfTree, IsDueChoice, IsOwnChoice, choice_meant}
use Rattle.node_machine.specs.Apt.{IsOwnPlan, apt_by, makes_by, tree_apt}
use Rattle.node_machine.proofs.enabled.TestsSayEnabled.{own_apt, root_apt, sub_apt}

-- a plan of a message of this body, that is enabled by this test
abbrev pub IsPlanHere : ScriptData → Letter → NodeCore → Body → Bool → ChosenStep → Type 0
IsPlanHere s l n body test plan =
    IsPlanBy test (core_keeping s (core_of n) body) (core_row s l.to.0 (core_of n) l.from.0 body) n plan

pub plan_one : (s : ScriptData) (l : Letter) (n : NodeCore) (body : Body) (test : Bool) (plan : ChosenStep) → l.body ≡ body
    → test ≡ apt_by s l.to.0 l.from.0 (core_of n) body → IsPlanHere s l n body test plan → IsOwnPlan s l n plan
plan_one s l n body test plan is same planned =
    subst (λ (b : Body). IsPlanHere s l n b (apt_by s l.to.0 l.from.0 (core_of n) b) plan) (sym is)
    (subst (λ (x : Bool). IsPlanHere s l n body x plan) same planned)

pub plan_result : (s : ScriptData) (l : Letter) (n : NodeCore) (x : Scratch) (body : Body) (test : Bool)
    (r : Result CoreChoice NoMemory) → l.body ≡ body → test ≡ apt_by s l.to.0 l.from.0 (core_of n) body
    → IfOk r (λ (c : CoreChoice). IsPlanHere s l n body test (choice_meant c x))
    → IfOk r (IsOwnChoice s l n x)
plan_result s l n x body test r is same planned =
    subst (λ (b : Body). IfOk r (λ (c : CoreChoice).
    IsPlanHere s l n b (apt_by s l.to.0 l.from.0 (core_of n) b) (choice_meant c x))) (sym is)
    (subst (λ (t : Bool). IfOk r (λ (c : CoreChoice). IsPlanHere s l n body t (choice_meant c x))) same planned)

-- two tests of which the first holds
pub first_holds : (a b : Bool) → a ≡ true → (a && b) ≡ b
first_holds a b is = ap (λ (x : Bool). x && b) is

pub first_fails : (a b : Bool) → a ≡ false → (a && b) ≡ false
first_fails a b is = ap (λ (x : Bool). x && b) is

-- whether a message is due, by its body
pub due_body : (s : ScriptData) (l : Letter) (n : NodeCore) (body : Body) → l.body ≡ body
    → true ≡ is_due s l.to.0 (data_of n.parts) l.from.0 l.body → is_due s l.to.0 (data_of n.parts) l.from.0 body ≡ true
due_body s l n body is due = sym (due ∙ ap (λ (b : Body). is_due s l.to.0 (data_of n.parts) l.from.0 b) is)

pub undue_body : (s : ScriptData) (l : Letter) (n : NodeCore) (body : Body) → l.body ≡ body
    → false ≡ is_due s l.to.0 (data_of n.parts) l.from.0 l.body → is_due s l.to.0 (data_of n.parts) l.from.0 body ≡ false
undue_body s l n body is due = sym (due ∙ ap (λ (b : Body). is_due s l.to.0 (data_of n.parts) l.from.0 b) is)

-- A message that asks for a subtransaction of a tree.
pub unfree : (a b m : Bool) → false ≡ (a && b) → (a && (b && m)) ≡ false
unfree true true m is = absurd (cc)
unfree true false m is = refl
unfree false b m is = refl

is_free : (a b m : Bool) → true ≡ (a && b) → m ≡ (a && (b && m))
is_free true true m is = refl
is_free true false m is = absurd (cc)
is_free false b m is = absurd (cc)

-- its plan, by the tree's kind
abbrev IsTreePlan : ScriptData → Letter → NodeCore → TreeNo → Body → Bool → Option TreeKind → ChosenStep → Type 0
IsTreePlan s l n t body test kind plan =
    IsPlanBy test (kept_by_kind s (core_of n) t body kind) (core_by_kind s l.to.0 l.from.0 t body kind (core_of n)) n plan

-- the same of a choice and a scratch
abbrev IsTreeChoice : ScriptData → Letter → NodeCore → Scratch → TreeNo → Body → Bool → Option TreeKind → CoreChoice → Type 0
IsTreeChoice s l n x t body test kind choice = IsTreePlan s l n t body test kind (choice_meant choice x)

-- one of this kind
pub kind_plan : (s : ScriptData) (l : Letter) (n : NodeCore) (x : Scratch) (t : TreeNo) (kind : Option TreeKind)
    (r : Result CoreChoice NoMemory) → kind ≡ tree_kind_at s t.0 → IfOk r (IsChoiceOfKind s l t kind n x)
    → IfOk r (IsDueChoice s l t n x)
kind_plan s l n x t kind r is planned =
    subst (λ (k : Option TreeKind). IfOk r (IsChoiceOfKind s l t k n x)) is planned

-- one that is due
pub tree_plan : (s : ScriptData) (l : Letter) (n : NodeCore) (x : Scratch) (t : TreeNo) (r : Result CoreChoice NoMemory)
    → true ≡ (is_due s l.to.0 (data_of n.parts) l.from.0 l.body && is_unheld l.body (held_answers n.parts.homes))
    → IfOk r (IsDueChoice s l t n x) → IfOk r (IsChoiceOfTree s l t n x)
tree_plan s l n x t r free planned =
    subst (λ (b : Bool). IfOk r (IsTreeChoice s l n x t l.body b (tree_kind_at s t.0)))
    (is_free (is_due s l.to.0 (data_of n.parts) l.from.0 l.body) (is_unheld l.body (held_answers n.parts.homes))
    (makes_by s (data_of n.parts) l.body (tree_kind_at s t.0)) free) planned

pub root_plan : (s : ScriptData) (l : Letter) (n : NodeCore) (x : Scratch) (t : TreeNo) (r : Result CoreChoice NoMemory)
    → l.body ≡ Root t → IfOk r (IsChoiceOfTree s l t n x)
    → IfOk r (IsOwnChoice s l n x)
root_plan s l n x t r is planned =
    plan_result s l n x (Root t) (tree_apt s l.to.0 l.from.0 (core_of n) t (Root t)) r is
    (root_apt s l.to.0 l.from.0 (core_of n) t)
    (subst (λ (b : Body). IfOk r
    (IsTreeChoice s l n x t b (tree_apt s l.to.0 l.from.0 (core_of n) t b) (tree_kind_at s t.0))) is planned)

pub sub_plan : (s : ScriptData) (l : Letter) (n : NodeCore) (x : Scratch) (t : TreeNo) (k : SubNo) (v : Version)
    (r : Result CoreChoice NoMemory) → l.body ≡ SubLetter t k v → IfOk r (IsChoiceOfTree s l t n x)
    → IfOk r (IsOwnChoice s l n x)
sub_plan s l n x t k v r is planned =
    plan_result s l n x (SubLetter t k v) (tree_apt s l.to.0 l.from.0 (core_of n) t (SubLetter t k v)) r is
    (sub_apt s l.to.0 l.from.0 (core_of n) t k v)
    (subst (λ (b : Body). IfOk r
    (IsTreeChoice s l n x t b (tree_apt s l.to.0 l.from.0 (core_of n) t b) (tree_kind_at s t.0))) is planned)

-- a plan of a message that the script's coordinator has
pub own_plan : (s : ScriptData) (l : Letter) (n : NodeCore) (x : Scratch) (r : Result CoreChoice NoMemory)
    → suits_coordinator s l.body ≡ true → IfOk r (IsOwnChoice s l n x)
    → IfOk r (λ (c : CoreChoice). IsPlanOf s l n (choice_meant c x))
own_plan s l n x r own planned =
    subst (λ (b : Bool). IfOk r (λ (c : CoreChoice). IsPlanWhere b s l n (choice_meant c x)))
    (own_apt s l.to.0 (core_of n) l own) planned
