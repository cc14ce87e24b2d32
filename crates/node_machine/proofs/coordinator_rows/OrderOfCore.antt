-- A step of a node's parts that leaves the homes is a step of its core; so are orders of both coordinators, and what is
-- asked of a node.
use Rattle.std.proofs.Common.{◌≡◌, ℕ, ◌<◌, ◌≤◌, ◌||◌, Bool, true, false, [], refl, sym, subst, ap, ◌∙◌, Option, Some, None, arith}
use Rattle.std.specs.Prelude.{if◌then◌else◌, nat_lt}
use Rattle.std.proofs.lemmas.Bool.{le-ltb, lt-ltb}
use Rattle.tv_base.specs.declared.numbers.Version.{Version}
use Rattle.letter_types.specs.declared.bodies.Body.{Body}
use Rattle.letter_types.specs.declared.bodies.Body.TheVariants.{Ask, Numbers, Obeyed, Order}
use Rattle.letter_types.specs.declared.bodies.What.{What}
use Rattle.letter_types.specs.declared.bodies.What.TheVariants as whats
use Rattle.letter_types.specs.declared.entries.Letter.{Letter}
use Rattle.letter_types.specs.Steps.{Out, still}
use Rattle.tree_home.specs.HeldAnswers.{held_answers}
use Rattle.tree_home.specs.Homes.{OpenTrees}
use Rattle.tx_trees.specs.ScriptData.{ScriptData}
use Rattle.world_model.specs.Core.{Core, in_core}
use Rattle.world_model.specs.Epochs.{ask_core, heard_in, order_core, plain_order, was_obeyed}
use Rattle.world_model.specs.Advancing.{advancing_row}
use Rattle.world_model.specs.Node.{Node}
use Rattle.world_model.specs.Strict.{core_keeping, core_row}
use Rattle.tree_step.specs.Changes.{IsNodeStepOf}
use Rattle.tree_step.specs.Due.{can_obey}
use Rattle.tree_step.specs.Node.{data_of}
use Rattle.tree_step.specs.steps.Change as changes
use Rattle.tree_step.specs.steps.PartsStep.{PartsStep}
use Rattle.tree_step.specs.declared.plan.Doing.{Doing}
use Rattle.tree_step.specs.declared.plan.Plan.{Plan}
use Rattle.tree_step.specs.declared.plan.Scratch.{Scratch}
use Rattle.tree_step.specs.Meant.{IsEmpty, core_in, core_meant, parts_meant}
use Rattle.node_machine.specs.Orders.{obeyed_row, ordered_row, plain_answer, told_row}
use Rattle.tree_step.specs.CoreChanges.{IsCoreStepOf}
use Rattle.tree_step.specs.Core.{AreApart, IsCoreReady, core_of}
use Rattle.tree_step.specs.steps.CoreStep.{CoreStep}
use Rattle.tree_step.specs.declared.node_core.NodeCore.{NodeCore}
use Rattle.node_machine.specs.steps.ChosenStep.{Still, Does}
use Rattle.node_machine.specs.Apt.{IsOwnPlan, apt_by, is_own}
use Rattle.node_machine.specs.inside.Stays.{hearing, of_parts, plan_of, still_step}
use Rattle.node_machine.proofs.enabled.TestsSayEnabled.{ask_apt, order_apt, other_row, plain_apt}
use Rattle.node_machine.proofs.enabled.PlansByBody.{plan_one}

of_node : (o : Out Node) (n : NodeCore) (p : PartsStep) (epoch : Option ℕ) → IsNodeStepOf o n.parts p
    → o.state.homes ≡ (data_of n.parts).homes → AreApart (data_of n.parts).homes (held_answers n.parts.homes)
    → IsCoreStepOf (hearing epoch (core_of n) o) n (of_parts p epoch)
of_node o n p epoch is same apart = record {
  row = ap (λ (x : Out Node). hearing epoch (core_of n) x) is.row;
  may = record {
    parts = is.may;
    holds = tt;
    asks = tt;
    apart = subst (λ (hs : OpenTrees). AreApart hs (held_answers n.parts.homes))
        (sym (ap (λ (x : Out Node). x.state.homes) is.row ∙ same)) apart;
  };
}

-- what such a plan and a scratch mean
pub of_parts_step : (o : Out Node) (n : NodeCore) (d : Doing) (x : Scratch) (epoch : Option ℕ) (q : Plan)
    → q ≡ plan_of d epoch → IsNodeStepOf o n.parts (parts_meant d x) → o.state.homes ≡ (data_of n.parts).homes
    → AreApart (data_of n.parts).homes (held_answers n.parts.homes)
    → IsCoreStepOf (hearing epoch (core_of n) o) n (core_meant q x)
of_parts_step o n d x epoch q made is same apart =
    subst (λ (y : Plan). IsCoreStepOf (hearing epoch (core_of n) o) n (core_meant y x)) (sym made)
    (of_node o n (parts_meant d x) epoch is same apart)

-- nothing changes
still_meant : (x : Scratch) → IsEmpty x → core_in x ≡ still_step
still_meant x empty = ap (λ (y : Scratch). core_in y) empty

pub still_done : (s : ScriptData) (p : ℕ) (n : NodeCore) (x : Scratch) → IsCoreReady s p n → IsEmpty x
    → IsCoreStepOf (still (core_of n)) n (core_in x)
still_done s p n x ready empty =
    let none : PartsStep = record { change = changes.Still; out = record { sent = []; acts = [] } } in
    subst (λ (y : CoreStep). IsCoreStepOf (still (core_of n)) n y) (sym (still_meant x empty))
    (of_node (still (data_of n.parts)) n none None
    (record {
      row = refl;
      may = record { fits = tt; small = ready.parts.small; window = ready.parts.window };
    })
    refl ready.apart)

-- a message that is enabled and isn't deferred, and a step is its row
pub own_done : (s : ScriptData) (l : Letter) (n : NodeCore) (body : Body) (o : Out Core) (q : CoreStep)
    → l.body ≡ body → true ≡ apt_by s l.to.0 l.from.0 (core_of n) body → core_keeping s (core_of n) body ≡ None
    → o ≡ core_row s l.to.0 (core_of n) l.from.0 body → IsCoreStepOf o n q → IsOwnPlan s l n (Does q)
own_done s l n body o q is apt free row step =
    plan_one s l n body true (Does q) is apt
    (record { apt = refl; free = free; step = subst (λ (x : Out Core). IsCoreStepOf x n q) row step })

-- Orders leave open trees as they are, and none is deferred.
order_homes : (s : ScriptData) (what : What) (v : Version) (answer : Body) (st : Node)
    → (ordered_row s what v answer st).state.homes ≡ st.homes
order_homes s whats.Turn v answer st = refl
order_homes s whats.Show v answer st = refl
order_homes s whats.Sweep v answer st = refl

plain_free : (s : ScriptData) (c : Core) (what : What) (v : Version) → core_keeping s c (plain_order what v) ≡ None
plain_free s c whats.Turn v = refl
plain_free s c whats.Show v = refl
plain_free s c whats.Sweep v = refl

-- one of a coordinator that remembers
plain_done : (s : ScriptData) (p from : ℕ) (c : Core) (what : What) (v : Version)
    → hearing None c (ordered_row s what v (plain_answer what v) c.node) ≡ core_row s p c from (plain_order what v)
plain_done s p from c whats.Turn v = refl
plain_done s p from c whats.Show v = refl
plain_done s p from c whats.Sweep v = refl

pub plain_plan : (s : ScriptData) (l : Letter) (n : NodeCore) (what : What) (v : Version) (d : Doing) (x : Scratch)
    (q : Plan) → l.body ≡ plain_order what v → IsCoreReady s l.to.0 n → can_obey what v n.parts.turns ≡ true
    → IsNodeStepOf (ordered_row s what v (plain_answer what v) (data_of n.parts)) n.parts (parts_meant d x)
    → q ≡ plan_of d None → IsOwnPlan s l n (Does (core_meant q x))
plain_plan s l n what v d x q is ready can step made =
    let row = ordered_row s what v (plain_answer what v) (data_of n.parts) in
    own_done s l n (plain_order what v) (hearing None (core_of n) row) (core_meant q x) is
    (sym can ∙ plain_apt s l.to.0 l.from.0 (core_of n) what v) (plain_free s (core_of n) what v)
    (plain_done s l.to.0 l.from.0 (core_of n) what v)
    (of_parts_step row n d x None q made step (order_homes s what v (plain_answer what v) (data_of n.parts)) ready.apart)

pub plain_far : (s : ScriptData) (l : Letter) (n : NodeCore) (what : What) (v : Version) → l.body ≡ plain_order what v
    → can_obey what v n.parts.turns ≡ false → IsOwnPlan s l n Still
plain_far s l n what v is far =
    plan_one s l n (plain_order what v) (can_obey what v n.parts.turns) Still is
    (plain_apt s l.to.0 l.from.0 (core_of n) what v) far

-- One of a coordinator that forgets: of an epoch before the node's
pub old_order : (s : ScriptData) (l : Letter) (n : NodeCore) (e : ℕ) (what : What) (v : Version) (x : Scratch)
    → l.body ≡ Order e what v → IsCoreReady s l.to.0 n → e < n.epoch → IsEmpty x
    → IsOwnPlan s l n (Does (core_in x))
old_order s l n e what v x is ready before empty =
    let c = core_of n in
    let old = lt-ltb e n.epoch before in
    own_done s l n (Order e what v) (still c) (core_in x) is
    (sym (ap (λ (b : Bool). b || can_obey what v n.parts.turns) old) ∙ order_apt s l.to.0 l.from.0 c e what v) refl
    (sym (ap (λ (b : Bool). if b then still c else heard_in s e (Obeyed e what v)
    (if was_obeyed what v c.node then still c else in_core c (advancing_row s (plain_order what v) c.node))) old))
    (still_done s l.to.0 n x ready empty)

-- of a version that the node can't go by
pub far_order : (s : ScriptData) (l : Letter) (n : NodeCore) (e : ℕ) (what : What) (v : Version)
    → l.body ≡ Order e what v → n.epoch ≤ e → can_obey what v n.parts.turns ≡ false → IsOwnPlan s l n Still
far_order s l n e what v is later far =
    plan_one s l n (Order e what v) (nat_lt e n.epoch || can_obey what v n.parts.turns) Still is
    (order_apt s l.to.0 l.from.0 (core_of n) e what v)
    (ap (λ (b : Bool). b || can_obey what v n.parts.turns) (le-ltb e n.epoch later) ∙ far)

-- and one that the node obeys
obeyed_homes : (s : ScriptData) (e : ℕ) (what : What) (v : Version) (st : Node)
    → (obeyed_row s e what v st).state.homes ≡ st.homes
obeyed_homes s e what v st = by (was_obeyed what v st) where
  by : (b : Bool)
      → (if b then told_row s (Obeyed e what v) st else ordered_row s what v (Obeyed e what v) st).state.homes ≡ st.homes
  by true = refl
  by false = order_homes s what v (Obeyed e what v) st

-- an order that is done, with the epoch and the answer of one that forgets
done_heard : (s : ScriptData) (c : Core) (e : ℕ) (what : What) (v : Version)
    → hearing (Some e) c (ordered_row s what v (Obeyed e what v) c.node)
    ≡ heard_in s e (Obeyed e what v) (in_core c (advancing_row s (plain_order what v) c.node))
done_heard s c e whats.Turn v = refl
done_heard s c e whats.Show v = refl
done_heard s c e whats.Sweep v = refl

obeyed_heard : (s : ScriptData) (c : Core) (e : ℕ) (what : What) (v : Version)
    → hearing (Some e) c (obeyed_row s e what v c.node)
    ≡ heard_in s e (Obeyed e what v)
    (if was_obeyed what v c.node then still c else in_core c (advancing_row s (plain_order what v) c.node))
obeyed_heard s c e what v = by (was_obeyed what v c.node) where
  by : (b : Bool)
      → hearing (Some e) c
      (if b then told_row s (Obeyed e what v) c.node else ordered_row s what v (Obeyed e what v) c.node)
      ≡ heard_in s e (Obeyed e what v)
      (if b then still c else in_core c (advancing_row s (plain_order what v) c.node))
  by true = refl
  by false = done_heard s c e what v

obeyed_done : (s : ScriptData) (c : Core) (e : ℕ) (what : What) (v : Version) → c.epoch ≤ e
    → hearing (Some e) c (obeyed_row s e what v c.node) ≡ order_core s e what v c
obeyed_done s c e what v later =
    obeyed_heard s c e what v
    ∙ sym (ap (λ (b : Bool). if b then still c else heard_in s e (Obeyed e what v)
    (if was_obeyed what v c.node then still c else in_core c (advancing_row s (plain_order what v) c.node)))
    (le-ltb e c.epoch later))

either_true : (a b : Bool) → b ≡ true → true ≡ (a || b)
either_true a b is = grind arith

pub order_plan : (s : ScriptData) (l : Letter) (n : NodeCore) (e : ℕ) (what : What) (v : Version) (d : Doing) (x : Scratch)
    (q : Plan) → l.body ≡ Order e what v → IsCoreReady s l.to.0 n → n.epoch ≤ e
    → can_obey what v n.parts.turns ≡ true
    → IsNodeStepOf (obeyed_row s e what v (data_of n.parts)) n.parts (parts_meant d x) → q ≡ plan_of d (Some e)
    → IsOwnPlan s l n (Does (core_meant q x))
order_plan s l n e what v d x q is ready later can step made =
    let row = obeyed_row s e what v (data_of n.parts) in
    own_done s l n (Order e what v) (hearing (Some e) (core_of n) row) (core_meant q x) is
    (either_true (nat_lt e n.epoch) (can_obey what v n.parts.turns) can
    ∙ order_apt s l.to.0 l.from.0 (core_of n) e what v) refl
    (obeyed_done s (core_of n) e what v later)
    (of_parts_step row n d x (Some e) q made step (obeyed_homes s e what v (data_of n.parts)) ready.apart)

-- A node is asked for its versions: in an epoch before its own
pub old_ask : (s : ScriptData) (l : Letter) (n : NodeCore) (e : ℕ) (x : Scratch) → l.body ≡ Ask e
    → IsCoreReady s l.to.0 n → e < n.epoch → IsEmpty x → IsOwnPlan s l n (Does (core_in x))
old_ask s l n e x is ready before empty =
    let c = core_of n in
    own_done s l n (Ask e) (still c) (core_in x) is (ask_apt s l.to.0 l.from.0 c e) refl
    (sym (ap (λ (b : Bool). if b then still c else heard_in s e
    (Numbers e c.node.turns.update c.node.turns.read c.node.turns.low) (still c)) (lt-ltb e n.epoch before)))
    (still_done s l.to.0 n x ready empty)

-- and in one that it hears of
asked_done : (s : ScriptData) (c : Core) (e : ℕ) → c.epoch ≤ e
    → hearing (Some e) c (told_row s (Numbers e c.node.turns.update c.node.turns.read c.node.turns.low) c.node)
    ≡ ask_core s e c
asked_done s c e later =
    sym (ap (λ (b : Bool). if b then still c else heard_in s e
    (Numbers e c.node.turns.update c.node.turns.read c.node.turns.low) (still c)) (le-ltb e c.epoch later))

pub ask_plan : (s : ScriptData) (l : Letter) (n : NodeCore) (e : ℕ) (d : Doing) (x : Scratch) (q : Plan) → l.body ≡ Ask e
    → IsCoreReady s l.to.0 n → n.epoch ≤ e
    → IsNodeStepOf (told_row s (Numbers e n.parts.turns.update n.parts.turns.read n.parts.turns.low) (data_of n.parts))
    n.parts (parts_meant d x) → q ≡ plan_of d (Some e) → IsOwnPlan s l n (Does (core_meant q x))
ask_plan s l n e d x q is ready later step made =
    let turns = n.parts.turns in
    let row = told_row s (Numbers e turns.update turns.read turns.low) (data_of n.parts) in
    own_done s l n (Ask e) (hearing (Some e) (core_of n) row) (core_meant q x) is
    (ask_apt s l.to.0 l.from.0 (core_of n) e) refl (asked_done s (core_of n) e later)
    (of_parts_step row n d x (Some e) q made step refl ready.apart)

-- a message without a row of its own
pub other_plan : (s : ScriptData) (l : Letter) (n : NodeCore) (x : Scratch) → IsCoreReady s l.to.0 n
    → is_own l.body ≡ false → IsEmpty x → IsOwnPlan s l n (Does (core_in x))
other_plan s l n x ready own empty =
    let row = other_row s l.to.0 l.from.0 (core_of n) l.body own in
    record {
      apt = sym row.0;
      free = row.1;
      step = subst (λ (o : Out Core). IsCoreStepOf o n (core_in x)) (sym row.2)
          (still_done s l.to.0 n x ready empty);
    }
