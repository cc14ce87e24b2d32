-- What a row of a coordinator that forgets comes to: it is left, it was obeyed before, or what it stands for is done.
use Rattle.std.proofs.Common.{◌≡◌, ℕ, Bool, true, false, refl, sym, ap, subst, ◌∙◌, arith}
use Rattle.std.specs.Prelude.{if◌then◌else◌, nat_lt, not, ◌||◌, ◌&&◌}
use Rattle.tv_base.specs.declared.numbers.Version.{Version}
use Rattle.letter_types.specs.declared.bodies.Body.{Body}
use Rattle.letter_types.specs.declared.bodies.Body.TheVariants.{Numbers, Obeyed, Order}
use Rattle.letter_types.specs.declared.bodies.What.{What}
use Rattle.letter_types.specs.declared.bodies.What.TheVariants as whats
use Rattle.letter_types.specs.Steps.{Out, still}
use Rattle.script_parts.specs.ScriptData.{ScriptData}
use Rattle.world_model.specs.Advancing.{show_row, sweep_row, turn_row}
use Rattle.world_model.specs.Core.{Core, in_core}
use Rattle.world_model.specs.Epochs.{ask_core, heard_in, is_core_timely, order_core, plain_order, is_obeyed_now, was_obeyed}
use Rattle.world_model.specs.Named.{is_timely}

pick : (P : Out Core → Type 0) (test : Bool) (x y : Out Core) → (test ≡ true → P x) → (test ≡ false → P y) → P (if test then x else y)
pick P true x y left right = left refl
pick P false x y left right = right refl

-- a letter orders this of a core: it is the order itself, or one that stands for it and takes effect
pub data Orders (c : Core) (body : Body) (what : What) (v : Version) : Type 0 where
  Plainly : body ≡ plain_order what v → Orders c body what v
  Anew : (e : ℕ) → body ≡ Order e what v → is_obeyed_now e what v c ≡ true → Orders c body what v

plain_timely : (s : ScriptData) (c : Core) (what : What) (v : Version) → is_core_timely s c (plain_order what v) ≡ is_timely s c.node (plain_order what v)
plain_timely s c whats.Turn v = refl
plain_timely s c whats.Show v = refl
plain_timely s c whats.Sweep v = refl

left_false : (a b : Bool) → not a && not b ≡ true → a ≡ false
left_false a b is = grind arith

both_new : (a b : Bool) → a ≡ false → b ≡ false → not a && not b ≡ true
both_new a b x y = grind arith

-- where it is timely, so is what is ordered
pub order_timely : (s : ScriptData) (c : Core) (body : Body) (what : What) (v : Version) → Orders c body what v → is_core_timely s c body ≡ true
    → is_timely s c.node (plain_order what v) ≡ true
order_timely s c body what v (Plainly is) timely = sym (plain_timely s c what v) ∙ (ap (is_core_timely s c) (sym is) ∙ timely)
order_timely s c body what v (Anew e is takes) timely =
    let all : nat_lt e c.epoch || is_timely s c.node (plain_order what v) ≡ true = ap (is_core_timely s c) (sym is) ∙ timely in
    let new : nat_lt e c.epoch ≡ false = left_false (nat_lt e c.epoch) (was_obeyed what v c.node) takes in
    subst (λ (test : Bool). test || is_timely s c.node (plain_order what v) ≡ true) new all

-- a fact of what comes of an order, whichever it is
pub order_each : (P : Out Core → Type 0) (s : ScriptData) (e : ℕ) (what : What) (v : Version) (c : Core) → P (still c)
    → P (heard_in s e (Obeyed e what v) (still c))
    → (Orders c (Order e what v) whats.Turn v → P (heard_in s e (Obeyed e what v) (in_core c (turn_row s v c.node))))
    → (Orders c (Order e what v) whats.Show v → was_obeyed whats.Show v c.node ≡ false
    → P (heard_in s e (Obeyed e what v) (in_core c (show_row s v c.node))))
    → (Orders c (Order e what v) whats.Sweep v → was_obeyed whats.Sweep v c.node ≡ false
    → P (heard_in s e (Obeyed e what v) (in_core c (sweep_row s v c.node))))
    → P (order_core s e what v c)
order_each P s e whats.Turn v c left before turn show sweep =
    pick P (nat_lt e c.epoch) _ _ (λ is. left) (λ is. by (was_obeyed whats.Turn v c.node) refl is) where
      by : (test : Bool) → was_obeyed whats.Turn v c.node ≡ test → nat_lt e c.epoch ≡ false
          → P (heard_in s e (Obeyed e whats.Turn v) (if test then still c else in_core c (turn_row s v c.node)))
      by true is new = before
      by false is new = turn (Anew e refl (both_new _ _ new is))
order_each P s e whats.Show v c left before turn show sweep =
    pick P (nat_lt e c.epoch) _ _ (λ is. left) (λ is. by (was_obeyed whats.Show v c.node) refl is) where
      by : (test : Bool) → was_obeyed whats.Show v c.node ≡ test → nat_lt e c.epoch ≡ false
          → P (heard_in s e (Obeyed e whats.Show v) (if test then still c else in_core c (show_row s v c.node)))
      by true is new = before
      by false is new = show (Anew e refl (both_new _ _ new is)) is
order_each P s e whats.Sweep v c left before turn show sweep =
    pick P (nat_lt e c.epoch) _ _ (λ is. left) (λ is. by (was_obeyed whats.Sweep v c.node) refl is) where
      by : (test : Bool) → was_obeyed whats.Sweep v c.node ≡ test → nat_lt e c.epoch ≡ false
          → P (heard_in s e (Obeyed e whats.Sweep v) (if test then still c else in_core c (sweep_row s v c.node)))
      by true is new = before
      by false is new = sweep (Anew e refl (both_new _ _ new is)) is

-- and of what comes of a question
pub ask_each : (P : Out Core → Type 0) (s : ScriptData) (e : ℕ) (c : Core) → P (still c)
    → P (heard_in s e (Numbers e c.node.turns.update c.node.turns.read c.node.turns.low) (still c)) → P (ask_core s e c)
ask_each P s e c left tells = pick P (nat_lt e c.epoch) _ _ (λ is. left) (λ is. tells)
