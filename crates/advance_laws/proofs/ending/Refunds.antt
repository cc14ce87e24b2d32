-- What of an advancement a coordinator that forgets need not do again, and how much it has done of all.
use Rattle.std.proofs.Common.{if◌then◌else◌, ◌≡◌, ◌⊎◌, inl, inr, ℕ, ◌+◌, ◌*◌, ◌<◌, ◌≤◌, Bool, true, false, List, refl, ap, arith}
use Rattle.std.specs.List.{list_any}
use Rattle.std.proofs.Math.Nat.{mul-le-mul_right}
use Rattle.tv_base.specs.Outside.{one_more}
use Rattle.letter_types.specs.declared.bodies.Body.TheVariants.{Ask}
use Rattle.letter_types.specs.declared.bodies.What.TheVariants.{Turn as ToTurn, Show as ToShow, Sweep as ToSweep}
use Rattle.letter_types.specs.declared.entries.Entry.{Entry}
use Rattle.node_versions.specs.declared.turns.Turns.{Turns}
use Rattle.tx_trees.specs.Counts.{advances_in}
use Rattle.tx_trees.specs.ScriptData.{ScriptData}
use Rattle.tx_trees.specs.Valid.{IsValid}
use Rattle.world_model.specs.Coordinator.{to_nodes}
use Rattle.world_model.specs.Counts.{one_if, tally}
use Rattle.world_model.specs.Restarting.{AllTold, Restarting, forget, least_low, phase_by, read_is}
use Rattle.world_model.specs.Runs.{restarting_in}
use Rattle.world_model.specs.declared.restarting.RestartPhase.{RestartPhase}
use Rattle.world_model.specs.declared.restarting.RestartPhase.TheVariants.{Idle, Recovering, Doing, Counting, Paused}
use Rattle.world_model.proofs.Bags.{tally-append}
use Rattle.world_model.proofs.Every.{each_append, each_map, each_none}
use Rattle.world_model.proofs.Orders.{of, to_nodes_each}
use Rattle.world_model.proofs.Sends.{on}
use Rattle.advance_laws.specs.Given.{greatest_given}
use Rattle.advance_laws.specs.Phases.{TurnStage}
use Rattle.advance_laws.proofs.recovery.Floors.{AllAskAnew, AsksAnew, IsFrom, IsRestored}
use Rattle.advance_laws.proofs.right.Good.{IsGood, IsSteady, LevelOf, ended_few, ended_most, least_read, least_update, low_turned, read_turned, turned_most, turns_in}
use Rattle.advance_laws.proofs.ending.Prices.{IsEntered, begun, doing_entered, next_entered, next_orders, ordered, price, to_nodes_price}
use Rattle.advance_laws.proofs.recovery.RecoverSteps.{phase_each}

-- in these phases each node reads the next version already
abbrev pub shown_in : RestartPhase → Bool
shown_in (Counting reads) = reads
shown_in (Paused reads) = reads
shown_in (Doing ToSweep) = true
shown_in Idle = false
shown_in _ = false

-- where some node does, what comes before it isn't done again: the turn, and the round for updates
abbrev pub kept_of : ℕ → Bool → ℕ
kept_of n shown = if shown then 6 * n else 0

-- the rest is the orders and a round at most
pub begun_most : (n : ℕ) (phase : RestartPhase) → begun n phase ≤ kept_of n (shown_in phase) + 8 * n
begun_most n phase = grind arith

-- all of an advancement
begun_all : (n : ℕ) (phase : RestartPhase) → begun n phase ≤ 14 * n
begun_all n phase = grind arith

-- so far each node is in each phase
read_from : (phase : RestartPhase) (f : ℕ) → f + one_if (shown_in phase) ≤ least_read phase f
read_from phase f = grind arith

pub from_level : (phase : RestartPhase) (f e epoch : ℕ) (turns : Turns) (orders : ℕ) → LevelOf phase f e epoch turns orders
    → IsFrom f (shown_in phase) turns.read.0 turns.low.0
from_level phase f e epoch turns orders level = record { low = level.low; read = omega (arith, level.read, read_from phase f) }

-- Forgetting: each node and the client are asked.
pub forget_price : (c : Restarting) → tally (on price) (forget c).sent ≡ 2 * c.nodes + 2
forget_price c = grind (arith, tally-append, to_nodes_price)

pub forget_asks : (c : Restarting) → AllAskAnew (forget c).sent
forget_asks c =
    each_append (of (λ to b. AsksAnew b)) (to_nodes c.nodes (Ask (one_more c.epoch))) _
    (to_nodes_each (λ to b. AsksAnew b) c.nodes (Ask (one_more c.epoch)) (λ to lt. tt)) (tt, tt)

-- Resuming: the phases with which it goes on.
pub by_entered : (n : ℕ) (ts : AllTold) (wanted f : ℕ) → IsEntered n (phase_by ts wanted f)
by_entered n ts wanted f =
    phase_each (IsEntered n) ts wanted f (λ a. doing_entered n ToSweep) (λ a b. doing_entered n ToShow)
    (λ a b c. doing_entered n ToTurn) (λ a b. next_entered n wanted f)

by_orders : (n : ℕ) (ts : AllTold) (wanted f : ℕ) → ordered n (phase_by ts wanted f) ≤ begun n (phase_by ts wanted f)
by_orders n ts wanted f =
    phase_each (λ (p : RestartPhase). ordered n p ≤ begun n p) ts wanted f (λ a. omega arith) (λ a b. omega arith)
    (λ a b c. omega arith) (λ a b. omega (arith, next_orders n wanted f))

-- where some node reads the next version, it goes on with a sweep, or with its show
by_shown : (n : ℕ) (ts : AllTold) (wanted f : ℕ) → list_any (read_is (one_more f)) ts ≡ true
    → 6 * n + ordered n (phase_by ts wanted f) ≤ begun n (phase_by ts wanted f)
by_shown n ts wanted f is =
    phase_each (λ (p : RestartPhase). 6 * n + ordered n p ≤ begun n p) ts wanted f (λ a. omega arith)
    (λ a b. omega arith) (λ a b c. absurd (cc (is, b))) (λ a b. absurd (cc (is, b)))

same_or_more : (f g : ℕ) → f ≤ g → (g ≡ f) ⊎ (f + 1 ≤ g)
same_or_more f g le = grind arith

-- so it goes on with no less than was kept
pub resume_pays : (n : ℕ) (ts : AllTold) (wanted f : ℕ) (shown : Bool) → IsRestored ts f shown
    → f * (14 * n + 1) + kept_of n shown + ordered n (phase_by ts wanted (least_low ts))
    ≤ least_low ts * (14 * n + 1) + begun n (phase_by ts wanted (least_low ts))
resume_pays n ts wanted f shown rest = by shown refl (same_or_more f (least_low ts) rest.low) where
  g : ℕ
  g = least_low ts

  by : (b : Bool) → shown ≡ b → (g ≡ f) ⊎ (f + 1 ≤ g)
      → f * (14 * n + 1) + kept_of n b + ordered n (phase_by ts wanted g) ≤ g * (14 * n + 1) + begun n (phase_by ts wanted g)
  by false is (inl same) =
      omega (arith, ap (λ (k : ℕ). k * (14 * n + 1)) same, by_orders n ts wanted g)
  by true is (inl same) =
      omega (arith, ap (λ (k : ℕ). k * (14 * n + 1)) same, by_shown n ts wanted g (rest.shows is same))
  by false is (inr more) = omega (arith, mul-le-mul_right (14 * n + 1) more, by_orders n ts wanted g)
  by true is (inr more) = omega (arith, mul-le-mul_right (14 * n + 1) more, by_orders n ts wanted g)

-- How much it has done.
-- While nodes turn, they were told so.
turn_given : (s : ScriptData) (past : List Entry) (q : ℕ) → IsGood s past → q < s.nodes → (restarting_in s past).ended ≤ 100
    → (restarting_in s past).phase ≡ Doing ToTurn → IsSteady s past (Doing ToTurn)
    → (restarting_in s past).ended + 2 ≤ greatest_given TurnStage past
turn_given s past q good lt few at steady = grind (arith, each_map, each_none)

-- so no more is done than all that the client asks for
all_done : (n a f : ℕ) (phase : RestartPhase) → f + 1 ≤ a → f * (14 * n + 1) + begun n phase ≤ a * (14 * n + 1)
all_done n a f phase less = omega (arith, begun_all n phase, mul-le-mul_right (14 * n + 1) less)

updates_all : (s : ScriptData) (past : List Entry) (phase : RestartPhase) → IsValid s → IsGood s past → IsSteady s past phase
    → least_update phase (restarting_in s past).ended ≡ (restarting_in s past).ended + 2
    → (restarting_in s past).ended * (14 * s.nodes + 1) + begun s.nodes phase ≤ advances_in s.rows * (14 * s.nodes + 1)
updates_all s past phase valid good steady is =
    let some : 0 < s.nodes = omega (arith, valid.some_nodes) in
    all_done s.nodes (advances_in s.rows) (restarting_in s past).ended phase
    (omega (arith, is, (steady.level 0 some).update, (good.within 0 some).update_turned, turned_most s past good))

pub spent_most : (s : ScriptData) (past : List Entry) (phase : RestartPhase) → IsValid s → IsGood s past
    → (restarting_in s past).phase ≡ phase
    → IsSteady s past phase
    → (restarting_in s past).ended * (14 * s.nodes + 1) + begun s.nodes phase ≤ advances_in s.rows * (14 * s.nodes + 1)
spent_most s past Idle valid good at steady =
    omega (arith, mul-le-mul_right (14 * s.nodes + 1) (ended_most s past Idle valid good steady))
spent_most s past (Doing ToTurn) valid good at steady =
    let some : 0 < s.nodes = omega (arith, valid.some_nodes) in
    all_done s.nodes (advances_in s.rows) (restarting_in s past).ended (Doing ToTurn) (omega (
      arith,
      turn_given s past 0 good some (ended_few s past (Doing ToTurn) valid good steady) at steady,
      turned_most s past good,
    ))
spent_most s past (Doing ToShow) valid good at steady = updates_all s past (Doing ToShow) valid good steady refl
spent_most s past (Doing ToSweep) valid good at steady = updates_all s past (Doing ToSweep) valid good steady refl
spent_most s past (Counting reads) valid good at steady = updates_all s past (Counting reads) valid good steady refl
spent_most s past (Paused reads) valid good at steady = updates_all s past (Paused reads) valid good steady refl
spent_most s past Recovering valid good at steady =
    omega (arith, mul-le-mul_right (14 * s.nodes + 1) (ended_most s past Recovering valid good steady))

-- also while it recovers
pub kept_most : (s : ScriptData) (past : List Entry) (f : ℕ) (shown : Bool) → IsValid s → IsGood s past
    → IsFrom f shown (turns_in s past 0).read.0 (turns_in s past 0).low.0
    → f * (14 * s.nodes + 1) + kept_of s.nodes shown ≤ advances_in s.rows * (14 * s.nodes + 1)
kept_most s past f shown valid good from = by shown refl where
  some : 0 < s.nodes
  some = omega (arith, valid.some_nodes)

  by : (b : Bool) → shown ≡ b → f * (14 * s.nodes + 1) + kept_of s.nodes b ≤ advances_in s.rows * (14 * s.nodes + 1)
  by false is =
      let few : f ≤ advances_in s.rows = omega (arith, from.low, low_turned past (turns_in s past 0) (good.within 0 some), turned_most s past good) in
      omega (arith, mul-le-mul_right (14 * s.nodes + 1) few)
  by true is =
      let less : f + 1 ≤ advances_in s.rows =
      omega (arith, from.read, ap one_if is, read_turned past (turns_in s past 0) (good.within 0 some), turned_most s past good) in
      omega (arith, mul-le-mul_right (14 * s.nodes + 1) less)
