-- The versions of the nodes against the coordinator's phase, in every run.
use Rattle.std.proofs.Common.{◌≡◌, ℕ, ◌+◌, ◌<◌, ◌≤◌, ◌&&◌, true, false, List, ◌∷◌, refl, subst, arith, []}
use Rattle.std.specs.Prelude.{nat_le}
use Rattle.std.proofs.lemmas.Bool.Decides.{nat_tests}
use Rattle.std.proofs.lemmas.Bool.{and_from, le-leb}
use Rattle.tv_base.specs.declared.numbers.Version.{Version}
use Rattle.letter_types.specs.declared.bodies.Body.{Body}
use Rattle.letter_types.specs.declared.bodies.Body.TheVariants.{Turn, Show, Sweep, AskDone, AskAsked}
use Rattle.letter_types.specs.declared.entries.Entry.{Entry}
use Rattle.letter_types.specs.declared.entries.Letter.{Letter}
use Rattle.node_versions.specs.declared.turns.Turns.{Turns as TurnsOf}
use Rattle.tx_trees.specs.ScriptData.{ScriptData}
use Rattle.world_model.specs.Named.{is_timely}
use Rattle.world_model.specs.Node.{Node}
use Rattle.world_model.specs.declared.phase.Phase.{Phase}
use Rattle.world_model.specs.declared.phase.Phase.TheVariants.{Idle, Turning, Counting, Paused, Showing, Sweeping}
use Rattle.world_model.specs.Runs.{MayFollow, IsStepRun, coordinator_in, node_in}
use Rattle.world_model.specs.AllApt.{AllApt}
use Rattle.advance_laws.proofs.governed.Lawful.{IsLawful}
use Rattle.world_model.proofs.EachOutstanding.{each_took, each_first}
use Rattle.advance_laws.proofs.phases.LevelAt.{LevelBody}
use Rattle.advance_laws.proofs.phases.Progress.{progress}
use Rattle.advance_laws.specs.Phases.{TurnStage, ShowStage, SweepStage, IsInPhase, PhasesHaveTheirLetters, VersionsKeepToThePhase}
use Rattle.advance_laws.proofs.phases.Small.{small}
use Rattle.advance_laws.proofs.recovery.Tokens.{PhaseFor, phase_for, told}
pub use Rattle.advance_laws.specs.Phases.{least_update, most_update, least_read, most_read, most_low}
pub use Rattle.advance_laws.proofs.phases.LevelAt.{Level, LevelAt, LevelBody, Levels, due_update, due_read, due_low, tell, tells}
use Rattle.advance_laws.proofs.phases.LevelSteps.{LevelOf, level_next}
use Rattle.advance_laws.proofs.phases.LevelLetters.{letters_next}

-- In every run the levels are those of the phase. That the version is at least 1 follows from the bounds.
first_in : (s : ScriptData) (past : List Entry) → IsLawful s → IsStepRun s past → AllApt s past
    → 1 ≤ (coordinator_in s past).update
first_in s past laws run apt = omega (arith, (small s past laws run apt).ended)

levels_first : (s : ScriptData) (p : ℕ) → LevelAt s [] p
levels_first s p = omega arith

pub levels : (s : ScriptData) (past : List Entry) → IsLawful s → IsStepRun s past → AllApt s past → Levels s past
levels s [] laws run apt = record {
  first = omega arith;
  node = λ p lt. levels_first s p;
  letters =
      let c = coordinator_in s [] in each_first (λ (l : Letter). LevelBody s c.phase c.update l.body) s (tt, tt);
}
levels s (e ∷ past) laws run apt =
    let was = levels s past laws run.1 apt.1 in
    let next = progress s past e laws apt run in
    record {
      first = first_in s (e ∷ past) laws run apt;
      node = level_next s past e laws run apt was next;
      letters = letters_next s past e laws run apt.1 was next;
    }

-- What follows: a node's versions keep to the phase, and are near its low version.
phased : (phase : Phase) (u : ℕ) (turns : TurnsOf) (t1 t2 t3 : ℕ) → 1 ≤ u → LevelOf phase u turns t1 t2 t3 → IsInPhase phase u turns
phased Idle u turns t1 t2 t3 one was = omega (arith, was, one)
phased Turning u turns t1 t2 t3 one was = omega (arith, was, one)
phased (Counting true) u turns t1 t2 t3 one was = omega (arith, was, one)
phased (Counting false) u turns t1 t2 t3 one was = omega (arith, was, one)
phased (Paused true) u turns t1 t2 t3 one was = omega (arith, was, one)
phased (Paused false) u turns t1 t2 t3 one was = omega (arith, was, one)
phased Showing u turns t1 t2 t3 one was = omega (arith, was, one)
phased Sweeping u turns t1 t2 t3 one was = omega (arith, was, one)

-- in every run
pub versions_in_phase : (s : ScriptData) (past : List Entry) → IsLawful s → IsStepRun s past → AllApt s past
    → VersionsKeepToThePhase s past
versions_in_phase s past laws run apt = λ p lt.
    let all = levels s past laws run apt in
    phased (coordinator_in s past).phase (coordinator_in s past).update (node_in s past p).turns
    (tells s past TurnStage p) (tells s past ShowStage p) (tells s past SweepStage p) all.first (all.node p lt)

pub letters_in_phase : (s : ScriptData) (past : List Entry) → IsLawful s → IsStepRun s past → AllApt s past
    → PhasesHaveTheirLetters s past
letters_in_phase s past laws run apt = λ g. told g s past laws run apt

-- An order that is taken is timely.
abbrev pub IsOrder : Body → Type 0
IsOrder (Turn v) = Unit {0}
IsOrder (Show v) = Unit {0}
IsOrder (Sweep v) = Unit {0}
IsOrder (AskDone v k) = Unit {0}
IsOrder (AskAsked v k) = Unit {0}
IsOrder _ = ⊥

turn_near : (u : ℕ) (v : Version) (turns : TurnsOf) (t1 t2 t3 : ℕ) → 1 ≤ u → v.0 ≡ u + 1 → LevelOf Turning u turns t1 t2 t3
    → nat_le v.0 (turns.low.0 + 2) ≡ true
turn_near u v turns t1 t2 t3 one is was =
    let le : v.0 ≤ turns.low.0 + 2 = omega (arith, was, one, is) in grind (arith, nat_tests)

show_near : (u : ℕ) (v : Version) (turns : TurnsOf) (t1 t2 t3 : ℕ) → 1 ≤ u → v.0 ≡ u → LevelOf Showing u turns t1 t2 t3
    → (nat_le turns.low.0 v.0 && nat_le v.0 (turns.low.0 + 2)) ≡ true
show_near u v turns t1 t2 t3 one is was =
    and_from (nat_le turns.low.0 v.0) (nat_le v.0 (turns.low.0 + 2)) (le-leb turns.low.0 v.0 (omega (arith, was, one, is)))
    (le-leb v.0 (turns.low.0 + 2) (omega (arith, was, one, is)))

sweep_near : (u : ℕ) (v : Version) (turns : TurnsOf) (t1 t2 t3 : ℕ) → 1 ≤ u → v.0 ≡ u → LevelOf Sweeping u turns t1 t2 t3
    → (nat_le turns.low.0 v.0 && (nat_le v.0 turns.read.0 && nat_le v.0 turns.update.0)) ≡ true
sweep_near u v turns t1 t2 t3 one is was =
    and_from (nat_le turns.low.0 v.0) (nat_le v.0 turns.read.0 && nat_le v.0 turns.update.0)
    (le-leb turns.low.0 v.0 (omega (arith, was, one, is)))
    (and_from (nat_le v.0 turns.read.0) (nat_le v.0 turns.update.0)
    (le-leb v.0 turns.read.0 (omega (arith, was, one, is))) (le-leb v.0 turns.update.0 (omega (arith, was, one, is))))

-- by the levels, the phase and the version of the order alone
order_timely_by : (s : ScriptData) (phase : Phase) (u : ℕ) (st : Node) (t1 t2 t3 : ℕ) (body : Body) → 1 ≤ u
    → LevelOf phase u st.turns t1 t2 t3
    → PhaseFor body phase → LevelBody s phase u body → IsOrder body → is_timely s st body ≡ true
order_timely_by s phase u st t1 t2 t3 (Turn v) one was at right is =
    turn_near u v st.turns t1 t2 t3 one right (subst (λ (q : Phase). LevelOf q u st.turns t1 t2 t3) at was)
order_timely_by s phase u st t1 t2 t3 (Show v) one was at right is =
    show_near u v st.turns t1 t2 t3 one right (subst (λ (q : Phase). LevelOf q u st.turns t1 t2 t3) at was)
order_timely_by s phase u st t1 t2 t3 (Sweep v) one was at right is =
    sweep_near u v st.turns t1 t2 t3 one right (subst (λ (q : Phase). LevelOf q u st.turns t1 t2 t3) at was)
order_timely_by s phase u st t1 t2 t3 (AskDone v k) one was at right is = refl
order_timely_by s phase u st t1 t2 t3 (AskAsked v k) one was at right is = refl
order_timely_by s phase u st t1 t2 t3 body one was at right is = absurd is

-- each order is timely where it is taken
pub order_timely : (s : ScriptData) (past : List Entry) (e : Entry) (body : Body) (p : ℕ) → IsLawful s → IsStepRun s past
    → AllApt s past
    → MayFollow s past e → p < s.nodes → e.took.body ≡ body → IsOrder body → is_timely s (node_in s past p) body ≡ true
order_timely s past e body p laws run apt m lt bd is =
    let c = coordinator_in s past in
    let all = levels s past laws run apt in
    let right = each_took (λ (l : Letter). LevelBody s c.phase c.update l.body) s past e m all.letters in
    order_timely_by s c.phase c.update (node_in s past p) (tells s past TurnStage p) (tells s past ShowStage p)
    (tells s past SweepStage p) body
    all.first (all.node p lt) (phase_for s past e body laws run apt m bd)
    (subst (λ (b : Body). LevelBody s c.phase c.update b) bd right) is
