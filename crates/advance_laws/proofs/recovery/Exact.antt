-- While a coordinator that forgets recovers, nodes read and keep just what they have told since; and while it knows how many
-- advancements have ended, no node is further than its phase says. So each node's low version is the number of those that have
-- ended, but while nodes are told to sweep; and so is its read version, until they are told to show the next one.
use Rattle.std.proofs.Common.{◌≡◌, ◌≢◌, ◌⊎◌, inl, inr, ℕ, ◌<◌, ◌≤◌, true, List, [], ◌∷◌, sym, ap, subst, arith}
use Rattle.std.proofs.lemmas.Bool.{cases_eq}
use Rattle.letter_types.specs.declared.bodies.Body.{Body}
use Rattle.letter_types.specs.declared.entries.Entry.{Entry}
use Rattle.letter_types.specs.declared.entries.Letter.{Letter}
use Rattle.letter_types.specs.declared.entries.LetterId.{LetterId}
use Rattle.letter_types.specs.declared.entries.Outgoing.{Outgoing}
use Rattle.letter_types.specs.Steps.{Out}
use Rattle.node_versions.specs.declared.turns.Turns.{Turns}
use Rattle.tx_trees.specs.ScriptData.{ScriptData}
use Rattle.world_model.specs.AllApt.{AllApt}
use Rattle.world_model.specs.Counts.{Each}
use Rattle.world_model.specs.Keeping.{KeepingNode}
use Rattle.script_parts.specs.Counts.{is_lossy}
use Rattle.world_model.specs.Restarting.{AllTold, Restarting, restarting_row}
use Rattle.world_model.specs.Runs.{IsStepRun, in_flight, restarting_in}
use Rattle.world_model.specs.declared.restarting.RestartPhase.{RestartPhase}
use Rattle.world_model.specs.declared.restarting.RestartPhase.TheVariants.{Recovering}
use Rattle.world_model.proofs.Every.{each_map, each_step, each_taken}
use Rattle.world_model.proofs.Orders.{of}
use Rattle.world_model.proofs.Restarts.{OfRestarts, restarting_each}
use Rattle.world_model.specs.Meant.{IsLetterMeant, IsMeant}
use Rattle.advance_laws.proofs.governed.Lawful.{IsTreeLawful}
use Rattle.advance_laws.proofs.phases.Progress.{MadeByRestarting, course, restarts}
use Rattle.advance_laws.proofs.right.Aside.{aside}
use Rattle.advance_laws.proofs.right.AtCoordinator.{node_stays}
use Rattle.advance_laws.proofs.recovery.ExactAside.{IsExact, each_now, exact_aside, near_now}
use Rattle.advance_laws.proofs.recovery.ExactSteps.{AreExact, AreNear, IsExactFor, IsNearIn, IsStillTold, exact_out}
use Rattle.advance_laws.proofs.recovery.Few.{IsFew, few}
use Rattle.advance_laws.proofs.recovery.Forgetting.{all_good}
use Rattle.advance_laws.proofs.right.Good.{AllGood, IsGood, IsLetterRight, IsRight, in_phase, turns_in}
use Rattle.advance_laws.proofs.recovery.RecoverSteps.{Waiting, waiting}
use Rattle.advance_laws.proofs.counting.RestartCounts.{good_now}
use Rattle.advance_laws.proofs.recovery.RestartSteps.{RestartStep, restart_step}

-- Letters in flight after an entry of the coordinator.
-- where it waits after it, it waited before, in the same epoch, or its epoch is new
abbrev WaitsOn : Restarting → Restarting → Type 0
WaitsOn c d = ((c.phase ≡ Recovering) × (d.epoch ≡ c.epoch)) ⊎ (c.epoch < d.epoch)

waits_on : (c : Restarting) (from : ℕ) (body : Body) (out : Out Restarting) → c.epoch ≤ 100 → Waiting c from body out
    → WaitsOn c out.state
waits_on c from body out small is = grind arith

-- nodes stay
turns_stay : (s : ScriptData) (past : List Entry) (e : Entry) (q : ℕ) → e.actor.0 ≡ s.nodes → q < s.nodes
    → turns_in s (e ∷ past) q ≡ turns_in s past q
turns_stay s past e q at lt = ap (λ (n : KeepingNode). n.core.node.turns) (node_stays s past e q at lt)

still_at : (s : ScriptData) (past : List Entry) (e : Entry) (epoch from to : ℕ) (body : Body) → e.actor.0 ≡ s.nodes
    → IsMeant s from to body → IsStillTold epoch (turns_in s past) from body
    → IsStillTold epoch (turns_in s (e ∷ past)) from body
still_at s past e epoch from to body at meant was = grind (arith, turns_stay)

-- no letter is of a new epoch
still_none : (s : ScriptData) (past : List Entry) (epoch from to : ℕ) (body : Body) (at : ℕ → Turns)
    → (restarting_in s past).epoch < epoch
    → IsRight s past from to body → IsStillTold epoch at from body
still_none s past epoch from to body at less right = grind arith

old_letters : (s : ScriptData) (past : List Entry) (e : Entry) (d : Restarting) → IsTreeLawful s → IsStepRun s past
    → IsGood s past
    → e.actor.0 ≡ s.nodes → IsExact s past → WaitsOn (restarting_in s past) d
    → Each (λ (l : Letter). IsStillTold d.epoch (turns_in s (e ∷ past)) l.from.0 l.body) (in_flight s past)
old_letters s past e d laws run good at was (inl (waits, same)) =
    let c = restarting_in s past in
    let P = λ (l : Letter). IsStillTold c.epoch (turns_in s past) l.from.0 l.body in
    subst (λ (n : ℕ). Each (λ (l : Letter). IsStillTold n (turns_in s (e ∷ past)) l.from.0 l.body) (in_flight s past))
    (sym same)
    (each_map (λ (l : Letter). IsLetterMeant s l × (IsLetterRight s past l × P l))
    (λ (l : Letter). IsStillTold c.epoch (turns_in s (e ∷ past)) l.from.0 l.body) (in_flight s past)
    (λ l all. still_at s past e c.epoch l.from.0 l.to.0 l.body at all.0 all.1.1)
    (each_now P s past laws run good (was.letters waits)))
old_letters s past e d laws run good at was (inr less) =
    each_map (IsLetterRight s past) (λ (l : Letter). IsStillTold d.epoch (turns_in s (e ∷ past)) l.from.0 l.body) (in_flight s past)
    (λ l right. still_none s past d.epoch l.from.0 l.to.0 l.body (turns_in s (e ∷ past)) less right) good.letters

-- it sends no numbers
sends_none : (epoch : ℕ) (at : ℕ → Turns) (from n : ℕ) → OfRestarts (λ to body. IsStillTold epoch at from body) n
sends_none epoch at from n = record {
  ask = λ to m lt. tt;
  ask_client = λ m. tt;
  order = λ to m what v lt. tt;
  ask_done = λ to v k lt. tt;
  ask_asked = λ to v k lt. tt;
  advanced = λ v. tt;
}

new_letters : (s : ScriptData) (past : List Entry) (e : Entry) (epoch : ℕ) → MadeByRestarting s past e
    → Each (λ (o : Outgoing). IsStillTold epoch (turns_in s (e ∷ past)) e.actor.0 o.body) e.sent
new_letters s past e epoch made =
    let c = restarting_in s past in
    let P = λ (to : ℕ) (body : Body). IsStillTold epoch (turns_in s (e ∷ past)) e.actor.0 body in
    subst (λ (os : List Outgoing). Each (of P) os) (sym made.sent)
    (restarting_each P c (sends_none epoch (turns_in s (e ∷ past)) e.actor.0 c.nodes) e.took.from.0 e.took.body)

-- Nodes after it.
exact_same : (n : ℕ) (phase : RestartPhase) (f : ℕ) (ts : AllTold) (old new : ℕ → Turns) → ((q : ℕ) → q < n → new q ≡ old q)
    → AreExact n phase f ts old → AreExact n phase f ts new
exact_same n phase f ts old new same was = grind arith

near_same : (n f : ℕ) (old new : ℕ → Turns) → ((q : ℕ) → q < n → new q ≡ old q) → AreNear n f new → AreNear n f old
near_same n f old new same now = record {
  small = now.small;
  low = λ q lt. omega (arith, ap (λ (t : Turns). t.low.0) (same q lt), now.low q lt);
  read = λ q lt. omega (arith, ap (λ (t : Turns). t.read.0) (same q lt), now.read q lt);
}

exact_coordinator : (s : ScriptData) (past : List Entry) (e : Entry) → IsTreeLawful s → IsStepRun s (e ∷ past) → IsFew s past
    → IsFew s (e ∷ past) → IsGood s past → IsGood s (e ∷ past) → e.actor.0 ≡ s.nodes → MadeByRestarting s past e
    → IsExact s past
    → IsExact s (e ∷ past)
exact_coordinator s past e laws run little less good now at made was =
    let c = restarting_in s past in
    let out = restarting_row c e.took.from.0 e.took.body in
    let step : RestartStep c e.took.from.0 e.took.body out = restart_step c e.took.from.0 e.took.body in
    let same : (q : ℕ) → q < s.nodes → turns_in s (e ∷ past) q ≡ turns_in s past q = λ q lt. turns_stay s past e q at lt in
    let after : IsNearIn s.nodes out.state (turns_in s (e ∷ past)) =
    subst (λ (d : Restarting). IsNearIn s.nodes d (turns_in s (e ∷ past))) made.state (near_now s (e ∷ past) laws.valid now) in
    record {
      letters =
          subst
          (λ (d : Restarting). d.phase ≡ Recovering
          → Each (λ (l : Letter). IsStillTold d.epoch (turns_in s (e ∷ past)) l.from.0 l.body) (in_flight s (e ∷ past)))
          (sym made.state) (λ waits.
          each_step (λ (l : Letter). IsStillTold out.state.epoch (turns_in s (e ∷ past)) l.from.0 l.body) s past e
          (old_letters s past e out.state laws run.1 good at was
          (waits_on c e.took.from.0 e.took.body out little.epoch (waiting c e.took.from.0 e.took.body out step waits)))
          (each_map (λ (o : Outgoing). IsStillTold out.state.epoch (turns_in s (e ∷ past)) e.actor.0 o.body)
          (λ (o : Outgoing). (i : LetterId) → IsStillTold out.state.epoch (turns_in s (e ∷ past)) e.actor.0 o.body) e.sent
          (λ o still_so i. still_so) (new_letters s past e out.state.epoch made)));
      nodes =
          subst (λ (d : Restarting). IsExactFor s.nodes d (turns_in s (e ∷ past))) (sym made.state)
          (exact_same s.nodes out.state.phase out.state.ended out.state.told (turns_in s past) (turns_in s (e ∷ past)) same
          (exact_out s.nodes c (turns_in s past) e.took.from.0 e.took.body out was.nodes (record {
            places = λ waits. (in_phase s past Recovering good waits).places;
            letter = λ waits.
                each_taken (λ (l : Letter). IsStillTold c.epoch (turns_in s past) l.from.0 l.body) s past e run.0
                (was.letters waits);
            before = near_now s past laws.valid good;
            after = λ knows. near_same s.nodes out.state.ended (turns_in s past) (turns_in s (e ∷ past)) same (after knows);
          }) step));
    }

-- In every run.
exact_first : (s : ScriptData) → IsExact s []
exact_first s = record {
  letters = λ waits. absurd (cc waits);
  nodes = λ q lt. record { low = omega arith; read = omega arith };
}

exact_by : (s : ScriptData) (past : List Entry) → IsTreeLawful s → is_lossy s ≡ true → IsStepRun s past → AllApt s past
    → AllGood s past
    → IsExact s past
exact_by s [] laws loses run apt good = exact_first s
exact_by s (e ∷ past) laws loses run apt good =
    by (cases_eq e.actor.0 s.nodes) (exact_by s past laws loses run.1 apt.1 good.1) where
      by : (e.actor.0 ≡ s.nodes) ⊎ (e.actor.0 ≢ s.nodes) → IsExact s past → IsExact s (e ∷ past)
      by (inl at) was =
          exact_coordinator s past e laws run (few s past laws loses run.1 apt.1) (few s (e ∷ past) laws loses run apt)
          (good_now s past good.1) good.0 at (restarts s past e loses run.0 at) was
      by (inr away) was =
          exact_aside s past e laws run (good_now s past good.1) away
          (aside s past e laws.valid loses run away (course s past e laws apt run)) was

pub exact_in : (s : ScriptData) (past : List Entry) → IsTreeLawful s → is_lossy s ≡ true → IsStepRun s past → AllApt s past
    → IsExact s past
exact_in s past laws loses run apt = exact_by s past laws loses run apt (all_good s past laws loses run apt)
