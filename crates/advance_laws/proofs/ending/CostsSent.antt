-- What the messages cost that a coordinator that forgets sends. A round that a nudge begins costs 4 entries for each
-- node. Each time that it forgets costs 10 for each node and 3: it asks each node and the client and is answered, it
-- tells the client what has ended, and it may have to do again what costs 8 for each node: two orders and a round.
use Rattle.std.proofs.Common.{if◌then◌else◌, ◌≡◌, ◌≢◌, ◌⊎◌, inl, inr, ℕ, ◌+◌, ◌*◌, ◌<◌, ◌≤◌, ◌==◌, Bool, true, false, List, [], ◌∷◌, replicate, refl, sym, ap, subst, ◌∙◌, arith, None}
use Rattle.std.specs.Prelude.{is_some, max}
use Rattle.std.specs.List.{list_all}
use Rattle.std.proofs.lemmas.Bool.{cases_eq}
use Rattle.std.proofs.lemmas.Bool.Decides.{nat_tests}
use Rattle.letter_types.specs.declared.entries.Entry.{Entry}
use Rattle.letter_types.specs.declared.entries.Outgoing.{Outgoing}
use Rattle.letter_types.specs.Steps.{Out}
use Rattle.tx_trees.specs.Counts.{advances_in, is_lossy}
use Rattle.tx_trees.specs.ScriptData.{ScriptData}
use Rattle.tx_trees.specs.Valid.{IsValid}
use Rattle.world_model.specs.AllApt.{AllApt}
use Rattle.world_model.specs.Counts.{tally}
use Rattle.world_model.specs.Restarting.{Restarting, forget, least_low, phase_by, restarting_row, resume}
use Rattle.world_model.specs.Runs.{IsStepRun, MayFollow, restarting_in}
use Rattle.world_model.specs.declared.restarting.RestartPhase.TheVariants.{Recovering}
use Rattle.world_model.proofs.Lawful.{nudged}
use Rattle.world_model.proofs.Restarts.{restarting_nodes}
use Rattle.world_model.proofs.Sends.{on}
use Rattle.advance_laws.proofs.governed.Lawful.{IsTreeLawful}
use Rattle.advance_laws.proofs.phases.Outcomes.{one_more_is}
use Rattle.advance_laws.proofs.phases.Progress.{course, restarts}
use Rattle.advance_laws.proofs.counting.Waves.{going}
use Rattle.advance_laws.proofs.right.Aside.{Aside, aside}
use Rattle.advance_laws.proofs.right.Away.{restarting_kept}
use Rattle.advance_laws.proofs.recovery.Few.{IsFew, few}
use Rattle.advance_laws.proofs.recovery.Floors.{AllAskAnew, IsFloor, IsFrom, IsRestored, floor_aside, floor_forgets, floor_waits, restored}
use Rattle.advance_laws.proofs.recovery.Forgetting.{good_run}
use Rattle.advance_laws.proofs.right.Good.{IsGood, Knows, ended_few, epoch_in, order_to, steady_in, turns_in}
use Rattle.advance_laws.proofs.right.GoodResumes.{HasHeard, heard_more}
use Rattle.advance_laws.proofs.ending.Prices.{IsEntered, Pays, StepCosts, TellsMore, ordered, orders_price, owed, price, recovers_or, spent, step_costs, tells_more}
use Rattle.advance_laws.proofs.ending.Prices.{Forgets, Resumes, Spends, Waits}
use Rattle.advance_laws.proofs.ending.Refunds.{begun_most, by_entered, forget_asks, forget_price, from_level, kept_most, kept_of, resume_pays, shown_in, spent_most}
use Rattle.advance_laws.proofs.recovery.RestartSteps.{restart_step}

-- what the letters cost that the coordinator has sent so far
abbrev pub priced : ScriptData → List Entry → ℕ
priced s [] = 0
priced s (e ∷ past) = (if e.actor.0 == s.nodes then tally (on price) e.sent else 0) + priced s past

-- what nudges pay for, and each time that it forgets
abbrev pub allowed : ScriptData → List Entry → ℕ
allowed s past = 4 * s.nodes * nudged past + (10 * s.nodes + 3) * (restarting_in s past).epoch

-- while it recovers: it will go on from so far, at least, and has paid for telling the client
pub record IsCovered (s : ScriptData) (past : List Entry) : Type 0 where
  pub ended : ℕ
  pub shown : Bool
  pub floor : IsFloor s past ended shown
  pub paid : priced s past + 1 ≤ ended * (14 * s.nodes + 1) + kept_of s.nodes shown + allowed s past

-- what was sent is paid for
pub record IsPaid (s : ScriptData) (past : List Entry) : Type 0 where
  pub steady : Knows (restarting_in s past).phase
      → priced s past + owed s.nodes (restarting_in s past) ≤ spent s.nodes (restarting_in s past) + allowed s past
  pub recovers : (restarting_in s past).phase ≡ Recovering → IsCovered s past

-- Entries of the client and of nodes.
pub priced_away : (s : ScriptData) (past : List Entry) (e : Entry) → e.actor.0 ≢ s.nodes → priced s (e ∷ past) ≡ priced s past
priced_away s past e away = let no : (e.actor.0 == s.nodes) ≡ false = grind (arith, nat_tests) in rw no (omega arith)

paid_aside : (s : ScriptData) (past : List Entry) (e : Entry) → IsGood s past → MayFollow s past e → e.actor.0 ≢ s.nodes
    → Aside s past e
    → IsPaid s past → IsPaid s (e ∷ past)
paid_aside s past e good m away aside was =
    let kept = restarting_kept s past e away in
    let n = s.nodes in
    let same = priced_away s past e away in
    let more : allowed s past ≤ allowed s (e ∷ past) = omega (arith, ap (λ (c : Restarting). (10 * n + 3) * c.epoch) kept) in
    let owes : owed n (restarting_in s (e ∷ past)) ≡ owed n (restarting_in s past) = ap (λ (c : Restarting). owed n c) kept in
    let spends : spent n (restarting_in s (e ∷ past)) ≡ spent n (restarting_in s past) =
    ap (λ (c : Restarting). spent n c) kept in
    let phase : (restarting_in s (e ∷ past)).phase ≡ (restarting_in s past).phase = ap (λ (c : Restarting). c.phase) kept in
    record {
      steady = λ known. let paid = was.steady (λ at. known (phase ∙ at)) in omega (arith, paid, same, more, owes, spends);
      recovers =
          λ at.
          let cover = was.recovers (sym phase ∙ at) in
          record {
            ended = cover.ended;
            shown = cover.shown;
            floor = floor_aside s past e cover.ended cover.shown good m away aside cover.floor;
            paid = omega (arith, cover.paid, same, more);
          };
    }

-- Entries of the coordinator.
pub priced_here : (s : ScriptData) (past : List Entry) (e : Entry) (os : List Outgoing) → e.actor.0 ≡ s.nodes → e.sent ≡ os
    → priced s (e ∷ past) ≡ tally (on price) os + priced s past
priced_here s past e os at is =
    let here : (e.actor.0 == s.nodes) ≡ true = grind (arith, nat_tests) in
    rw here (ap (λ (xs : List Outgoing). tally (on price) xs + priced s past) is)

-- it pays for what it sends
paid_spends : (s : ScriptData) (past : List Entry) (e : Entry) (out : Out Restarting) → e.actor.0 ≡ s.nodes
    → restarting_in s (e ∷ past) ≡ out.state → e.sent ≡ out.sent → Knows (restarting_in s past).phase
    → Knows out.state.phase → out.state.epoch ≡ (restarting_in s past).epoch
    → Pays s.nodes (restarting_in s past) e.took.body out → IsPaid s past → IsPaid s (e ∷ past)
paid_spends s past e out at state sent known after epoch pays was = grind (arith, priced_here)

-- it forgets, and each node is as far as the phase says, or as far as it was before
covered_anew : (s : ScriptData) (past : List Entry) (e : Entry) (f : ℕ) (shown : Bool) → IsGood s past → e.actor.0 ≡ s.nodes
    → (restarting_in s past).epoch ≤ 100 → restarting_in s (e ∷ past) ≡ (forget (restarting_in s past)).state
    → e.sent ≡ (forget (restarting_in s past)).sent
    → ((q : ℕ) → q < s.nodes → IsFrom f shown (turns_in s past q).read.0 (turns_in s past q).low.0)
    → priced s past ≤ f * (14 * s.nodes + 1) + kept_of s.nodes shown + 8 * s.nodes + allowed s past → IsCovered s (e ∷ past)
covered_anew s past e f shown good at few state sent nodes paid =
    let n = s.nodes in
    let c = restarting_in s past in
    let next : (restarting_in s (e ∷ past)).epoch ≡ c.epoch + 1 =
    ap (λ (d : Restarting). d.epoch) state ∙ one_more_is c.epoch (omega (arith, few)) in
    let told : (restarting_in s (e ∷ past)).told ≡ replicate n None =
    ap (λ (d : Restarting). d.told) state ∙ ap (λ (m : ℕ). replicate m None) (restarting_nodes s past) in
    let asks : AllAskAnew e.sent = subst AllAskAnew (sym sent) (forget_asks c) in
    let price : tally (on price) (forget c).sent ≡ 2 * n + 2 =
    forget_price c ∙ ap (λ (m : ℕ). 2 * m + 2) (restarting_nodes s past) in
    record {
      ended = f;
      shown = shown;
      floor = floor_forgets s past e f shown good at (omega (arith, next)) told asks nodes;
      paid = omega (
        arith,
        paid,
        price,
        priced_here s past e (forget c).sent at sent,
        ap (λ (k : ℕ). (10 * n + 3) * k) next,
      );
    }

forgets_by : (s : ScriptData) (past : List Entry) (e : Entry) → IsGood s past → e.actor.0 ≡ s.nodes
    → (restarting_in s past).epoch ≤ 100 → restarting_in s (e ∷ past) ≡ (forget (restarting_in s past)).state
    → e.sent ≡ (forget (restarting_in s past)).sent
    → ((restarting_in s past).phase ≡ Recovering) ⊎ Knows (restarting_in s past).phase → IsPaid s past
    → IsCovered s (e ∷ past)
forgets_by s past e good at few state sent (inl recovers) was =
    let cover = was.recovers recovers in
    covered_anew s past e cover.ended cover.shown good at few state sent cover.floor.nodes (omega (arith, cover.paid))
forgets_by s past e good at few state sent (inr known) was =
    let n = s.nodes in
    let c = restarting_in s past in
    let steady = steady_in s past c.phase good refl known in
    covered_anew s past e c.ended (shown_in c.phase) good at few state sent
    (λ q lt.
    from_level c.phase c.ended c.epoch (epoch_in s past q) (turns_in s past q) (going (order_to c.epoch q) s past)
    (steady.level q lt))
    (omega (arith, was.steady known, begun_most n c.phase))

paid_forgets : (s : ScriptData) (past : List Entry) (e : Entry) → IsGood s past → e.actor.0 ≡ s.nodes
    → (restarting_in s past).epoch ≤ 100 → restarting_in s (e ∷ past) ≡ (forget (restarting_in s past)).state
    → e.sent ≡ (forget (restarting_in s past)).sent → IsPaid s past → IsPaid s (e ∷ past)
paid_forgets s past e good at few state sent was = record {
  steady = λ known. absurd (known (ap (λ (c : Restarting). c.phase) state));
  recovers = λ is. forgets_by s past e good at few state sent (recovers_or (restarting_in s past).phase) was;
}

-- it waits
paid_waits : (s : ScriptData) (past : List Entry) (e : Entry) (out : Out Restarting) → MayFollow s past e → e.actor.0 ≡ s.nodes
    → restarting_in s (e ∷ past) ≡ out.state → e.sent ≡ out.sent → (restarting_in s past).phase ≡ Recovering
    → out.state.phase ≡ Recovering → out.state.epoch ≡ (restarting_in s past).epoch
    → TellsMore (restarting_in s past) e.took.from.0 e.took.body out.state.told → out.sent ≡ [] → IsPaid s past
    → IsPaid s (e ∷ past)
paid_waits s past e out m at state sent is after epoch more none was =
    let n = s.nodes in
    let cover = was.recovers is in
    let same : (restarting_in s (e ∷ past)).epoch ≡ (restarting_in s past).epoch =
    ap (λ (c : Restarting). c.epoch) state ∙ epoch in
    record {
      steady = λ known. absurd (known (ap (λ (c : Restarting). c.phase) state ∙ after));
      recovers =
          λ there.
          record {
            ended = cover.ended;
            shown = cover.shown;
            floor =
                floor_waits s past e cover.ended cover.shown m at (sent ∙ none) same
                (subst (λ (c : Restarting). TellsMore (restarting_in s past) e.took.from.0 e.took.body c.told) (sym state) more)
                cover.floor;
            paid = omega (
              arith,
              cover.paid,
              priced_here s past e [] at (sent ∙ none),
              ap (λ (k : ℕ). (10 * n + 3) * k) same,
            );
          };
    }

-- it resumes
resume_price : (n k : ℕ) (d : Restarting) → d.nodes ≡ n
    → tally (on price) (resume k d).sent ≡ 1 + ordered n (phase_by d.told (max d.wanted k) (least_low d.told))
resume_price n k d nodes = grind (arith, orders_price)

resume_owes : (n k : ℕ) (d : Restarting) → owed n (resume k d).state ≡ 0
resume_owes n k d = grind arith

paid_resumes : (s : ScriptData) (past : List Entry) (e : Entry) (k : ℕ) (d : Restarting) → IsValid s → IsGood s past
    → MayFollow s past e
    → e.actor.0 ≡ s.nodes → restarting_in s (e ∷ past) ≡ (resume k d).state → e.sent ≡ (resume k d).sent
    → (restarting_in s past).phase ≡ Recovering → HasHeard s past d
    → TellsMore (restarting_in s past) e.took.from.0 e.took.body d.told → list_all is_some d.told ≡ true
    → IsPaid s past → IsPaid s (e ∷ past)
paid_resumes s past e k d valid good m at state sent is heard more all was =
    let n = s.nodes in
    let cover = was.recovers is in
    let wanted = max d.wanted k in
    let rest : IsRestored d.told cover.ended cover.shown =
    restored s past e d cover.ended cover.shown valid good m heard more all cover.floor in
    let entered : IsEntered n (phase_by d.told wanted (least_low d.told)) = by_entered n d.told wanted (least_low d.told) in
    record {
      steady =
          λ known.
          omega (
            arith,
            cover.paid,
            priced_here s past e (resume k d).sent at sent,
            resume_price n k d heard.nodes_are,
            resume_pays n d.told wanted cover.ended cover.shown rest,
            ap (λ (c : Restarting). owed n c) state ∙ resume_owes n k d,
            ap (λ (c : Restarting). spent n c) state,
            ap (λ (c : Restarting). (10 * n + 3) * c.epoch) state,
            ap (λ (j : ℕ). (10 * n + 3) * j) heard.epoch,
          );
      recovers = λ there. absurd (entered.known (sym (ap (λ (c : Restarting). c.phase) state) ∙ there));
    }

-- each entry of it
paid_by : (s : ScriptData) (past : List Entry) (e : Entry) (out : Out Restarting) → IsValid s → IsGood s past → IsFew s past
    → MayFollow s past e → e.actor.0 ≡ s.nodes → restarting_in s (e ∷ past) ≡ out.state → e.sent ≡ out.sent
    → StepCosts s.nodes (restarting_in s past) e.took.from.0 e.took.body out → IsPaid s past → IsPaid s (e ∷ past)
paid_by s past e out valid good few m at state sent (Spends known after epoch pays) was =
    paid_spends s past e out at state sent known after epoch pays was
paid_by s past e out valid good few m at state sent (Forgets bd is) was =
    paid_forgets s past e good at few.epoch (state ∙ ap (λ (o : Out Restarting). o.state) is)
    (sent ∙ ap (λ (o : Out Restarting). o.sent) is) was
paid_by s past e out valid good few m at state sent (Waits is after epoch more none) was =
    paid_waits s past e out m at state sent is after epoch more none was
paid_by s past e out valid good few m at state sent (Resumes k d is hears all same) was =
    paid_resumes s past e k d valid good m at (state ∙ ap (λ (o : Out Restarting). o.state) same)
    (sent ∙ ap (λ (o : Out Restarting). o.sent) same) is (heard_more s past e d good few m is hears)
    (tells_more (restarting_in s past) d e.took.from.0 e.took.body hears) all was

paid_coordinator : (s : ScriptData) (past : List Entry) (e : Entry) → IsTreeLawful s → is_lossy s ≡ true
    → IsStepRun s (e ∷ past)
    → AllApt s past → IsGood s past → e.actor.0 ≡ s.nodes → IsPaid s past → IsPaid s (e ∷ past)
paid_coordinator s past e laws loses run apt good at was =
    let c = restarting_in s past in
    let made = restarts s past e loses run.0 at in
    let out = restarting_row c e.took.from.0 e.took.body in
    let ended : Knows c.phase → c.ended ≤ 100 =
    λ known. ended_few s past c.phase laws.valid good (steady_in s past c.phase good refl known) in
    paid_by s past e out laws.valid good (few s past laws loses run.1 apt) run.0 at made.state made.sent
    (step_costs s.nodes c e.took.from.0 e.took.body out laws.valid.some_nodes (restarting_nodes s past) ended
    (restart_step c e.took.from.0 e.took.body)) was

-- In every run.
paid_next : (s : ScriptData) (past : List Entry) (e : Entry) → IsTreeLawful s → is_lossy s ≡ true → IsStepRun s (e ∷ past)
    → AllApt s (e ∷ past) → IsGood s past → IsPaid s past → (e.actor.0 ≡ s.nodes) ⊎ (e.actor.0 ≢ s.nodes) → IsPaid s (e ∷ past)
paid_next s past e laws loses run apt good was (inl at) = paid_coordinator s past e laws loses run apt.1 good at was
paid_next s past e laws loses run apt good was (inr away) =
    paid_aside s past e good run.0 away (aside s past e laws.valid loses run away (course s past e laws apt run)) was

all_paid : (s : ScriptData) (past : List Entry) → IsTreeLawful s → is_lossy s ≡ true → IsStepRun s past → AllApt s past
    → IsPaid s past
all_paid s [] laws loses run apt = record { steady = λ known. omega arith; recovers = λ is. absurd (cc is) }
all_paid s (e ∷ past) laws loses run apt =
    paid_next s past e laws loses run apt (good_run s past laws loses run.1 apt.1)
    (all_paid s past laws loses run.1 apt.1) (cases_eq e.actor.0 s.nodes)

priced_by : (s : ScriptData) (past : List Entry) → IsValid s → IsGood s past
    → ((restarting_in s past).phase ≡ Recovering) ⊎ Knows (restarting_in s past).phase → IsPaid s past
    → priced s past ≤ advances_in s.rows * (14 * s.nodes + 1) + allowed s past
priced_by s past valid good is paid = grind (arith, kept_most, spent_most)

-- what is sent costs no more than all advancements that the script has, once, and what nudges and forgetting add
pub priced_most : (s : ScriptData) (past : List Entry) → IsTreeLawful s → is_lossy s ≡ true → IsStepRun s past → AllApt s past
    → priced s past ≤ advances_in s.rows * (14 * s.nodes + 1) + allowed s past
priced_most s past laws loses run apt =
    let good = good_run s past laws loses run apt in
    priced_by s past laws.valid good (recovers_or (restarting_in s past).phase)
    (all_paid s past laws loses run apt)
