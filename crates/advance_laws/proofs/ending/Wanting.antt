-- A coordinator that forgets hears of each advancement that the client asked for: it wants them all, or a message in
-- flight asks for them, or it recovers, and what the client tells it in this epoch covers them.
use Rattle.std.proofs.Common.{◌≡◌, ◌≢◌, ◌⊎◌, inl, inr, ℕ, zero, suc, ◌+◌, ◌<◌, ◌≤◌, true, List, [], ◌∷◌, take, drop, refl, sym, ap, subst, ◌∙◌, arith, Some}
use Rattle.std.specs.Prelude.{max, nat_le}
use Rattle.std.proofs.Math.Nat.{le-max_right}
use Rattle.std.proofs.Math.Seq.{take-add}
use Rattle.std.proofs.lemmas.Bool.{cases_eq}
use Rattle.std.proofs.lemmas.Bool.Decides.{nat_tests}
use Rattle.tv_base.specs.Outside.{one_more}
use Rattle.letter_types.specs.declared.bodies.Body.{Body}
use Rattle.letter_types.specs.declared.bodies.Body.TheVariants.{AdvanceNo}
use Rattle.letter_types.specs.declared.entries.Entry.{Entry}
use Rattle.letter_types.specs.declared.entries.Letter.{Letter}
use Rattle.letter_types.specs.declared.entries.LetterId.{LetterId}
use Rattle.letter_types.specs.declared.entries.Outgoing.{Outgoing}
use Rattle.letter_types.specs.Steps.{Out}
use Rattle.tx_trees.specs.Counts.{advances_in, is_lossy}
use Rattle.tx_trees.specs.ScriptData.{ScriptData}
use Rattle.tx_trees.specs.declared.parts.ScriptRow.{ScriptRow}
use Rattle.tx_trees.specs.declared.parts.ScriptRow.TheVariants.{Tree as TreeRow, Advance as AdvanceRow, Settle as SettleRow, Lose as LoseRow}
use Rattle.tx_trees.proofs.Rebuilding.{advances_in-append}
use Rattle.world_model.specs.AllApt.{AllApt}
use Rattle.world_model.specs.Client.{Client, advances_sent, rows_letters, submit, submitted}
use Rattle.world_model.specs.Counts.{Each, one_if, tally}
use Rattle.world_model.specs.Restarting.{Restarting, forget, restarting_row, with_wanted}
use Rattle.world_model.specs.Runs.{IsStepRun, MayFollow, in_flight, restarting_in}
use Rattle.world_model.specs.declared.restarting.RestartPhase.TheVariants.{Recovering}
use Rattle.world_model.proofs.Bags.{tally-append}
use Rattle.world_model.proofs.Every.{each_map, each_step, each_taken}
use Rattle.world_model.proofs.Flows.{flow}
use Rattle.world_model.proofs.Nexts.{MadeByClient}
use Rattle.world_model.proofs.Orders.{of}
use Rattle.world_model.proofs.Restarts.{OfRestarts, restarting_each}
use Rattle.world_model.proofs.Sends.{advance_each, on}
use Rattle.world_model.specs.Meant.{IsMeant}
use Rattle.world_model.proofs.Meant.{took_meant}
use Rattle.advance_laws.specs.Advances.{asked_for}
use Rattle.advance_laws.specs.Phases.{count_in_flight}
use Rattle.advance_laws.proofs.governed.Lawful.{IsTreeLawful}
use Rattle.advance_laws.proofs.phases.Outcomes.{one_more_is}
use Rattle.advance_laws.proofs.phases.Progress.{MadeByRestarting, course, restarts}
use Rattle.advance_laws.proofs.right.Aside.{Aside, IsSentBy, IsTold, aside, sends_aside}
use Rattle.advance_laws.proofs.right.AtCoordinator.{asked_stays}
use Rattle.advance_laws.proofs.right.Away.{restarting_kept}
use Rattle.advance_laws.proofs.recovery.Few.{IsFew, few}
use Rattle.advance_laws.proofs.recovery.Forgetting.{good_run}
use Rattle.advance_laws.proofs.right.Good.{IsGood, IsLetterRight, IsRight, Knows}
use Rattle.advance_laws.proofs.recovery.Recovers.{still_covered}
use Rattle.advance_laws.proofs.recovery.RecoverSteps.{HasHeard, Misses, Recovery, recovery}
use Rattle.advance_laws.proofs.ending.WantSteps.{Covers, WantsMore, asks_for, heard_covers, more_waits, one_most, wants_more}
use Rattle.advance_laws.proofs.recovery.RestartSteps.{HearsMore, RestartStep, restart_step}
use Rattle.advance_laws.proofs.recovery.RestartSteps.{Acks, Agrees, Ends, Flags, Forgets, Goes, KeepsAsked, KeepsDone, Pauses, Recounts, Recovers, Rests, Resumes, Wants}

record WillHear (s : ScriptData) (past : List Entry) (a : ℕ) (c : Restarting) : Type 0 where
  waits : c.phase ≡ Recovering
  letters : Each (λ (l : Letter). Covers c.epoch a l.body) (in_flight s past)
  heard : (k : ℕ) → c.heard ≡ Some k → a ≤ k

abbrev WantsAll : ScriptData → List Entry → ℕ → Restarting → Type 0
WantsAll s past a c = (1 ≤ count_in_flight (asks_for a) s past + one_if (nat_le a c.wanted)) ⊎ WillHear s past a c

-- 1. Rows that are submitted: where they ask for advancements, their letters ask for all up to then.
last_asks : (s : ScriptData) (k a : ℕ) (rows : List ScriptRow) → is_lossy s ≡ true → a ≡ k + advances_in rows
    → 1 ≤ advances_in rows
    → 1 ≤ tally (on (asks_for a)) (rows_letters s k rows)
last_asks s k a [] loses is some = absurd (omega (arith, some))
last_asks s k a (TreeRow t ∷ rows) loses is some =
    omega (arith, last_asks s k a rows loses (omega (arith, is)) (omega (arith, some)))
last_asks s k a (SettleRow ∷ rows) loses is some = last_asks s k a rows loses (omega (arith, is)) (omega (arith, some))
last_asks s k a (LoseRow ∷ rows) loses is some =
    omega (arith, last_asks s k a rows loses (omega (arith, is)) (omega (arith, some)))
last_asks s k a (AdvanceRow ∷ rows) loses is some = by (advances_in rows) refl (last_asks s (k + 1) a rows loses) where
  by : (n : ℕ) → advances_in rows ≡ n
      → (a ≡ k + 1 + advances_in rows → 1 ≤ advances_in rows → 1 ≤ tally (on (asks_for a)) (rows_letters s (k + 1) rows))
      → 1 ≤ tally (on (asks_for a)) (rows_letters s k (AdvanceRow ∷ rows))
  by zero none rest =
      let last : a ≡ k + 1 = omega (arith, is, none) in
      let one : 1 ≤ asks_for a (AdvanceNo (k + 1)) =
      subst (λ (n : ℕ). 1 ≤ one_if (nat_le a n)) last (omega (arith, one_most a)) in
      omega (
        arith,
        advance_each (λ (b : Body). 1 ≤ asks_for a b) s k (λ keeps. absurd (cc (sym keeps ∙ loses)))
            (λ numbered. one),
      )
  by (suc n) more rest = omega (arith, rest (omega (arith, is)) (omega (arith, more)))

-- so the client asks for no more than before, or for all by a letter
submits_asks : (s : ScriptData) (past : List Entry) (e : Entry) (c : Client) (first : List Outgoing) → is_lossy s ≡ true
    → IsTold s past e c → MadeByClient s past e (submit s c first)
    → (asked_for s (e ∷ past) ≡ asked_for s past) ⊎ (1 ≤ tally (on (asks_for (asked_for s (e ∷ past)))) e.sent)
submits_asks s past e c first loses told made = by (advances_in rest) refl where
  rest : List ScriptRow
  rest = take (submitted c (take c.next s.rows) (drop c.next s.rows)) (drop c.next s.rows)

  a : ℕ
  a = asked_for s (e ∷ past)

  before : advances_sent s c ≡ asked_for s past
  before = ap (λ (n : ℕ). advances_in (take n s.rows)) told.next

  after : a ≡ advances_sent s c + advances_in rest
  after =
      ap (λ (x : Client). advances_in (take x.next s.rows)) made.state
      ∙ ap advances_in (take-add c.next (submitted c (take c.next s.rows) (drop c.next s.rows)) s.rows)
      ∙ advances_in-append (take c.next s.rows) rest

  by : (n : ℕ) → advances_in rest ≡ n → (a ≡ asked_for s past) ⊎ (1 ≤ tally (on (asks_for a)) e.sent)
  by zero none = inl (omega (arith, before, after, none))
  by (suc n) more =
      let sent : tally (on (asks_for a)) e.sent ≡ tally (on (asks_for a)) (submit s c first).sent =
      ap (λ (os : List Outgoing). tally (on (asks_for a)) os) made.sent in
      inr (omega (
        arith,
        sent,
        tally-append (on (asks_for a)) first (rows_letters s (advances_sent s c) rest),
        last_asks s (advances_sent s c) a rest loses after (omega (arith, more)),
      ))

asks_more : (s : ScriptData) (past : List Entry) (e : Entry) → is_lossy s ≡ true → Aside s past e
    → (asked_for s (e ∷ past) ≡ asked_for s past) ⊎ (1 ≤ tally (on (asks_for (asked_for s (e ∷ past)))) e.sent)
asks_more s past e loses is = grind (arith, submits_asks)

-- 2. Entries of the client and of nodes: none takes a letter that asks for advancements.
asks_away : (s : ScriptData) (a from to : ℕ) (body : Body) → IsMeant s from to body → to ≢ s.nodes → asks_for a body ≡ 0
asks_away s a from to body meant away = grind arith

sent_covers : (s : ScriptData) (past : List Entry) (e : Entry) (epoch : ℕ) (body : Body) → IsSentBy s past e body
    → Covers epoch (asked_for s past) body
sent_covers s past e epoch body is = grind arith

will_hear_aside : (s : ScriptData) (past : List Entry) (e : Entry) (c : Restarting) → Aside s past e
    → WillHear s past (asked_for s past) c
    → WillHear s (e ∷ past) (asked_for s past) c
will_hear_aside s past e c next will = record {
  waits = will.waits;
  letters =
      each_step (λ (l : Letter). Covers c.epoch (asked_for s past) l.body) s past e will.letters
      (each_map (λ (o : Outgoing). IsSentBy s past e o.body)
      (λ (o : Outgoing). (i : LetterId) → Covers c.epoch (asked_for s past) o.body)
      e.sent (λ o sent i. sent_covers s past e c.epoch o.body sent) (sends_aside s past e next));
  heard = will.heard;
}

aside_by : (s : ScriptData) (past : List Entry) (e : Entry) (c : Restarting) → MayFollow s past e
    → ((a : ℕ) → asks_for a e.took.body ≡ 0) → Aside s past e
    → (asked_for s (e ∷ past) ≡ asked_for s past) ⊎ (1 ≤ tally (on (asks_for (asked_for s (e ∷ past)))) e.sent)
    → WantsAll s past (asked_for s past) c → WantsAll s (e ∷ past) (asked_for s (e ∷ past)) c
aside_by s past e c m none next (inr some) was =
    let f = asks_for (asked_for s (e ∷ past)) in inl (omega (arith, flow f s past e m, none (asked_for s (e ∷ past)), some))
aside_by s past e c m none next (inl same) (inl some) =
    let now : 1 ≤ count_in_flight (asks_for (asked_for s past)) s (e ∷ past) + one_if (nat_le (asked_for s past) c.wanted) =
    omega (arith, flow (asks_for (asked_for s past)) s past e m, none (asked_for s past), some) in
    inl (subst (λ (a : ℕ). 1 ≤ count_in_flight (asks_for a) s (e ∷ past) + one_if (nat_le a c.wanted)) (sym same) now)
aside_by s past e c m none next (inl same) (inr will) =
    inr (subst (λ (a : ℕ). WillHear s (e ∷ past) a c) (sym same) (will_hear_aside s past e c next will))

aside_wants : (s : ScriptData) (past : List Entry) (e : Entry) → IsTreeLawful s → is_lossy s ≡ true → IsStepRun s (e ∷ past)
    → e.actor.0 ≢ s.nodes → Aside s past e → WantsAll s past (asked_for s past) (restarting_in s past)
    → WantsAll s (e ∷ past) (asked_for s (e ∷ past)) (restarting_in s (e ∷ past))
aside_wants s past e laws loses run away next was =
    subst (WantsAll s (e ∷ past) (asked_for s (e ∷ past))) (sym (restarting_kept s past e away))
    (aside_by s past e (restarting_in s past) run.0
    (λ a.
    asks_away s a e.took.from.0 e.took.to.0 e.took.body (took_meant s past e laws.valid run)
    (λ is. away (sym run.0.addressee ∙ is)))
    next (asks_more s past e loses next) was)

-- 3. Entries of the coordinator: while it recovers, it sends no letter of this kind.
covers_none : (epoch a n : ℕ) → OfRestarts (λ to body. Covers epoch a body) n
covers_none epoch a n = record {
  ask = λ to m lt. tt;
  ask_client = λ m. tt;
  order = λ to m what v lt. tt;
  ask_done = λ to v k lt. tt;
  ask_asked = λ to v k lt. tt;
  advanced = λ v. tt;
}

letters_cover : (s : ScriptData) (past : List Entry) (e : Entry) (epoch a : ℕ) → MadeByRestarting s past e
    → Each (λ (l : Letter). Covers epoch a l.body) (in_flight s past)
    → Each (λ (l : Letter). Covers epoch a l.body) (in_flight s (e ∷ past))
letters_cover s past e epoch a made was =
    let c = restarting_in s past in
    let P = λ (to : ℕ) (body : Body). Covers epoch a body in
    let sent : Each (of P) e.sent =
    subst (λ (os : List Outgoing). Each (of P) os) (sym made.sent)
    (restarting_each P c (covers_none epoch a c.nodes) e.took.from.0 e.took.body) in
    each_step (λ (l : Letter). Covers epoch a l.body) s past e was
    (each_map (of P) (λ (o : Outgoing). (i : LetterId) → Covers epoch a o.body) e.sent (λ o covers i. covers) sent)

new_covers : (s : ScriptData) (past : List Entry) (epoch a from to : ℕ) (body : Body) → (restarting_in s past).epoch < epoch
    → IsRight s past from to body → Covers epoch a body
new_covers s past epoch a from to body less right = grind arith

-- it forgets: nothing was told in the new epoch
will_hear_anew : (s : ScriptData) (past : List Entry) (e : Entry) (a : ℕ) → IsGood s past → IsFew s past
    → MadeByRestarting s past e
    → WillHear s (e ∷ past) a (forget (restarting_in s past)).state
will_hear_anew s past e a good few made =
    let c = restarting_in s past in
    let more : one_more c.epoch ≡ c.epoch + 1 = one_more_is c.epoch (omega (arith, few.epoch)) in
    record {
      waits = refl;
      letters = letters_cover s past e (one_more c.epoch) a made
          (each_map (IsLetterRight s past) (λ (l : Letter). Covers (one_more c.epoch) a l.body) (in_flight s past)
          (λ l right. new_covers s past (one_more c.epoch) a l.from.0 l.to.0 l.body (omega (arith, more)) right)
          good.letters);
      heard = λ k at. absurd (cc at);
    }

will_hear_so : (s : ScriptData) (past : List Entry) (e : Entry) (a : ℕ) (d : Restarting) → MadeByRestarting s past e
    → WillHear s past a (restarting_in s past) → d.phase ≡ Recovering → d.epoch ≡ (restarting_in s past).epoch
    → ((k : ℕ) → d.heard ≡ Some k → a ≤ k) → WillHear s (e ∷ past) a d
will_hear_so s past e a d made will waits epoch heard = record {
  waits = waits;
  letters =
      subst (λ (n : ℕ). Each (λ (l : Letter). Covers n a l.body) (in_flight s (e ∷ past))) (sym epoch)
      (letters_cover s past e (restarting_in s past).epoch a made will.letters);
  heard = heard;
}

-- what it wants then
wants_all : (a w k : ℕ) → a ≤ k → one_if (nat_le a (max w k)) ≡ 1
wants_all a w k le =
    let less : a ≤ max w k = omega (arith, le, le-max_right w k) in grind (arith, nat_tests)

heard_by : (s : ScriptData) (past : List Entry) (e : Entry) (a : ℕ) (d : Restarting) (out : Out Restarting) → IsGood s past
    → MadeByRestarting s past e → WillHear s past a (restarting_in s past)
    → HearsMore (restarting_in s past) e.took.from.0 e.took.body d → Covers (restarting_in s past).epoch a e.took.body
    → Recovery d out
    → WantsAll s (e ∷ past) a out.state
heard_by s past e a d out good made will hears covers (Misses misses is) =
    let c = restarting_in s past in
    let (phase, epoch) = more_waits c d e.took.from.0 e.took.body hears in
    subst (λ (o : Out Restarting). WantsAll s (e ∷ past) a o.state) (sym is)
    (inr (will_hear_so s past e a d made will (phase ∙ will.waits) epoch
    (heard_covers a c d e.took.from.0 e.took.body hears covers will.heard)))
heard_by s past e a d out good made will hears covers (HasHeard k told heard is) =
    let c = restarting_in s past in
    let le : a ≤ k = heard_covers a c d e.took.from.0 e.took.body hears covers will.heard k heard in
    subst (λ (o : Out Restarting). WantsAll s (e ∷ past) a o.state) (sym is) (inl (omega (arith, wants_all a d.wanted k le)))

will_hear_next : (s : ScriptData) (past : List Entry) (e : Entry) (a : ℕ) (out : Out Restarting) → IsGood s past → IsFew s past
    → MadeByRestarting s past e → MayFollow s past e → WillHear s past a (restarting_in s past)
    → RestartStep (restarting_in s past) e.took.from.0 e.took.body out → WantsAll s (e ∷ past) a out.state
will_hear_next s past e a out good few made m will (Rests left is) =
    subst (λ (o : Out Restarting). WantsAll s (e ∷ past) a o.state) (sym is)
    (inr (will_hear_so s past e a (restarting_in s past) made will will.waits refl will.heard))
will_hear_next s past e a out good few made m will (Forgets bd is) =
    subst (λ (o : Out Restarting). WantsAll s (e ∷ past) a o.state) (sym is) (inr (will_hear_anew s past e a good few made))
will_hear_next s past e a out good few made m will (Wants i bd busy is) =
    subst (λ (o : Out Restarting). WantsAll s (e ∷ past) a o.state) (sym is)
    (inr (will_hear_so s past e a (with_wanted i (restarting_in s past)) made will will.waits refl will.heard))
will_hear_next s past e a out good few made m will (Recovers d waits hears is) =
    heard_by s past e a d out good made will hears
    (each_taken (λ (l : Letter). Covers (restarting_in s past).epoch a l.body) s past e m will.letters) (recovery d out is)
will_hear_next s past e a out good few made m will (Goes i bd at is) = absurd (cc (sym at ∙ will.waits))
will_hear_next s past e a out good few made m will (Acks what at bd more is) = absurd (cc (sym at ∙ will.waits))
will_hear_next s past e a out good few made m will (Ends what at bd last is) = absurd (cc (sym at ∙ will.waits))
will_hear_next s past e a out good few made m will (Flags reads at bd is) = absurd (cc (sym at ∙ will.waits))
will_hear_next s past e a out good few made m will (Resumes reads at bd is) = absurd (cc (sym at ∙ will.waits))
will_hear_next s past e a out good few made m will (KeepsDone reads v k row at bd here is) = absurd (cc (sym at ∙ will.waits))
will_hear_next s past e a out good few made m will (KeepsAsked reads v k row takes verdict is) =
    absurd (cc (sym takes.phase ∙ will.waits))
will_hear_next s past e a out good few made m will (Agrees reads v k row takes verdict is) =
    absurd (cc (sym takes.phase ∙ will.waits))
will_hear_next s past e a out good few made m will (Recounts reads v k row takes verdict flag is) =
    absurd (cc (sym takes.phase ∙ will.waits))
will_hear_next s past e a out good few made m will (Pauses reads v k row takes verdict flag is) =
    absurd (cc (sym takes.phase ∙ will.waits))

wants_next : (s : ScriptData) (past : List Entry) (e : Entry) (a : ℕ) (out : Out Restarting) → IsGood s past → IsFew s past
    → MadeByRestarting s past e → MayFollow s past e → RestartStep (restarting_in s past) e.took.from.0 e.took.body out
    → WantsAll s past a (restarting_in s past)
    → (out ≡ forget (restarting_in s past)) ⊎ WantsMore a (restarting_in s past) e.took.body out.state
    → WantsAll s (e ∷ past) a out.state
wants_next s past e a out good few made m step (inr will) grows = will_hear_next s past e a out good few made m will step
wants_next s past e a out good few made m step (inl some) (inl is) =
    subst (λ (o : Out Restarting). WantsAll s (e ∷ past) a o.state) (sym is) (inr (will_hear_anew s past e a good few made))
wants_next s past e a out good few made m step (inl some) (inr more) =
    let f = asks_for a in
    inl (still_covered (count_in_flight f s (e ∷ past)) (count_in_flight f s past) (f e.took.body)
    (one_if (nat_le a out.state.wanted))
    (one_if (nat_le a (restarting_in s past).wanted)) some (omega (arith, flow f s past e m)) more.letter more.before)

coordinator_wants : (s : ScriptData) (past : List Entry) (e : Entry) → IsGood s past → IsFew s past → MadeByRestarting s past e
    → MayFollow s past e → e.actor.0 ≡ s.nodes → WantsAll s past (asked_for s past) (restarting_in s past)
    → WantsAll s (e ∷ past) (asked_for s (e ∷ past)) (restarting_in s (e ∷ past))
coordinator_wants s past e good few made m at was =
    let c = restarting_in s past in
    let out = restarting_row c e.took.from.0 e.took.body in
    let step : RestartStep c e.took.from.0 e.took.body out = restart_step c e.took.from.0 e.took.body in
    subst (λ (a : ℕ). WantsAll s (e ∷ past) a (restarting_in s (e ∷ past))) (sym (asked_stays s past e at))
    (subst (WantsAll s (e ∷ past) (asked_for s past)) (sym made.state)
    (wants_next s past e (asked_for s past) out good few made m step was
    (wants_more (asked_for s past) c e.took.from.0 e.took.body out step)))

-- In every run.
wants_in : (s : ScriptData) (past : List Entry) → IsTreeLawful s → is_lossy s ≡ true → IsStepRun s past → AllApt s past
    → WantsAll s past (asked_for s past) (restarting_in s past)
wants_in s [] laws loses run apt = inl (omega arith)
wants_in s (e ∷ past) laws loses run apt = by (cases_eq e.actor.0 s.nodes) (wants_in s past laws loses run.1 apt.1) where
  by : (e.actor.0 ≡ s.nodes) ⊎ (e.actor.0 ≢ s.nodes) → WantsAll s past (asked_for s past) (restarting_in s past)
      → WantsAll s (e ∷ past) (asked_for s (e ∷ past)) (restarting_in s (e ∷ past))
  by (inl at) was =
      coordinator_wants s past e (good_run s past laws loses run.1 apt.1) (few s past laws loses run.1 apt.1)
      (restarts s past e loses run.0 at) run.0 at was
  by (inr away) was =
      aside_wants s past e laws loses run away (aside s past e laws.valid loses run away (course s past e laws apt run)) was

-- So where no letter is in flight a coordinator that doesn't recover wants all.
all_by : (s : ScriptData) (past : List Entry) (a : ℕ) (c : Restarting) → in_flight s past ≡ [] → Knows c.phase
    → WantsAll s past a c → a ≤ c.wanted
all_by s past a c empty knows is = grind arith

pub all_wanted : (s : ScriptData) (past : List Entry) → IsTreeLawful s → is_lossy s ≡ true → IsStepRun s past → AllApt s past
    → in_flight s past ≡ [] → Knows (restarting_in s past).phase → asked_for s past ≤ (restarting_in s past).wanted
all_wanted s past laws loses run apt empty knows =
    all_by s past (asked_for s past) (restarting_in s past) empty knows (wants_in s past laws loses run apt)
