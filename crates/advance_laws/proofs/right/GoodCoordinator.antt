-- Each entry of the coordinator leaves all as it should be.
use Rattle.std.proofs.Common.{◌≡◌, ℕ, ◌+◌, ◌≤◌, ◌==◌, inl, inr, Bool, true, false, List, [], ◌∷◌, refl, sym, ap, subst, ◌∙◌, arith, Some}
use Rattle.std.specs.Prelude.{if◌then◌else◌, max}
use Rattle.std.proofs.Math.Nat.{le-max_left, max-le}
use Rattle.tv_base.specs.Outside.{one_more}
use Rattle.tv_base.specs.declared.numbers.Version.{Version}
use Rattle.phase_out.specs.Rounds.{verdict_of}
use Rattle.letter_types.specs.declared.bodies.Body.TheVariants.{AdvanceNo, AskAsked, Obeyed}
use Rattle.letter_types.specs.declared.bodies.What.{What}
use Rattle.letter_types.specs.declared.bodies.What.TheVariants.{Turn as ToTurn, Show as ToShow, Sweep as ToSweep}
use Rattle.letter_types.specs.declared.entries.Entry.{Entry}
use Rattle.letter_types.specs.Steps.{Out, still}
use Rattle.tx_trees.specs.ScriptData.{ScriptData}
use Rattle.world_model.specs.AllApt.{AllApt}
use Rattle.world_model.specs.Coordinator.{to_nodes}
use Rattle.script_parts.specs.Counts.{is_lossy}
use Rattle.world_model.specs.Restarting.{Restarting, after_doing, begin_counting, end_counting, enter, forget, next_advance, recover, restarting_row, target, version_counted, with_wanted}
use Rattle.world_model.specs.Runs.{IsStepRun, restarting_in}
use Rattle.world_model.specs.declared.restarting.RestartPhase.TheVariants.{Doing, Counting}
use Rattle.world_model.proofs.Orders.{to_nodes_each}
use Rattle.advance_laws.specs.Quiet.{IsSilent}
use Rattle.advance_laws.proofs.counting.KeptRows.{with_asked}
use Rattle.advance_laws.proofs.governed.Lawful.{IsTreeLawful}
use Rattle.advance_laws.proofs.phases.Progress.{MadeByRestarting, TellsAnew}
use Rattle.advance_laws.proofs.counting.Rounds.{silent_agreed}
use Rattle.advance_laws.proofs.recovery.Few.{IsFew, few, took_asked}
use Rattle.advance_laws.proofs.right.Good.{AllGood, IsGood, ended_few, in_phase, token}
use Rattle.advance_laws.proofs.right.GoodOutcomes.{asks_begun, last_answer, well_begins, well_ends, well_forgets, well_goes, well_shows, well_sweeps}
use Rattle.advance_laws.proofs.right.GoodResumes.{heard_more, well_recovers}
use Rattle.advance_laws.proofs.right.GoodSteps.{AllAsk, IsAsk, IsCountOf, IsMove, asks_nothing, good_acks, good_counts, good_rests, good_same}
use Rattle.advance_laws.proofs.right.GoodTells.{IsWell, well_by}
use Rattle.advance_laws.proofs.counting.RestartCounts.{IsNewCount, IsNotGiven, good_now, restart_count, restarting_counts, takes_row, versioned}
use Rattle.advance_laws.proofs.recovery.RestartSteps.{Acks, Agrees, Ends, Flags, Forgets, Goes, KeepsAsked, KeepsDone, Pauses, Recounts, Recovers, RestartStep, Rests, Resumes, TakesRequests, Wants, asked_kept, restart_step}

-- What is known of such an entry, whatever comes of it.
record IsTold (s : ScriptData) (past : List Entry) (e : Entry) : Type 0 where
  laws : IsTreeLawful s
  loses : is_lossy s ≡ true
  run : IsStepRun s (e ∷ past)
  apt : AllApt s (e ∷ past)
  at : e.actor.0 ≡ s.nodes
  all : AllGood s past
  tells : TellsAnew e.took.body
  made : MadeByRestarting s past e

good_before : (s : ScriptData) (past : List Entry) (e : Entry) → IsTold s past e → IsGood s past
good_before s past e h = good_now s past h.all

few_before : (s : ScriptData) (past : List Entry) (e : Entry) → IsTold s past e → IsFew s past
few_before s past e h = few s past h.laws h.loses h.run.1 h.apt.1

few_nodes : (s : ScriptData) → IsTreeLawful s → s.nodes ≤ 64
few_nodes s laws = grind arith

-- it comes to what its row says
move : (s : ScriptData) (past : List Entry) (e : Entry) (out : Out Restarting) → IsTold s past e
    → restarting_row (restarting_in s past) e.took.from.0 e.took.body ≡ out → IsMove s past e out.state
move s past e out h is = record {
  laws = h.laws;
  run = h.run;
  apt = h.apt;
  at = h.at;
  good = good_before s past e h;
  tells = h.tells;
  state = h.made.state ∙ ap (λ (o : Out Restarting). o.state) is;
}

sent_so : (s : ScriptData) (past : List Entry) (e : Entry) (out : Out Restarting) → IsTold s past e
    → restarting_row (restarting_in s past) e.took.from.0 e.took.body ≡ out → e.sent ≡ out.sent
sent_so s past e out h is = h.made.sent ∙ ap (λ (o : Out Restarting). o.sent) is

-- Counts.
asks_by : (b : Bool) (n : ℕ) (v : Version) (k : ℕ) → AllAsk (if b then to_nodes n (AskAsked v k) else [])
asks_by true n v k = to_nodes_each (λ to body. IsAsk body) n (AskAsked v k) (λ to lt. tt)
asks_by false n v k = tt

well_asks : (s : ScriptData) (past : List Entry) (e : Entry) → AllAsk e.sent → IsGood s (e ∷ past) → IsWell s past e
well_asks s past e asks good = well_by s past e (asks_nothing e.sent asks) good

counts : (s : ScriptData) (past : List Entry) (e : Entry) (out : Out Restarting) (reads : Bool) → IsTold s past e
    → restarting_row (restarting_in s past) e.took.from.0 e.took.body ≡ out → IsCountOf reads (restarting_in s past).phase
    → IsCountOf reads out.state.phase → out.state.epoch ≡ (restarting_in s past).epoch → out.state.ended ≡ (restarting_in s past).ended
    → out.state.wanted ≡ (restarting_in s past).wanted → AllAsk out.sent → IsWell s past e
counts s past e out reads h is before after epoch ended wanted asks =
    let all : AllAsk e.sent = subst AllAsk (sym (sent_so s past e out h is)) asks in
    well_asks s past e all (good_counts s past e out.state reads (move s past e out h is) before after epoch ended wanted all)

counting_of : (s : ScriptData) (past : List Entry) (reads : Bool) → (restarting_in s past).phase ≡ Counting reads
    → IsCountOf reads (restarting_in s past).phase
counting_of s past reads at = subst (IsCountOf reads) (sym at) refl

-- The version that was counted is silent, where it wasn't given yet.
agreed_silent : (s : ScriptData) (past : List Entry) (e : Entry) (reads : Bool) (v : Version) (k : ℕ) (row : List ℕ) (n : ℕ) → IsTold s past e
    → TakesRequests (restarting_in s past) e.took.from.0 e.took.body reads v k row
    → verdict_of (with_asked e.took.from.0 row (restarting_in s past).count.current) ≡ Some true
    → (version_counted reads (restarting_in s past)).0 ≡ n → IsNotGiven reads n past → IsSilent s past n
agreed_silent s past e reads v k row n h takes verdict is new =
    let version : (restarting_in s past).count.current.version.0 ≡ n =
    ap (λ (w : Version). w.0) (versioned s past reads takes.phase) ∙ is in
    subst (IsSilent s past) version
    (silent_agreed s (restart_count s) (IsNewCount s) (restarting_counts s h.laws h.loses) past e reads v k row h.run h.apt.1
    (takes_row (restarting_in s past) e.took.from.0 e.took.body reads v k row takes)
    (h.all, subst (λ (m : ℕ). IsNotGiven reads m past) (sym version) new) verdict)

counted_few : (s : ScriptData) (past : List Entry) (e : Entry) (reads : Bool) → IsTold s past e
    → (restarting_in s past).phase ≡ Counting reads → (restarting_in s past).ended ≤ 100
counted_few s past e reads h at =
    let good = good_before s past e h in
    ended_few s past (Counting reads) h.laws.valid good (in_phase s past (Counting reads) good at)

agrees : (s : ScriptData) (past : List Entry) (e : Entry) (reads : Bool) (v : Version) (k : ℕ) (row : List ℕ) → IsTold s past e
    → TakesRequests (restarting_in s past) e.took.from.0 e.took.body reads v k row
    → verdict_of (with_asked e.took.from.0 row (restarting_in s past).count.current) ≡ Some true
    → restarting_row (restarting_in s past) e.took.from.0 e.took.body ≡ end_counting reads (asked_kept e.took.from.0 row (restarting_in s past))
    → IsWell s past e
agrees s past e false v k row h takes verdict is =
    let c = restarting_in s past in
    let out = end_counting false (asked_kept e.took.from.0 row c) in
    let few = few_before s past e h in
    let next : one_more c.ended ≡ c.ended + 1 = omega (arith, counted_few s past e false h takes.phase) in
    well_shows s past e out.state (move s past e out h is) (record { phase = refl; epoch = refl; ended = refl; wanted = refl; acks = refl })
    (sent_so s past e out h is) takes.phase few
    (λ new. agreed_silent s past e false v k row (c.ended + 1) h takes verdict next new)
agrees s past e true v k row h takes verdict is =
    let c = restarting_in s past in
    let out = end_counting true (asked_kept e.took.from.0 row c) in
    well_sweeps s past e out.state (move s past e out h is) (record { phase = refl; epoch = refl; ended = refl; wanted = refl; acks = refl })
    (sent_so s past e out h is) takes.phase (few_before s past e h)
    (λ new. agreed_silent s past e true v k row c.ended h takes verdict refl new)

-- What the last acknowledgement brings.
ends : (s : ScriptData) (past : List Entry) (e : Entry) (what : What) → IsTold s past e → (restarting_in s past).phase ≡ Doing what
    → e.took.body ≡ Obeyed (restarting_in s past).epoch what (target what (restarting_in s past).ended)
    → (one_more (restarting_in s past).acks == (restarting_in s past).nodes) ≡ true
    → restarting_row (restarting_in s past) e.took.from.0 e.took.body ≡ after_doing what (restarting_in s past) → IsWell s past e
ends s past e ToTurn h at bd last is =
    let c = restarting_in s past in
    let m = move s past e (begin_counting false c) h is in
    well_begins s past e ToTurn false m (last_answer s past e (begin_counting false c).state ToTurn (few_nodes s h.laws) m at bd last)
    (sent_so s past e (begin_counting false c) h is) at (inl (refl, refl))
ends s past e ToShow h at bd last is =
    let c = restarting_in s past in
    let m = move s past e (begin_counting true c) h is in
    well_begins s past e ToShow true m (last_answer s past e (begin_counting true c).state ToShow (few_nodes s h.laws) m at bd last)
    (sent_so s past e (begin_counting true c) h is) at (inr (refl, refl))
ends s past e ToSweep h at bd last is =
    let c = restarting_in s past in
    let out = after_doing ToSweep c in
    let m = move s past e out h is in
    well_ends s past e m (last_answer s past e out.state ToSweep (few_nodes s h.laws) m at bd last)
    (sent_so s past e out h is) at (few_before s past e h)

-- each outcome
by_step : (s : ScriptData) (past : List Entry) (e : Entry) → IsTold s past e
    → RestartStep (restarting_in s past) e.took.from.0 e.took.body (restarting_row (restarting_in s past) e.took.from.0 e.took.body)
    → IsWell s past e
by_step s past e h (Rests left is) =
    let none = sent_so s past e (still (restarting_in s past)) h is in
    well_asks s past e (subst AllAsk (sym none) tt) (good_rests s past e (move s past e (still (restarting_in s past)) h is) none left)
by_step s past e h (Forgets bd is) =
    well_forgets s past e (move s past e (forget (restarting_in s past)) h is) (sent_so s past e (forget (restarting_in s past)) h is) (few_before s past e h)
by_step s past e h (Wants i bd busy is) =
    let c = restarting_in s past in
    let out = still (with_wanted i c) in
    let none = sent_so s past e out h is in
    let asks : AllAsk e.sent = subst AllAsk (sym none) tt in
    well_asks s past e asks
    (good_same s past e (max c.wanted i) (move s past e out h is) (le-max_left c.wanted i) asks
    (λ what at. ap (token c.epoch e.took.from.0 e.actor.0) bd))
by_step s past e h (Goes i bd at is) =
    let c = restarting_in s past in
    let out = enter (next_advance (max c.wanted i) c.ended) (with_wanted i c) in
    let few = few_before s past e h in
    well_goes s past e (max c.wanted i) (move s past e out h is) (sent_so s past e out h is) at
    (le-max_left c.wanted i) (max-le few.wanted (took_asked s past e (AdvanceNo i) few h.run.0 bd)) few
by_step s past e h (Recovers d at hears is) =
    let few = few_before s past e h in
    well_recovers s past e d (move s past e (recover d) h is)
    (heard_more s past e d (good_before s past e h) few h.run.0 at hears) few at (sent_so s past e (recover d) h is)
by_step s past e h (Acks what at bd more is) =
    let c = restarting_in s past in
    let out = still (record c { acks = one_more c.acks }) in
    let none = sent_so s past e out h is in
    well_asks s past e (subst AllAsk (sym none) tt) (good_acks s past e what (few_nodes s h.laws) (move s past e out h is) none at bd)
by_step s past e h (Ends what at bd last is) = ends s past e what h at bd last is
by_step s past e h (Flags reads at bd is) =
    counts s past e _ reads h is (counting_of s past reads at) (counting_of s past reads at) refl refl refl tt
by_step s past e h (Resumes reads at bd is) =
    counts s past e _ reads h is (subst (IsCountOf reads) (sym at) refl) refl refl refl refl (asks_begun reads (restarting_in s past))
by_step s past e h (KeepsDone reads v k row at bd here is) =
    counts s past e _ reads h is (counting_of s past reads at) (counting_of s past reads at) refl refl refl
    (asks_by _ (restarting_in s past).nodes (restarting_in s past).count.current.version (restarting_in s past).count.current.number)
by_step s past e h (KeepsAsked reads v k row takes verdict is) =
    counts s past e _ reads h is (counting_of s past reads takes.phase) (counting_of s past reads takes.phase) refl refl refl tt
by_step s past e h (Agrees reads v k row takes verdict is) = agrees s past e reads v k row h takes verdict is
by_step s past e h (Recounts reads v k row takes verdict flag is) =
    counts s past e _ reads h is (counting_of s past reads takes.phase) refl refl refl refl
    (asks_begun reads (asked_kept e.took.from.0 row (restarting_in s past)))
by_step s past e h (Pauses reads v k row takes verdict flag is) =
    counts s past e _ reads h is (counting_of s past reads takes.phase) refl refl refl refl tt

pub well_told : (s : ScriptData) (past : List Entry) (e : Entry) → IsTreeLawful s → is_lossy s ≡ true → IsStepRun s (e ∷ past)
    → AllApt s (e ∷ past) → e.actor.0 ≡ s.nodes → AllGood s past → TellsAnew e.took.body → MadeByRestarting s past e → IsWell s past e
well_told s past e laws loses run apt at all tells made =
    by_step s past e
    (record { laws = laws; loses = loses; run = run; apt = apt; at = at; all = all; tells = tells; made = made })
    (restart_step (restarting_in s past) e.took.from.0 e.took.body)
