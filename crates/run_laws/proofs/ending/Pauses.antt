-- In every run the rows of a round that nothing has disturbed are exact, and a pause is busy.
use Rattle.std.proofs.Common.{if◌then◌else◌, ◌≡◌, ◌≢◌, ◌⊎◌, inl, inr, ℕ, zero, suc, ◌+◌, ◌<◌, ◌≤◌, ◌&&◌, Bool, true, false, List, [], ◌∷◌, ◌++◌, get_or, length, set, refl, sym, ap, subst, ◌∙◌, arith, Some, None}
use Rattle.std.specs.Prelude.{slice_get, slice_index}
use Rattle.std.proofs.lemmas.Bool.{cases_eq}
use Rattle.std.proofs.lemmas.List.{length-set}
use Rattle.tv_base.specs.declared.numbers.TreeNo.{TreeNo}
use Rattle.tv_base.specs.declared.numbers.Version.{Version}
use Rattle.phase_out.specs.Rounds.{RoundData, agrees, all_in, is_of, kept_number, new_round, verdict_of}
use Rattle.script_parts.proofs.SubsOf.{has_root}
use Rattle.letter_types.specs.declared.bodies.Body.{Body}
use Rattle.letter_types.specs.declared.bodies.Body.TheVariants.{Go, Nudge, Root, Sub as SubLetter, Done, Decide, Decided, Release, Wake, Sweep, DoneRow, AskedRow}
use Rattle.letter_types.specs.declared.entries.Entry.{Entry}
use Rattle.letter_types.specs.declared.entries.Letter.{Letter}
use Rattle.letter_types.specs.declared.entries.LetterId.{LetterId}
use Rattle.letter_types.specs.declared.entries.Outgoing.{Outgoing}
use Rattle.letter_types.specs.Kept.{kept_without, wakes}
use Rattle.letter_types.specs.Steps.{Out}
use Rattle.tx_trees.specs.ScriptData.{ScriptData}
use Rattle.tx_trees.specs.Valid.{IsValid}
use Rattle.world_model.specs.AllApt.{AllApt}
use Rattle.world_model.specs.Core.{Core}
use Rattle.world_model.specs.Counts.{one_if, tally}
use Rattle.world_model.specs.Kept.{kept_in, outstanding}
use Rattle.world_model.specs.Node.{Node}
use Rattle.world_model.specs.Strict.{CoreKeeping, core_row}
use Rattle.world_model.specs.Client.{Client, nudge, with_answer, with_end}
use Rattle.world_model.specs.declared.phase.Phase.TheVariants.{Counting, Sweeping}
use Rattle.world_model.specs.Runs.{client_in, coordinator_in, keeping_in, node_in, in_flight, MayFollow, IsStepRun}
use Rattle.world_model.proofs.Cases.{Case, Coordinates as ByCoordinator, Does, Keeps, NodeDoes, NodeKeeps, Submits, case}
use Rattle.world_model.proofs.EachOutstanding.{each_brought}
use Rattle.world_model.proofs.Every.{each_append, each_map, each_step, node_kept}
use Rattle.world_model.proofs.Flows.{client_kept}
use Rattle.world_model.proofs.KeptThere.{IsCoreKeeping, OfKeeping, core_keeps}
use Rattle.world_model.proofs.Nexts.{Order}
use Rattle.world_model.proofs.Scripts.{SubAt, sub_there}
use Rattle.world_model.specs.Meant.{IsMeant}
use Rattle.advance_laws.proofs.counting.KeptRows.{with_asked}
use Rattle.advance_laws.proofs.governed.Brought.{BringsTo, IsAsking, brought_meant, brought_outstanding, kept_ask}
use Rattle.advance_laws.proofs.counting.CoordinatorCounts.{coordinator_counts, count_in, counting_is}
use Rattle.advance_laws.proofs.counting.Counting.{AfterRound, Begins as BeginsRound, Count, CountStep, Denies, Holds, InRound, IsCounting, IsNudged, Lasts, Leaves, NoNudge, TakesDone, TakesRequests, TakesRow, count_asked, count_done, none_in_round, paused_in_round, Premise}
use Rattle.advance_laws.proofs.phases.Progress.{Begins, Coordinates, Ends, Hears, Obeys, Progress, Work, Works, are_wakes, asking_of, brings_to, Asked, Course, Forgetting, Heeds, Restarts, course}
use Rattle.advance_laws.proofs.right.Sending.{AllRowless, course_rowless}
use Rattle.advance_laws.proofs.recovery.Tokens.{phase_for}
use Rattle.advance_laws.proofs.phases.Steps.{Shaped, none_later, round_of, shaped}
use Rattle.advance_laws.proofs.counting.Waves.{none_kept}
use Rattle.advance_laws.proofs.counting.Working.{IsOfTrees}
use Rattle.tree_laws.specs.Dids.{asks}
use Rattle.tree_laws.proofs.apt.AptLawful.{heard_were_sent}
use Rattle.tree_laws.proofs.stages.AptStagesOwn.{Doing, asked, turned_here, unborn_by}
use Rattle.tree_laws.proofs.stages.AptStagesRun.{stages_of_trees}
use Rattle.tree_laws.proofs.apt.AptSteps.{enters}
use Rattle.tree_laws.proofs.apt.AptTurns.{no_turn_yet}
use Rattle.run_laws.proofs.ending.Balancing.{balances}
use Rattle.run_laws.proofs.ending.Measures.{busy, nudges, of_trees}
use Rattle.run_laws.proofs.ending.Busy.{born_heard, busy_step, no_nudge, trees_rest}
use Rattle.run_laws.proofs.ending.Exacts.{Counts, Exact, ExactBody, Frozen, Pausing, SentExact, all_agree, asked_put, client_exact, done_put, exact_on, frozen_away, kept_is, order_counts, order_exact, orders_exact}
use Rattle.run_laws.proofs.each_tree.EveryApt.{lawful}
use Rattle.world_model.specs.Keeping.{woken_by}
use Rattle.script_parts.specs.Counts.{is_lossy}
use Rattle.world_model.proofs.Bags.{one_if_both}
use Rattle.advance_laws.proofs.recovery.Heeds.{AreWakes, IsWake, wakes_are, Heed, Leaves, Answers, Repeats, Obeys as HeedObeys}

pub record Bound (s : ScriptData) (past : List Entry) (c : Count) : Type 0 where
  pub counts : Counts s past c
  pub pausing : Pausing s past c

-- while the coordinator counts, no order changes counters, and no node has left the version counted
pub record IsSteady (s : ScriptData) (count : List Entry → Count) : Type 0 where
  pub orders : (past : List Entry) (e : Entry) (reads : Bool) (p : ℕ) (out : Out Node) → IsStepRun s (e ∷ past) → AllApt s past
      → (count past).pace ≡ InRound reads → e.actor.0 ≡ p → p < s.nodes → Order s (node_in s past p) e.took.body out
      → out.state.counts ≡ (node_in s past p).counts
  pub heeds : (past : List Entry) (e : Entry) (reads : Bool) (p : ℕ) → IsStepRun s (e ∷ past) → AllApt s (e ∷ past)
      → (count past).pace ≡ InRound reads → e.actor.0 ≡ p → p < s.nodes → is_lossy s ≡ true
      → Heed s (keeping_in s past p).core (keeping_in s (e ∷ past) p).core e.took.body e.sent
      → (node_in s (e ∷ past) p).counts ≡ (node_in s past p).counts
  pub low : (past : List Entry) (reads : Bool) (p : ℕ) → IsStepRun s past → AllApt s past → (count past).pace ≡ InRound reads
      → p < s.nodes → (node_in s past p).turns.low.0 ≤ (count past).round.version.0

no_nudge_at : (body : Body) → NoNudge body → nudges body ≡ 0
no_nudge_at Nudge none = absurd none
no_nudge_at Go none = refl
no_nudge_at _ none = refl

at_least_one : (n : ℕ) → (n ≡ 0 → ⊥) → 1 ≤ n
at_least_one zero none = absurd (none refl)
at_least_one (suc n) none = omega arith

-- where nothing was busy before, no letter of a tree that was born had still to be done
none_of_trees : (s : ScriptData) (past : List Entry) (valid : IsValid s) (run : IsStepRun s past) → busy s past ≡ 0
    → tally (λ (l : Letter). of_trees l.body) (outstanding s past) ≡ 0
none_of_trees s past valid run none = trees_rest s past valid run (omega (arith, none))

-- A round that begins has no row.
later_exact : (s : ScriptData) (past : List Entry) (v r k from : ℕ) (body : Body) → k < r → round_of body ≤ k → ExactBody s past v r from body
later_exact s past v r k from (DoneRow w j row) lt le = λ ws ks. absurd (omega (arith, lt, le, ks))
later_exact s past v r k from (AskedRow w j row) lt le = λ ws ks. absurd (omega (arith, lt, le, ks))
later_exact s past v r k from Go lt le = tt
later_exact s past v r k from _ lt le = tt

begins_exact : (s : ScriptData) (count : List Entry → Count) (G : Premise) → IsCounting s count G
    → (past : List Entry) (e : Entry) (v : Version) (k : ℕ) → IsStepRun s past → AllApt s past → (count past).number < k → AllRowless e.sent
    → Exact s (e ∷ past) (new_round v k s.nodes)
begins_exact s count G view past e v k run apt lt rowless =
    let r = (count past).number in
    let old = each_map (λ (l : Letter). round_of l.body ≤ r) (λ (l : Letter). ExactBody s (e ∷ past) v.0 k l.from.0 l.body) (in_flight s past)
    (λ l le. later_exact s (e ∷ past) v.0 k r l.from.0 l.body lt le)
    (none_later s count G view past run apt).letters in
    record {
      letters = each_step (λ (l : Letter). ExactBody s (e ∷ past) v.0 k l.from.0 l.body) s past e old
          (orders_exact s (e ∷ past) v.0 k e.actor.0 e.sent rowless);
      dones = λ q row lq at. absurd (none_kept s.nodes q row at);
      askeds = λ p row lp at. absurd (none_kept s.nodes p row at);
    }

-- The coordinator's steps.
-- a round goes on with these rows
exact_goes : (s : ScriptData) (past : List Entry) (e : Entry) (c : Count) (d : RoundData) → busy s past ≤ busy s (e ∷ past) + nudges e.took.body
    → Bound s past c → Frozen s past e → AllRowless e.sent → (reads : Bool) → c.pace ≡ InRound reads → nudges e.took.body ≡ 0 → c.flag ≡ false
    → d.version ≡ c.round.version → d.number ≡ c.round.number
    → ((x : Exact s past c.round) (q : ℕ) (row : List ℕ) → q < s.nodes → slice_get d.dones q ≡ Some (Some row)
    → (p : ℕ) → p < s.nodes → slice_index row p ≡ (node_in s past q).counts.done c.round.version.0 p)
    → ((x : Exact s past c.round) (p : ℕ) (row : List ℕ) → p < s.nodes → slice_get d.askeds p ≡ Some (Some row)
    → (q : ℕ) → q < s.nodes → slice_index row q ≡ (node_in s past p).counts.asked c.round.version.0 q)
    → busy s (e ∷ past) ≡ 0 → Exact s (e ∷ past) d
exact_goes s past e c d step was frozen rowless reads at calm clear version number dones askeds none =
    let exact = was.counts reads at clear (omega (arith, step, none, calm)) in
    exact_on s past e c.round d frozen version number exact.letters (dones exact) (askeds exact)
    (orders_exact s (e ∷ past) c.round.version.0 c.round.number e.actor.0 e.sent rowless)

bound_holds : (s : ScriptData) (past : List Entry) (e : Entry) (c : Count) → busy s past ≤ busy s (e ∷ past) + nudges e.took.body
    → Bound s past c → Frozen s past e → AllRowless e.sent → nudges e.took.body ≡ 0 → Bound s (e ∷ past) c
bound_holds s past e c step was frozen rowless calm = record {
  counts = λ x at clear none.
      exact_goes s past e c c.round step was frozen rowless x at calm clear refl refl (λ exact. exact.dones) (λ exact. exact.askeds) none;
  pausing = λ at. omega (arith, was.pausing at, step, calm);
}

bound_done : (s : ScriptData) (past : List Entry) (e : Entry) (reads : Bool) (v : Version) (k : ℕ) (row : List ℕ) (c : Count) → MayFollow s past e
    → busy s past ≤ busy s (e ∷ past) + nudges e.took.body → Bound s past c → Frozen s past e → AllRowless e.sent
    → c.pace ≡ InRound reads → c.round.nodes ≡ s.nodes → e.took.body ≡ DoneRow v k row → is_of e.took.from.0 v k row c.round ≡ true
    → Bound s (e ∷ past) (count_done e.took.from.0 row c)
bound_done s past e reads v k row c m step was frozen rowless at nodes bd here = record {
  counts = λ x there clear none.
      exact_goes s past e c (count_done e.took.from.0 row c).round step was frozen rowless reads at (ap nudges bd) clear refl refl
      (λ exact. done_put s past e c.round v k row m bd here nodes exact) (λ exact. exact.askeds) none;
  pausing = λ there. absurd (paused_in_round c.pace reads there at);
}

bound_asked : (s : ScriptData) (past : List Entry) (e : Entry) (reads : Bool) (v : Version) (k : ℕ) (row : List ℕ) (c : Count) → MayFollow s past e
    → busy s past ≤ busy s (e ∷ past) + nudges e.took.body → Bound s past c → Frozen s past e → AllRowless e.sent
    → TakesRow c e.took.from.0 e.took.body reads v k row → c.round.nodes ≡ s.nodes
    → Bound s (e ∷ past) (count_asked e.took.from.0 row c)
bound_asked s past e reads v k row c m step was frozen rowless takes nodes = record {
  counts = λ x there clear none.
      exact_goes s past e c (count_asked e.took.from.0 row c).round step was frozen rowless reads takes.pace (ap nudges takes.body_is) clear refl refl
      (λ exact. exact.dones) (λ exact. asked_put s past e c.round v k row m takes.body_is takes.here nodes exact) none;
  pausing = λ there. absurd (paused_in_round c.pace reads there takes.pace);
}

-- A verdict that is no.
verdict_no : (a b x : Bool) → (if a && b then Some x else None) ≡ Some false → (b ≡ true) × (x ≡ false)
verdict_no true true x is = (refl, (let same : x ≡ false = cc is in same))
verdict_no true false x is = absurd (cc is)
verdict_no false b x is = absurd (cc is)

exact_agrees : (s : ScriptData) (count : List Entry → Count) → IsSteady s count → (past : List Entry) (e : Entry) (reads : Bool) (v : Version)
    (k : ℕ) (row : List ℕ) (valid : IsValid s) (run : IsStepRun s past) → AllApt s past → MayFollow s past e → busy s past ≡ 0
    → Shaped s.nodes (count past) → TakesRow (count past) e.took.from.0 e.took.body reads v k row
    → all_in (set (count past).round.askeds e.took.from.0 (Some row)) ≡ true → Exact s past (count past).round
    → agrees s.nodes (set (count past).round.askeds e.took.from.0 (Some row)) (count past).round.dones ≡ true
exact_agrees s count steady past e reads v k row valid run apt m none shape takes full exact =
    let r = (count past).round in
    let now = shape reads takes.pace in
    let askeds = set r.askeds e.took.from.0 (Some row) in
    let put = asked_put s past e r v k row m takes.body_is takes.here now.nodes exact in
    let some : length askeds ≡ s.nodes = length-set r.askeds e.took.from.0 (Some row) ∙ now.askeds in
    all_agree s.nodes askeds r.dones (λ p q lp lq.
    let asked : kept_number askeds p q ≡ (node_in s past p).counts.asked r.version.0 q =
    kept_is askeds p q ((node_in s past p).counts.asked r.version.0 q) full (omega (arith, lp, some)) (λ x at. put p x lp at q lq) in
    let done : kept_number r.dones q p ≡ (node_in s past q).counts.done r.version.0 p =
    kept_is r.dones q p ((node_in s past q).counts.done r.version.0 p) takes.after_dones (omega (arith, lq, now.dones)) (λ x at. exact.dones q x lq at p lp) in
    let same = balances s past valid run (none_of_trees s past valid run none) r.version.0 p q lp lq
    (steady.low past reads p run apt takes.pace lp) (steady.low past reads q run apt takes.pace lq) in
    asked ∙ same ∙ sym done)

bound_denies : (s : ScriptData) (count : List Entry → Count) → IsSteady s count → (past : List Entry) (e : Entry) (d : Count) (reads : Bool)
    (v : Version) (k : ℕ) (row : List ℕ) (valid : IsValid s) (run : IsStepRun s past) → AllApt s past → MayFollow s past e
    → busy s past ≤ busy s (e ∷ past) + nudges e.took.body → Shaped s.nodes (count past) → Bound s past (count past)
    → TakesRow (count past) e.took.from.0 e.took.body reads v k row
    → verdict_of (with_asked e.took.from.0 row (count past).round) ≡ Some false → (count past).flag ≡ false → d.pace ≡ AfterRound
    → Bound s (e ∷ past) d
bound_denies s count steady past e d reads v k row valid run apt m step shape was takes verdict clear paused =
    let r = (count past).round in
    let askeds = set r.askeds e.took.from.0 (Some row) in
    let nodes = (shape reads takes.pace).nodes in
    let parts = verdict_no (all_in r.dones) (all_in askeds) (agrees r.nodes askeds r.dones) verdict in
    record {
      counts = λ x at clear' none. absurd (paused_in_round d.pace x paused at);
      pausing = λ at. at_least_one (busy s (e ∷ past)) (λ none.
          let calm : nudges e.took.body ≡ 0 = ap nudges takes.body_is in
          let before : busy s past ≡ 0 = omega (arith, step, none, calm) in
          let exact = was.counts reads takes.pace clear before in
          let agree = exact_agrees s count steady past e reads v k row valid run apt m before shape takes parts.0 exact in
          let differ : agrees s.nodes askeds r.dones ≡ false = subst (λ (n : ℕ). agrees n askeds r.dones ≡ false) nodes parts.1 in
          let clash : true ≡ false = sym agree ∙ differ in
          cc clash);
    }

bound_out : (s : ScriptData) (count : List Entry → Count) (G : Premise) → IsCounting s count G → IsSteady s count
    → (past : List Entry) (e : Entry) (valid : IsValid s) (run : IsStepRun s (e ∷ past)) → AllApt s past → Bound s past (count past)
    → Frozen s past e → AllRowless e.sent → CountStep s.nodes (count past) (count (e ∷ past)) e.took.from.0 e.took.body e.sent
    → Bound s (e ∷ past) (count (e ∷ past))
bound_out s count G view steady past e valid run apt was frozen rowless (Leaves none le plain) =
    let d = count (e ∷ past) in
    record { counts = λ x at. absurd (none_in_round d.pace x none at); pausing = λ at. absurd (cc (none, at)) }
bound_out s count G view steady past e valid run apt was frozen rowless (Holds reads at calm refused is sent) =
    subst (Bound s (e ∷ past)) (sym is)
    (bound_holds s past e (count past) (busy_step s past e valid run) was frozen rowless (no_nudge_at e.took.body calm))
bound_out s count G view steady past e valid run apt was frozen rowless (IsNudged reads at bd is sent) =
    subst (Bound s (e ∷ past)) (sym is) (record {
      counts = λ x there clear. absurd (cc clear);
      pausing = λ there. absurd (paused_in_round (count past).pace reads there at);
    })
bound_out s count G view steady past e valid run apt was frozen rowless (Lasts at calm is sent) =
    subst (Bound s (e ∷ past)) (sym is)
    (bound_holds s past e (count past) (busy_step s past e valid run) was frozen rowless (no_nudge_at e.took.body calm))
bound_out s count G view steady past e valid run apt was frozen rowless (BeginsRound reads v k lt none is sent) =
    subst (Bound s (e ∷ past)) (sym is) (record {
      counts = λ x at clear quiet. begins_exact s count G view past e v k run.1 apt lt rowless;
      pausing = λ at. absurd (cc at);
    })
bound_out s count G view steady past e valid run apt was frozen rowless (TakesDone reads v k row at bd here is sent) =
    let nodes = (shaped s count G view past run.1 apt reads at).nodes in
    subst (Bound s (e ∷ past)) (sym is)
    (bound_done s past e reads v k row (count past) run.0 (busy_step s past e valid run) was frozen rowless at nodes bd here)
bound_out s count G view steady past e valid run apt was frozen rowless (TakesRequests reads v k row takes verdict is sent) =
    let nodes = (shaped s count G view past run.1 apt reads takes.pace).nodes in
    subst (Bound s (e ∷ past)) (sym is)
    (bound_asked s past e reads v k row (count past) run.0 (busy_step s past e valid run) was frozen rowless takes nodes)
bound_out s count G view steady past e valid run apt was frozen rowless (Denies reads v k row takes verdict clear is sent) =
    bound_denies s count steady past e (count (e ∷ past)) reads v k row valid run.1 apt run.0 (busy_step s past e valid run)
    (shaped s count G view past run.1 apt) was takes verdict clear (ap (λ (x : Count). x.pace) is)

-- Other actors.
-- the counters don't change, and what is sent is exact
record Stands (s : ScriptData) (past : List Entry) (e : Entry) : Type 0 where
  frozen : Frozen s past e
  sent : (v r : ℕ) → SentExact s (e ∷ past) v r e.actor.0 e.sent

frozen_here : (s : ScriptData) (past : List Entry) (e : Entry) (p : ℕ) → e.actor.0 ≡ p
    → (node_in s (e ∷ past) p).counts ≡ (node_in s past p).counts → Frozen s past e
frozen_here s past e p at same = λ q lt. by q (cases_eq p q) where
  by : (q : ℕ) → (p ≡ q) ⊎ (p ≢ q) → (node_in s (e ∷ past) q).counts ≡ (node_in s past q).counts
  by q (inl is) = subst (λ (n : ℕ). (node_in s (e ∷ past) n).counts ≡ (node_in s past n).counts) is same
  by q (inr ne) = ap (λ (st : Node). st.counts) (node_kept s past e q (λ is. ne (sym at ∙ is)))

wake_exact : (s : ScriptData) (past : List Entry) (v r a : ℕ) (body : Body) → IsWake body → ExactBody s past v r a body
wake_exact s past v r a (Wake t k) is = tt
wake_exact s past v r a _ is = absurd is

wakes_exact : (s : ScriptData) (past : List Entry) (v r a : ℕ) (os : List Outgoing) → AreWakes os → SentExact s past v r a os
wakes_exact s past v r a os all =
    each_map (λ (o : Outgoing). IsWake o.body) (λ (o : Outgoing). LetterId → ExactBody s past v r a o.body) os
    (λ o is id. wake_exact s past v r a o.body is) all

-- A letter of a tree that is born isn't brought.
not_brought : (s : ScriptData) (past : List Entry) (e : Entry) (p : ℕ) (r : Letter) (b : Body) → BringsTo s past e p r → MayFollow s past e
    → tally (λ (l : Letter). of_trees l.body) (outstanding s past) ≡ 0 → r.body ≡ b → of_trees b ≡ 1 → ⊥
not_brought s past e p r b brings m none is one =
    let its : of_trees r.body ≡ of_trees b = ap of_trees is in
    absurd (omega (arith, none, one, its, brought_outstanding s past e p r brings m (λ (l : Letter). of_trees l.body)))

-- A root that is done bears its tree, of which the client hasn't heard.
not_done : (s : ScriptData) (past : List Entry) (e : Entry) (p : ℕ) (t : TreeNo) (r : Letter) → Doing s past e p r → r.body ≡ Root t
    → busy s (e ∷ past) ≡ 0 → ⊥
not_done s past e p t r g is none =
    let meant : IsMeant s r.from.0 p (Root t) =
    subst (IsMeant s r.from.0 p) is (brought_meant s past e p r g.valid (brings_to s past e p r g.does.brings) g.run) in
    let first = has_root s t.0 g.valid meant.tree in
    let sub : SubAt s t.0 0 = sub_there s t.0 0 meant.tree first in
    let one : asks t.0 0 r.body ≡ 1 = ap (asks t.0 0) is ∙ one_if_both t.0 0 in
    let unborn = no_turn_yet s past t.0 0 sub g.valid g.apt.1 g.run.1 (asked s past e p t.0 0 r g one) in
    let before = unborn_by s past t.0 sub unborn first (stages_of_trees s past g.valid g.apt.1 g.run.1 t.0 meant.tree) in
    let heard = born_heard s (e ∷ past) t.0 g.valid g.run (omega (arith, none)) (omega (arith, turned_here s past e p t.0 0 r g, one)) in
    let kept = client_kept s past e (omega (arith, g.does.brings.at, g.does.brings.below)) in
    let count : one_if (get_or (client_in s past).answered t.0 false) ≡ 1 =
    ap one_if (ap (λ (c : Client). get_or c.answered t.0 false) (sym kept) ∙ heard) in
    absurd (omega (arith, count, before.answers, heard_were_sent s past t.0 g.run.1))

-- Other letters of trees count nothing.
row_stands : (s : ScriptData) (past : List Entry) (e : Entry) (p : ℕ) (r : Letter) → Does s past e p r
    → (core_row s p (keeping_in s past p).core r.from.0 r.body).state.node.counts ≡ (node_in s past p).counts
    → (core_row s p (keeping_in s past p).core r.from.0 r.body).sent ≡ [] → Stands s past e
row_stands s past e p r d counts none =
    let c : Core = (keeping_in s past p).core in
    let more = wakes (woken_by c r.body) (kept_without (kept_in s past p) e.took.body) in
    record {
      frozen = frozen_here s past e p d.brings.at (ap (λ (c : Core). c.node.counts) d.core ∙ counts);
      sent = λ v k.
          subst (SentExact s (e ∷ past) v k e.actor.0) (sym (d.sent ∙ ap (λ (os : List Outgoing). os ++ more) none))
          (wakes_exact s (e ∷ past) v k e.actor.0 more (wakes_are (woken_by c r.body) (kept_without (kept_in s past p) e.took.body)));
    }

does_stand : (s : ScriptData) (past : List Entry) (e : Entry) (p : ℕ) (r : Letter) (b : Body) → Doing s past e p r → r.body ≡ b → IsOfTrees b
    → tally (λ (l : Letter). of_trees l.body) (outstanding s past) ≡ 0 → busy s (e ∷ past) ≡ 0 → Stands s past e
does_stand s past e p r (Root t) g is of none quiet = absurd (not_done s past e p t r g is quiet)
does_stand s past e p r (SubLetter t k v) g is of none quiet =
    absurd (not_brought s past e p r (SubLetter t k v) (brings_to s past e p r g.does.brings) g.run.0 none is refl)
does_stand s past e p r (Done t k v notice) g is of none quiet =
    absurd (not_brought s past e p r (Done t k v notice) (brings_to s past e p r g.does.brings) g.run.0 none is refl)
does_stand s past e p r (Decide t v commit) g is of none quiet =
    absurd (not_brought s past e p r (Decide t v commit) (brings_to s past e p r g.does.brings) g.run.0 none is refl)
does_stand s past e p r (Decided t v) g is of none quiet =
    absurd (not_brought s past e p r (Decided t v) (brings_to s past e p r g.does.brings) g.run.0 none is refl)
does_stand s past e p r (Release t) g is of none quiet =
    let c : Core = (keeping_in s past p).core in
    row_stands s past e p r g.does (ap (λ (b : Body). (core_row s p c r.from.0 b).state.node.counts) is)
    (ap (λ (b : Body). (core_row s p c r.from.0 b).sent) is)
does_stand s past e p r (Wake t k) g is of none quiet =
    let c : Core = (keeping_in s past p).core in
    row_stands s past e p r g.does (ap (λ (b : Body). (core_row s p c r.from.0 b).state.node.counts) is)
    (ap (λ (b : Body). (core_row s p c r.from.0 b).sent) is)
does_stand s past e p r _ g is of none quiet = absurd of

keeps_stand : (s : ScriptData) (past : List Entry) (e : Entry) (p : ℕ) (r : Letter) (k : CoreKeeping) → Keeps s past e p r k → Stands s past e
keeps_stand s past e p r k d =
    let c : Core = (keeping_in s past p).core in
    let so : IsCoreKeeping c r.body k = subst (OfKeeping (IsCoreKeeping c r.body)) d.keeps (core_keeps s c r.body) in
    record {
      frozen = frozen_here s past e p d.brings.at (ap (λ (x : Core). x.node.counts) (d.core ∙ so.turns_alone));
      sent = λ v n. subst (SentExact s (e ∷ past) v n e.actor.0) (sym d.sent) tt;
    }

-- what is brought for a letter of trees is one
brought_of_trees : (s : ScriptData) (past : List Entry) (e : Entry) (p : ℕ) (r : Letter) → BringsTo s past e p r → IsOfTrees e.took.body
    → IsOfTrees r.body
brought_of_trees s past e p r b took =
    each_brought (λ (l : Letter). IsOfTrees l.body) (kept_in s past p) e.took r e.took.body
    (each_map (λ (l : Letter). IsAsking l.body) (λ (l : Letter). IsOfTrees l.body) _ (λ l asks. asking_of l.body asks) (kept_ask s past p)) took b.brings

works_stand : (s : ScriptData) (past : List Entry) (e : Entry) (p : ℕ) (x : Letter) → IsValid s → AllApt s (e ∷ past) → IsStepRun s (e ∷ past)
    → tally (λ (l : Letter). of_trees l.body) (outstanding s past) ≡ 0 → busy s (e ∷ past) ≡ 0 → Work s past e p x → Case s past e → Stands s past e
works_stand s past e p x valid apt run none quiet w (NodeDoes q r d) =
    does_stand s past e q r r.body
    (record { valid = valid; apt = apt; run = run; enters = enters s past e valid apt run; does = d }) refl
    (brought_of_trees s past e q r (brings_to s past e q r d.brings) w.took) none quiet
works_stand s past e p x valid apt run none quiet w (NodeKeeps q r k d) = keeps_stand s past e q r k d
works_stand s past e p x valid apt run none quiet w (ByCoordinator there says) = absurd (omega (arith, there, w.brings.at, w.brings.below))
works_stand s past e p x valid apt run none quiet w (Submits there says) = absurd (omega (arith, there, w.brings.at, w.brings.below))

stands : (s : ScriptData) (count : List Entry → Count) → IsSteady s count → (past : List Entry) (e : Entry) (reads : Bool) → IsValid s
    → IsStepRun s (e ∷ past) → AllApt s (e ∷ past) → tally (λ (l : Letter). of_trees l.body) (outstanding s past) ≡ 0
    → busy s (e ∷ past) ≡ 0 → (count past).pace ≡ InRound reads → e.actor.0 ≢ s.nodes → Progress s past e → Stands s past e
stands s count steady past e reads valid run apt none quiet at away (Begins bd here made) = record {
  frozen = frozen_away s past e (omega (arith, here));
  sent = λ v r. client_exact s past e v r (client_in s past) [] tt made;
}
stands s count steady past e reads valid run apt none quiet at away (Hears t w answer bd here lt made) = record {
  frozen = frozen_away s past e (omega (arith, here));
  sent = λ v r. client_exact s past e v r (with_answer t.0 (client_in s past)) (nudge s ∷ []) ((λ id. tt), tt) made;
}
stands s count steady past e reads valid run apt none quiet at away (Ends w bd here made) = record {
  frozen = frozen_away s past e (omega (arith, here));
  sent = λ v r. client_exact s past e v r (with_end s w (client_in s past)) [] tt made;
}
stands s count steady past e reads valid run apt none quiet at away (Coordinates tells here made) = absurd (away here)
stands s count steady past e reads valid run apt none quiet at away (Works p r w) =
    works_stand s past e p r valid apt run none quiet w (case s past e run.0 apt.0)
stands s count steady past e reads valid run apt none quiet at away (Obeys p out more here lt order state is woken) =
    let counts = steady.orders past e reads p out run apt.1 at here lt order in
    let frozen : Frozen s past e = frozen_here s past e p here (ap (λ (st : Node). st.counts) state ∙ counts) in
    record {
      frozen = frozen;
      sent = λ v r. subst (λ (n : ℕ). SentExact s (e ∷ past) v r n e.sent) (sym here)
          (subst (λ (os : List Outgoing). SentExact s (e ∷ past) v r p os) (sym is)
          (each_append (λ (o : Outgoing). LetterId → ExactBody s (e ∷ past) v r p o.body) out.sent more
          (order_exact s past e v r p e.took.body out frozen order)
          (wakes_exact s (e ∷ past) v r p more (are_wakes e.took.body more woken))));
    }

heed_exact : (s : ScriptData) (past : List Entry) (v r a : ℕ) (c d : Core) (body : Body) (os : List Outgoing) → Heed s c d body os
    → SentExact s past v r a os
heed_exact s past v r a c d body os (Leaves n of late same none) = subst (SentExact s past v r a) (sym none) tt
heed_exact s past v r a c d body os (Answers n bd new same is) = subst (SentExact s past v r a) (sym is) ((λ id. tt), tt)
heed_exact s past v r a c d body os (Repeats n what w bd new was same is) = subst (SentExact s past v r a) (sym is) ((λ id. tt), tt)
heed_exact s past v r a c d body os (HeedObeys n what w more bd new less epoch turns is woken) =
    subst (SentExact s past v r a) (sym is) ((λ id. tt), wakes_exact s past v r a more woken)

forgetting_stands : (s : ScriptData) (count : List Entry → Count) → IsSteady s count → (past : List Entry) (e : Entry) (reads : Bool)
    → IsStepRun s (e ∷ past) → AllApt s (e ∷ past) → (count past).pace ≡ InRound reads → e.actor.0 ≢ s.nodes → Forgetting s past e
    → Stands s past e
forgetting_stands s count steady past e reads run apt at away (Asked n bd here loses made) = record {
  frozen = frozen_away s past e (omega (arith, here));
  sent = λ v r. subst (SentExact s (e ∷ past) v r e.actor.0) (sym made.sent) ((λ id. tt), tt);
}
forgetting_stands s count steady past e reads run apt at away (Restarts tells here loses made) = absurd (away here)
forgetting_stands s count steady past e reads run apt at away (Heeds p here lt loses heed) = record {
  frozen = frozen_here s past e p here (steady.heeds past e reads p run apt at here lt loses heed);
  sent = λ v r. heed_exact s (e ∷ past) v r e.actor.0 (keeping_in s past p).core (keeping_in s (e ∷ past) p).core e.took.body e.sent heed;
}

course_stands : (s : ScriptData) (count : List Entry → Count) → IsSteady s count → (past : List Entry) (e : Entry) (reads : Bool) → IsValid s
    → IsStepRun s (e ∷ past) → AllApt s (e ∷ past) → tally (λ (l : Letter). of_trees l.body) (outstanding s past) ≡ 0
    → busy s (e ∷ past) ≡ 0 → (count past).pace ≡ InRound reads → e.actor.0 ≢ s.nodes → Course s past e → Stands s past e
course_stands s count steady past e reads valid run apt none quiet at away (inl next) =
    stands s count steady past e reads valid run apt none quiet at away next
course_stands s count steady past e reads valid run apt none quiet at away (inr next) =
    forgetting_stands s count steady past e reads run apt at away next

bound_away : (s : ScriptData) (count : List Entry → Count) (G : Premise) → IsCounting s count G → IsSteady s count
    → (past : List Entry) (e : Entry) (valid : IsValid s) (run : IsStepRun s (e ∷ past)) → AllApt s (e ∷ past) → e.actor.0 ≢ s.nodes
    → Course s past e → Bound s past (count past) → Bound s (e ∷ past) (count (e ∷ past))
bound_away s count G view steady past e valid run apt away next was =
    let c = count past in
    let step = busy_step s past e valid run in
    let calm = no_nudge s past e valid run.1 run.0 away in
    subst (Bound s (e ∷ past)) (sym (view.stays past e away)) (record {
      counts = λ reads at clear none.
          let before : busy s past ≡ 0 = omega (arith, step, none, calm) in
          let exact = was.counts reads at clear before in
          let all = course_stands s count steady past e reads valid run apt (none_of_trees s past valid run.1 before) none at away next in
          exact_on s past e c.round c.round all.frozen refl refl exact.letters exact.dones exact.askeds
          (all.sent c.round.version.0 c.round.number);
      pausing = λ at. omega (arith, was.pausing at, step, calm);
    })

bound_next : (s : ScriptData) (count : List Entry → Count) (G : Premise) → IsCounting s count G → IsSteady s count
    → (past : List Entry) (e : Entry) (valid : IsValid s) (run : IsStepRun s (e ∷ past)) → AllApt s (e ∷ past) → Course s past e
    → Bound s past (count past) → Bound s (e ∷ past) (count (e ∷ past))
bound_next s count G view steady past e valid run apt next was = by (cases_eq e.actor.0 s.nodes) where
  by : (e.actor.0 ≡ s.nodes) ⊎ (e.actor.0 ≢ s.nodes) → Bound s (e ∷ past) (count (e ∷ past))
  by (inl at) =
      bound_out s count G view steady past e valid run apt.1 was (frozen_away s past e (omega (arith, at))) (course_rowless s past e at next)
      (view.steps past e run apt.1 at)
  by (inr away) = bound_away s count G view steady past e valid run apt away next was

-- in every run
pub rows_bound : (s : ScriptData) (count : List Entry → Count) (G : Premise) → IsCounting s count G → IsSteady s count
    → (past : List Entry) (valid : IsValid s) (run : IsStepRun s past) → AllApt s past → Bound s past (count past)
rows_bound s count G view steady [] valid run apt = record {
  counts = λ x at. absurd (none_in_round (count []).pace x view.start at);
  pausing = λ at. absurd (cc (view.start, at));
}
rows_bound s count G view steady (e ∷ past) valid run apt =
    bound_next s count G view steady past e valid run apt (course s past e view.lawful apt run)
    (rows_bound s count G view steady past valid run.1 apt.1)

-- The coordinator is steady: it sweeps in another phase than it counts.
pub coordinator_steady : (s : ScriptData) (valid : IsValid s) → is_lossy s ≡ false → IsSteady s (count_in s)
coordinator_steady s valid keeps = record {
  orders = λ past e reads p out run apt at here lt order. order_counts s (node_in s past p) e.took.body out (λ v bd.
      let sweeping = phase_for s past e (Sweep v) (lawful s valid keeps) run.1 apt run.0 bd in
      let counting : (coordinator_in s past).phase ≡ Counting reads = counting_is (coordinator_in s past).phase reads at in
      let clash : Counting reads ≡ Sweeping = sym counting ∙ sweeping in
      absurd (cc clash)) order;
  heeds = λ past e reads p run apt at here lt loses heed. absurd (cc (sym keeps ∙ loses));
  low = λ past reads p run apt at lt. ((coordinator_counts s (lawful s valid keeps)).opens reads past run apt at tt).low p lt;
}
