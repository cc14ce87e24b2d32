-- What an entry makes of every node's level.
use Rattle.std.proofs.Common.{◌≡◌, ◌≢◌, ◌⊎◌, inl, inr, ℕ, zero, suc, ◌+◌, ◌<◌, ◌≤◌, ◌==◌, Bool, true, false, List, [], ◌∷◌, refl, sym, ap, subst, ◌∙◌, arith}
use Rattle.std.specs.Prelude.{nat_lt}
use Rattle.std.proofs.lemmas.Bool.{cases_eq}
use Rattle.std.proofs.lemmas.Bool.Decides.{nat_tests}
use Rattle.tv_base.specs.declared.numbers.Version.{Version}
use Rattle.phase_out.specs.Counts.{nudged}
use Rattle.letter_types.specs.declared.bodies.Body.{Body}
use Rattle.letter_types.specs.declared.bodies.Body.TheVariants.{Turn, Show, Sweep, AskDone, Sub as SubLetter}
use Rattle.letter_types.specs.declared.entries.Entry.{Entry}
use Rattle.letter_types.specs.declared.entries.Letter.{Letter}
use Rattle.letter_types.specs.declared.entries.Outgoing.{Outgoing}
use Rattle.letter_types.specs.Steps.{Out}
use Rattle.node_versions.specs.declared.turns.Turns.{Turns as TurnsOf}
use Rattle.node_versions.specs.Turns.{raised}
use Rattle.tx_trees.specs.ScriptData.{ScriptData, client_of}
use Rattle.world_model.specs.Done.{raised_if}
use Rattle.world_model.specs.Node.{Node}
use Rattle.world_model.specs.Coordinator.{Coordinator, version, to_nodes, in_phase, begin_phase, counted_version, end_count, coordinator_row}
use Rattle.world_model.specs.declared.phase.Phase.{Phase}
use Rattle.world_model.specs.declared.phase.Phase.TheVariants.{Idle, Turning, Counting, Paused, Showing, Sweeping}
use Rattle.world_model.specs.Client.{Client, submit, with_answer, with_end, nudge}
use Rattle.world_model.specs.Counts.{one_if, tally}
use Rattle.world_model.specs.Runs.{MayFollow, IsStepRun, client_in, coordinator_in, node_in, in_flight}
use Rattle.world_model.specs.AllApt.{AllApt}
use Rattle.world_model.proofs.Bags.{one_if_most, one_if_same, sealed_tally, tally-append, tally_step, tally_most}
use Rattle.world_model.proofs.Every.{coordinator_kept, node_kept}
use Rattle.world_model.proofs.Flows.{submit_none}
use Rattle.advance_laws.proofs.governed.Lawful.{IsLawful}
use Rattle.world_model.proofs.Nexts.{MadeByClient, MadeByCoordinator, Order, Turns as TurnsTo, Shows as ShowsTo, Sweeps as SweepsTo, TellsDone, TellsAsked}
use Rattle.world_model.proofs.Orders.{coordinator_nodes}
use Rattle.world_model.proofs.Sends.{on}
use Rattle.world_model.proofs.EachOutstanding.{each_took}
use Rattle.advance_laws.specs.Phases.{Stage, TurnStage, ShowStage, SweepStage, token, count_in_flight, within, most_update}
use Rattle.advance_laws.proofs.governed.Brought.{each_of_brought}
use Rattle.advance_laws.proofs.counting.Letters.{NoTrees, Passes, keep_done_none, node_passes, none_of_trees}
use Rattle.advance_laws.proofs.phases.Progress.{Begins, Coordinates, Ends, Hears, Obeys, Progress, Works}
use Rattle.advance_laws.proofs.counting.Working.{IsRaiser}
use Rattle.advance_laws.proofs.phases.Outcomes.{Outcome, Rests, Queues, Flags, Turns, Acks, LastTurned, LastShown, Finishes, GoesOn, Resumes, KeepsDone, KeepsAsked, Agrees, Recounts, Pauses, asked_kept, finished, gone_on, round_begun, keep_done}
use Rattle.advance_laws.proofs.phases.Small.{outcome_in}
use Rattle.advance_laws.proofs.recovery.Tokens.{IsCalm, PhaseFor, phase_for, token_passes, told, calm_within, turn_fills, show_fills, sweep_fills, ask_fills, token_rows, nudge_apart, ask_apart, ask_done_apart}
use Rattle.advance_laws.proofs.phases.LevelAt.{Level, LevelAt, LevelBody, Levels, order, orders_no_trees, tell, tells}

-- What is sent to a node.
abbrev sent_to : Stage → ℕ → Outgoing → ℕ
sent_to g p o = tell g p o.to.0 o.body

tell_most : (g : Stage) (p to : ℕ) (body : Body) → tell g p to body ≤ token g body
tell_most TurnStage p to (Turn v) = one_if_most (to == p)
tell_most TurnStage p to _ = omega arith
tell_most ShowStage p to (Show v) = one_if_most (to == p)
tell_most ShowStage p to _ = omega arith
tell_most SweepStage p to (Sweep v) = one_if_most (to == p)
tell_most SweepStage p to _ = omega arith

-- where no tokens are sent, no orders are
sent_none : (g : Stage) (p : ℕ) (os : List Outgoing) → tally (on (token g)) os ≡ 0 → tally (sent_to g p) os ≡ 0
sent_none g p os none = omega (arith, none, tally_most (sent_to g p) (on (token g)) os (λ o. tell_most g p o.to.0 o.body))

-- where there are no tokens, no order is in flight
tells_most : (g : Stage) (s : ScriptData) (past : List Entry) (p : ℕ) → tells s past g p ≤ count_in_flight (token g) s past
tells_most g s past p =
    tally_most (λ (l : Letter). tell g p l.to.0 l.body) (λ (l : Letter). token g l.body) (in_flight s past)
    (λ l. tell_most g p l.to.0 l.body)

within_zero : (g : Stage) (phase : Phase) (n : ℕ) → within g phase 1 ≡ 0 → within g phase n ≡ 0
within_zero TurnStage Turning n none = absurd (omega (arith, none))
within_zero TurnStage _ n none = refl
within_zero ShowStage Showing n none = absurd (omega (arith, none))
within_zero ShowStage _ n none = refl
within_zero SweepStage Sweeping n none = absurd (omega (arith, none))
within_zero SweepStage _ n none = refl

-- outside a stage's phase none of its orders is in flight
tells_none : (g : Stage) (s : ScriptData) (past : List Entry) (p : ℕ) → IsLawful s → IsStepRun s past → AllApt s past
    → within g (coordinator_in s past).phase 1 ≡ 0 → tells s past g p ≡ 0
tells_none g s past p laws run apt none =
    omega (
      arith,
      tells_most g s past p,
      told g s past laws run apt,
      within_zero g (coordinator_in s past).phase s.nodes none,
    )

-- what an entry does to the orders in flight to node p
tell_flow : (g : Stage) (s : ScriptData) (past : List Entry) (e : Entry) (p : ℕ) → MayFollow s past e
    → tells s (e ∷ past) g p + tell g p e.actor.0 e.took.body ≡ tells s past g p + tally (sent_to g p) e.sent
tell_flow g s past e p m =
    let at : tell g p e.took.to.0 e.took.body ≡ tell g p e.actor.0 e.took.body =
    ap (λ (n : ℕ). tell g p n e.took.body) m.addressee in
    omega (
      arith,
      at,
      tally_step (λ (l : Letter). tell g p l.to.0 l.body) s past e m,
      sealed_tally (λ (l : Letter). tell g p l.to.0 l.body) (sent_to g p) e.stamp.0 e.actor.0 0 e.sent (λ i o. refl),
    )

-- an order to another isn't to p
tell_other : (g : Stage) (p to : ℕ) (body : Body) → to ≢ p → tell g p to body ≡ 0
tell_other TurnStage p to (Turn v) ne = grind (arith, nat_tests)
tell_other TurnStage p to _ ne = refl
tell_other ShowStage p to (Show v) ne = grind (arith, nat_tests)
tell_other ShowStage p to _ ne = refl
tell_other SweepStage p to (Sweep v) ne = grind (arith, nat_tests)
tell_other SweepStage p to _ ne = refl

-- One of the orders to all nodes is to p.
none_above : (g : Stage) (p n : ℕ) (body : Body) → n ≤ p → ((to : ℕ) → tell g p to body ≡ one_if (to == p))
    → tally (sent_to g p) (to_nodes n body) ≡ 0
none_above g p zero body le is = refl
none_above g p (suc n) body le is =
    let apart : one_if (n == p) ≡ 0 = grind (arith, nat_tests) in
    omega (
      arith,
      apart,
      is n,
      none_above g p n body (omega (arith, le)) is,
      tally-append (sent_to g p) (to_nodes n body) (record { to = record { 0 = n }; body = body } ∷ []),
    )

one_each_by : (g : Stage) (p n : ℕ) (body : Body) → p < suc n → ((to : ℕ) → tell g p to body ≡ one_if (to == p))
    → (b : Bool) → (n == p) ≡ b
    → (p < n → tally (sent_to g p) (to_nodes n body) ≡ 1) → tally (sent_to g p) (to_nodes n body) + one_if (n == p) ≡ 1
one_each_by g p n body lt is true at rest =
    let same : n ≡ p = grind (arith, nat_tests) in
    rw at (omega (arith, none_above g p n body (omega (arith, same)) is))
one_each_by g p n body lt is false at rest =
    let other : n ≢ p = grind (arith, nat_tests) in
    let less : p < n = omega (arith, lt, other) in
    rw at (omega (arith, rest less))

one_each : (g : Stage) (p n : ℕ) (body : Body) → p < n → ((to : ℕ) → tell g p to body ≡ one_if (to == p))
    → tally (sent_to g p) (to_nodes n body) ≡ 1
one_each g p zero body lt is = absurd (omega (arith, lt))
one_each g p (suc n) body lt is =
    omega (
      arith,
      tally-append (sent_to g p) (to_nodes n body) (record { to = record { 0 = n }; body = body } ∷ []),
      is n,
      one_each_by g p n body lt is (n == p) refl (λ less. one_each g p n body less is),
    )

-- how many orders of each stage are sent to node p
record SentTo (p : ℕ) (os : List Outgoing) (turns shows sweeps : ℕ) : Type 0 where
  pub of_turns : tally (sent_to TurnStage p) os ≡ turns
  pub of_shows : tally (sent_to ShowStage p) os ≡ shows
  pub of_sweeps : tally (sent_to SweepStage p) os ≡ sweeps

turns_sent : (p n : ℕ) (v : Version) → p < n → SentTo p (to_nodes n (Turn v)) 1 0 0
turns_sent p n v lt = record {
  of_turns = one_each TurnStage p n (Turn v) lt (λ to. refl);
  of_shows = sent_none ShowStage p (to_nodes n (Turn v)) (turn_fills ShowStage n v);
  of_sweeps = sent_none SweepStage p (to_nodes n (Turn v)) (turn_fills SweepStage n v);
}

shows_sent : (p n : ℕ) (v : Version) → p < n → SentTo p (to_nodes n (Show v)) 0 1 0
shows_sent p n v lt = record {
  of_turns = sent_none TurnStage p (to_nodes n (Show v)) (show_fills TurnStage n v);
  of_shows = one_each ShowStage p n (Show v) lt (λ to. refl);
  of_sweeps = sent_none SweepStage p (to_nodes n (Show v)) (show_fills SweepStage n v);
}

sweeps_sent : (p n : ℕ) (v : Version) → p < n → SentTo p (to_nodes n (Sweep v)) 0 0 1
sweeps_sent p n v lt = record {
  of_turns = sent_none TurnStage p (to_nodes n (Sweep v)) (sweep_fills TurnStage n v);
  of_shows = sent_none ShowStage p (to_nodes n (Sweep v)) (sweep_fills ShowStage n v);
  of_sweeps = one_each SweepStage p n (Sweep v) lt (λ to. refl);
}

asks_sent : (p n : ℕ) (v : Version) (k : ℕ) → SentTo p (to_nodes n (AskDone v k)) 0 0 0
asks_sent p n v k = record {
  of_turns = sent_none TurnStage p (to_nodes n (AskDone v k)) (ask_fills TurnStage n v k true);
  of_shows = sent_none ShowStage p (to_nodes n (AskDone v k)) (ask_fills ShowStage n v k true);
  of_sweeps = sent_none SweepStage p (to_nodes n (AskDone v k)) (ask_fills SweepStage n v k true);
}

kept_sent : (p from : ℕ) (row : List ℕ) (c : Coordinator) → SentTo p (keep_done from row c).sent 0 0 0
kept_sent p from row c =
    let none : (g : Stage) → tally (on (token g)) (keep_done from row c).sent ≡ 0 =
    λ g. keep_done_none (token g) from row c (ask_apart c.count.current.version c.count.current.number g) in
    record {
      of_turns = sent_none TurnStage p (keep_done from row c).sent (none TurnStage);
      of_shows = sent_none ShowStage p (keep_done from row c).sent (none ShowStage);
      of_sweeps = sent_none SweepStage p (keep_done from row c).sent (none SweepStage);
    }

-- What a step of the coordinator makes of a node's level.
-- the orders in flight to node p before, t1 to t3, and after, x1 to x3: none are left of a stage whose phase is over
record Flow (p : ℕ) (phase : Phase) (sent : List Outgoing) (t1 t2 t3 x1 x2 x3 : ℕ) : Type 0 where
  pub of_turns : x1 ≡ t1 + tally (sent_to TurnStage p) sent
  pub of_shows : x2 ≡ t2 + tally (sent_to ShowStage p) sent
  pub of_sweeps : x3 ≡ t3 + tally (sent_to SweepStage p) sent
  pub no_turns : within TurnStage phase 1 ≡ 0 → x1 ≡ 0
  pub no_shows : within ShowStage phase 1 ≡ 0 → x2 ≡ 0
  pub no_sweeps : within SweepStage phase 1 ≡ 0 → x3 ≡ 0

-- a step of the coordinator leads from levels to levels, at node p
abbrev Rises : ℕ → Coordinator → Out Coordinator → Type 0
Rises p c out = (update read low t1 t2 t3 x1 x2 x3 : ℕ) → Level c.phase c.update update read low t1 t2 t3
    → Flow p out.state.phase out.sent t1 t2 t3 x1 x2 x3 → Level out.state.phase out.state.update update read low x1 x2 x3

rises_still : (p : ℕ) (c d : Coordinator) (sent : List Outgoing) → d.phase ≡ c.phase → d.update ≡ c.update → SentTo p sent 0 0 0
    → Rises p c (record { state = d; sent = sent; acts = [] })
rises_still p c d sent phase same_update none = λ update read low t1 t2 t3 x1 x2 x3 was flow.
    let same : Level d.phase d.update update read low t1 t2 t3 =
    subst (λ (q : Phase). Level q d.update update read low t1 t2 t3) (sym phase)
    (subst (λ (n : ℕ). Level c.phase n update read low t1 t2 t3) (sym same_update) was) in
    let e1 : x1 ≡ t1 = omega (arith, flow.of_turns, none.of_turns) in
    let e2 : x2 ≡ t2 = omega (arith, flow.of_shows, none.of_shows) in
    let e3 : x3 ≡ t3 = omega (arith, flow.of_sweeps, none.of_sweeps) in
    rw (e1, e2, e3) same

nothing : (p : ℕ) → SentTo p [] 0 0 0
nothing p = record { of_turns = refl; of_shows = refl; of_sweeps = refl }

rises_turning : (p : ℕ) (c : Coordinator) → p < c.nodes → 1 ≤ c.update → c.phase ≡ Idle
    → Rises p c (begin_phase Turning (Turn (version (c.update + 1))) c)
rises_turning p c lt one at = λ update read low t1 t2 t3 x1 x2 x3 was flow.
    let was' : Level Idle c.update update read low t1 t2 t3 = subst (λ (q : Phase). Level q c.update update read low t1 t2 t3) at was in
    let sent = turns_sent p c.nodes (version (c.update + 1)) lt in
    omega (arith, was', one, flow.of_turns, flow.of_shows, flow.of_sweeps, sent.of_turns, sent.of_shows, sent.of_sweeps)

-- a phase goes on to another without an order
abbrev LeadsOn : Phase → Phase → Type 0
LeadsOn Turning (Counting false) = Unit {0}
LeadsOn Showing (Counting true) = Unit {0}
LeadsOn (Counting false) (Counting false) = Unit {0}
LeadsOn (Counting true) (Counting true) = Unit {0}
LeadsOn (Counting false) (Paused false) = Unit {0}
LeadsOn (Counting true) (Paused true) = Unit {0}
LeadsOn (Paused false) (Counting false) = Unit {0}
LeadsOn (Paused true) (Counting true) = Unit {0}
LeadsOn _ _ = ⊥

resumed : (reads : Bool) → LeadsOn (Paused reads) (Counting reads)
resumed true = tt
resumed false = tt

recounted : (reads : Bool) → LeadsOn (Counting reads) (Counting reads)
recounted true = tt
recounted false = tt

paused : (reads : Bool) → LeadsOn (Counting reads) (Paused reads)
paused true = tt
paused false = tt

-- then no order is in flight
level_leads : (from to : Phase) (u update read low : ℕ) → LeadsOn from to → Level from u update read low 0 0 0
    → Level to u update read low 0 0 0
level_leads Turning (Counting false) u update read low leads was = omega (arith, was)
level_leads Showing (Counting true) u update read low leads was = omega (arith, was)
level_leads (Counting false) (Counting false) u update read low leads was = was
level_leads (Counting true) (Counting true) u update read low leads was = was
level_leads (Counting false) (Paused false) u update read low leads was = omega (arith, was)
level_leads (Counting true) (Paused true) u update read low leads was = omega (arith, was)
level_leads (Paused false) (Counting false) u update read low leads was = omega (arith, was)
level_leads (Paused true) (Counting true) u update read low leads was = omega (arith, was)
level_leads from to u update read low leads was = absurd leads

rises_leads : (p : ℕ) (c d : Coordinator) (sent : List Outgoing) (from to : Phase) → c.phase ≡ from → d.phase ≡ to
    → d.update ≡ c.update
    → LeadsOn from to → IsCalm to → SentTo p sent 0 0 0 → Rises p c (record { state = d; sent = sent; acts = [] })
rises_leads p c d sent from to at next same_update leads calm none = λ update read low t1 t2 t3 x1 x2 x3 was flow.
    let over : (g : Stage) → within g d.phase 1 ≡ 0 = λ g. ap (λ (q : Phase). within g q 1) next ∙ calm_within g to 1 calm in
    let z1 : x1 ≡ 0 = flow.no_turns (over TurnStage) in
    let z2 : x2 ≡ 0 = flow.no_shows (over ShowStage) in
    let z3 : x3 ≡ 0 = flow.no_sweeps (over SweepStage) in
    let y1 : t1 ≡ 0 = omega (arith, z1, flow.of_turns) in
    let y2 : t2 ≡ 0 = omega (arith, z2, flow.of_shows) in
    let y3 : t3 ≡ 0 = omega (arith, z3, flow.of_sweeps) in
    let before : Level from c.update update read low 0 0 0 =
    subst (λ (q : Phase). Level q c.update update read low 0 0 0) at (rw (y1, y2, y3) at was) in
    rw (z1, z2, z3, next, same_update) (level_leads from to c.update update read low leads before)

rises_agrees : (p : ℕ) (c : Coordinator) (from : ℕ) (row : List ℕ) (reads : Bool) → p < c.nodes → 1 ≤ c.update
    → c.phase ≡ Counting reads → Rises p c (end_count reads (asked_kept from row c))
rises_agrees p c from row false lt one at = λ update read low t1 t2 t3 x1 x2 x3 was flow.
    let was' : Level (Counting false) c.update update read low t1 t2 t3 = subst (λ (q : Phase). Level q c.update update read low t1 t2 t3) at was in
    let sent = shows_sent p c.nodes (version c.update) lt in
    omega (arith, was', one, flow.of_turns, flow.of_shows, flow.of_sweeps, sent.of_turns, sent.of_shows, sent.of_sweeps)
rises_agrees p c from row true lt one at = λ update read low t1 t2 t3 x1 x2 x3 was flow.
    let was' : Level (Counting true) c.update update read low t1 t2 t3 = subst (λ (q : Phase). Level q c.update update read low t1 t2 t3) at was in
    let sent = sweeps_sent p c.nodes (version c.update) lt in
    omega (arith, was', one, flow.of_turns, flow.of_shows, flow.of_sweeps, sent.of_turns, sent.of_shows, sent.of_sweeps)

rises_finishes : (p : ℕ) (c : Coordinator) → 1 ≤ c.update → c.phase ≡ Sweeping
    → Rises p c (finished c)
rises_finishes p c one at = λ update read low t1 t2 t3 x1 x2 x3 was flow.
    let was' : Level Sweeping c.update update read low t1 t2 t3 = subst (λ (q : Phase). Level q c.update update read low t1 t2 t3) at was in
    omega (
      arith,
      was',
      one,
      flow.of_turns,
      flow.of_shows,
      flow.of_sweeps,
      flow.no_turns refl,
      flow.no_shows refl,
      flow.no_sweeps refl,
    )

rises_goes_on : (p : ℕ) (c : Coordinator) → p < c.nodes → 1 ≤ c.update → c.phase ≡ Sweeping
    → Rises p c (gone_on c)
rises_goes_on p c lt one at = λ update read low t1 t2 t3 x1 x2 x3 was flow.
    let was' : Level Sweeping c.update update read low t1 t2 t3 = subst (λ (q : Phase). Level q c.update update read low t1 t2 t3) at was in
    let sent = turns_sent p c.nodes (version (c.update + 2)) lt in
    omega (
      arith,
      was',
      one,
      flow.of_turns,
      flow.of_shows,
      flow.of_sweeps,
      flow.no_shows refl,
      flow.no_sweeps refl,
      sent.of_turns,
      sent.of_shows,
      sent.of_sweeps,
    )

-- every step of the coordinator does
rises : (p : ℕ) (c : Coordinator) (from : ℕ) (body : Body) (out : Out Coordinator) → p < c.nodes → 1 ≤ c.update
    → Outcome c from body out → Rises p c out
rises p c from body out lt one (Rests phase at ignored is) =
    subst (λ (o : Out Coordinator). Rises p c o) (sym is) (rises_still p c c [] refl refl (nothing p))
rises p c from body out lt one (Queues phase at goes bd is) =
    subst (λ (o : Out Coordinator). Rises p c o) (sym is)
    (rises_still p c (record c { waits = c.waits + 1 }) [] refl refl (nothing p))
rises p c from body out lt one (Flags reads at bd is) =
    subst (λ (o : Out Coordinator). Rises p c o) (sym is) (rises_still p c (record c { count = nudged c.count }) [] refl refl (nothing p))
rises p c from body out lt one (Turns at bd is) =
    subst (λ (o : Out Coordinator). Rises p c o) (sym is) (rises_turning p c lt one at)
rises p c from body out lt one (Acks phase at answer more is) =
    subst (λ (o : Out Coordinator). Rises p c o) (sym is)
    (rises_still p c (record c { acks = c.acks + 1 }) [] refl refl (nothing p))
rises p c from body out lt one (LastTurned v at bd last is) =
    subst (λ (o : Out Coordinator). Rises p c o) (sym is)
    (rises_leads p c (round_begun false (c.count.number + 1) c).state (round_begun false (c.count.number + 1) c).sent Turning
    (Counting false) at refl refl tt tt
    (asks_sent p c.nodes (counted_version false c) (c.count.number + 1)))
rises p c from body out lt one (LastShown v at bd last is) =
    subst (λ (o : Out Coordinator). Rises p c o) (sym is)
    (rises_leads p c (round_begun true (c.count.number + 1) c).state (round_begun true (c.count.number + 1) c).sent Showing
    (Counting true) at refl refl tt tt
    (asks_sent p c.nodes (counted_version true c) (c.count.number + 1)))
rises p c from body out lt one (Finishes v at bd last none is) =
    subst (λ (o : Out Coordinator). Rises p c o) (sym is) (rises_finishes p c one at)
rises p c from body out lt one (GoesOn v at bd last some is) =
    subst (λ (o : Out Coordinator). Rises p c o) (sym is) (rises_goes_on p c lt one at)
rises p c from body out lt one (Resumes reads at bd is) =
    subst (λ (o : Out Coordinator). Rises p c o) (sym is)
    (rises_leads p c (round_begun reads (c.count.number + 1) c).state (round_begun reads (c.count.number + 1) c).sent (Paused reads)
    (Counting reads) at refl refl
    (resumed reads) tt (asks_sent p c.nodes (counted_version reads c) (c.count.number + 1)))
rises p c from body out lt one (KeepsDone reads v k row at bd here is) =
    subst (λ (o : Out Coordinator). Rises p c o) (sym is)
    (rises_still p c (keep_done from row c).state (keep_done from row c).sent refl refl (kept_sent p from row c))
rises p c from body out lt one (KeepsAsked reads v k row takes verdict is) =
    subst (λ (o : Out Coordinator). Rises p c o) (sym is) (rises_still p c (asked_kept from row c) [] refl refl (nothing p))
rises p c from body out lt one (Agrees reads v k row takes verdict is) =
    subst (λ (o : Out Coordinator). Rises p c o) (sym is) (rises_agrees p c from row reads lt one takes.phase)
rises p c from body out lt one (Recounts reads v k row takes verdict flag is) =
    let d = asked_kept from row c in
    subst (λ (o : Out Coordinator). Rises p c o) (sym is)
    (rises_leads p c (round_begun reads (c.count.number + 1) d).state (round_begun reads (c.count.number + 1) d).sent (Counting reads)
    (Counting reads) takes.phase refl refl
    (recounted reads) tt (asks_sent p c.nodes (counted_version reads d) (c.count.number + 1)))
rises p c from body out lt one (Pauses reads v k row takes verdict flag is) =
    subst (λ (o : Out Coordinator). Rises p c o) (sym is)
    (rises_leads p c (in_phase (Paused reads) (asked_kept from row c)) [] (Counting reads) (Paused reads)
    takes.phase refl refl (paused reads) tt (nothing p))

-- What a step of a node makes of its own level, with t1 to t3 orders in flight to it before and x1 to x3 after.
abbrev pub LevelOf : Phase → ℕ → TurnsOf → ℕ → ℕ → ℕ → Type 0
LevelOf phase u turns x1 x2 x3 = Level phase u turns.update.0 turns.read.0 turns.low.0 x1 x2 x3

-- a step of node p that took this letter leads from levels to levels
abbrev Lifts : Phase → ℕ → ℕ → Body → TurnsOf → TurnsOf → Type 0
Lifts phase u p body before after = (t1 t2 t3 x1 x2 x3 : ℕ) → LevelOf phase u before t1 t2 t3
    → x1 + tell TurnStage p p body ≡ t1 → x2 + tell ShowStage p p body ≡ t2 → x3 + tell SweepStage p p body ≡ t3
    → LevelOf phase u after x1 x2 x3

-- its versions stay, and it took no order
lifts_same : (phase : Phase) (u p : ℕ) (body : Body) (turns : TurnsOf) → ((g : Stage) → token g body ≡ 0)
    → Lifts phase u p body turns turns
lifts_same phase u p body turns apart = λ t1 t2 t3 x1 x2 x3 was f1 f2 f3.
    let e1 : x1 ≡ t1 = omega (arith, f1, apart TurnStage, tell_most TurnStage p p body) in
    let e2 : x2 ≡ t2 = omega (arith, f2, apart ShowStage, tell_most ShowStage p p body) in
    let e3 : x3 ≡ t3 = omega (arith, f3, apart SweepStage, tell_most SweepStage p p body) in
    rw (e1, e2, e3) was

-- a subtransaction raises its update version
raised_level : (phase : Phase) (u v : ℕ) (turns : TurnsOf) (x1 x2 x3 : ℕ) (raises : Bool) → LevelOf phase u turns x1 x2 x3
    → (raises ≡ true → (turns.update.0 < v) × (v ≤ most_update phase u)) → LevelOf phase u (raised_if raises v turns) x1 x2 x3
raised_level phase u v turns x1 x2 x3 true was ok = let more = ok refl in omega (arith, was, more.0, more.1)
raised_level phase u v turns x1 x2 x3 false was ok = was

lifts_raised : (phase : Phase) (u p v : ℕ) (body : Body) (turns : TurnsOf) (raises : Bool) → ((g : Stage) → token g body ≡ 0)
    → (raises ≡ true → (turns.update.0 < v) × (v ≤ most_update phase u)) → Lifts phase u p body turns (raised_if raises v turns)
lifts_raised phase u p v body turns raises apart ok = λ t1 t2 t3 x1 x2 x3 was f1 f2 f3.
    raised_level phase u v turns x1 x2 x3 raises (lifts_same phase u p body turns apart t1 t2 t3 x1 x2 x3 was f1 f2 f3) ok

-- it turns to the version of the order
turned_level : (u v : ℕ) (turns : TurnsOf) (t1 x1 x2 x3 : ℕ) → v ≡ u + 1 → LevelOf Turning u turns t1 x2 x3 → x1 + 1 ≡ t1
    → (b : Bool) → nat_lt turns.update.0 v ≡ b → LevelOf Turning u (raised (record { 0 = v }) turns) x1 x2 x3
turned_level u v turns t1 x1 x2 x3 is was flow true lt = rw lt (omega (arith, was, is, flow))
turned_level u v turns t1 x1 x2 x3 is was flow false lt =
    let ge : v ≤ turns.update.0 = grind (arith, nat_tests) in
    rw lt (omega (arith, was, is, flow, ge))

lifts_turned : (u p : ℕ) (v : Version) (turns : TurnsOf) → v.0 ≡ u + 1 → Lifts Turning u p (Turn v) turns (raised v turns)
lifts_turned u p v turns is = λ t1 t2 t3 x1 x2 x3 was f1 f2 f3.
    let e2 : x2 ≡ t2 = omega (arith, f2) in
    let e3 : x3 ≡ t3 = omega (arith, f3) in
    turned_level u v.0 turns t1 x1 x2 x3 is (rw (e2, e3) was) (omega (arith, f1, one_if_same p))
    (nat_lt turns.update.0 v.0) refl

lifts_shown : (u p : ℕ) (v : Version) (turns : TurnsOf) → v.0 ≡ u → Lifts Showing u p (Show v) turns (record turns { read = v })
lifts_shown u p v turns is = λ t1 t2 t3 x1 x2 x3 was f1 f2 f3. omega (arith, was, is, f1, f2, f3, one_if_same p)

lifts_swept : (u p : ℕ) (v : Version) (turns : TurnsOf) → v.0 ≡ u
    → Lifts Sweeping u p (Sweep v) turns (record turns { low = v })
lifts_swept u p v turns is = λ t1 t2 t3 x1 x2 x3 was f1 f2 f3. omega (arith, was, is, f1, f2, f3, one_if_same p)

-- Every node's level after an entry.
-- a number that counts nothing
abbrev never : Body → ℕ
never body = 0

tell_order : (g : Stage) (p to : ℕ) (body : Body) → tell g p to body ≤ order g body
tell_order TurnStage p to (Turn v) = one_if_most (to == p)
tell_order TurnStage p to _ = omega arith
tell_order ShowStage p to (Show v) = one_if_most (to == p)
tell_order ShowStage p to _ = omega arith
tell_order SweepStage p to (Sweep v) = one_if_most (to == p)
tell_order SweepStage p to _ = omega arith

no_trees : NoTrees never
no_trees = record {
  root = λ t. refl;
  sub = λ t k v. refl;
  done = λ t k v notice. refl;
  reply = λ t v answer. refl;
  wake = λ t k. refl;
  decide = λ t v commit. refl;
  decided = λ t v. refl;
  release = λ t. refl;
}

orders_apart : (g : Stage) → Passes (order g) never
orders_apart TurnStage = record {
  sent = orders_no_trees TurnStage;
  took = no_trees;
  turned = λ v. refl;
  shown = λ v. refl;
  swept = λ v. refl;
  done_row = λ v k row. refl;
  asked_row = λ v k row. refl;
}
orders_apart ShowStage = record {
  sent = orders_no_trees ShowStage;
  took = no_trees;
  turned = λ v. refl;
  shown = λ v. refl;
  swept = λ v. refl;
  done_row = λ v k row. refl;
  asked_row = λ v k row. refl;
}
orders_apart SweepStage = record {
  sent = orders_no_trees SweepStage;
  took = no_trees;
  turned = λ v. refl;
  shown = λ v. refl;
  swept = λ v. refl;
  done_row = λ v k row. refl;
  asked_row = λ v k row. refl;
}

-- a node sends no orders
node_orders : (s : ScriptData) (past : List Entry) (e : Entry) → e.actor.0 < s.nodes → Progress s past e → (g : Stage) (q : ℕ)
    → tally (sent_to g q) e.sent ≡ 0
node_orders s past e node next g q =
    omega (
      arith,
      node_passes (order g) never (orders_apart g) s past e node next,
      tally_most (sent_to g q) (on (order g)) e.sent (λ o. tell_order g q o.to.0 o.body),
    )

-- the level of node p where it has these versions and the coordinator is in this state
abbrev LevelWith : Coordinator → TurnsOf → ScriptData → List Entry → ℕ → Type 0
LevelWith c turns s past p =
    LevelOf c.phase c.update turns (tells s past TurnStage p) (tells s past ShowStage p) (tells s past SweepStage p)

-- a node that another actor's entry sends no order
level_stays : (s : ScriptData) (past : List Entry) (e : Entry) (q : ℕ) → MayFollow s past e → e.actor.0 ≢ s.nodes
    → e.actor.0 ≢ q → ((g : Stage) → tally (sent_to g q) e.sent ≡ 0) → LevelAt s past q → LevelAt s (e ∷ past) q
level_stays s past e q m away other none was =
    let same : (g : Stage) → tells s (e ∷ past) g q ≡ tells s past g q =
    λ g. omega (arith, tell_flow g s past e q m, tell_other g q e.actor.0 e.took.body other, none g) in
    let here : LevelWith (coordinator_in s past) (node_in s past q).turns s (e ∷ past) q =
    rw (same TurnStage, same ShowStage, same SweepStage) was in
    let there : LevelWith (coordinator_in s past) (node_in s (e ∷ past) q).turns s (e ∷ past) q =
    subst (λ (st : Node). LevelWith (coordinator_in s past) st.turns s (e ∷ past) q) (sym (node_kept s past e q other)) here in
    subst (λ (c : Coordinator). LevelWith c (node_in s (e ∷ past) q).turns s (e ∷ past) q)
    (sym (coordinator_kept s past e away)) there

-- the same of an entry of a run, after which node p has these versions
abbrev LiftsAt : ScriptData → List Entry → Entry → ℕ → TurnsOf → Type 0
LiftsAt s past e p turns =
    Lifts (coordinator_in s past).phase (coordinator_in s past).update p e.took.body (node_in s past p).turns turns

-- the node that took a letter
level_own : (s : ScriptData) (past : List Entry) (e : Entry) (p : ℕ) (turns : TurnsOf) → MayFollow s past e
    → (node_in s (e ∷ past) p).turns ≡ turns → e.actor.0 ≡ p
    → p < s.nodes → ((g : Stage) → tally (sent_to g p) e.sent ≡ 0) → LevelAt s past p → LiftsAt s past e p turns
    → LevelAt s (e ∷ past) p
level_own s past e p turns m is at lt none was lifts =
    let flow : (g : Stage) → tells s (e ∷ past) g p + tell g p p e.took.body ≡ tells s past g p =
    λ g. omega (arith, tell_flow g s past e p m, none g, ap (λ (n : ℕ). tell g p n e.took.body) at) in
    let own : LevelWith (coordinator_in s past) turns s (e ∷ past) p =
    lifts (tells s past TurnStage p) (tells s past ShowStage p) (tells s past SweepStage p)
    (tells s (e ∷ past) TurnStage p) (tells s (e ∷ past) ShowStage p) (tells s (e ∷ past) SweepStage p) was
    (flow TurnStage) (flow ShowStage) (flow SweepStage) in
    let there : LevelWith (coordinator_in s past) (node_in s (e ∷ past) p).turns s (e ∷ past) p =
    subst (λ (x : TurnsOf). LevelWith (coordinator_in s past) x s (e ∷ past) p) (sym is) own in
    subst (λ (c : Coordinator). LevelWith c (node_in s (e ∷ past) p).turns s (e ∷ past) p)
    (sym (coordinator_kept s past e (omega (arith, at, lt)))) there

level_made_by : (s : ScriptData) (past : List Entry) (e : Entry) (p : ℕ) (turns : TurnsOf) → MayFollow s past e
    → (node_in s (e ∷ past) p).turns ≡ turns → e.actor.0 ≡ p → p < s.nodes → ((g : Stage) (q : ℕ) → tally (sent_to g q) e.sent ≡ 0)
    → ((q : ℕ) → q < s.nodes → LevelAt s past q)
    → LiftsAt s past e p turns → (q : ℕ) → q < s.nodes → (p ≡ q) ⊎ (p ≢ q) → LevelAt s (e ∷ past) q
level_made_by s past e p turns m made at lt none was lifts q here (inl is) =
    subst (λ (n : ℕ). LevelAt s (e ∷ past) n) is (level_own s past e p turns m made at lt (λ g. none g p) (was p lt) lifts)
level_made_by s past e p turns m made at lt none was lifts q here (inr ne) =
    level_stays s past e q m (omega (arith, at, lt)) (λ is. ne (sym at ∙ is)) (λ g. none g q) (was q here)

-- every node where one goes on
level_made : (s : ScriptData) (past : List Entry) (e : Entry) (p : ℕ) (turns : TurnsOf) → MayFollow s past e
    → (node_in s (e ∷ past) p).turns ≡ turns
    → e.actor.0 ≡ p → p < s.nodes → Progress s past e → ((q : ℕ) → q < s.nodes → LevelAt s past q) → LiftsAt s past e p turns
    → (q : ℕ) → q < s.nodes → LevelAt s (e ∷ past) q
level_made s past e p turns m made at lt next was lifts q here =
    level_made_by s past e p turns m made at lt (node_orders s past e (omega (arith, at, lt)) next) was lifts q here
    (cases_eq p q)

-- the client
level_by_client : (s : ScriptData) (past : List Entry) (e : Entry) (c : Client) (first : List Outgoing) → MayFollow s past e
    → e.actor.0 ≡ client_of s → MadeByClient s past e (submit s c first) → ((g : Stage) → tally (on (token g)) first ≡ 0)
    → ((q : ℕ) → q < s.nodes → LevelAt s past q) → (q : ℕ) → q < s.nodes → LevelAt s (e ∷ past) q
level_by_client s past e c first m at made quiet was q here =
    let sent : (g : Stage) → tally (on (token g)) e.sent ≡ 0 =
    λ g. ap (λ (os : List Outgoing). tally (on (token g)) os) made.sent
    ∙ submit_none (token g) s c first (quiet g) (token_rows g) in
    level_stays s past e q m (omega (arith, at)) (omega (arith, at, here)) (λ g. sent_none g q e.sent (sent g)) (was q here)

-- the coordinator
level_by_coordinator : (s : ScriptData) (past : List Entry) (e : Entry) → IsLawful s → IsStepRun s (e ∷ past)
    → AllApt s (e ∷ past)
    → e.actor.0 ≡ s.nodes → MadeByCoordinator s past e → Levels s past → (q : ℕ) → q < s.nodes → LevelAt s (e ∷ past) q
level_by_coordinator s past e laws run apt at made was q here =
    let c = coordinator_in s past in
    let out = coordinator_row c e.took.from.0 e.took.body in
    let sent : (g : Stage) → tally (sent_to g q) e.sent ≡ tally (sent_to g q) out.sent =
    λ g. ap (λ (os : List Outgoing). tally (sent_to g q) os) made.sent in
    let flow : (g : Stage) → tells s (e ∷ past) g q ≡ tells s past g q + tally (sent_to g q) out.sent =
    λ g. omega (arith, tell_flow g s past e q run.0, tell_other g q e.actor.0 e.took.body (omega (arith, at, here)), sent g) in
    let over : (g : Stage) → within g out.state.phase 1 ≡ 0 → tells s (e ∷ past) g q ≡ 0 =
    λ g none. tells_none g s (e ∷ past) q laws run apt (ap (λ (d : Coordinator). within g d.phase 1) made.state ∙ none) in
    let after : LevelWith out.state (node_in s past q).turns s (e ∷ past) q =
    rises q c e.took.from.0 e.took.body out (omega (arith, here, coordinator_nodes s past)) was.first
    (outcome_in s past e laws run.1 apt.1)
    (node_in s past q).turns.update.0 (node_in s past q).turns.read.0 (node_in s past q).turns.low.0
    (tells s past TurnStage q) (tells s past ShowStage q) (tells s past SweepStage q)
    (tells s (e ∷ past) TurnStage q) (tells s (e ∷ past) ShowStage q) (tells s (e ∷ past) SweepStage q) (was.node q here)
    (record {
      of_turns = flow TurnStage;
      of_shows = flow ShowStage;
      of_sweeps = flow SweepStage;
      no_turns = over TurnStage;
      no_shows = over ShowStage;
      no_sweeps = over SweepStage;
    }) in
    let there : LevelWith out.state (node_in s (e ∷ past) q).turns s (e ∷ past) q =
    subst (λ (st : Node). LevelWith out.state st.turns s (e ∷ past) q)
    (sym (node_kept s past e q (omega (arith, at, here)))) after in
    subst (λ (d : Coordinator). LevelWith d (node_in s (e ∷ past) q).turns s (e ∷ past) q) (sym made.state) there

-- an order that is obeyed
level_obeyed : (s : ScriptData) (past : List Entry) (e : Entry) (p : ℕ) (out : Out Node) → Levels s past
    → PhaseFor e.took.body (coordinator_in s past).phase
    → LevelBody s (coordinator_in s past).phase (coordinator_in s past).update e.took.body
    → Order s (node_in s past p) e.took.body out → LiftsAt s past e p out.state.turns
level_obeyed s past e p out was due right (TurnsTo v bd is) =
    let u = (coordinator_in s past).update in
    let before = (node_in s past p).turns in
    let phase : (coordinator_in s past).phase ≡ Turning =
    subst (λ (b : Body). PhaseFor b (coordinator_in s past).phase) bd due in
    let version : v.0 ≡ u + 1 = subst (λ (b : Body). LevelBody s (coordinator_in s past).phase u b) bd right in
    let lifts : Lifts (coordinator_in s past).phase u p (Turn v) before (raised v before) =
    subst (λ (q : Phase). Lifts q u p (Turn v) before (raised v before)) (sym phase) (lifts_turned u p v before version) in
    let turned : Lifts (coordinator_in s past).phase u p e.took.body before (raised v before) =
    subst (λ (b : Body). Lifts (coordinator_in s past).phase u p b before (raised v before)) (sym bd) lifts in
    subst (λ (o : Out Node). Lifts (coordinator_in s past).phase u p e.took.body before o.state.turns) (sym is) turned
level_obeyed s past e p out was due right (ShowsTo v bd is) =
    let u = (coordinator_in s past).update in
    let before = (node_in s past p).turns in
    let after : TurnsOf = record before { read = v } in
    let phase : (coordinator_in s past).phase ≡ Showing =
    subst (λ (b : Body). PhaseFor b (coordinator_in s past).phase) bd due in
    let version : v.0 ≡ u = subst (λ (b : Body). LevelBody s (coordinator_in s past).phase u b) bd right in
    let lifts : Lifts (coordinator_in s past).phase u p (Show v) before after =
    subst (λ (q : Phase). Lifts q u p (Show v) before after) (sym phase) (lifts_shown u p v before version) in
    let shown : Lifts (coordinator_in s past).phase u p e.took.body before after =
    subst (λ (b : Body). Lifts (coordinator_in s past).phase u p b before after) (sym bd) lifts in
    subst (λ (o : Out Node). Lifts (coordinator_in s past).phase u p e.took.body before o.state.turns) (sym is) shown
level_obeyed s past e p out was due right (SweepsTo v bd is) =
    let u = (coordinator_in s past).update in
    let before = (node_in s past p).turns in
    let after : TurnsOf = record before { low = v } in
    let phase : (coordinator_in s past).phase ≡ Sweeping =
    subst (λ (b : Body). PhaseFor b (coordinator_in s past).phase) bd due in
    let version : v.0 ≡ u = subst (λ (b : Body). LevelBody s (coordinator_in s past).phase u b) bd right in
    let lifts : Lifts (coordinator_in s past).phase u p (Sweep v) before after =
    subst (λ (q : Phase). Lifts q u p (Sweep v) before after) (sym phase) (lifts_swept u p v before version) in
    let swept : Lifts (coordinator_in s past).phase u p e.took.body before after =
    subst (λ (b : Body). Lifts (coordinator_in s past).phase u p b before after) (sym bd) lifts in
    subst (λ (o : Out Node). Lifts (coordinator_in s past).phase u p e.took.body before o.state.turns) (sym is) swept
level_obeyed s past e p out was due right (TellsDone v k bd is) =
    subst (λ (o : Out Node). LiftsAt s past e p o.state.turns) (sym is)
    (lifts_same (coordinator_in s past).phase (coordinator_in s past).update p e.took.body (node_in s past p).turns
    (λ g. ap (token g) bd ∙ ask_done_apart v k g))
level_obeyed s past e p out was due right (TellsAsked v k bd is) =
    subst (λ (o : Out Node). LiftsAt s past e p o.state.turns) (sym is)
    (lifts_same (coordinator_in s past).phase (coordinator_in s past).update p e.took.body (node_in s past p).turns
    (λ g. ap (token g) bd ∙ ask_apart v k g))

-- a letter that raises its node's update version is of a version that the node may come to
raises_right : (s : ScriptData) (phase : Phase) (u v : ℕ) (body : Body) → IsRaiser s v body → LevelBody s phase u body
    → v ≤ most_update phase u
raises_right s phase u v (SubLetter t k w) raiser right = let most = right raiser.1 in omega (arith, most, raiser.0)
raises_right s phase u v _ raiser right = absurd raiser

-- every node's level after an entry
pub level_next : (s : ScriptData) (past : List Entry) (e : Entry) → IsLawful s → IsStepRun s (e ∷ past)
    → AllApt s (e ∷ past) → Levels s past → Progress s past e → (q : ℕ) → q < s.nodes → LevelAt s (e ∷ past) q
level_next s past e laws run apt was (Begins bd at made) =
    level_by_client s past e (client_in s past) [] run.0 at made (λ g. refl) was.node
level_next s past e laws run apt was (Hears t v answer bd at lt made) =
    level_by_client s past e (with_answer t.0 (client_in s past)) (nudge s ∷ []) run.0 at made
    (λ g. omega (arith, nudge_apart g)) was.node
level_next s past e laws run apt was (Ends v bd at made) =
    level_by_client s past e (with_end s v (client_in s past)) [] run.0 at made (λ g. refl) was.node
level_next s past e laws run apt was (Coordinates tells at made) = level_by_coordinator s past e laws run apt at made was
level_next s past e laws run apt was (Works p r work) =
    let c = coordinator_in s past in
    let b = work.brings in
    let right : LevelBody s c.phase c.update r.body =
    each_of_brought (λ (l : Letter). LevelBody s c.phase c.update l.body) s past e p r b run.0 was.letters in
    level_made s past e p (raised_if work.turns.raises work.turns.version (node_in s past p).turns) run.0 work.turns.turns b.at b.below
    (Works p r work) was.node
    (lifts_raised c.phase c.update p work.turns.version e.took.body (node_in s past p).turns work.turns.raises
    (λ g. none_of_trees (token g) e.took.body (token_passes g).took work.took)
    (λ is. (work.turns.higher is, raises_right s c.phase c.update work.turns.version r.body (work.turns.by is) right)))
level_next s past e laws run apt was (Obeys p out more at lt order state sent woken) =
    let c = coordinator_in s past in
    level_made s past e p out.state.turns run.0 (ap (λ (st : Node). st.turns) state) at lt
    (Obeys p out more at lt order state sent woken) was.node
    (level_obeyed s past e p out was (phase_for s past e e.took.body laws run.1 apt.1 run.0 refl)
    (each_took (λ (l : Letter). LevelBody s c.phase c.update l.body) s past e run.0 was.letters) order)
