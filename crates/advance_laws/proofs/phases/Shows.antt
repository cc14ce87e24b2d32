-- A version is shown, and swept to, only if it is quiescent.
use Rattle.std.proofs.Common.{if◌then◌else◌, ◌≡◌, ℕ, ◌+◌, ◌-◌, ◌<◌, ◌&&◌, not, Bool, true, false, List, [], ◌∷◌, refl, sym, subst, arith}
use Rattle.letter_types.specs.declared.bodies.Body.{Body}
use Rattle.letter_types.specs.declared.bodies.Body.TheVariants.{Turn, Show, Sweep, AskDone, AskAsked, Order}
use Rattle.letter_types.specs.declared.entries.Entry.{Entry}
use Rattle.letter_types.specs.declared.entries.Outgoing.{Outgoing}
use Rattle.letter_types.specs.Steps.{Out}
use Rattle.tv_base.specs.declared.numbers.Version.{Version}
use Rattle.phase_out.specs.Rounds.{all_in}
use Rattle.tx_trees.specs.ScriptData.{ScriptData}
use Rattle.world_model.specs.Coordinator.{Coordinator, version, to_nodes, counted_version, end_count, coordinator_row}
use Rattle.world_model.specs.declared.phase.Phase.{Phase}
use Rattle.world_model.specs.declared.phase.Phase.TheVariants.{Counting}
use Rattle.world_model.specs.Counts.{Each}
use Rattle.world_model.specs.Runs.{coordinator_in, node_in, IsStepRun}
use Rattle.world_model.specs.AllApt.{AllApt}
use Rattle.world_model.proofs.Every.{each_map}
use Rattle.advance_laws.proofs.counting.KeptRows.{with_done}
use Rattle.advance_laws.proofs.governed.Lawful.{IsLawful}
use Rattle.world_model.proofs.Orders.{to_nodes_each}
use Rattle.advance_laws.proofs.phases.Levels.{Level, Levels, levels, tells}
use Rattle.advance_laws.proofs.phases.Outcomes.{Outcome, Rests, Queues, Flags, Turns, Acks, LastTurned, LastShown, Finishes, GoesOn, Resumes, KeepsDone, KeepsAsked, Agrees, Recounts, Pauses, asked_kept}
use Rattle.advance_laws.proofs.phases.Progress.{coordinates}
use Rattle.advance_laws.proofs.phases.Small.{outcome_in}
use Rattle.advance_laws.proofs.recovery.Tokens.{TurnStage, ShowStage, SweepStage}
use Rattle.advance_laws.specs.Quiet.{IsGivenInQuiet, IsSilent}
use Rattle.advance_laws.proofs.counting.Rounds.{agrees_silent}
use Rattle.advance_laws.proofs.right.Sending.{IsApart, Sending, SendsApart, SendsDone, SendsAsked, SendsOrders, sending}

-- all that is sent is given in quiet
abbrev pub Given : ScriptData → List Entry → List Outgoing → Type 0
Given s past os = Each (λ (o : Outgoing). IsGivenInQuiet s past o.body) os

given_nodes : (s : ScriptData) (past : List Entry) (n : ℕ) (body : Body) → IsGivenInQuiet s past body
    → Given s past (to_nodes n body)
given_nodes s past n body given = to_nodes_each (λ to b. IsGivenInQuiet s past b) n body (λ to lt. given)

given_if : (s : ScriptData) (past : List Entry) (n : ℕ) (v : Version) (k : ℕ) (b : Bool)
    → Given s past (if b then to_nodes n (AskAsked v k) else [])
given_if s past n v k true = given_nodes s past n (AskAsked v k) tt
given_if s past n v k false = tt

-- the levels of node p in a phase
abbrev LevelIn : ScriptData → List Entry → ℕ → Phase → Type 0
LevelIn s past p phase =
    Level phase (coordinator_in s past).update
    (node_in s past p).turns.update.0 (node_in s past p).turns.read.0 (node_in s past p).turns.low.0
    (tells s past TurnStage p) (tells s past ShowStage p) (tells s past SweepStage p)

level_in : (s : ScriptData) (past : List Entry) (p : ℕ) (phase : Phase) → Levels s past → p < s.nodes
    → (coordinator_in s past).phase ≡ phase
    → LevelIn s past p phase
level_in s past p phase all lt at = subst (LevelIn s past p) at (all.node p lt)

-- a count ends in quiet
end_given : (s : ScriptData) (past : List Entry) (reads : Bool) (d : Coordinator) → Levels s past
    → d.update ≡ (coordinator_in s past).update
    → (coordinator_in s past).phase ≡ Counting reads → IsSilent s past (counted_version reads (coordinator_in s past)).0
    → Given s past (end_count reads d).sent
end_given s past false d all up at silent =
    given_nodes s past d.nodes (Show (version d.update)) (record {
      silent = subst (IsSilent s past) (sym up) silent;
      above = λ p lt. let level = level_in s past p (Counting false) all lt at in omega (arith, level, up);
    })
end_given s past true d all up at silent =
    given_nodes s past d.nodes (Sweep (version d.update)) (record {
      silent = subst (λ (n : ℕ). IsSilent s past (n - 1)) (sym up) silent;
      above = λ p lt. let level = level_in s past p (Counting true) all lt at in omega (arith, level, up);
    })

given_by : (s : ScriptData) (past : List Entry) (e : Entry) (out : Out Coordinator) → IsLawful s → IsStepRun s (e ∷ past)
    → AllApt s past
    → Outcome (coordinator_in s past) e.took.from.0 e.took.body out → Given s past out.sent
given_by s past e out laws run apt (Rests phase at ignored is) =
    subst (λ (o : Out Coordinator). Given s past o.sent) (sym is) tt
given_by s past e out laws run apt (Queues phase at goes bd is) =
    subst (λ (o : Out Coordinator). Given s past o.sent) (sym is) tt
given_by s past e out laws run apt (Flags reads at bd is) =
    subst (λ (o : Out Coordinator). Given s past o.sent) (sym is) tt
given_by s past e out laws run apt (Acks phase at answer more is) =
    subst (λ (o : Out Coordinator). Given s past o.sent) (sym is) tt
given_by s past e out laws run apt (Turns at bd is) =
    let c = coordinator_in s past in
    subst (λ (o : Out Coordinator). Given s past o.sent) (sym is)
    (given_nodes s past c.nodes (Turn (version (c.update + 1))) tt)
given_by s past e out laws run apt (LastTurned v at bd last is) =
    let c = coordinator_in s past in
    subst (λ (o : Out Coordinator). Given s past o.sent) (sym is)
    (given_nodes s past c.nodes (AskDone (counted_version false c) (c.count.number + 1)) tt)
given_by s past e out laws run apt (LastShown v at bd last is) =
    let c = coordinator_in s past in
    subst (λ (o : Out Coordinator). Given s past o.sent) (sym is)
    (given_nodes s past c.nodes (AskDone (counted_version true c) (c.count.number + 1)) tt)
given_by s past e out laws run apt (Finishes v at bd last none is) =
    subst (λ (o : Out Coordinator). Given s past o.sent) (sym is) (tt, tt)
given_by s past e out laws run apt (GoesOn v at bd last some is) =
    let c = coordinator_in s past in
    subst (λ (o : Out Coordinator). Given s past o.sent) (sym is)
    (tt, given_nodes s past c.nodes (Turn (version (c.update + 2))) tt)
given_by s past e out laws run apt (Resumes reads at bd is) =
    let c = coordinator_in s past in
    subst (λ (o : Out Coordinator). Given s past o.sent) (sym is)
    (given_nodes s past c.nodes (AskDone (counted_version reads c) (c.count.number + 1)) tt)
given_by s past e out laws run apt (KeepsDone reads v k row at bd here is) =
    let c = coordinator_in s past in
    subst (λ (o : Out Coordinator). Given s past o.sent) (sym is)
    (given_if s past c.nodes c.count.current.version c.count.current.number
    (all_in (with_done e.took.from.0 row c.count.current).dones && not (all_in c.count.current.dones)))
given_by s past e out laws run apt (KeepsAsked reads v k row takes verdict is) =
    subst (λ (o : Out Coordinator). Given s past o.sent) (sym is) tt
given_by s past e out laws run apt (Agrees reads v k row takes verdict is) =
    subst (λ (o : Out Coordinator). Given s past o.sent) (sym is)
    (end_given s past reads (asked_kept e.took.from.0 row (coordinator_in s past)) (levels s past laws run.1 apt)
    refl takes.phase
    (agrees_silent s past e reads v k row laws run apt takes verdict))
given_by s past e out laws run apt (Recounts reads v k row takes verdict flag is) =
    let c = coordinator_in s past in
    subst (λ (o : Out Coordinator). Given s past o.sent) (sym is)
    (given_nodes s past c.nodes (AskDone (counted_version reads c) (c.count.number + 1)) tt)
given_by s past e out laws run apt (Pauses reads v k row takes verdict flag is) =
    subst (λ (o : Out Coordinator). Given s past o.sent) (sym is) tt

apart_given : (s : ScriptData) (past : List Entry) (body : Body) → IsApart body → IsGivenInQuiet s past body
apart_given s past (Show v) apart = absurd apart
apart_given s past (Sweep v) apart = absurd apart
apart_given s past (Order e what v) apart = absurd apart
apart_given s past _ apart = tt

given_next : (s : ScriptData) (past : List Entry) (e : Entry) → IsLawful s → IsStepRun s (e ∷ past) → AllApt s past
    → Sending s past e
    → Given s past e.sent
given_next s past e laws run apt (SendsApart away plain all) =
    each_map (λ (o : Outgoing). IsApart o.body) (λ (o : Outgoing). IsGivenInQuiet s past o.body) e.sent
    (λ o apart. apart_given s past o.body apart) all
given_next s past e laws run apt (SendsDone v k lt bd sent same) = subst (Given s past) (sym sent) (tt, tt)
given_next s past e laws run apt (SendsAsked v k lt bd sent same) = subst (Given s past) (sym sent) (tt, tt)
given_next s past e laws run apt (SendsOrders at rowless) =
    subst (Given s past) (sym (coordinates s past e laws.keeps run.0 at).sent)
    (given_by s past e (coordinator_row (coordinator_in s past) e.took.from.0 e.took.body) laws run apt
    (outcome_in s past e laws run.1 apt))

-- in every run
pub given_in_quiet : (s : ScriptData) (past : List Entry) (e : Entry) → IsLawful s → IsStepRun s (e ∷ past)
    → AllApt s (e ∷ past)
    → Each (λ (o : Outgoing). IsGivenInQuiet s past o.body) e.sent
given_in_quiet s past e laws run apt = given_next s past e laws run apt.1 (sending s past e laws.trees run apt)
