-- The coordinator's count: each of its entries is a step of a count, and the version that it counts is open, whatever was
-- given.
use Rattle.std.proofs.Common.{◌≡◌, ◌≢◌, ◌⊎◌, inl, inr, ℕ, ◌+◌, ◌<◌, Bool, true, false, List, [], ◌∷◌, refl, sym, ap, subst, ◌∙◌, arith}
use Rattle.std.proofs.lemmas.Bool.{cases_eq}
use Rattle.letter_types.specs.declared.bodies.Body.{Body}
use Rattle.letter_types.specs.declared.bodies.Body.TheVariants.{Nudge, Advance, Turn, Show, Sweep, Turned, Shown, AskDone, DoneRow, AskedRow}
use Rattle.letter_types.specs.declared.entries.Entry.{Entry}
use Rattle.letter_types.specs.declared.entries.Outgoing.{Outgoing}
use Rattle.letter_types.specs.Steps.{Out, still}
use Rattle.tv_base.specs.declared.numbers.Version.{Version}
use Rattle.tx_trees.specs.ScriptData.{ScriptData}
use Rattle.world_model.specs.AllApt.{AllApt}
use Rattle.world_model.specs.Coordinator.{Coordinator, coordinator_row, counted_version, end_count, to_nodes, version}
use Rattle.world_model.specs.declared.phase.Phase.{Phase}
use Rattle.world_model.specs.declared.phase.Phase.TheVariants.{Idle, Turning, Counting, Paused, Showing, Sweeping}
use Rattle.world_model.specs.Runs.{coordinator_in, node_in, IsStepRun}
use Rattle.world_model.proofs.Every.{coordinator_kept}
use Rattle.world_model.proofs.Orders.{coordinator_nodes, to_nodes_each}
use Rattle.advance_laws.proofs.counting.Counting.{Count, CountStep, Denies, Holds, IsCounting, IsNudged, InRound, AfterRound, NoRound, Lasts, Leaves, NoDone, NoNudge, Open, Pace, Begins, Refused, TakesDone, TakesRequests, TakesRow, asks_after, begun, Premise}
use Rattle.advance_laws.proofs.governed.Lawful.{IsLawful}
use Rattle.advance_laws.proofs.phases.Levels.{Level, Levels, levels, tells}
use Rattle.advance_laws.proofs.phases.Outcomes.{Ignored, IsAnswer, Outcome, Rests, Queues, Flags, Turns, Acks, LastTurned, LastShown, Finishes, GoesOn, Resumes, KeepsDone, KeepsAsked, Agrees, Recounts, Pauses, TakesAsked, asked_kept, round_begun}
use Rattle.advance_laws.proofs.phases.Progress.{coordinates}
use Rattle.advance_laws.proofs.right.Sending.{AllPlain, IsPlain}
use Rattle.advance_laws.proofs.phases.Small.{outcome_in}
use Rattle.advance_laws.proofs.recovery.Tokens.{TurnStage, ShowStage, SweepStage}

-- a phase counts, or pauses, or neither
abbrev pub pace_of : Phase → Pace
pace_of (Counting reads) = InRound reads
pace_of (Paused reads) = AfterRound
pace_of _ = NoRound

-- what a coordinator knows of its count
abbrev pub count_of : Coordinator → Count
count_of c = record { round = c.count.current; number = c.count.number; pace = pace_of c.phase; flag = c.count.flag }

-- the coordinator's count after a past
abbrev pub count_in : ScriptData → List Entry → Count
count_in s past = count_of (coordinator_in s past)

-- the premise of a count whose versions are always open
abbrev pub Always : Premise
Always reads v past = Unit {0}

pub counting_is : (phase : Phase) (reads : Bool) → pace_of phase ≡ InRound reads → phase ≡ Counting reads
counting_is (Counting r) reads is = let same : r ≡ reads = cc is in ap Counting same
counting_is (Paused r) reads is = absurd (cc is)
counting_is Idle reads is = absurd (cc is)
counting_is Turning reads is = absurd (cc is)
counting_is Showing reads is = absurd (cc is)
counting_is Sweeping reads is = absurd (cc is)

-- 1. Each outcome is a step of the count.
abbrev Step : ℕ → Coordinator → ℕ → Body → Out Coordinator → Type 0
Step n c from body out = CountStep n (count_of c) (count_of out.state) from body out.sent

plain_nodes : (n : ℕ) (body : Body) → IsPlain body → AllPlain (to_nodes n body)
plain_nodes n body plain = to_nodes_each (λ to b. IsPlain b) n body (λ to lt. plain)

leaves_by : (n : ℕ) (c : Coordinator) (from : ℕ) (body : Body) (out next : Out Coordinator) → out ≡ next → pace_of next.state.phase ≡ NoRound
    → next.state.count.number ≡ c.count.number → AllPlain next.sent → Step n c from body out
leaves_by n c from body out next is none same plain =
    subst (λ (o : Out Coordinator). Step n c from body o) (sym is) (Leaves none (omega (arith, same)) plain)

-- a letter that changes nothing of a count in this phase
abbrev Passes : Body → Phase → ℕ → Coordinator → Type 0
Passes body (Counting reads) from c = NoNudge body × Refused body from c.count.current
Passes body (Paused reads) from c = NoNudge body
Passes body _ from c = Unit {0}

rests_apart : (n : ℕ) (c : Coordinator) (from : ℕ) (body : Body) (out : Out Coordinator) (d : Coordinator) → out ≡ still d → count_of d ≡ count_of c
    → pace_of c.phase ≡ NoRound → Step n c from body out
rests_apart n c from body out d is same none =
    leaves_by n c from body out (still d) is (ap (λ (x : Count). x.pace) same ∙ none) (ap (λ (x : Count). x.number) same) tt

rests_step : (n : ℕ) (c : Coordinator) (from : ℕ) (body : Body) (out : Out Coordinator) (d : Coordinator) (phase : Phase) → c.phase ≡ phase
    → Passes body phase from c → count_of d ≡ count_of c → out ≡ still d → Step n c from body out
rests_step n c from body out d (Counting reads) at ok same is =
    Holds reads (ap pace_of at) ok.0 ok.1 (ap (λ (o : Out Coordinator). count_of o.state) is ∙ same)
    (ap (λ (o : Out Coordinator). o.sent) is)
rests_step n c from body out d (Paused reads) at ok same is =
    Lasts (ap pace_of at) ok (ap (λ (o : Out Coordinator). count_of o.state) is ∙ same) (ap (λ (o : Out Coordinator). o.sent) is)
rests_step n c from body out d Idle at ok same is = rests_apart n c from body out d is same (ap pace_of at)
rests_step n c from body out d Turning at ok same is = rests_apart n c from body out d is same (ap pace_of at)
rests_step n c from body out d Showing at ok same is = rests_apart n c from body out d is same (ap pace_of at)
rests_step n c from body out d Sweeping at ok same is = rests_apart n c from body out d is same (ap pace_of at)

ignored_counting : (body : Body) (reads : Bool) (from : ℕ) (c : Coordinator) → Ignored body (Counting reads) from c
    → NoNudge body × Refused body from c.count.current
ignored_counting (DoneRow v k row) reads from c ignored = (tt, ignored)
ignored_counting (AskedRow v k row) reads from c ignored = (tt, ignored)
ignored_counting Nudge reads from c ignored = absurd ignored
ignored_counting _ reads from c ignored = (tt, tt)

ignored_paused : (body : Body) (reads : Bool) (from : ℕ) (c : Coordinator) → Ignored body (Paused reads) from c → NoNudge body
ignored_paused Nudge reads from c ignored = absurd ignored
ignored_paused _ reads from c ignored = tt

ignored_passes : (body : Body) (phase : Phase) (from : ℕ) (c : Coordinator) → Ignored body phase from c → Passes body phase from c
ignored_passes body (Counting reads) from c ignored = ignored_counting body reads from c ignored
ignored_passes body (Paused reads) from c ignored = ignored_paused body reads from c ignored
ignored_passes body Idle from c ignored = tt
ignored_passes body Turning from c ignored = tt
ignored_passes body Showing from c ignored = tt
ignored_passes body Sweeping from c ignored = tt

advance_passes : (phase : Phase) (from : ℕ) (c : Coordinator) → Passes Advance phase from c
advance_passes (Counting reads) from c = (tt, tt)
advance_passes (Paused reads) from c = tt
advance_passes Idle from c = tt
advance_passes Turning from c = tt
advance_passes Showing from c = tt
advance_passes Sweeping from c = tt

answer_passes : (phase : Phase) (body : Body) (from : ℕ) (c : Coordinator) → IsAnswer phase body → Passes body phase from c
answer_passes (Counting reads) body from c answer = absurd answer
answer_passes (Paused reads) body from c answer = absurd answer
answer_passes Idle body from c answer = tt
answer_passes Turning body from c answer = tt
answer_passes Showing body from c answer = tt
answer_passes Sweeping body from c answer = tt

begins_by : (n : ℕ) (c : Coordinator) (from : ℕ) (body other : Body) (out : Out Coordinator) (reads : Bool) (d : Coordinator) → d.nodes ≡ n
    → body ≡ other → NoDone other → out ≡ round_begun reads (c.count.number + 1) d → Step n c from body out
begins_by n c from body other out reads d nodes bd none is =
    let v = counted_version reads d in
    let k = c.count.number + 1 in
    subst (λ (o : Out Coordinator). Step n c from body o) (sym is)
    (Begins reads v k (omega arith) (subst (λ (b : Body). NoDone b) (sym bd) none) (ap (begun reads v k) nodes)
    (ap (λ (m : ℕ). to_nodes m (AskDone v k)) nodes))

ends_none : (reads : Bool) (c : Coordinator) → pace_of (end_count reads c).state.phase ≡ NoRound
ends_none true c = refl
ends_none false c = refl

ends_same : (reads : Bool) (c : Coordinator) → (end_count reads c).state.count.number ≡ c.count.number
ends_same true c = refl
ends_same false c = refl

ends_plain : (reads : Bool) (c : Coordinator) → AllPlain (end_count reads c).sent
ends_plain true c = plain_nodes c.nodes (Sweep (version c.update)) tt
ends_plain false c = plain_nodes c.nodes (Show (version c.update)) tt

pub takes_row : (c : Coordinator) (from : ℕ) (body : Body) (reads : Bool) (v : Version) (k : ℕ) (row : List ℕ)
    → TakesAsked c from body reads v k row → TakesRow (count_of c) from body reads v k row
takes_row c from body reads v k row takes =
    record { pace = ap pace_of takes.phase; body_is = takes.body_is; here = takes.here; after_dones = takes.after_dones }

count_step : (n : ℕ) (c : Coordinator) (from : ℕ) (body : Body) (out : Out Coordinator) → c.nodes ≡ n → Outcome c from body out
    → Step n c from body out
count_step n c from body out nodes (Rests phase at ignored is) =
    rests_step n c from body out c phase at (ignored_passes body phase from c ignored) refl is
count_step n c from body out nodes (Queues phase at goes bd is) =
    rests_step n c from body out (record c { waits = c.waits + 1 }) phase at
    (subst (λ (b : Body). Passes b phase from c) (sym bd) (advance_passes phase from c)) refl is
count_step n c from body out nodes (Acks phase at answer more is) =
    rests_step n c from body out (record c { acks = c.acks + 1 }) phase at (answer_passes phase body from c answer) refl is
count_step n c from body out nodes (Flags reads at bd is) =
    IsNudged reads (ap pace_of at) bd (ap (λ (o : Out Coordinator). count_of o.state) is) (ap (λ (o : Out Coordinator). o.sent) is)
count_step n c from body out nodes (Turns at bd is) =
    leaves_by n c from body out _ is refl refl (plain_nodes c.nodes (Turn (version (c.update + 1))) tt)
count_step n c from body out nodes (Finishes v at bd last none is) = leaves_by n c from body out _ is refl refl (tt, tt)
count_step n c from body out nodes (GoesOn v at bd last some is) =
    leaves_by n c from body out _ is refl refl (tt, plain_nodes c.nodes (Turn (version (c.update + 2))) tt)
count_step n c from body out nodes (LastTurned v at bd last is) = begins_by n c from body (Turned v) out false c nodes bd tt is
count_step n c from body out nodes (LastShown v at bd last is) = begins_by n c from body (Shown v) out true c nodes bd tt is
count_step n c from body out nodes (Resumes reads at bd is) = begins_by n c from body Nudge out reads c nodes bd tt is
count_step n c from body out nodes (KeepsDone reads v k row at bd here is) =
    let r = c.count.current in
    TakesDone reads v k row (ap pace_of at) bd here (ap (λ (o : Out Coordinator). count_of o.state) is)
    (ap (λ (o : Out Coordinator). o.sent) is ∙ ap (λ (m : ℕ). asks_after m from row r) nodes)
count_step n c from body out nodes (KeepsAsked reads v k row takes verdict is) =
    TakesRequests reads v k row (takes_row c from body reads v k row takes) verdict
    (ap (λ (o : Out Coordinator). count_of o.state) is) (ap (λ (o : Out Coordinator). o.sent) is)
count_step n c from body out nodes (Agrees reads v k row takes verdict is) =
    let d = asked_kept from row c in
    leaves_by n c from body out _ is (ends_none reads d) (ends_same reads d) (ends_plain reads d)
count_step n c from body out nodes (Recounts reads v k row takes verdict flag is) =
    begins_by n c from body (AskedRow v k row) out reads (asked_kept from row c) nodes takes.body_is tt is
count_step n c from body out nodes (Pauses reads v k row takes verdict flag is) =
    Denies reads v k row (takes_row c from body reads v k row takes) verdict flag
    (ap (λ (o : Out Coordinator). count_of o.state) is) (ap (λ (o : Out Coordinator). o.sent) is)

-- an entry of the coordinator
step_in : (s : ScriptData) (past : List Entry) (e : Entry) → IsLawful s → IsStepRun s (e ∷ past) → AllApt s past → e.actor.0 ≡ s.nodes
    → CountStep s.nodes (count_in s past) (count_in s (e ∷ past)) e.took.from.0 e.took.body e.sent
step_in s past e laws run apt at =
    let c = coordinator_in s past in
    let out = coordinator_row c e.took.from.0 e.took.body in
    let made = coordinates s past e laws.keeps run.0 at in
    let step = count_step s.nodes c e.took.from.0 e.took.body out (coordinator_nodes s past) (outcome_in s past e laws run.1 apt) in
    subst (λ (d : Coordinator). CountStep s.nodes (count_of c) (count_of d) e.took.from.0 e.took.body e.sent) (sym made.state)
    (subst (λ (os : List Outgoing). CountStep s.nodes (count_of c) (count_of out.state) e.took.from.0 e.took.body os) (sym made.sent) step)

-- 2. The version of the round that is counted.
abbrev IsVersioned : Coordinator → Type 0
IsVersioned c = (reads : Bool) → c.phase ≡ Counting reads → c.count.current.version ≡ counted_version reads c

versioned_else : (c : Coordinator) → pace_of c.phase ≡ NoRound → IsVersioned c
versioned_else c none = λ reads at.
    let clash : InRound reads ≡ NoRound = sym (ap pace_of at) ∙ none in absurd (cc clash)

versioned_begun : (reads : Bool) (k : ℕ) (d : Coordinator) → IsVersioned (round_begun reads k d).state
versioned_begun reads k d = λ r at. let same : reads ≡ r = cc at in ap (λ (x : Bool). counted_version x d) same

versioned_out : (c : Coordinator) (from : ℕ) (body : Body) (out : Out Coordinator) → IsVersioned c → Outcome c from body out
    → IsVersioned out.state
versioned_out c from body out was (Rests phase at ignored is) = subst (λ (o : Out Coordinator). IsVersioned o.state) (sym is) was
versioned_out c from body out was (Queues phase at goes bd is) = subst (λ (o : Out Coordinator). IsVersioned o.state) (sym is) was
versioned_out c from body out was (Flags reads at bd is) = subst (λ (o : Out Coordinator). IsVersioned o.state) (sym is) was
versioned_out c from body out was (Acks phase at answer more is) = subst (λ (o : Out Coordinator). IsVersioned o.state) (sym is) was
versioned_out c from body out was (Turns at bd is) = versioned_else out.state (ap (λ (o : Out Coordinator). pace_of o.state.phase) is)
versioned_out c from body out was (LastTurned v at bd last is) =
    subst (λ (o : Out Coordinator). IsVersioned o.state) (sym is) (versioned_begun false (c.count.number + 1) c)
versioned_out c from body out was (LastShown v at bd last is) =
    subst (λ (o : Out Coordinator). IsVersioned o.state) (sym is) (versioned_begun true (c.count.number + 1) c)
versioned_out c from body out was (Finishes v at bd last none is) =
    versioned_else out.state (ap (λ (o : Out Coordinator). pace_of o.state.phase) is)
versioned_out c from body out was (GoesOn v at bd last some is) =
    versioned_else out.state (ap (λ (o : Out Coordinator). pace_of o.state.phase) is)
versioned_out c from body out was (Resumes reads at bd is) =
    subst (λ (o : Out Coordinator). IsVersioned o.state) (sym is) (versioned_begun reads (c.count.number + 1) c)
versioned_out c from body out was (KeepsDone reads v k row at bd here is) =
    subst (λ (o : Out Coordinator). IsVersioned o.state) (sym is) was
versioned_out c from body out was (KeepsAsked reads v k row takes verdict is) =
    subst (λ (o : Out Coordinator). IsVersioned o.state) (sym is) was
versioned_out c from body out was (Agrees reads v k row takes verdict is) =
    versioned_else out.state (ap (λ (o : Out Coordinator). pace_of o.state.phase) is ∙ ends_none reads (asked_kept from row c))
versioned_out c from body out was (Recounts reads v k row takes verdict flag is) =
    subst (λ (o : Out Coordinator). IsVersioned o.state) (sym is) (versioned_begun reads (c.count.number + 1) (asked_kept from row c))
versioned_out c from body out was (Pauses reads v k row takes verdict flag is) =
    subst (λ (o : Out Coordinator). IsVersioned o.state) (sym is) (λ r at. absurd (cc at))

versioned_next : (s : ScriptData) (past : List Entry) (e : Entry) → IsLawful s → IsStepRun s (e ∷ past) → AllApt s past
    → IsVersioned (coordinator_in s past) → (e.actor.0 ≡ s.nodes) ⊎ (e.actor.0 ≢ s.nodes) → IsVersioned (coordinator_in s (e ∷ past))
versioned_next s past e laws run apt was (inl at) =
    let c = coordinator_in s past in
    let out = coordinator_row c e.took.from.0 e.took.body in
    subst IsVersioned (sym (coordinates s past e laws.keeps run.0 at).state)
    (versioned_out c e.took.from.0 e.took.body out was (outcome_in s past e laws run.1 apt))
versioned_next s past e laws run apt was (inr away) = subst IsVersioned (sym (coordinator_kept s past e away)) was

-- it is the version that the phase counts
pub versioned : (s : ScriptData) (past : List Entry) → IsLawful s → IsStepRun s past → AllApt s past → IsVersioned (coordinator_in s past)
versioned s [] laws run apt = versioned_else (coordinator_in s []) refl
versioned s (e ∷ past) laws run apt =
    versioned_next s past e laws run apt.1 (versioned s past laws run.1 apt.1) (cases_eq e.actor.0 s.nodes)

-- 3. It is open, by the levels of the phase.
open_by : (s : ScriptData) (past : List Entry) (reads : Bool) → Levels s past
    → (coordinator_in s past).phase ≡ Counting reads
    → Open s past (counted_version reads (coordinator_in s past)).0
open_by s past true all at =
    let level = λ (p : ℕ) (lt : p < s.nodes).
    subst (λ (phase : Phase). Level phase (coordinator_in s past).update
    (node_in s past p).turns.update.0 (node_in s past p).turns.read.0 (node_in s past p).turns.low.0
    (tells s past TurnStage p) (tells s past ShowStage p) (tells s past SweepStage p)) at (all.node p lt) in
    record {
      closed = λ p lt.
          ((λ eq. omega (arith, level p lt, all.first, eq)), (λ eq. omega (arith, level p lt, all.first, eq)));
      low = λ p lt. omega (arith, level p lt);
    }
open_by s past false all at =
    let level = λ (p : ℕ) (lt : p < s.nodes).
    subst (λ (phase : Phase). Level phase (coordinator_in s past).update
    (node_in s past p).turns.update.0 (node_in s past p).turns.read.0 (node_in s past p).turns.low.0
    (tells s past TurnStage p) (tells s past ShowStage p) (tells s past SweepStage p)) at (all.node p lt) in
    record {
      closed = λ p lt.
          ((λ eq. omega (arith, level p lt, all.first, eq)), (λ eq. omega (arith, level p lt, all.first, eq)));
      low = λ p lt. omega (arith, level p lt);
    }

open_in : (s : ScriptData) (past : List Entry) (reads : Bool) → IsLawful s → IsStepRun s past → AllApt s past
    → (coordinator_in s past).phase ≡ Counting reads → Open s past (coordinator_in s past).count.current.version.0
open_in s past reads laws run apt at =
    subst (Open s past) (sym (ap (λ (v : Version). v.0) (versioned s past laws run apt reads at)))
    (open_by s past reads (levels s past laws run apt) at)

-- in every run the coordinator counts so
pub coordinator_counts : (s : ScriptData) → IsLawful s → IsCounting s (count_in s) Always
coordinator_counts s laws = record {
  lawful = laws.trees;
  start = refl;
  stays = λ past e away. ap count_of (coordinator_kept s past e away);
  steps = λ past e run apt at. step_in s past e laws run apt at;
  back = λ reads v past e run given. tt;
  opens = λ reads past run apt at given.
      open_in s past reads laws run apt (counting_is (coordinator_in s past).phase reads at);
}
