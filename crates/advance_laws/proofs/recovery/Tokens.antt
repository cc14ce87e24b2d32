-- While the nodes are told something, each has its order, its answer to it or its acknowledgement.
use Rattle.std.proofs.Common.{◌≡◌, ◌≢◌, ◌⊎◌, inl, inr, ℕ, ◌+◌, ◌-◌, ◌<◌, ◌≤◌, ◌==◌, Bool, true, false, List, [], ◌∷◌, refl, sym, ap, subst, ◌∙◌, arith}
use Rattle.std.proofs.lemmas.Bool.Decides.{nat_tests}
use Rattle.tv_base.specs.declared.numbers.Version.{Version}
use Rattle.phase_out.specs.Counts.{nudged}
use Rattle.letter_types.specs.declared.bodies.Body.{Body}
use Rattle.letter_types.specs.declared.bodies.Body.TheVariants.{Go, Nudge, Advance, Turn, Show, Sweep, Turned, Shown, Swept, AskDone, AskAsked, DoneRow, AskedRow, Advanced, AdvanceNo, Lose}
use Rattle.letter_types.specs.declared.entries.Entry.{Entry}
use Rattle.letter_types.specs.declared.entries.Letter.{Letter}
use Rattle.letter_types.specs.declared.entries.Outgoing.{Outgoing}
use Rattle.letter_types.specs.Steps.{Out, still}
use Rattle.tx_trees.specs.ScriptData.{ScriptData, client_of}
use Rattle.world_model.specs.Coordinator.{Coordinator, version, to_nodes, in_phase, counted_version, end_count, advanced, coordinator_row}
use Rattle.world_model.specs.declared.phase.Phase.{Phase}
use Rattle.world_model.specs.declared.phase.Phase.TheVariants.{Idle, Turning, Counting, Paused, Showing, Sweeping}
use Rattle.world_model.specs.Client.{Client, submit, with_answer, with_end, nudge}
use Rattle.world_model.specs.Counts.{tally}
use Rattle.world_model.specs.Runs.{MayFollow, IsStepRun, client_in, coordinator_in, in_flight}
use Rattle.world_model.proofs.Bags.{tally-drop}
use Rattle.world_model.proofs.Every.{coordinator_kept}
use Rattle.world_model.proofs.Flows.{flow, flow_same, submit_none}
use Rattle.advance_laws.proofs.governed.Lawful.{IsLawful}
use Rattle.world_model.proofs.Nexts.{MadeByClient, MadeByCoordinator, Tells}
use Rattle.world_model.proofs.Orders.{coordinator_nodes}
use Rattle.world_model.proofs.Sends.{on, CountsNoRow}
use Rattle.world_model.specs.AllApt.{AllApt}
pub use Rattle.advance_laws.specs.Phases.{Stage, TurnStage, ShowStage, SweepStage, Told, token, count_in_flight, within}
use Rattle.advance_laws.proofs.counting.Letters.{NoTrees, Passes, keep_done_none, node_keeps, to_nodes_none, to_nodes_one}
use Rattle.advance_laws.proofs.phases.Progress.{Begins, Coordinates, Ends, Hears, Obeys, Progress, Works, progress}
use Rattle.advance_laws.proofs.phases.Outcomes.{Ignored, IsAnswer, Outcome, Rests, Queues, Flags, Turns, Acks, LastTurned, LastShown, Finishes, GoesOn, Resumes, KeepsDone, KeepsAsked, Agrees, Recounts, Pauses, asked_kept, in_next, round_begun, keep_done}
use Rattle.advance_laws.proofs.phases.Small.{outcome_in}

-- tokens are no letters of trees
tokens_no_trees : (g : Stage) → NoTrees (token g)
tokens_no_trees TurnStage = record {
  root = λ t. refl;
  sub = λ t k v. refl;
  done = λ t k v notice. refl;
  reply = λ t v answer. refl;
  wake = λ t k. refl;
  decide = λ t v commit. refl;
  decided = λ t v. refl;
  release = λ t. refl;
}
tokens_no_trees ShowStage = record {
  root = λ t. refl;
  sub = λ t k v. refl;
  done = λ t k v notice. refl;
  reply = λ t v answer. refl;
  wake = λ t k. refl;
  decide = λ t v commit. refl;
  decided = λ t v. refl;
  release = λ t. refl;
}
tokens_no_trees SweepStage = record {
  root = λ t. refl;
  sub = λ t k v. refl;
  done = λ t k v notice. refl;
  reply = λ t v answer. refl;
  wake = λ t k. refl;
  decide = λ t v commit. refl;
  decided = λ t v. refl;
  release = λ t. refl;
}

-- a node's answer counts as the order that it answers
pub token_passes : (g : Stage) → Passes (token g) (token g)
token_passes TurnStage = record {
  sent = tokens_no_trees TurnStage;
  took = tokens_no_trees TurnStage;
  turned = λ v. refl;
  shown = λ v. refl;
  swept = λ v. refl;
  done_row = λ v k row. refl;
  asked_row = λ v k row. refl;
}
token_passes ShowStage = record {
  sent = tokens_no_trees ShowStage;
  took = tokens_no_trees ShowStage;
  turned = λ v. refl;
  shown = λ v. refl;
  swept = λ v. refl;
  done_row = λ v k row. refl;
  asked_row = λ v k row. refl;
}
token_passes SweepStage = record {
  sent = tokens_no_trees SweepStage;
  took = tokens_no_trees SweepStage;
  turned = λ v. refl;
  shown = λ v. refl;
  swept = λ v. refl;
  done_row = λ v k row. refl;
  asked_row = λ v k row. refl;
}

-- What a step of the coordinator does to the equation: with t tokens before and t' after it.
abbrev Goes : Stage → Coordinator → Body → Out Coordinator → Type 0
Goes g c body out = (t t' : ℕ) → t + within g c.phase c.acks ≡ within g c.phase c.nodes
    → t' + token g body ≡ t + tally (on (token g)) out.sent
    → t' + within g out.state.phase out.state.acks ≡ within g out.state.phase c.nodes

-- no token of the stage is left but the letter that is taken
abbrev IsLast : Stage → Coordinator → Body → Type 0
IsLast g c body = (t : ℕ) → t + within g c.phase c.acks ≡ within g c.phase c.nodes → t ≡ token g body

within_none : (g : Stage) (phase : Phase) → within g phase 0 ≡ 0
within_none TurnStage Turning = refl
within_none TurnStage _ = refl
within_none ShowStage Showing = refl
within_none ShowStage _ = refl
within_none SweepStage Sweeping = refl
within_none SweepStage _ = refl

-- a phase that begins has a token for each node, or none
begins : (g : Stage) (c d : Coordinator) (body : Body) (sent : List Outgoing) → IsLast g c body → d.acks ≡ 0
    → tally (on (token g)) sent ≡ within g d.phase c.nodes → Goes g c body (record { state = d; sent = sent; acts = [] })
begins g c d body sent last fresh filled = λ t t' was goes.
    let none : within g d.phase d.acks ≡ 0 = ap (λ (k : ℕ). within g d.phase k) fresh ∙ within_none g d.phase in
    omega (arith, last t was, goes, filled, none)

-- the phase stays, and nothing is sent
stays : (g : Stage) (c d : Coordinator) (body : Body) (sent : List Outgoing) → d.phase ≡ c.phase → d.acks ≡ c.acks
    → tally (on (token g)) sent ≡ 0 → (token g body ≡ 0) ⊎ ((k : ℕ) → within g c.phase k ≡ 0)
    → Goes g c body (record { state = d; sent = sent; acts = [] })
stays g c d body sent phase acks none (inl took) = λ t t' was goes.
    let here : within g d.phase d.acks ≡ within g c.phase c.acks =
    ap (λ (p : Phase). within g p d.acks) phase ∙ ap (λ (k : ℕ). within g c.phase k) acks in
    let all : within g d.phase c.nodes ≡ within g c.phase c.nodes = ap (λ (p : Phase). within g p c.nodes) phase in
    omega (arith, was, goes, none, took, here, all)
stays g c d body sent phase acks none (inr apart) = λ t t' was goes.
    let here : within g d.phase d.acks ≡ within g c.phase d.acks = ap (λ (p : Phase). within g p d.acks) phase in
    let all : within g d.phase c.nodes ≡ within g c.phase c.nodes = ap (λ (p : Phase). within g p c.nodes) phase in
    omega (arith, was, goes, none, here, all, apart d.acks, apart c.acks, apart c.nodes)

-- What fills a phase that begins.
pub turn_fills : (g : Stage) (n : ℕ) (v : Version) → tally (on (token g)) (to_nodes n (Turn v)) ≡ within g Turning n
turn_fills TurnStage n v = to_nodes_one (token TurnStage) n (Turn v) refl
turn_fills ShowStage n v = to_nodes_none (token ShowStage) n (Turn v) refl
turn_fills SweepStage n v = to_nodes_none (token SweepStage) n (Turn v) refl

pub show_fills : (g : Stage) (n : ℕ) (v : Version) → tally (on (token g)) (to_nodes n (Show v)) ≡ within g Showing n
show_fills TurnStage n v = to_nodes_none (token TurnStage) n (Show v) refl
show_fills ShowStage n v = to_nodes_one (token ShowStage) n (Show v) refl
show_fills SweepStage n v = to_nodes_none (token SweepStage) n (Show v) refl

pub sweep_fills : (g : Stage) (n : ℕ) (v : Version) → tally (on (token g)) (to_nodes n (Sweep v)) ≡ within g Sweeping n
sweep_fills TurnStage n v = to_nodes_none (token TurnStage) n (Sweep v) refl
sweep_fills ShowStage n v = to_nodes_none (token ShowStage) n (Sweep v) refl
sweep_fills SweepStage n v = to_nodes_one (token SweepStage) n (Sweep v) refl

pub ask_fills : (g : Stage) (n : ℕ) (v : Version) (k : ℕ) (reads : Bool)
    → tally (on (token g)) (to_nodes n (AskDone v k)) ≡ within g (Counting reads) n
ask_fills TurnStage n v k reads = to_nodes_none (token TurnStage) n (AskDone v k) refl
ask_fills ShowStage n v k reads = to_nodes_none (token ShowStage) n (AskDone v k) refl
ask_fills SweepStage n v k reads = to_nodes_none (token SweepStage) n (AskDone v k) refl

-- What empties a phase that ends: the answer of the last node.
last_turn : (g : Stage) (t k n : ℕ) (v : Version) → t + within g Turning k ≡ within g Turning n → k + 1 ≡ n
    → t ≡ token g (Turned v)
last_turn TurnStage t k n v was full = omega (arith, was, full)
last_turn ShowStage t k n v was full = omega (arith, was)
last_turn SweepStage t k n v was full = omega (arith, was)

last_show : (g : Stage) (t k n : ℕ) (v : Version) → t + within g Showing k ≡ within g Showing n → k + 1 ≡ n
    → t ≡ token g (Shown v)
last_show TurnStage t k n v was full = omega (arith, was)
last_show ShowStage t k n v was full = omega (arith, was, full)
last_show SweepStage t k n v was full = omega (arith, was)

last_sweep : (g : Stage) (t k n : ℕ) (v : Version) → t + within g Sweeping k ≡ within g Sweeping n → k + 1 ≡ n
    → t ≡ token g (Swept v)
last_sweep TurnStage t k n v was full = omega (arith, was)
last_sweep ShowStage t k n v was full = omega (arith, was)
last_sweep SweepStage t k n v was full = omega (arith, was, full)

full_now : (k n : ℕ) → (k + 1 == n) ≡ true → k + 1 ≡ n
full_now k n is = grind (arith, nat_tests)

-- the equation of the tokens, in a phase that is known
abbrev Holds : Stage → ℕ → Coordinator → Phase → Type 0
Holds g t c phase = t + within g phase c.acks ≡ within g phase c.nodes

turned_last : (g : Stage) (c : Coordinator) (body : Body) (v : Version) → c.phase ≡ Turning → body ≡ Turned v
    → (c.acks + 1 == c.nodes) ≡ true → IsLast g c body
turned_last g c body v at bd last = λ t was.
    last_turn g t c.acks c.nodes v (subst (λ (p : Phase). Holds g t c p) at was) (full_now c.acks c.nodes last)
    ∙ sym (ap (token g) bd)

shown_last : (g : Stage) (c : Coordinator) (body : Body) (v : Version) → c.phase ≡ Showing → body ≡ Shown v
    → (c.acks + 1 == c.nodes) ≡ true → IsLast g c body
shown_last g c body v at bd last = λ t was.
    last_show g t c.acks c.nodes v (subst (λ (p : Phase). Holds g t c p) at was) (full_now c.acks c.nodes last)
    ∙ sym (ap (token g) bd)

swept_last : (g : Stage) (c : Coordinator) (body : Body) (v : Version) → c.phase ≡ Sweeping → body ≡ Swept v
    → (c.acks + 1 == c.nodes) ≡ true → IsLast g c body
swept_last g c body v at bd last = λ t was.
    last_sweep g t c.acks c.nodes v (subst (λ (p : Phase). Holds g t c p) at was) (full_now c.acks c.nodes last)
    ∙ sym (ap (token g) bd)

-- the phases in which the nodes are told nothing
abbrev pub IsCalm : Phase → Type 0
IsCalm Idle = Unit {0}
IsCalm (Counting reads) = Unit {0}
IsCalm (Paused reads) = Unit {0}
IsCalm _ = ⊥

pub calm_within : (g : Stage) (phase : Phase) (k : ℕ) → IsCalm phase → within g phase k ≡ 0
calm_within TurnStage Turning k calm = absurd calm
calm_within TurnStage _ k calm = refl
calm_within ShowStage Showing k calm = absurd calm
calm_within ShowStage _ k calm = refl
calm_within SweepStage Sweeping k calm = absurd calm
calm_within SweepStage _ k calm = refl

calm_last : (g : Stage) (c : Coordinator) (body : Body) (phase : Phase) → c.phase ≡ phase → IsCalm phase
    → token g body ≡ 0 → IsLast g c body
calm_last g c body phase at calm none = λ t was.
    let here : t + within g phase c.acks ≡ within g phase c.nodes = subst (λ (p : Phase). Holds g t c p) at was in
    omega (arith, here, none, calm_within g phase c.acks calm, calm_within g phase c.nodes calm)

-- the letters that aren't tokens of any stage
abbrev pub IsApart : Body → Type 0
IsApart body = (g : Stage) → token g body ≡ 0

pub apart_by : (body other : Body) → body ≡ other → IsApart other → IsApart body
apart_by body other is apart = λ g. ap (token g) is ∙ apart g

pub go_apart : IsApart Go
go_apart TurnStage = refl
go_apart ShowStage = refl
go_apart SweepStage = refl

pub advance_apart : IsApart Advance
advance_apart TurnStage = refl
advance_apart ShowStage = refl
advance_apart SweepStage = refl

pub numbered_apart : (i : ℕ) → IsApart (AdvanceNo i)
numbered_apart i TurnStage = refl
numbered_apart i ShowStage = refl
numbered_apart i SweepStage = refl

pub lose_apart : IsApart Lose
lose_apart TurnStage = refl
lose_apart ShowStage = refl
lose_apart SweepStage = refl

-- none of the letters of the script's rows is a token
pub token_rows : (g : Stage) → CountsNoRow (token g)
token_rows g = record {
  root = (token_passes g).sent.root;
  advance = advance_apart g;
  numbered = λ i. numbered_apart i g;
  lose = lose_apart g;
}

pub nudge_apart : IsApart Nudge
nudge_apart TurnStage = refl
nudge_apart ShowStage = refl
nudge_apart SweepStage = refl

pub done_apart : (v : Version) (k : ℕ) (row : List ℕ) → IsApart (DoneRow v k row)
done_apart v k row TurnStage = refl
done_apart v k row ShowStage = refl
done_apart v k row SweepStage = refl

pub asked_apart : (v : Version) (k : ℕ) (row : List ℕ) → IsApart (AskedRow v k row)
asked_apart v k row TurnStage = refl
asked_apart v k row ShowStage = refl
asked_apart v k row SweepStage = refl

pub ask_apart : (v : Version) (k : ℕ) → IsApart (AskAsked v k)
ask_apart v k TurnStage = refl
ask_apart v k ShowStage = refl
ask_apart v k SweepStage = refl

pub ask_done_apart : (v : Version) (k : ℕ) → IsApart (AskDone v k)
ask_done_apart v k TurnStage = refl
ask_done_apart v k ShowStage = refl
ask_done_apart v k SweepStage = refl

pub advanced_apart : (v : Version) → IsApart (Advanced v)
advanced_apart v TurnStage = refl
advanced_apart v ShowStage = refl
advanced_apart v SweepStage = refl

-- a letter that is ignored is no token, or its stage isn't that of the phase
ignored_token : (g : Stage) (body : Body) (phase : Phase) (from : ℕ) (c : Coordinator) → Tells body → Ignored body phase from c
    → (token g body ≡ 0) ⊎ ((k : ℕ) → within g phase k ≡ 0)
ignored_token TurnStage (Turn v) phase from c tells ignored = absurd tells
ignored_token TurnStage (Turned v) Turning from c tells ignored = absurd ignored
ignored_token TurnStage (Turned v) _ from c tells ignored = inr (λ k. refl)
ignored_token TurnStage _ phase from c tells ignored = inl refl
ignored_token ShowStage (Show v) phase from c tells ignored = absurd tells
ignored_token ShowStage (Shown v) Showing from c tells ignored = absurd ignored
ignored_token ShowStage (Shown v) _ from c tells ignored = inr (λ k. refl)
ignored_token ShowStage _ phase from c tells ignored = inl refl
ignored_token SweepStage (Sweep v) phase from c tells ignored = absurd tells
ignored_token SweepStage (Swept v) Sweeping from c tells ignored = absurd ignored
ignored_token SweepStage (Swept v) _ from c tells ignored = inr (λ k. refl)
ignored_token SweepStage _ phase from c tells ignored = inl refl

-- an answer that the phase waits for takes the place of an acknowledgement
answer_token : (phase : Phase) (body : Body) (g : Stage) (k : ℕ) → IsAnswer phase body
    → within g phase (k + 1) ≡ within g phase k + token g body
answer_token Turning (Turned v) TurnStage k answer = refl
answer_token Turning (Turned v) _ k answer = refl
answer_token Showing (Shown v) TurnStage k answer = refl
answer_token Showing (Shown v) _ k answer = refl
answer_token Sweeping (Swept v) TurnStage k answer = refl
answer_token Sweeping (Swept v) _ k answer = refl
answer_token phase body g k answer = absurd answer

acknowledges : (g : Stage) (c : Coordinator) (body : Body) (phase : Phase) → c.phase ≡ phase → IsAnswer phase body
    → Goes g c body (still (record c { acks = c.acks + 1 }))
acknowledges g c body phase at answer = λ t t' was goes.
    let more : within g c.phase (c.acks + 1) ≡ within g c.phase c.acks + token g body =
    subst (λ (p : Phase). within g p (c.acks + 1) ≡ within g p c.acks + token g body) (sym at)
    (answer_token phase body g c.acks answer) in
    omega (arith, was, goes, more)

agrees_goes : (g : Stage) (c : Coordinator) (from : ℕ) (row : List ℕ) (body : Body) (reads : Bool) → IsLast g c body
    → Goes g c body (end_count reads (asked_kept from row c))
agrees_goes g c from row body false last =
    begins g c (in_phase Showing (asked_kept from row c)) body (to_nodes c.nodes (Show (version c.update))) last refl
    (show_fills g c.nodes (version c.update))
agrees_goes g c from row body true last =
    begins g c (in_phase Sweeping (asked_kept from row c)) body (to_nodes c.nodes (Sweep (version c.update))) last refl
    (sweep_fills g c.nodes (version c.update))

round_goes : (g : Stage) (c d : Coordinator) (body : Body) (reads : Bool) (k : ℕ) → d.nodes ≡ c.nodes → IsLast g c body
    → Goes g c body (round_begun reads k d)
round_goes g c d body reads k same last =
    begins g c (round_begun reads k d).state body (to_nodes d.nodes (AskDone (counted_version reads d) k)) last refl
    (ask_fills g d.nodes (counted_version reads d) k reads ∙ ap (λ (n : ℕ). within g (Counting reads) n) same)

-- every step of the coordinator keeps the equation
outcome_goes : (g : Stage) (c : Coordinator) (from : ℕ) (body : Body) (out : Out Coordinator) → Tells body
    → Outcome c from body out → Goes g c body out
outcome_goes g c from body out tells (Rests phase at ignored is) =
    let apart =
    subst (λ (p : Phase). (token g body ≡ 0) ⊎ ((k : ℕ) → within g p k ≡ 0)) (sym at)
    (ignored_token g body phase from c tells ignored) in
    subst (λ (o : Out Coordinator). Goes g c body o) (sym is) (stays g c c body [] refl refl refl apart)
outcome_goes g c from body out tells (Queues phase at goes bd is) =
    subst (λ (o : Out Coordinator). Goes g c body o) (sym is)
    (stays g c (record c { waits = c.waits + 1 }) body [] refl refl refl (inl (apart_by body Advance bd advance_apart g)))
outcome_goes g c from body out tells (Flags reads at bd is) =
    subst (λ (o : Out Coordinator). Goes g c body o) (sym is)
    (stays g c (record c { count = nudged c.count }) body [] refl refl refl (inl (apart_by body Nudge bd nudge_apart g)))
outcome_goes g c from body out tells (Turns at bd is) =
    subst (λ (o : Out Coordinator). Goes g c body o) (sym is)
    (begins g c (in_phase Turning c) body (to_nodes c.nodes (Turn (version (c.update + 1))))
    (calm_last g c body Idle at tt (apart_by body Advance bd advance_apart g)) refl
    (turn_fills g c.nodes (version (c.update + 1))))
outcome_goes g c from body out tells (Acks phase at answer more is) =
    subst (λ (o : Out Coordinator). Goes g c body o) (sym is) (acknowledges g c body phase at answer)
outcome_goes g c from body out tells (LastTurned v at bd last is) =
    subst (λ (o : Out Coordinator). Goes g c body o) (sym is)
    (round_goes g c c body false (c.count.number + 1) refl (turned_last g c body v at bd last))
outcome_goes g c from body out tells (LastShown v at bd last is) =
    subst (λ (o : Out Coordinator). Goes g c body o) (sym is)
    (round_goes g c c body true (c.count.number + 1) refl (shown_last g c body v at bd last))
outcome_goes g c from body out tells (Finishes v at bd last none is) =
    let empty : tally (on (token g)) (advanced c ∷ []) ≡ within g Idle c.nodes =
    omega (arith, advanced_apart (version c.update) g, calm_within g Idle c.nodes tt) in
    subst (λ (o : Out Coordinator). Goes g c body o) (sym is)
    (begins g c (in_next Idle 0 c) body (advanced c ∷ []) (swept_last g c body v at bd last) refl empty)
outcome_goes g c from body out tells (GoesOn v at bd last some is) =
    let turns = to_nodes c.nodes (Turn (version (c.update + 2))) in
    let filled : tally (on (token g)) (advanced c ∷ turns) ≡ within g Turning c.nodes =
    omega (arith, advanced_apart (version c.update) g, turn_fills g c.nodes (version (c.update + 2))) in
    subst (λ (o : Out Coordinator). Goes g c body o) (sym is)
    (begins g c (in_next Turning (c.waits - 1) c) body (advanced c ∷ turns) (swept_last g c body v at bd last) refl filled)
outcome_goes g c from body out tells (Resumes reads at bd is) =
    subst (λ (o : Out Coordinator). Goes g c body o) (sym is)
    (round_goes g c c body reads (c.count.number + 1) refl
    (calm_last g c body (Paused reads) at tt (apart_by body Nudge bd nudge_apart g)))
outcome_goes g c from body out tells (KeepsDone reads v k row at bd here is) =
    subst (λ (o : Out Coordinator). Goes g c body o) (sym is)
    (stays g c (keep_done from row c).state body (keep_done from row c).sent refl refl
    (keep_done_none (token g) from row c (ask_apart c.count.current.version c.count.current.number g))
    (inl (apart_by body (DoneRow v k row) bd (done_apart v k row) g)))
outcome_goes g c from body out tells (KeepsAsked reads v k row takes verdict is) =
    subst (λ (o : Out Coordinator). Goes g c body o) (sym is)
    (stays g c (asked_kept from row c) body [] refl refl refl
    (inl (apart_by body (AskedRow v k row) takes.body_is (asked_apart v k row) g)))
outcome_goes g c from body out tells (Agrees reads v k row takes verdict is) =
    subst (λ (o : Out Coordinator). Goes g c body o) (sym is)
    (agrees_goes g c from row body reads
    (calm_last g c body (Counting reads) takes.phase tt
    (apart_by body (AskedRow v k row) takes.body_is (asked_apart v k row) g)))
outcome_goes g c from body out tells (Recounts reads v k row takes verdict flag is) =
    subst (λ (o : Out Coordinator). Goes g c body o) (sym is)
    (round_goes g c (asked_kept from row c) body reads (c.count.number + 1) refl
    (calm_last g c body (Counting reads) takes.phase tt
    (apart_by body (AskedRow v k row) takes.body_is (asked_apart v k row) g)))
outcome_goes g c from body out tells (Pauses reads v k row takes verdict flag is) =
    subst (λ (o : Out Coordinator). Goes g c body o) (sym is)
    (begins g c (in_phase (Paused reads) (asked_kept from row c)) body []
    (calm_last g c body (Counting reads) takes.phase tt
    (apart_by body (AskedRow v k row) takes.body_is (asked_apart v k row) g)) refl
    (sym (calm_within g (Paused reads) c.nodes tt)))

-- The equation after an entry.
kept_told : (g : Stage) (s : ScriptData) (past : List Entry) (e : Entry) → e.actor.0 ≢ s.nodes → Told s past g
    → count_in_flight (token g) s (e ∷ past) ≡ count_in_flight (token g) s past → Told s (e ∷ past) g
kept_told g s past e away was same =
    subst (λ (c : Coordinator). count_in_flight (token g) s (e ∷ past) + within g c.phase c.acks ≡ within g c.phase s.nodes)
    (sym (coordinator_kept s past e away)) (omega (arith, was, same))

told_by_client : (g : Stage) (s : ScriptData) (past : List Entry) (e : Entry) (c : Client) (first : List Outgoing)
    → MayFollow s past e
    → e.actor.0 ≡ client_of s → MadeByClient s past e (submit s c first) → Told s past g → tally (on (token g)) first ≡ 0
    → token g e.took.body ≡ 0 → Told s (e ∷ past) g
told_by_client g s past e c first m at made was quiet took =
    let sent : tally (on (token g)) e.sent ≡ 0 =
    ap (λ (os : List Outgoing). tally (on (token g)) os) made.sent
    ∙ submit_none (token g) s c first quiet (token_rows g) in
    kept_told g s past e (omega (arith, at)) was (flow_same (token g) s past e m took sent)

told_by_node : (g : Stage) (s : ScriptData) (past : List Entry) (e : Entry) → MayFollow s past e → e.actor.0 < s.nodes
    → Progress s past e → Told s past g → Told s (e ∷ past) g
told_by_node g s past e m node next was =
    kept_told g s past e (omega (arith, node)) was (node_keeps (token g) (token_passes g) s past e m node next)

told_by_coordinator : (g : Stage) (s : ScriptData) (past : List Entry) (e : Entry) → IsLawful s → IsStepRun s (e ∷ past)
    → AllApt s past → Tells e.took.body → MadeByCoordinator s past e → Told s past g → Told s (e ∷ past) g
told_by_coordinator g s past e laws run apt tells made was =
    let c = coordinator_in s past in
    let out = coordinator_row c e.took.from.0 e.took.body in
    let nodes : c.nodes ≡ s.nodes = coordinator_nodes s past in
    let sent : tally (on (token g)) e.sent ≡ tally (on (token g)) out.sent =
    ap (λ (os : List Outgoing). tally (on (token g)) os) made.sent in
    let before : count_in_flight (token g) s past + within g c.phase c.acks ≡ within g c.phase c.nodes =
    was ∙ ap (λ (n : ℕ). within g c.phase n) (sym nodes) in
    let after : count_in_flight (token g) s (e ∷ past) + within g out.state.phase out.state.acks ≡ within g out.state.phase c.nodes =
    outcome_goes g c e.took.from.0 e.took.body out tells (outcome_in s past e laws run.1 apt)
    (count_in_flight (token g) s past) (count_in_flight (token g) s (e ∷ past)) before
    (omega (arith, flow (token g) s past e run.0, sent)) in
    subst (λ (d : Coordinator). count_in_flight (token g) s (e ∷ past) + within g d.phase d.acks ≡ within g d.phase s.nodes)
    (sym made.state)
    (after ∙ ap (λ (n : ℕ). within g out.state.phase n) nodes)

told_next : (g : Stage) (s : ScriptData) (past : List Entry) (e : Entry) → IsLawful s → IsStepRun s (e ∷ past)
    → AllApt s past → Told s past g → Progress s past e → Told s (e ∷ past) g
told_next g s past e laws run apt was (Begins bd at made) =
    told_by_client g s past e (client_in s past) [] run.0 at made was refl (apart_by e.took.body Go bd go_apart g)
told_next g s past e laws run apt was (Hears t v answer bd at lt made) =
    told_by_client g s past e (with_answer t.0 (client_in s past)) (nudge s ∷ []) run.0 at made was
    (omega (arith, nudge_apart g))
    (ap (token g) bd ∙ (token_passes g).sent.reply t v answer)
told_next g s past e laws run apt was (Ends v bd at made) =
    told_by_client g s past e (with_end s v (client_in s past)) [] run.0 at made was refl
    (apart_by e.took.body (Advanced v) bd (advanced_apart v) g)
told_next g s past e laws run apt was (Coordinates tells at made) =
    told_by_coordinator g s past e laws run apt tells made was
told_next g s past e laws run apt was (Works p r work) =
    told_by_node g s past e run.0 (omega (arith, work.brings.at, work.brings.below)) (Works p r work) was
told_next g s past e laws run apt was (Obeys p out more at lt order state sent woken) =
    told_by_node g s past e run.0 (omega (arith, at, lt)) (Obeys p out more at lt order state sent woken) was

told_first : (g : Stage) (s : ScriptData) → Told s [] g
told_first TurnStage s = refl
told_first ShowStage s = refl
told_first SweepStage s = refl

-- in every run each node has its order, its answer or its acknowledgement
pub told : (g : Stage) (s : ScriptData) (past : List Entry) → IsLawful s → IsStepRun s past → AllApt s past → Told s past g
told g s [] laws run apt = told_first g s
told g s (e ∷ past) laws run apt =
    told_next g s past e laws run apt.1 (told g s past laws run.1 apt.1) (progress s past e laws apt run)

-- So an order comes in its phase.
abbrev pub PhaseFor : Body → Phase → Type 0
PhaseFor (Turn v) phase = phase ≡ Turning
PhaseFor (Show v) phase = phase ≡ Showing
PhaseFor (Sweep v) phase = phase ≡ Sweeping
PhaseFor _ phase = Unit {0}

pub turning_phase : (phase : Phase) (t a n : ℕ) → 1 ≤ t → t + within TurnStage phase a ≡ within TurnStage phase n → phase ≡ Turning
turning_phase Turning t a n some is = refl
turning_phase _ t a n some is = absurd (omega (arith, some, is))

pub showing_phase : (phase : Phase) (t a n : ℕ) → 1 ≤ t → t + within ShowStage phase a ≡ within ShowStage phase n → phase ≡ Showing
showing_phase Showing t a n some is = refl
showing_phase _ t a n some is = absurd (omega (arith, some, is))

pub sweeping_phase : (phase : Phase) (t a n : ℕ) → 1 ≤ t → t + within SweepStage phase a ≡ within SweepStage phase n
    → phase ≡ Sweeping
sweeping_phase Sweeping t a n some is = refl
sweeping_phase _ t a n some is = absurd (omega (arith, some, is))

-- the letter that is taken is one of those in flight
token_there : (g : Stage) (s : ScriptData) (past : List Entry) (e : Entry) → MayFollow s past e
    → token g e.took.body ≤ count_in_flight (token g) s past
token_there g s past e m = omega (arith, tally-drop (λ (l : Letter). token g l.body) e.took.id (in_flight s past) e.took m.waits)

pub phase_for : (s : ScriptData) (past : List Entry) (e : Entry) (body : Body) → IsLawful s → IsStepRun s past
    → AllApt s past → MayFollow s past e → e.took.body ≡ body → PhaseFor body (coordinator_in s past).phase
phase_for s past e (Turn v) laws run apt m bd =
    let one : token TurnStage e.took.body ≡ 1 = ap (token TurnStage) bd in
    turning_phase (coordinator_in s past).phase (count_in_flight (token TurnStage) s past) (coordinator_in s past).acks s.nodes
    (omega (arith, one, token_there TurnStage s past e m)) (told TurnStage s past laws run apt)
phase_for s past e (Show v) laws run apt m bd =
    let one : token ShowStage e.took.body ≡ 1 = ap (token ShowStage) bd in
    showing_phase (coordinator_in s past).phase (count_in_flight (token ShowStage) s past) (coordinator_in s past).acks s.nodes
    (omega (arith, one, token_there ShowStage s past e m)) (told ShowStage s past laws run apt)
phase_for s past e (Sweep v) laws run apt m bd =
    let one : token SweepStage e.took.body ≡ 1 = ap (token SweepStage) bd in
    sweeping_phase (coordinator_in s past).phase (count_in_flight (token SweepStage) s past) (coordinator_in s past).acks s.nodes
    (omega (arith, one, token_there SweepStage s past e m)) (told SweepStage s past laws run apt)
phase_for s past e _ laws run apt m bd = tt
