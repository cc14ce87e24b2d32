-- The coordinator's numbers stay small, and no advancement is lost.
use Rattle.std.proofs.Common.{if◌then◌else◌, ◌≡◌, ◌≢◌, ℕ, ◌+◌, ◌-◌, ◌*◌, ◌^◌, ◌<◌, ◌≤◌, ◌==◌, Bool, true, false, List, [], ◌∷◌, ◌++◌, take, drop, refl, sym, ap, subst, ◌∙◌, arith}
use Rattle.std.proofs.Math.Seq.{take-add}
use Rattle.std.proofs.lemmas.Bool.Decides.{nat_tests}
use Rattle.letter_types.specs.declared.bodies.Body.{Body}
use Rattle.letter_types.specs.declared.bodies.Body.TheVariants.{Advance, Advanced, Turn, Show, Sweep, AskDone}
use Rattle.letter_types.specs.declared.entries.Entry.{Entry}
use Rattle.letter_types.specs.declared.entries.Outgoing.{Outgoing}
use Rattle.letter_types.specs.Steps.{Out, still}
use Rattle.tx_trees.specs.ScriptData.{ScriptData, client_of}
use Rattle.tx_trees.specs.Counts.{advances_in, is_lossy}
use Rattle.tx_trees.specs.declared.parts.ScriptRow.{ScriptRow}
use Rattle.tx_trees.specs.declared.parts.ScriptRow.TheVariants.{Tree as TreeRow, Advance as AdvanceRow, Settle as SettleRow, Lose as LoseRow}
use Rattle.tx_trees.proofs.Rebuilding.{advances_in-append, asked_most}
use Rattle.tx_trees.proofs.SubsOf.{few_nodes}
use Rattle.world_model.specs.Coordinator.{Coordinator, version, in_phase, begin_phase, counted_version, end_count, coordinator_row}
use Rattle.world_model.specs.declared.phase.Phase.{Phase}
use Rattle.world_model.specs.declared.phase.Phase.TheVariants.{Idle, Turning, Counting, Paused, Showing, Sweeping}
use Rattle.world_model.specs.Client.{Client, rows_letters, submit, submitted, with_answer, with_end, nudge, advances_sent, advance_letter}
use Rattle.world_model.specs.Counts.{tally, one_if}
use Rattle.world_model.specs.Runs.{IsStepRun, MayFollow, client_in, coordinator_in}
use Rattle.world_model.proofs.Bags.{tally-append}
use Rattle.world_model.proofs.Every.{coordinator_kept}
use Rattle.world_model.proofs.Flows.{flow, client_kept}
use Rattle.world_model.proofs.Lawful.{is_nudge, nudged}
use Rattle.advance_laws.proofs.governed.Lawful.{IsLawful}
use Rattle.world_model.proofs.Nexts.{MadeByClient, MadeByCoordinator, Tells}
use Rattle.world_model.proofs.Sends.{on, CountsNoRow, roots_none}
use Rattle.world_model.specs.AllApt.{AllApt}
use Rattle.advance_laws.specs.Phases.{count_in_flight}
pub use Rattle.advance_laws.specs.Advances.{AdvancesAreKept, RoundsAreFew, asked_for, is_advance_letter, is_advanced, running}
use Rattle.advance_laws.proofs.counting.Letters.{NoTrees, Passes, keep_done_none, node_keeps, to_nodes_none}
use Rattle.advance_laws.proofs.phases.Progress.{Begins, Coordinates, Ends, Hears, Obeys, Progress, Works, progress}
use Rattle.advance_laws.proofs.phases.Outcomes.{HasRoom, Ignored, IsAnswer, IsRunning, Outcome, Rests, Queues, Flags, Turns, Acks, LastTurned, LastShown, Finishes, GoesOn, Resumes, KeepsDone, KeepsAsked, Agrees, Recounts, Pauses, asked_kept, one_more_is, outcome, round_begun}
use Rattle.tv_base.specs.Outside.{one_more}
use Rattle.tv_base.specs.declared.numbers.Version.{Version}

-- how many rounds the advancement in progress has begun without a nudge, at most
abbrev pub rounds_in : Phase → ℕ
rounds_in (Counting reads) = if reads then 2 else 1
rounds_in (Paused reads) = if reads then 2 else 1
rounds_in Showing = 1
rounds_in Sweeping = 2
rounds_in _ = 0

-- a nudge that the round has remembered
abbrev pub remembered : Phase → Bool → ℕ
remembered (Counting reads) flag = one_if flag
remembered _ flag = 0

-- what bounds the coordinator's numbers: it has an acknowledgement less than nodes; no advance waits while it is idle;
-- each advancement that was asked for is in a letter, waits, is in progress or has ended; of each that has ended the
-- client has heard, or will by a letter; and rounds are two for each advancement and one for each nudge, at most
pub record Numbers (s : ScriptData) (past : List Entry) (c : Coordinator) : Type 0 where
  pub nodes : c.nodes ≡ s.nodes
  pub acks : c.acks < s.nodes
  pub idle : running c.phase ≡ 0 → c.waits ≡ 0
  pub asked : count_in_flight is_advance_letter s past + c.waits + running c.phase + c.update ≡ asked_for s past + 1
  pub ended : count_in_flight is_advanced s past + (client_in s past).ended + 1 ≡ c.update
  pub rounds : c.count.number + remembered c.phase c.count.flag + 2 ≤ 2 * c.update + rounds_in c.phase + nudged past

-- the same of the coordinator after a past
abbrev pub IsSmall : ScriptData → List Entry → Type 0
IsSmall s past = Numbers s past (coordinator_in s past)

-- What bounds these numbers.
rounds_running : (phase : Phase) → rounds_in phase ≤ 2 * running phase
rounds_running Idle = omega arith
rounds_running Turning = omega arith
rounds_running (Counting true) = omega arith
rounds_running (Counting false) = omega arith
rounds_running (Paused true) = omega arith
rounds_running (Paused false) = omega arith
rounds_running Showing = omega arith
rounds_running Sweeping = omega arith

-- then the numbers can still grow
pub has_room : (s : ScriptData) (past : List Entry) → IsLawful s → IsStepRun s past → AllApt s past → IsSmall s past
    → HasRoom (coordinator_in s past)
has_room s past laws run apt small =
    let most : asked_for s past ≤ 100 =
    omega (arith, asked_most (client_in s past).next s.rows, laws.trees.valid.limited.advances) in
    let few : nudged past ≤ 20000 = omega (arith, laws.trees.nudges past run apt, laws.trees.valid.few_trees) in
    record {
      update = omega (arith, most, small.asked);
      waits = omega (arith, most, small.asked);
      round = omega (arith, most, few, small.asked, small.rounds, rounds_running (coordinator_in s past).phase);
      acks = omega (arith, small.acks, few_nodes s laws.trees.valid);
    }

-- What a step of the coordinator makes of these numbers.
pub record Costs (c : Coordinator) (body : Body) (out : Out Coordinator) : Type 0 where
  pub nodes : out.state.nodes ≡ c.nodes
  pub acks : c.acks < c.nodes → out.state.acks < c.nodes
  pub idle : (running c.phase ≡ 0 → c.waits ≡ 0) → running out.state.phase ≡ 0 → out.state.waits ≡ 0
  pub silent : tally (on is_advance_letter) out.sent ≡ 0
  pub asked : is_advance_letter body + c.waits + running c.phase + c.update ≡ out.state.waits + running out.state.phase + out.state.update
  pub ended : out.state.update ≡ c.update + tally (on is_advanced) out.sent
  pub rounds : out.state.count.number + remembered out.state.phase out.state.count.flag + rounds_in c.phase + 2 * c.update
      ≤ c.count.number + remembered c.phase c.count.flag + is_nudge body + rounds_in out.state.phase + 2 * out.state.update

-- of what an ignored letter asks nothing is left to do
ignored_advance : (body : Body) (phase : Phase) (from : ℕ) (c : Coordinator) → Ignored body phase from c → is_advance_letter body ≡ 0
ignored_advance Advance phase from c ignored = absurd ignored
ignored_advance _ phase from c ignored = refl

answer_advance : (phase : Phase) (body : Body) → IsAnswer phase body → is_advance_letter body ≡ 0
answer_advance Idle Advance answer = absurd answer
answer_advance Turning Advance answer = absurd answer
answer_advance (Counting reads) Advance answer = absurd answer
answer_advance (Paused reads) Advance answer = absurd answer
answer_advance Showing Advance answer = absurd answer
answer_advance Sweeping Advance answer = absurd answer
answer_advance phase _ answer = refl

runs : (phase : Phase) → IsRunning phase → running phase ≡ 1
runs Idle is = absurd is
runs _ is = refl

still_costs : (c d : Coordinator) (body : Body) → d.nodes ≡ c.nodes → d.acks ≡ c.acks → d.phase ≡ c.phase → d.waits ≡ c.waits
    → d.update ≡ c.update → d.count.number ≡ c.count.number → d.count.flag ≡ c.count.flag → is_advance_letter body ≡ 0 → Costs c body (still d)
still_costs c d body nodes acks phase waits update round flag took =
    let same : remembered d.phase d.count.flag ≡ remembered c.phase c.count.flag =
    ap (λ (p : Phase). remembered p d.count.flag) phase ∙ ap (λ (f : Bool). remembered c.phase f) flag in
    let begun : rounds_in d.phase ≡ rounds_in c.phase = ap rounds_in phase in
    let going : running d.phase ≡ running c.phase = ap running phase in
    record {
      nodes = nodes;
      acks = λ lt. omega (arith, lt, acks);
      idle = λ was none. omega (arith, waits, was (omega (arith, none, going)));
      silent = refl;
      asked = omega (arith, waits, going, update, took);
      ended = omega (arith, update);
      rounds = omega (arith, round, same, begun, update);
    }

round_costs : (c d : Coordinator) (body : Body) (phase : Phase) (reads : Bool) → c.phase ≡ phase → d.nodes ≡ c.nodes
    → d.waits ≡ c.waits → d.update ≡ c.update → running phase ≡ 1 → is_advance_letter body ≡ 0
    → rounds_in phase + 1 ≤ remembered phase c.count.flag + is_nudge body + rounds_in (Counting reads)
    → Costs c body (round_begun reads (c.count.number + 1) d)
round_costs c d body phase reads at nodes waits update goes took rounds =
    let going : running c.phase ≡ 1 = ap running at ∙ goes in
    let begun : rounds_in c.phase ≡ rounds_in phase = ap rounds_in at in
    let same : remembered c.phase c.count.flag ≡ remembered phase c.count.flag = ap (λ (p : Phase). remembered p c.count.flag) at in
    record {
      nodes = nodes;
      acks = λ lt. omega (arith, lt);
      idle = λ was none. absurd (omega (arith, none));
      silent = to_nodes_none is_advance_letter d.nodes (AskDone (counted_version reads d) (c.count.number + 1)) refl;
      asked = omega (arith, waits, going, update, took);
      ended = omega (arith, update, to_nodes_none is_advanced d.nodes (AskDone (counted_version reads d) (c.count.number + 1)) refl);
      rounds = omega (arith, begun, same, update, rounds);
    }

-- a phase that doesn't count begins with an order to every node
order_costs : (c d : Coordinator) (body order : Body) (phase next : Phase) → c.phase ≡ phase → d.nodes ≡ c.nodes
    → d.waits ≡ c.waits
    → d.update ≡ c.update → d.count.number ≡ c.count.number → running next ≡ 1 → is_advance_letter body + c.waits + running phase ≡ d.waits + 1
    → is_advance_letter order ≡ 0 → is_advanced order ≡ 0 → remembered next d.count.flag ≡ 0 → rounds_in phase ≡ rounds_in next
    → Costs c body (begin_phase next order d)
order_costs c d body order phase next at nodes waits update round goes took silent quiet calm rounds =
    let going : running c.phase ≡ running phase = ap running at in
    let begun : rounds_in c.phase ≡ rounds_in phase = ap rounds_in at in
    record {
      nodes = nodes;
      acks = λ lt. omega (arith, lt);
      idle = λ was none. absurd (omega (arith, none, goes));
      silent = to_nodes_none is_advance_letter d.nodes order silent;
      asked = omega (arith, waits, going, update, took, goes);
      ended = omega (arith, update, to_nodes_none is_advanced d.nodes order quiet);
      rounds = omega (arith, begun, rounds, update, round, calm);
    }

agrees_costs : (c : Coordinator) (from : ℕ) (row : List ℕ) (body : Body) (reads : Bool) → c.phase ≡ Counting reads
    → is_advance_letter body ≡ 0 → Costs c body (end_count reads (asked_kept from row c))
agrees_costs c from row body false at took =
    order_costs c (asked_kept from row c) body (Show (version c.update)) (Counting false)
    Showing at refl refl refl refl refl (omega (arith, took)) refl refl refl refl
agrees_costs c from row body true at took =
    order_costs c (asked_kept from row c) body (Sweep (version c.update)) (Counting true)
    Sweeping at refl refl refl refl refl (omega (arith, took)) refl refl refl refl

pauses_costs : (c : Coordinator) (from : ℕ) (row : List ℕ) (body : Body) (reads : Bool) → c.phase ≡ Counting reads
    → is_advance_letter body ≡ 0 → Costs c body (still (in_phase (Paused reads) (asked_kept from row c)))
pauses_costs c from row body reads at took =
    let going : running c.phase ≡ 1 = ap running at in
    let begun : rounds_in c.phase ≡ rounds_in (Counting reads) = ap rounds_in at in
    record {
      nodes = refl;
      acks = λ lt. omega (arith, lt);
      idle = λ was none. absurd (omega (arith, none));
      silent = refl;
      asked = omega (arith, going, took);
      ended = omega arith;
      rounds = omega (arith, begun);
    }

more_nodes : (a n : ℕ) → (a + 1 == n) ≡ false → a < n → a + 1 < n
more_nodes a n is lt = grind (arith, nat_tests)

none_is : (n : ℕ) → (n == 0) ≡ true → n ≡ 0
none_is n is = grind (arith, nat_tests)

some_are : (n : ℕ) → (n == 0) ≡ false → 1 ≤ n
some_are n is = grind (arith, nat_tests)

-- each outcome costs no more
costs : (c : Coordinator) (from : ℕ) (body : Body) (out : Out Coordinator) → Outcome c from body out → Costs c body out
costs c from body out (Rests phase at ignored is) =
    subst (λ (o : Out Coordinator). Costs c body o) (sym is)
    (still_costs c c body refl refl refl refl refl refl refl (ignored_advance body phase from c ignored))
costs c from body out (Queues phase at goes bd is) =
    let going : running c.phase ≡ 1 = ap running at ∙ runs phase goes in
    let one : is_advance_letter body ≡ 1 = ap is_advance_letter bd in
    subst (λ (o : Out Coordinator). Costs c body o) (sym is) (record {
      nodes = refl;
      acks = λ lt. lt;
      idle = λ was none. absurd (omega (arith, none, going));
      silent = refl;
      asked = omega (arith, one);
      ended = omega arith;
      rounds = omega arith;
    })
costs c from body out (Flags reads at bd is) =
    let none : is_advance_letter body ≡ 0 = ap is_advance_letter bd in
    let one : is_nudge body ≡ 1 = ap is_nudge bd in
    let more : remembered c.phase true ≡ 1 = ap (λ (p : Phase). remembered p true) at in
    subst (λ (o : Out Coordinator). Costs c body o) (sym is) (record {
      nodes = refl;
      acks = λ lt. lt;
      idle = λ was idle. was idle;
      silent = refl;
      asked = omega (arith, none);
      ended = omega arith;
      rounds = omega (arith, one, more);
    })
costs c from body out (Turns at bd is) =
    let one : is_advance_letter body ≡ 1 = ap is_advance_letter bd in
    let going : running c.phase ≡ 0 = ap running at in
    let begun : rounds_in c.phase ≡ 0 = ap rounds_in at in
    subst (λ (o : Out Coordinator). Costs c body o) (sym is) (record {
      nodes = refl;
      acks = λ lt. omega (arith, lt);
      idle = λ was none. absurd (omega (arith, none));
      silent = to_nodes_none is_advance_letter c.nodes (Turn (version (c.update + 1))) refl;
      asked = omega (arith, one, going);
      ended = omega (arith, to_nodes_none is_advanced c.nodes (Turn (version (c.update + 1))) refl);
      rounds = omega (arith, begun);
    })
costs c from body out (Acks phase at answer more is) =
    subst (λ (o : Out Coordinator). Costs c body o) (sym is) (record {
      nodes = refl;
      acks = λ lt. more_nodes c.acks c.nodes more lt;
      idle = λ was none. was none;
      silent = refl;
      asked = omega (arith, answer_advance phase body answer);
      ended = omega arith;
      rounds = omega arith;
    })
costs c from body out (LastTurned v at bd last is) =
    subst (λ (o : Out Coordinator). Costs c body o) (sym is)
    (round_costs c c body Turning false at refl refl refl refl (ap is_advance_letter bd) (omega arith))
costs c from body out (LastShown v at bd last is) =
    subst (λ (o : Out Coordinator). Costs c body o) (sym is)
    (round_costs c c body Showing true at refl refl refl refl (ap is_advance_letter bd) (omega arith))
costs c from body out (Finishes v at bd last none is) =
    let zero : is_advance_letter body ≡ 0 = ap is_advance_letter bd in
    let going : running c.phase ≡ 1 = ap running at in
    let begun : rounds_in c.phase ≡ 2 = ap rounds_in at in
    subst (λ (o : Out Coordinator). Costs c body o) (sym is) (record {
      nodes = refl;
      acks = λ lt. omega (arith, lt);
      idle = λ was idle. refl;
      silent = refl;
      asked = omega (arith, zero, going, none_is c.waits none);
      ended = omega arith;
      rounds = omega (arith, begun);
    })
costs c from body out (GoesOn v at bd last some is) =
    let zero : is_advance_letter body ≡ 0 = ap is_advance_letter bd in
    let going : running c.phase ≡ 1 = ap running at in
    let begun : rounds_in c.phase ≡ 2 = ap rounds_in at in
    subst (λ (o : Out Coordinator). Costs c body o) (sym is) (record {
      nodes = refl;
      acks = λ lt. omega (arith, lt);
      idle = λ was none. absurd (omega (arith, none));
      silent = omega (arith, to_nodes_none is_advance_letter c.nodes (Turn (version (c.update + 2))) refl);
      asked = omega (arith, zero, going, some_are c.waits some);
      ended = omega (arith, to_nodes_none is_advanced c.nodes (Turn (version (c.update + 2))) refl);
      rounds = omega (arith, begun);
    })
costs c from body out (Resumes reads at bd is) =
    subst (λ (o : Out Coordinator). Costs c body o) (sym is)
    (round_costs c c body (Paused reads) reads at refl refl refl refl (ap is_advance_letter bd) (omega (arith, ap is_nudge bd)))
costs c from body out (KeepsDone reads v k row at bd here is) =
    let none : is_advance_letter body ≡ 0 = ap is_advance_letter bd in
    subst (λ (o : Out Coordinator). Costs c body o) (sym is) (record {
      nodes = refl;
      acks = λ lt. lt;
      idle = λ was idle. was idle;
      silent = keep_done_none is_advance_letter from row c refl;
      asked = omega (arith, none);
      ended = omega (arith, keep_done_none is_advanced from row c refl);
      rounds = omega arith;
    })
costs c from body out (KeepsAsked reads v k row takes verdict is) =
    subst (λ (o : Out Coordinator). Costs c body o) (sym is)
    (still_costs c (asked_kept from row c) body refl refl refl refl refl refl refl (ap is_advance_letter takes.body_is))
costs c from body out (Agrees reads v k row takes verdict is) =
    subst (λ (o : Out Coordinator). Costs c body o) (sym is)
    (agrees_costs c from row body reads takes.phase (ap is_advance_letter takes.body_is))
costs c from body out (Recounts reads v k row takes verdict flag is) =
    let one : one_if c.count.flag ≡ 1 = ap one_if flag in
    subst (λ (o : Out Coordinator). Costs c body o) (sym is)
    (round_costs c (asked_kept from row c) body (Counting reads) reads takes.phase refl refl refl refl
    (ap is_advance_letter takes.body_is) (omega (arith, one)))
costs c from body out (Pauses reads v k row takes verdict flag is) =
    subst (λ (o : Out Coordinator). Costs c body o) (sym is)
    (pauses_costs c from row body reads takes.phase (ap is_advance_letter takes.body_is))

-- What the client submits.
one_advance : (s : ScriptData) (k : ℕ) → is_lossy s ≡ false → is_advance_letter (advance_letter s k) ≡ 1
one_advance s k keeps = rw keeps refl

rows_advances : (s : ScriptData) (k : ℕ) (rows : List ScriptRow) → is_lossy s ≡ false
    → tally (on is_advance_letter) (rows_letters s k rows) ≡ advances_in rows
rows_advances s k [] keeps = refl
rows_advances s k (TreeRow t ∷ rows) keeps = omega (arith, rows_advances s k rows keeps)
rows_advances s k (AdvanceRow ∷ rows) keeps = omega (arith, one_advance s k keeps, rows_advances s (k + 1) rows keeps)
rows_advances s k (SettleRow ∷ rows) keeps = omega (arith, rows_advances s k rows keeps)
rows_advances s k (LoseRow ∷ rows) keeps = omega (arith, rows_advances s k rows keeps)

rows_advanced : CountsNoRow is_advanced
rows_advanced = record { root = λ t. refl; advance = refl; numbered = λ i. refl; lose = refl }

-- an Advance for each advancement of the rows that are submitted
submits : (s : ScriptData) (c : Client) (first : List Outgoing) → is_lossy s ≡ false
    → tally (on is_advance_letter) (submit s c first).sent + advances_in (take c.next s.rows)
    ≡ tally (on is_advance_letter) first + advances_in (take (submit s c first).state.next s.rows)
submits s c first keeps =
    let n = submitted c (take c.next s.rows) (drop c.next s.rows) in
    let rest = take n (drop c.next s.rows) in
    let all : advances_in (take (c.next + n) s.rows) ≡ advances_in (take c.next s.rows ++ rest) =
    ap advances_in (take-add c.next n s.rows) in
    omega (
      arith,
      all,
      advances_in-append (take c.next s.rows) rest,
      tally-append (on is_advance_letter) first (rows_letters s (advances_sent s c) rest),
      rows_advances s (advances_sent s c) rest keeps,
    )

submits_none : (s : ScriptData) (c : Client) (first : List Outgoing)
    → tally (on is_advanced) (submit s c first).sent ≡ tally (on is_advanced) first
submits_none s c first =
    let rest = take (submitted c (take c.next s.rows) (drop c.next s.rows)) (drop c.next s.rows) in
    omega (
      arith,
      tally-append (on is_advanced) first (rows_letters s (advances_sent s c) rest),
      roots_none is_advanced s (advances_sent s c) rest rows_advanced,
    )

-- The numbers after an entry of another actor than the coordinator.
other_small : (s : ScriptData) (past : List Entry) (e : Entry) → e.actor.0 ≢ s.nodes → IsSmall s past
    → count_in_flight is_advance_letter s (e ∷ past) + asked_for s past ≡ count_in_flight is_advance_letter s past + asked_for s (e ∷ past)
    → count_in_flight is_advanced s (e ∷ past) + (client_in s (e ∷ past)).ended ≡ count_in_flight is_advanced s past +
    (client_in s past).ended
    → IsSmall s (e ∷ past)
other_small s past e away was asked ended =
    let after : Numbers s (e ∷ past) (coordinator_in s past) = record {
      nodes = was.nodes;
      acks = was.acks;
      idle = was.idle;
      asked = omega (arith, was.asked, asked);
      ended = omega (arith, was.ended, ended);
      rounds = omega (arith, was.rounds);
    } in
    subst (λ (c : Coordinator). Numbers s (e ∷ past) c) (sym (coordinator_kept s past e away)) after

-- neither kind of letters is of trees, or goes between the coordinator and the nodes
advance_no_trees : NoTrees is_advance_letter
advance_no_trees = record {
  root = λ t. refl;
  sub = λ t k v. refl;
  done = λ t k v notice. refl;
  reply = λ t v answer. refl;
  wake = λ t k. refl;
  decide = λ t v commit. refl;
  decided = λ t v. refl;
  release = λ t. refl;
}

advanced_no_trees : NoTrees is_advanced
advanced_no_trees = record {
  root = λ t. refl;
  sub = λ t k v. refl;
  done = λ t k v notice. refl;
  reply = λ t v answer. refl;
  wake = λ t k. refl;
  decide = λ t v commit. refl;
  decided = λ t v. refl;
  release = λ t. refl;
}

advance_passes : Passes is_advance_letter is_advance_letter
advance_passes = record {
  sent = advance_no_trees;
  took = advance_no_trees;
  turned = λ v. refl;
  shown = λ v. refl;
  swept = λ v. refl;
  done_row = λ v k row. refl;
  asked_row = λ v k row. refl;
}

advanced_passes : Passes is_advanced is_advanced
advanced_passes = record {
  sent = advanced_no_trees;
  took = advanced_no_trees;
  turned = λ v. refl;
  shown = λ v. refl;
  swept = λ v. refl;
  done_row = λ v k row. refl;
  asked_row = λ v k row. refl;
}

-- an entry of a node, of the client, and of the coordinator
by_node : (s : ScriptData) (past : List Entry) (e : Entry) → MayFollow s past e → e.actor.0 < s.nodes → IsSmall s past
    → Progress s past e → IsSmall s (e ∷ past)
by_node s past e m node was next =
    let kept : client_in s (e ∷ past) ≡ client_in s past = client_kept s past e (omega (arith, node)) in
    let asked : asked_for s (e ∷ past) ≡ asked_for s past = ap (λ (c : Client). advances_in (take c.next s.rows)) kept in
    let ended : (client_in s (e ∷ past)).ended ≡ (client_in s past).ended = ap (λ (c : Client). c.ended) kept in
    other_small s past e (omega (arith, node)) was
    (omega (arith, asked, node_keeps is_advance_letter advance_passes s past e m node next))
    (omega (arith, ended, node_keeps is_advanced advanced_passes s past e m node next))

by_client : (s : ScriptData) (past : List Entry) (e : Entry) (c : Client) (first : List Outgoing) → is_lossy s ≡ false
    → MayFollow s past e → IsSmall s past
    → e.actor.0 ≡ client_of s → MadeByClient s past e (submit s c first) → c.next ≡ (client_in s past).next
    → tally (on is_advance_letter) first ≡ 0 → tally (on is_advanced) first ≡ 0 → is_advance_letter e.took.body ≡ 0
    → c.ended ≡ (client_in s past).ended + is_advanced e.took.body → IsSmall s (e ∷ past)
by_client s past e c first keeps m was at made next quiet silent took ended =
    let more : asked_for s (e ∷ past) ≡ advances_in (take (submit s c first).state.next s.rows) =
    ap (λ (x : Client). advances_in (take x.next s.rows)) made.state in
    let before : advances_in (take c.next s.rows) ≡ asked_for s past = ap (λ (n : ℕ). advances_in (take n s.rows)) next in
    let heard : (client_in s (e ∷ past)).ended ≡ c.ended = ap (λ (x : Client). x.ended) made.state in
    let asks : tally (on is_advance_letter) e.sent ≡ tally (on is_advance_letter) (submit s c first).sent =
    ap (λ (os : List Outgoing). tally (on is_advance_letter) os) made.sent in
    let tells : tally (on is_advanced) e.sent ≡ tally (on is_advanced) (submit s c first).sent =
    ap (λ (os : List Outgoing). tally (on is_advanced) os) made.sent in
    other_small s past e (omega (arith, at)) was
    (omega (arith, flow is_advance_letter s past e m, more, before, asks, submits s c first keeps, quiet, took))
    (omega (arith, flow is_advanced s past e m, heard, tells, submits_none s c first, silent, ended))

-- the coordinator isn't told that an advancement has ended
told_advanced : (body : Body) → Tells body → is_advanced body ≡ 0
told_advanced (Advanced v) tells = absurd tells
told_advanced _ tells = refl

by_coordinator : (s : ScriptData) (past : List Entry) (e : Entry) → IsLawful s → IsStepRun s (e ∷ past) → AllApt s past
    → IsSmall s past → Tells e.took.body → e.actor.0 ≡ s.nodes → MadeByCoordinator s past e → IsSmall s (e ∷ past)
by_coordinator s past e laws run apt was told at made =
    let c = coordinator_in s past in
    let out = coordinator_row c e.took.from.0 e.took.body in
    let cost : Costs c e.took.body out =
    costs c e.took.from.0 e.took.body out (outcome c e.took.from.0 e.took.body (has_room s past laws run.1 apt was)) in
    let kept : client_in s (e ∷ past) ≡ client_in s past = client_kept s past e (omega (arith, at)) in
    let asked : asked_for s (e ∷ past) ≡ asked_for s past = ap (λ (x : Client). advances_in (take x.next s.rows)) kept in
    let ended : (client_in s (e ∷ past)).ended ≡ (client_in s past).ended = ap (λ (x : Client). x.ended) kept in
    let asks : tally (on is_advance_letter) e.sent ≡ tally (on is_advance_letter) out.sent =
    ap (λ (os : List Outgoing). tally (on is_advance_letter) os) made.sent in
    let tells : tally (on is_advanced) e.sent ≡ tally (on is_advanced) out.sent =
    ap (λ (os : List Outgoing). tally (on is_advanced) os) made.sent in
    let after : Numbers s (e ∷ past) out.state = record {
      nodes = cost.nodes ∙ was.nodes;
      acks = omega (arith, cost.acks (omega (arith, was.acks, was.nodes)), was.nodes);
      idle = cost.idle was.idle;
      asked = omega (arith, was.asked, flow is_advance_letter s past e run.0, asks, cost.silent, cost.asked, asked);
      ended =
          omega (arith, was.ended, flow is_advanced s past e run.0, tells, cost.ended, ended, told_advanced e.took.body told);
      rounds = omega (arith, was.rounds, cost.rounds);
    } in
    subst (λ (d : Coordinator). Numbers s (e ∷ past) d) (sym made.state) after

-- after any entry
ended_next : (s : ScriptData) (v : Version) (c : Client) → is_lossy s ≡ false → (with_end s v c).ended ≡ one_more c.ended
ended_next s v c keeps = rw keeps refl

small_next : (s : ScriptData) (past : List Entry) (e : Entry) → IsLawful s → IsStepRun s (e ∷ past) → AllApt s past
    → IsSmall s past → Progress s past e → IsSmall s (e ∷ past)
small_next s past e laws run apt was (Begins bd at made) =
    by_client s past e (client_in s past) [] laws.keeps run.0 was at made refl refl refl (ap is_advance_letter bd)
    (omega (arith, ap is_advanced bd))
small_next s past e laws run apt was (Hears t v answer bd at lt made) =
    by_client s past e (with_answer t.0 (client_in s past)) (nudge s ∷ []) laws.keeps run.0 was at made refl refl refl
    (ap is_advance_letter bd) (omega (arith, ap is_advanced bd))
small_next s past e laws run apt was (Ends v bd at made) =
    let few : (client_in s past).ended < 2 ^ 64 - 1 =
    omega (arith, was.ended, (has_room s past laws run.1 apt was).update) in
    by_client s past e (with_end s v (client_in s past)) [] laws.keeps run.0 was at made refl refl refl (ap is_advance_letter bd)
    (omega (arith, ended_next s v (client_in s past) laws.keeps, one_more_is (client_in s past).ended few, ap is_advanced bd))
small_next s past e laws run apt was (Coordinates tells at made) = by_coordinator s past e laws run apt was tells at made
small_next s past e laws run apt was (Works p r work) =
    by_node s past e run.0 (omega (arith, work.brings.at, work.brings.below)) was (Works p r work)
small_next s past e laws run apt was (Obeys p out more at lt order state sent woken) =
    by_node s past e run.0 (omega (arith, at, lt)) was (Obeys p out more at lt order state sent woken)

-- in every run the coordinator's numbers are small
pub small : (s : ScriptData) (past : List Entry) → IsLawful s → IsStepRun s past → AllApt s past → IsSmall s past
small s [] laws run apt = record {
  nodes = refl;
  acks = omega (arith, laws.trees.valid.some_nodes);
  idle = λ idle. refl;
  asked = omega arith;
  ended = omega arith;
  rounds = omega arith;
}
small s (e ∷ past) laws run apt =
    small_next s past e laws run apt.1 (small s past laws run.1 apt.1) (progress s past e laws apt run)

-- so each step of the coordinator is one of its outcomes
pub outcome_in : (s : ScriptData) (past : List Entry) (e : Entry) → IsLawful s → IsStepRun s past → AllApt s past
    → Outcome (coordinator_in s past) e.took.from.0 e.took.body
    (coordinator_row (coordinator_in s past) e.took.from.0 e.took.body)
outcome_in s past e laws run apt =
    outcome (coordinator_in s past) e.took.from.0 e.took.body (has_room s past laws run apt (small s past laws run apt))

-- What follows for rounds: two for each advancement that was asked for and one for each nudge, at most.
pub rounds_most : (s : ScriptData) (past : List Entry) → IsLawful s → IsStepRun s past → AllApt s past
    → (coordinator_in s past).count.number ≤ 2 * advances_in s.rows + nudged past
rounds_most s past laws run apt =
    let now = small s past laws run apt in
    let asked : asked_for s past ≤ advances_in s.rows = asked_most (client_in s past).next s.rows in
    omega (arith, asked, now.asked, now.rounds, rounds_running (coordinator_in s past).phase)

-- nudges are at most as many as trees
pub rounds_by_trees : (s : ScriptData) (past : List Entry) → IsLawful s → IsStepRun s past → AllApt s past
    → RoundsAreFew s past
rounds_by_trees s past laws run apt = omega (arith, rounds_most s past laws run apt, laws.trees.nudges past run apt)

-- and no advancement is lost
pub advances_kept : (s : ScriptData) (past : List Entry) → IsLawful s → IsStepRun s past → AllApt s past → AdvancesAreKept s past
advances_kept s past laws run apt =
    let now = small s past laws run apt in
    record { asked = now.asked; ended = now.ended }
