-- What the messages of advancements cost, if the coordinator remembers.
use Rattle.std.proofs.Common.{if◌then◌else◌, ◌≡◌, ◌≢◌, ℕ, ◌+◌, ◌*◌, ◌<◌, ◌≤◌, ◌==◌, Bool, true, false, List, [], ◌∷◌, ◌++◌, set, take, drop, refl, sym, ap, subst, ◌∙◌, arith, Some}
use Rattle.std.proofs.Math.Seq.{take-add}
use Rattle.std.proofs.lemmas.Bool.{eqb-true, not-false}
use Rattle.tx_trees.proofs.Rebuilding.{advances_in-append}
use Rattle.phase_out.specs.Rounds.{NodeRows, all_in}
use Rattle.phase_out.proofs.With.{none_in}
use Rattle.letter_types.specs.declared.bodies.Body.{Body}
use Rattle.letter_types.specs.declared.bodies.Body.TheVariants.{Go, Nudge, Advance, Advanced, Turn, Show, Sweep, Turned, Shown, Swept, AskDone, AskAsked, DoneRow, AskedRow, Wake, Lose, AdvanceNo, Ask, Numbers, Wanted, Order as OrderLetter, Obeyed}
use Rattle.letter_types.specs.declared.entries.Entry.{Entry}
use Rattle.letter_types.specs.declared.entries.Outgoing.{Outgoing}
use Rattle.letter_types.specs.Steps.{Out}
use Rattle.tx_trees.specs.Counts.{advances_in, loses_in, is_lossy}
use Rattle.tx_trees.specs.Valid.{IsValid}
use Rattle.tx_trees.specs.ScriptData.{ScriptData, client_of}
use Rattle.tx_trees.specs.declared.parts.ScriptRow.{ScriptRow}
use Rattle.tx_trees.specs.declared.parts.ScriptRow.TheVariants.{Tree as TreeRow, Advance as AdvanceRow, Settle as SettleRow, Lose as LoseRow}
use Rattle.world_model.specs.Node.{Node}
use Rattle.world_model.specs.Client.{Client, nudge, rows_letters, submit, submitted, with_answer, with_end, advances_sent}
use Rattle.world_model.specs.Coordinator.{Coordinator, coordinator_row, counted_version, end_count, to_nodes, version}
use Rattle.world_model.specs.declared.phase.Phase.{Phase}
use Rattle.world_model.specs.declared.phase.Phase.TheVariants.{Idle, Turning, Counting, Paused, Showing, Sweeping}
use Rattle.world_model.specs.Counts.{tally}
use Rattle.world_model.specs.Runs.{client_in, coordinator_in, node_in, MayFollow, IsStepRun}
use Rattle.world_model.proofs.Bags.{tally-append}
use Rattle.world_model.proofs.Every.{coordinator_kept, each_map, each_none}
use Rattle.world_model.proofs.Flows.{client_kept, flow}
use Rattle.world_model.proofs.Nexts.{MadeByClient, MadeByCoordinator, Order, Turns as TurnsTo, Shows, Sweeps, TellsDone, TellsAsked, Tells}
use Rattle.world_model.proofs.Orders.{coordinator_nodes}
use Rattle.world_model.proofs.Sends.{advance_each, on}
use Rattle.advance_laws.specs.Advances.{asked_for}
use Rattle.advance_laws.specs.Phases.{count_in_flight}
use Rattle.advance_laws.proofs.counting.Letters.{NoTrees, all_sent_none, none_of_trees}
use Rattle.advance_laws.proofs.phases.Outcomes.{Outcome, Rests, Queues, Flags, Turns, Acks, LastTurned, LastShown, Finishes, GoesOn, Resumes, KeepsDone, KeepsAsked, Agrees, Recounts, Pauses, asked_kept, round_begun, keep_done}
use Rattle.advance_laws.proofs.phases.Progress.{Begins, Coordinates, Ends, Hears, Obeys, Progress, Works, are_wakes, progress}
use Rattle.advance_laws.proofs.phases.Small.{outcome_in}
use Rattle.tree_laws.proofs.homes.Entries.{taken_in}
use Rattle.tx_trees.proofs.Rebuilding.{loses_in-append}
use Rattle.advance_laws.proofs.recovery.Few.{lost_most}
use Rattle.advance_laws.proofs.ending.Prices.{done_pays, price, put_all, to_nodes_price}
use Rattle.run_laws.proofs.each_tree.EveryApt.{all_apt, lawful}
use Rattle.advance_laws.proofs.recovery.Heeds.{AreWakes, IsWake}

-- a letter of advancements
abbrev pub is_apart : Body → ℕ
is_apart (Turn v) = 1
is_apart (Show v) = 1
is_apart (Sweep v) = 1
is_apart (AskDone v k) = 1
is_apart (AskAsked v k) = 1
is_apart (Turned v) = 1
is_apart (Shown v) = 1
is_apart (Swept v) = 1
is_apart (DoneRow v k row) = 1
is_apart (AskedRow v k row) = 1
is_apart Advance = 1
is_apart (Advanced v) = 1
is_apart Lose = 1
is_apart (AdvanceNo i) = 1
is_apart (Ask e) = 1
is_apart (Numbers e u r l) = 1
is_apart (Wanted e k) = 1
is_apart (OrderLetter e what v) = 1
is_apart (Obeyed e what v) = 1
is_apart Go = 0
is_apart _ = 0

-- how many stages of the advancement in progress have begun
abbrev pub stages : Phase → ℕ
stages Idle = 0
stages Turning = 1
stages (Counting reads) = if reads then 2 else 1
stages (Paused reads) = if reads then 2 else 1
stages Showing = 2
stages Sweeping = 3

-- the second wave of questions, while it hasn't begun
abbrev pub unasked : ℕ → Phase → NodeRows → ℕ
unasked n (Counting reads) dones = if all_in dones then 0 else 2 * n
unasked n Idle dones = 0
unasked n _ dones = 0

abbrev pub pend : ℕ → Coordinator → ℕ
pend n c = unasked n c.phase c.count.current.dones

-- what the coordinator has begun, in entries
abbrev pub spent : ℕ → Coordinator → ℕ
spent n c = c.update * (6 * n + 1) + 2 * n * stages c.phase + 4 * n * c.count.number

-- what it sends is what it begins
abbrev Pays : ℕ → Coordinator → Out Coordinator → Type 0
Pays n c out = tally (on price) out.sent + spent n c + pend n out.state ≡ spent n out.state + pend n c

pays_by : (n : ℕ) (c : Coordinator) (out next : Out Coordinator) → out ≡ next → Pays n c next → Pays n c out
pays_by n c out next is pays = subst (λ (o : Out Coordinator). Pays n c o) (sym is) pays

unasked_all : (n : ℕ) (phase : Phase) (dones : NodeRows) → all_in dones ≡ true → unasked n phase dones ≡ 0
unasked_all n (Counting reads) dones all = rw all refl
unasked_all n Idle dones all = refl
unasked_all n Turning dones all = refl
unasked_all n (Paused reads) dones all = refl
unasked_all n Showing dones all = refl
unasked_all n Sweeping dones all = refl

-- a round begins where no question is pending
pays_begun : (n : ℕ) (reads : Bool) (c d : Coordinator) → 1 ≤ n → d.nodes ≡ n → d.update ≡ c.update → pend n c ≡ 0 → stages c.phase ≡ stages (Counting reads)
    → Pays n c (round_begun reads (c.count.number + 1) d)
pays_begun n reads c d some nodes update none stage =
    let sent : tally (on price) (to_nodes d.nodes (AskDone (counted_version reads d) (c.count.number + 1))) ≡ 2 * n =
    to_nodes_price d.nodes (AskDone (counted_version reads d) (c.count.number + 1)) refl ∙ ap (λ (m : ℕ). 2 * m) nodes in
    let new = ap (λ (b : Bool). if b then 0 else 2 * n) (none_in d.nodes (omega (arith, some, nodes))) in
    let same : d.update * (6 * n + 1) ≡ c.update * (6 * n + 1) = ap (λ (u : ℕ). u * (6 * n + 1)) update in
    let at : 2 * n * stages c.phase ≡ 2 * n * stages (Counting reads) = ap (λ (k : ℕ). 2 * n * k) stage in
    omega (arith, sent, new, same, at, none)

stage_at : (n : ℕ) (c : Coordinator) (phase : Phase) → c.phase ≡ phase → 2 * n * stages c.phase ≡ 2 * n * stages phase
stage_at n c phase at = ap (λ (p : Phase). 2 * n * stages p) at

pend_at : (n : ℕ) (c : Coordinator) (phase : Phase) → c.phase ≡ phase → pend n c ≡ unasked n phase c.count.current.dones
pend_at n c phase at = ap (λ (p : Phase). unasked n p c.count.current.dones) at

pays_ends : (n : ℕ) (reads : Bool) (c d : Coordinator) → d.nodes ≡ n → d.update ≡ c.update → d.count.number ≡ c.count.number → c.phase ≡ Counting reads
    → pend n c ≡ 0 → Pays n c (end_count reads d)
pays_ends n false c d nodes update round at none =
    let sent : tally (on price) (to_nodes d.nodes (Show (version d.update))) ≡ 2 * n =
    to_nodes_price d.nodes (Show (version d.update)) refl ∙ ap (λ (m : ℕ). 2 * m) nodes in
    let same : d.update * (6 * n + 1) ≡ c.update * (6 * n + 1) = ap (λ (u : ℕ). u * (6 * n + 1)) update in
    let rounds : 4 * n * d.count.number ≡ 4 * n * c.count.number = ap (λ (k : ℕ). 4 * n * k) round in
    omega (arith, sent, same, rounds, stage_at n c (Counting false) at, none)
pays_ends n true c d nodes update round at none =
    let sent : tally (on price) (to_nodes d.nodes (Sweep (version d.update))) ≡ 2 * n =
    to_nodes_price d.nodes (Sweep (version d.update)) refl ∙ ap (λ (m : ℕ). 2 * m) nodes in
    let same : d.update * (6 * n + 1) ≡ c.update * (6 * n + 1) = ap (λ (u : ℕ). u * (6 * n + 1)) update in
    let rounds : 4 * n * d.count.number ≡ 4 * n * c.count.number = ap (λ (k : ℕ). 4 * n * k) round in
    omega (arith, sent, same, rounds, stage_at n c (Counting true) at, none)

pays_done : (n : ℕ) (reads : Bool) (from : ℕ) (row : List ℕ) (c : Coordinator) → c.nodes ≡ n → c.phase ≡ Counting reads → Pays n c (keep_done from row c)
pays_done n reads from row c nodes at =
    let new = all_in (set c.count.current.dones from (Some row)) in
    let old = all_in c.count.current.dones in
    let is : unasked n c.phase (set c.count.current.dones from (Some row)) ≡ (if new then 0 else 2 * n) =
    ap (λ (p : Phase). unasked n p (set c.count.current.dones from (Some row))) at in
    let was : pend n c ≡ (if old then 0 else 2 * n) = pend_at n c (Counting reads) at in
    let pays = done_pays n c.nodes new old (AskAsked c.count.current.version c.count.current.number) nodes refl
    (λ all. put_all c.count.current.dones from row all) in
    omega (arith, is, was, pays)

-- the advancement ends
pays_next : (n u : ℕ) → (u + 1) * (6 * n + 1) ≡ u * (6 * n + 1) + 6 * n + 1
pays_next n u = omega arith

calm_pend : (n : ℕ) (c : Coordinator) (phase : Phase) → c.phase ≡ phase → ((dones : NodeRows) → unasked n phase dones ≡ 0) → pend n c ≡ 0
calm_pend n c phase at none = pend_at n c phase at ∙ none c.count.current.dones

full_pend : (n : ℕ) (c : Coordinator) → all_in c.count.current.dones ≡ true → pend n c ≡ 0
full_pend n c all = unasked_all n c.phase c.count.current.dones all

pays_out : (n : ℕ) (c : Coordinator) (from : ℕ) (body : Body) (out : Out Coordinator) → 1 ≤ n → c.nodes ≡ n → Outcome c from body out → Pays n c out
pays_out n c from body out some nodes (Rests phase at ignored is) = pays_by n c out _ is (omega arith)
pays_out n c from body out some nodes (Queues phase at goes bd is) = pays_by n c out _ is (omega arith)
pays_out n c from body out some nodes (Flags reads at bd is) = pays_by n c out _ is (omega arith)
pays_out n c from body out some nodes (Turns at bd is) =
    pays_by n c out _ is (omega (
      arith,
      to_nodes_price c.nodes (Turn (version (c.update + 1))) refl ∙ ap (λ (m : ℕ). 2 * m) nodes,
      stage_at n c Idle at,
      calm_pend n c Idle at (λ dones. refl),
    ))
pays_out n c from body out some nodes (Acks phase at answer more is) = pays_by n c out _ is (omega arith)
pays_out n c from body out some nodes (LastTurned v at bd last is) =
    pays_by n c out _ is (pays_begun n false c c some nodes refl (calm_pend n c Turning at (λ dones. refl)) (ap stages at))
pays_out n c from body out some nodes (LastShown v at bd last is) =
    pays_by n c out _ is (pays_begun n true c c some nodes refl (calm_pend n c Showing at (λ dones. refl)) (ap stages at))
pays_out n c from body out some nodes (Finishes v at bd last none is) =
    pays_by n c out _ is (omega (arith, stage_at n c Sweeping at, calm_pend n c Sweeping at (λ dones. refl), pays_next n c.update))
pays_out n c from body out some nodes (GoesOn v at bd last more is) =
    pays_by n c out _ is (omega (
      arith,
      to_nodes_price c.nodes (Turn (version (c.update + 2))) refl ∙ ap (λ (m : ℕ). 2 * m) nodes,
      stage_at n c Sweeping at,
      calm_pend n c Sweeping at (λ dones. refl),
      pays_next n c.update,
    ))
pays_out n c from body out some nodes (Resumes reads at bd is) =
    pays_by n c out _ is (pays_begun n reads c c some nodes refl (calm_pend n c (Paused reads) at (λ dones. refl)) (ap stages at))
pays_out n c from body out some nodes (KeepsDone reads v k row at bd here is) = pays_by n c out _ is (pays_done n reads from row c nodes at)
pays_out n c from body out some nodes (KeepsAsked reads v k row takes verdict is) = pays_by n c out _ is (omega arith)
pays_out n c from body out some nodes (Agrees reads v k row takes verdict is) =
    pays_by n c out _ is (pays_ends n reads c (asked_kept from row c) nodes refl refl takes.phase (full_pend n c takes.after_dones))
pays_out n c from body out some nodes (Recounts reads v k row takes verdict flag is) =
    pays_by n c out _ is (pays_begun n reads c (asked_kept from row c) some nodes refl (full_pend n c takes.after_dones) (ap stages takes.phase))
pays_out n c from body out some nodes (Pauses reads v k row takes verdict flag is) =
    pays_by n c out _ is (omega (arith, stage_at n c (Counting reads) takes.phase, full_pend n c takes.after_dones))

-- In every run.
abbrev pub Paid : ScriptData → List Entry → Type 0
Paid s past =
    count_in_flight price s past + taken_in is_apart past + pend s.nodes (coordinator_in s past) + 6 * s.nodes + 1
    ≡ asked_for s past + spent s.nodes (coordinator_in s past)

-- another actor, by what it takes and sends
paid_away : (s : ScriptData) (past : List Entry) (e : Entry) → MayFollow s past e → Paid s past → e.actor.0 ≢ s.nodes
    → asked_for s (e ∷ past) + price e.took.body ≡ asked_for s past + tally (on price) e.sent + is_apart e.took.body
    → Paid s (e ∷ past)
paid_away s past e m paid away goes =
    let same = coordinator_kept s past e away in
    let pends : pend s.nodes (coordinator_in s (e ∷ past)) ≡ pend s.nodes (coordinator_in s past) = ap (λ (c : Coordinator). pend s.nodes c) same in
    let spends : spent s.nodes (coordinator_in s (e ∷ past)) ≡ spent s.nodes (coordinator_in s past) = ap (λ (c : Coordinator). spent s.nodes c) same in
    omega (arith, paid, goes, pends, spends, flow price s past e m)

-- the client asks for advancements, and makes the coordinator forget
pub rows_price : (s : ScriptData) (k : ℕ) (rows : List ScriptRow)
    → tally (on price) (rows_letters s k rows) ≡ advances_in rows + loses_in rows
rows_price s k [] = refl
rows_price s k (TreeRow t ∷ rows) = omega (arith, rows_price s k rows)
rows_price s k (AdvanceRow ∷ rows) =
    omega (arith, advance_each (λ (b : Body). price b ≡ 1) s k (λ is. refl) (λ is. refl), rows_price s (k + 1) rows)
rows_price s k (SettleRow ∷ rows) = omega (arith, rows_price s k rows)
rows_price s k (LoseRow ∷ rows) = omega (arith, rows_price s k rows)

pub more_asked : (n k : ℕ) (rows : List ScriptRow)
    → advances_in (take (n + k) rows) ≡ advances_in (take n rows) + advances_in (take k (drop n rows))
more_asked n k rows = ap advances_in (take-add n k rows) ∙ advances_in-append (take n rows) (take k (drop n rows))

pub more_lost : (n k : ℕ) (rows : List ScriptRow)
    → loses_in (take (n + k) rows) ≡ loses_in (take n rows) + loses_in (take k (drop n rows))
more_lost n k rows = ap loses_in (take-add n k rows) ∙ loses_in-append (take n rows) (take k (drop n rows))

-- no row makes one forget that remembers
none_lost : (s : ScriptData) (n k : ℕ) → is_lossy s ≡ false → loses_in (take k (drop n s.rows)) ≡ 0
none_lost s n k keeps =
    let all : loses_in s.rows ≡ 0 = eqb-true (loses_in s.rows) 0 (not-false (loses_in s.rows == 0) keeps) in
    omega (arith, all, more_lost n k s.rows, lost_most (n + k) s.rows)

paid_client : (s : ScriptData) (past : List Entry) (e : Entry) (c : Client) (first : List Outgoing) → is_lossy s ≡ false → MayFollow s past e → Paid s past
    → e.actor.0 ≡ client_of s → c.next ≡ (client_in s past).next → tally (on price) first ≡ 0 → price e.took.body ≡ is_apart e.took.body
    → MadeByClient s past e (submit s c first) → Paid s (e ∷ past)
paid_client s past e c first keeps m paid at next none same made =
    let k = submitted c (take c.next s.rows) (drop c.next s.rows) in
    let rows = take k (drop c.next s.rows) in
    let sent : tally (on price) e.sent ≡ tally (on price) (first ++ rows_letters s (advances_sent s c) rows) = ap (λ (os : List Outgoing). tally (on price) os) made.sent in
    let after : asked_for s (e ∷ past) ≡ advances_in (take (c.next + k) s.rows) = ap (λ (x : Client). advances_in (take x.next s.rows)) made.state in
    let before : advances_in (take c.next s.rows) ≡ asked_for s past = ap (λ (n : ℕ). advances_in (take n s.rows)) next in
    paid_away s past e m paid (omega (arith, at))
    (omega (
      arith,
      sent,
      tally-append (on price) first (rows_letters s (advances_sent s c) rows),
      none,
      rows_price s (advances_sent s c) rows,
      none_lost s c.next k keeps,
      after,
      more_asked c.next k s.rows,
      before,
      same,
    ))

-- a node
paid_node : (s : ScriptData) (past : List Entry) (e : Entry) → MayFollow s past e → Paid s past → e.actor.0 < s.nodes
    → price e.took.body ≡ tally (on price) e.sent + is_apart e.took.body → Paid s (e ∷ past)
paid_node s past e m paid node goes =
    let asked : asked_for s (e ∷ past) ≡ asked_for s past =
    ap (λ (x : Client). advances_in (take x.next s.rows)) (client_kept s past e (omega (arith, node))) in
    paid_away s past e m paid (omega (arith, node)) (omega (arith, goes, asked))

-- A tree's letters price nothing.
pub price_trees : NoTrees price
price_trees = record {
  root = λ t. refl;
  sub = λ t k v. refl;
  done = λ t k v notice. refl;
  reply = λ t v answer. refl;
  wake = λ t k. refl;
  decide = λ t v commit. refl;
  decided = λ t v. refl;
  release = λ t. refl;
}

pub apart_trees : NoTrees is_apart
apart_trees = record {
  root = λ t. refl;
  sub = λ t k v. refl;
  done = λ t k v notice. refl;
  reply = λ t v answer. refl;
  wake = λ t k. refl;
  decide = λ t v commit. refl;
  decided = λ t v. refl;
  release = λ t. refl;
}

pub order_pays : (s : ScriptData) (st : Node) (body : Body) (out : Out Node) → Order s st body out → price body ≡ tally (on price) out.sent + is_apart body
order_pays s st body out (TurnsTo v bd is) = omega (arith, ap price bd, ap is_apart bd, ap (λ (o : Out Node). tally (on price) o.sent) is)
order_pays s st body out (Shows v bd is) = omega (arith, ap price bd, ap is_apart bd, ap (λ (o : Out Node). tally (on price) o.sent) is)
order_pays s st body out (Sweeps v bd is) = omega (arith, ap price bd, ap is_apart bd, ap (λ (o : Out Node). tally (on price) o.sent) is)
order_pays s st body out (TellsDone v k bd is) = omega (arith, ap price bd, ap is_apart bd, ap (λ (o : Out Node). tally (on price) o.sent) is)
order_pays s st body out (TellsAsked v k bd is) = omega (arith, ap price bd, ap is_apart bd, ap (λ (o : Out Node). tally (on price) o.sent) is)

pub tells_price : (body : Body) → Tells body → price body ≡ is_apart body
tells_price Nudge tells = refl
tells_price Advance tells = refl
tells_price (Turned v) tells = refl
tells_price (Shown v) tells = refl
tells_price (Swept v) tells = refl
tells_price (DoneRow v k row) tells = refl
tells_price (AskedRow v k row) tells = refl
tells_price _ tells = absurd tells

paid_told : (s : ScriptData) (past : List Entry) (e : Entry) → IsValid s → is_lossy s ≡ false → IsStepRun s (e ∷ past) → Paid s past → Tells e.took.body
    → e.actor.0 ≡ s.nodes → MadeByCoordinator s past e → Paid s (e ∷ past)
paid_told s past e valid keeps run paid tells at made =
    let c = coordinator_in s past in
    let out = coordinator_row c e.took.from.0 e.took.body in
    let pays = pays_out s.nodes c e.took.from.0 e.took.body out valid.some_nodes (coordinator_nodes s past)
    (outcome_in s past e (lawful s valid keeps) run.1 (all_apt s past valid run.1)) in
    let pends : pend s.nodes (coordinator_in s (e ∷ past)) ≡ pend s.nodes out.state = ap (λ (d : Coordinator). pend s.nodes d) made.state in
    let spends : spent s.nodes (coordinator_in s (e ∷ past)) ≡ spent s.nodes out.state = ap (λ (d : Coordinator). spent s.nodes d) made.state in
    let sent : tally (on price) e.sent ≡ tally (on price) out.sent = ap (λ (os : List Outgoing). tally (on price) os) made.sent in
    let asked : asked_for s (e ∷ past) ≡ asked_for s past =
    ap (λ (x : Client). advances_in (take x.next s.rows)) (client_kept s past e (omega (arith, at))) in
    omega (arith, paid, pays, pends, spends, sent, asked, tells_price e.took.body tells, flow price s past e run.0)

wake_price : (body : Body) → IsWake body → price body ≡ 0
wake_price (Wake t k) wake = refl
wake_price _ wake = absurd wake

pub wakes_price : (more : List Outgoing) → AreWakes more → tally (on price) more ≡ 0
wakes_price more woken =
    each_none (on price) more
    (each_map (λ (o : Outgoing). IsWake o.body) (λ (o : Outgoing). on price o ≡ 0) more
    (λ o wake. wake_price o.body wake) woken)

paid_next : (s : ScriptData) (past : List Entry) (e : Entry) → IsValid s → is_lossy s ≡ false → IsStepRun s (e ∷ past) → Paid s past → Progress s past e
    → Paid s (e ∷ past)
paid_next s past e valid keeps run paid (Begins bd at made) =
    paid_client s past e (client_in s past) [] keeps run.0 paid at refl refl (omega (arith, ap price bd, ap is_apart bd)) made
paid_next s past e valid keeps run paid (Hears t v answer bd at lt made) =
    paid_client s past e (with_answer t.0 (client_in s past)) (nudge s ∷ []) keeps run.0 paid at refl refl (omega (arith, ap price bd, ap is_apart bd)) made
paid_next s past e valid keeps run paid (Ends v bd at made) =
    paid_client s past e (with_end s v (client_in s past)) [] keeps run.0 paid at refl refl (omega (arith, ap price bd, ap is_apart bd)) made
paid_next s past e valid keeps run paid (Coordinates tells at made) = paid_told s past e valid keeps run paid tells at made
paid_next s past e valid keeps run paid (Works p r w) =
    paid_node s past e run.0 paid (omega (arith, w.brings.at, w.brings.below)) (omega (
      arith,
      none_of_trees price e.took.body price_trees w.took,
      none_of_trees is_apart e.took.body apart_trees w.took,
      all_sent_none price s (node_in s past p) r.body e.sent price_trees w.sent,
    ))
paid_next s past e valid keeps run paid (Obeys p out more at lt order state sent woken) =
    paid_node s past e run.0 paid (omega (arith, at, lt)) (omega (
      arith,
      ap (λ (os : List Outgoing). tally (on price) os) sent,
      tally-append (on price) out.sent more,
      wakes_price more (are_wakes e.took.body more woken),
      order_pays s (node_in s past p) e.took.body out order,
    ))

-- the letters of advancements that were taken, and what those in flight price, by what was asked for and begun
pub paid : (s : ScriptData) (past : List Entry) → IsValid s → is_lossy s ≡ false → IsStepRun s past → Paid s past
paid s [] valid keeps run = omega arith
paid s (e ∷ past) valid keeps run =
    paid_next s past e valid keeps run (paid s past valid keeps run.1) (progress s past e (lawful s valid keeps) (all_apt s (e ∷ past) valid run) run)
