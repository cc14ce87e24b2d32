-- How many entries a run to its end has, if no transaction is strict: what was sent was taken then, and each
-- transaction is answered.
use Rattle.std.proofs.Common.{◌≡◌, ◌≢◌, ℕ, ◌+◌, ◌*◌, ◌<◌, ◌≤◌, ◌==◌, ◌&&◌, Bool, true, false, List, [], ◌∷◌, length, reverse, take, drop, get_or, refl, sym, ap, ◌∙◌, arith}
use Rattle.std.proofs.lemmas.Bool.Decides.{nat_tests}
use Rattle.letter_types.specs.declared.bodies.Body.{Body}
use Rattle.letter_types.specs.declared.bodies.Body.TheVariants.{Go, Root, Sub as SubLetter, Reply, Nudge}
use Rattle.letter_types.specs.declared.entries.Entry.{Entry}
use Rattle.letter_types.specs.declared.entries.Letter.{Letter}
use Rattle.letter_types.specs.declared.entries.Outgoing.{Outgoing}
use Rattle.phase_out.specs.Rounds.{NodeRows}
use Rattle.script_parts.specs.Counts.{has_strict, is_lossy}
use Rattle.script_parts.proofs.SubsOf.{has_root}
use Rattle.world_model.specs.Client.{Client, nudge, rows_letters, submit, submitted, with_answer, with_end, advances_sent}
use Rattle.world_model.specs.Coordinator.{Coordinator, coordinator_row}
use Rattle.world_model.specs.declared.phase.Phase.{Phase}
use Rattle.world_model.specs.declared.phase.Phase.TheVariants.{Idle, Turning, Counting, Paused, Showing, Sweeping}
use Rattle.tx_trees.specs.Counts.{advances_in, all_subs}
use Rattle.tx_trees.specs.ScriptData.{ScriptData, client_of, subs_at}
use Rattle.tx_trees.specs.Valid.{IsValid}
use Rattle.tx_trees.specs.declared.parts.ScriptRow.{ScriptRow}
use Rattle.world_model.specs.Counts.{one_if, tally}
use Rattle.world_model.specs.Runs.{client_in, coordinator_in, in_flight, IsStepRun}
use Rattle.world_model.proofs.Bags.{tally-append}
use Rattle.world_model.proofs.Bridge.{coordinator_after}
use Rattle.world_model.proofs.Every.{each_none}
use Rattle.world_model.proofs.Lawful.{is_nudge, nudged}
use Rattle.world_model.proofs.Orders.{coordinator_each}
use Rattle.world_model.proofs.Scripts.{SubAt, sub_here, sub_there}
use Rattle.world_model.proofs.Sends.{on, roots_none}
use Rattle.world_model.specs.Meant.{IsMeant}
use Rattle.world_model.proofs.Meant.{took_meant}
use Rattle.advance_laws.specs.Advances.{asked_for, is_advanced, running}
use Rattle.advance_laws.specs.Phases.{count_in_flight}
use Rattle.advance_laws.proofs.counting.Letters.{NoTrees, Passes, node_passes}
use Rattle.advance_laws.proofs.phases.Progress.{Begins, Coordinates, Ends, Hears, Obeys, Progress, Works, progress}
use Rattle.advance_laws.proofs.phases.Small.{small}
use Rattle.tree_laws.specs.Dids.{answers, asks, is_go, replies_to, roots_sent, tells_done}
use Rattle.tree_laws.specs.Entries.{entries_of, rounds_in, strict_entries}
use Rattle.tree_laws.specs.Stages.{StageAt, IsAnswered, Answered, Gathers, Holds, Unborn}
use Rattle.tree_laws.specs.Turns.{turns}
use Rattle.tree_laws.proofs.apt.AptLawful.{heard_were_sent}
use Rattle.tree_laws.proofs.stages.AptStagesRun.{stages_of_trees}
use Rattle.tree_laws.proofs.stages.AptStagesSteps.{told, turned_by}
use Rattle.tree_laws.proofs.apt.AptSteps.{enters}
use Rattle.tree_laws.proofs.apt.AptTurns.{turns_come_once}
use Rattle.tree_laws.proofs.homes.Entries.{all_subs_here, asks_in, is_reply, is_work, some_subs, taken_in, taken_over, taken_replies}
use Rattle.tree_laws.proofs.homes.Sent.{rooted_once}
use Rattle.tree_laws.proofs.loads.Sums.{over, over_add, over_ones, over_same}
use Rattle.run_laws.proofs.ending.Bounds.{asks_sent, counted, is_note, no_go, note_by_tree, notes_root, notes_sent, reply_by_tree, strict_few, taken_same, work_by_tree}
use Rattle.run_laws.proofs.ending.Busy.{no_nudge}
use Rattle.advance_laws.proofs.ending.Prices.{price}
use Rattle.run_laws.proofs.ending.Costs.{is_apart, paid, stages, unasked}
use Rattle.run_laws.proofs.ending.Ends.{all_rows, answered_now, ended_all, idle}
use Rattle.run_laws.proofs.each_tree.EveryApt.{all_apt, lawful}
use Rattle.run_laws.proofs.ending.Measures.{nudges}
use Rattle.run_laws.proofs.keeping.SentFew.{taken_sent}
use Rattle.run_laws.proofs.keeping.WakesFew.{sent_in}

-- Where no letter is in flight, all that was sent was taken.
none_flies : (f : Body → ℕ) (s : ScriptData) (past : List Entry) → in_flight s past ≡ [] → count_in_flight f s past ≡ 0
none_flies f s past empty = ap (λ (ls : List Letter). tally (λ (l : Letter). f l.body) ls) empty

taken_all : (f : Body → ℕ) (s : ScriptData) (past : List Entry) → IsStepRun s past → in_flight s past ≡ [] → taken_in f past ≡ f Go + sent_in f past
taken_all f s past run empty = omega (arith, taken_sent f s past run, none_flies f s past empty)

-- Each tree is answered then.
answered_of : (s : ScriptData) (past : List Entry) (t : ℕ) → 1 ≤ answers past t → StageAt s past t → IsAnswered s past t
answered_of s past t some (Unborn u) = absurd (omega (arith, some, u.answers))
answered_of s past t some (Gathers h g) = absurd (omega (arith, some, g.answers))
answered_of s past t some (Holds h g) = absurd (omega (arith, some, g.answers))
answered_of s past t some (Answered a) = a

answered_all : (s : ScriptData) (past : List Entry) (t : ℕ) → IsValid s → is_lossy s ≡ false → IsStepRun s past → in_flight s past ≡ [] → t < length s.trees
    → IsAnswered s past t
answered_all s past t valid keeps run empty lt =
    let rows : roots_sent t (take (client_in s past).next s.rows) ≡ roots_sent t s.rows =
    ap (λ (xs : List ScriptRow). roots_sent t xs) (all_rows s past valid run empty) in
    let row : 1 ≤ roots_sent t (take (client_in s past).next s.rows) =
    omega (arith, rooted_once (length s.trees) t s.rows valid.rows lt, rows) in
    let heard : one_if (get_or (client_in s past).answered t false) ≡ 1 = ap one_if (answered_now s past t valid run empty row) in
    answered_of s past t (omega (arith, heard_were_sent s past t run, heard)) (stages_of_trees s past valid (all_apt s past valid run) run t lt)

-- So each of its subtransactions was asked for once,
asked_once : (s : ScriptData) (past : List Entry) (t k : ℕ) → IsValid s → is_lossy s ≡ false → IsStepRun s past → in_flight s past ≡ [] → t < length s.trees
    → k < length (subs_at s t) → taken_in (asks t k) past ≡ 1
asked_once s past t k valid keeps run empty lt kt =
    let sub : SubAt s t k = sub_there s t k lt kt in
    omega (
      arith,
      taken_all (asks t k) s past run empty,
      asks_sent s past t k valid run,
      (answered_all s past t valid keeps run empty lt).all.turned k kt,
      turns_come_once s past t k sub.sub valid (all_apt s past valid run) run (sub_here s t k sub),
    )

tree_works : (s : ScriptData) (past : List Entry) (t : ℕ) → IsValid s → is_lossy s ≡ false → IsStepRun s past → in_flight s past ≡ [] → t < length s.trees
    → taken_in (asks_in s t) past ≡ length (subs_at s t)
tree_works s past t valid keeps run empty lt =
    taken_over (asks t) (subs_at s t) past
    ∙ over_ones 0 (λ k. taken_in (asks t k) past) (subs_at s t) (λ k from kt. asked_once s past t k valid keeps run empty lt (omega (arith, kt)))

works_taken : (s : ScriptData) (past : List Entry) → IsValid s → is_lossy s ≡ false → IsStepRun s past → in_flight s past ≡ []
    → taken_in is_work past ≡ all_subs s.trees
works_taken s past valid keeps run empty =
    taken_same is_work (λ b. over 0 (λ t. asks_in s t b) s.trees) s past valid run (work_by_tree s valid)
    ∙ (taken_over (asks_in s) s.trees past
    ∙ (over_same 0 (λ t. taken_in (asks_in s t) past) (λ t. length (subs_at s t)) s.trees
    (λ t from lt. tree_works s past t valid keeps run empty (omega (arith, lt))) ∙ all_subs_here s))

-- and each but the root told once that it is done.
told_asks : (t k : ℕ) (b : Body) → 0 < k → told t k b ≡ asks t k b
told_asks t k (Root u) some = root (u.0 == t) where
  later : (0 == k) ≡ false
  later = grind (arith, nat_tests, some)

  root : (b : Bool) → 0 ≡ one_if (b && (0 == k))
  root true = sym (ap one_if later)
  root false = refl
told_asks t k (SubLetter u j v) some = refl
told_asks t k Go some = refl
told_asks t k _ some = refl

notes_made : (s : ScriptData) (past : List Entry) (t k : ℕ) → IsValid s → IsStepRun s past → 0 < k → sent_in (tells_done t k) past ≡ turns past t k
notes_made s [] t k valid run some = refl
notes_made s (e ∷ past) t k valid run some =
    let n = enters s past e valid (all_apt s (e ∷ past) valid run) run in
    omega (
      arith,
      notes_made s past t k valid run.1 some,
      notes_sent s past e t k n,
      told_asks t k n.body some,
      n.done (asks t k) refl,
      turned_by s past e t k n,
    )

told_once : (s : ScriptData) (past : List Entry) (t k : ℕ) → IsValid s → is_lossy s ≡ false → IsStepRun s past → in_flight s past ≡ [] → t < length s.trees
    → 0 < k → k < length (subs_at s t) → taken_in (tells_done t k) past ≡ 1
told_once s past t k valid keeps run empty lt some kt =
    omega (
      arith,
      taken_all (tells_done t k) s past run empty,
      notes_made s past t k valid run some,
      (answered_all s past t valid keeps run empty lt).all.turned k kt,
    )

-- numbers that are 1, but for the first, which is 0
all_but_first : {X : Type 0} (f : ℕ → ℕ) (xs : List X) → 1 ≤ length xs → f 0 ≡ 0 → ((k : ℕ) → 0 < k → k < length xs → f k ≡ 1)
    → over 0 f xs + 1 ≡ length xs
all_but_first f [] some first one = absurd (omega (arith, some))
all_but_first f (x ∷ xs) some first one =
    omega (arith, first, over_ones 1 f xs (λ k from lt. one k (omega (arith, from)) (omega (arith, lt))))

abbrev tells_in : ScriptData → ℕ → Body → ℕ
tells_in s t b = over 0 (λ k. tells_done t k b) (subs_at s t)

tree_notes : (s : ScriptData) (past : List Entry) (t : ℕ) → IsValid s → is_lossy s ≡ false → IsStepRun s past → in_flight s past ≡ [] → t < length s.trees
    → taken_in (tells_in s t) past + 1 ≡ length (subs_at s t)
tree_notes s past t valid keeps run empty lt =
    let all : taken_in (tells_in s t) past ≡ over 0 (λ k. taken_in (tells_done t k) past) (subs_at s t) =
    taken_over (tells_done t) (subs_at s t) past in
    omega (
      arith,
      all,
      all_but_first (λ k. taken_in (tells_done t k) past) (subs_at s t) (omega (arith, has_root s t valid lt))
          (omega (arith, taken_all (tells_done t 0) s past run empty, notes_root s past t valid run))
          (λ k some kt. told_once s past t k valid keeps run empty lt some kt),
    )

notes_taken : (s : ScriptData) (past : List Entry) → IsValid s → is_lossy s ≡ false → IsStepRun s past → in_flight s past ≡ []
    → taken_in is_note past + length s.trees ≡ all_subs s.trees
notes_taken s past valid keeps run empty =
    let notes : taken_in is_note past ≡ over 0 (λ t. taken_in (tells_in s t) past) s.trees =
    taken_same is_note (λ b. over 0 (λ t. tells_in s t b) s.trees) s past valid run (note_by_tree s)
    ∙ taken_over (tells_in s) s.trees past in
    let ones : over 0 (λ t. taken_in (tells_in s t) past + 1) s.trees
    ≡ over 0 (λ t. taken_in (tells_in s t) past) s.trees + over 0 (λ (t : ℕ). 1) s.trees =
    over_add 0 (λ t. taken_in (tells_in s t) past) (λ t. 1) s.trees in
    omega (
      arith,
      notes,
      ones,
      over_ones 0 (λ t. 1) s.trees (λ t from lt. refl),
      over_same 0 (λ t. taken_in (tells_in s t) past + 1) (λ t. length (subs_at s t)) s.trees
          (λ t from lt. tree_notes s past t valid keeps run empty (omega (arith, lt))),
      all_subs_here s,
    )

-- The client hears of each tree, and tells the coordinator so.
replies_taken : (s : ScriptData) (past : List Entry) → IsValid s → is_lossy s ≡ false → IsStepRun s past → in_flight s past ≡ []
    → taken_in is_reply past ≡ length s.trees
replies_taken s past valid keeps run empty =
    taken_same is_reply (λ b. over 0 (λ t. replies_to t b) s.trees) s past valid run (reply_by_tree s)
    ∙ (taken_over replies_to s.trees past
    ∙ over_ones 0 (λ t. taken_in (replies_to t) past) s.trees (λ t from lt.
    omega (
      arith,
      taken_replies s past t run,
      none_flies (replies_to t) s past empty,
      (answered_all s past t valid keeps run empty (omega (arith, lt))).answers,
    )))

submit_nudges : (s : ScriptData) (c : Client) (first : List Outgoing) → tally (on nudges) (submit s c first).sent ≡ tally (on nudges) first
submit_nudges s c first =
    let rows = take (submitted c (take c.next s.rows) (drop c.next s.rows)) (drop c.next s.rows) in
    omega (
      arith,
      tally-append (on nudges) first (rows_letters s (advances_sent s c) rows),
      roots_none nudges s (advances_sent s c) rows (record { root = λ t. refl; advance = refl; numbered = λ i. refl; lose = refl }),
    )

-- no node sends a nudge
nudge_trees : NoTrees nudges
nudge_trees = record {
  root = λ t. refl;
  sub = λ t k v. refl;
  done = λ t k v notice. refl;
  reply = λ t v answer. refl;
  wake = λ t k. refl;
  decide = λ t v commit. refl;
  decided = λ t v. refl;
  release = λ t. refl;
}

nudge_passes : Passes nudges nudges
nudge_passes = record {
  sent = nudge_trees;
  took = nudge_trees;
  turned = λ v. refl;
  shown = λ v. refl;
  swept = λ v. refl;
  done_row = λ v k row. refl;
  asked_row = λ v k row. refl;
}

-- and the client alone takes answers
no_answer : (s : ScriptData) (from to : ℕ) (b : Body) → IsMeant s from to b → to ≢ client_of s → is_reply b ≡ 0
no_answer s from to (Reply t v answer) meant ne = absurd (ne meant.1)
no_answer s from to Go meant ne = refl
no_answer s from to _ meant ne = refl

takes_no_answer : (s : ScriptData) (past : List Entry) (e : Entry) → IsValid s → IsStepRun s (e ∷ past) → e.actor.0 ≢ client_of s
    → is_reply e.took.body ≡ 0
takes_no_answer s past e valid run ne =
    no_answer s e.took.from.0 e.took.to.0 e.took.body (took_meant s past e valid run) (λ is. ne (sym run.0.addressee ∙ is))

node_nudges : (s : ScriptData) (past : List Entry) (e : Entry) → IsValid s → IsStepRun s (e ∷ past) → e.actor.0 < s.nodes → Progress s past e
    → tally (on nudges) e.sent ≡ is_reply e.took.body
node_nudges s past e valid run node next =
    omega (
      arith,
      node_passes nudges nudges nudge_passes s past e node next,
      no_nudge s past e valid run.1 run.0 (omega (arith, node)),
      takes_no_answer s past e valid run (omega (arith, node)),
    )

-- a nudge is sent for each answer that is taken
entry_nudges : (s : ScriptData) (past : List Entry) (e : Entry) → IsValid s → IsStepRun s (e ∷ past) → Progress s past e
    → tally (on nudges) e.sent ≡ is_reply e.took.body
entry_nudges s past e valid run (Begins bd at made) =
    omega (arith, ap is_reply bd, ap (λ (os : List Outgoing). tally (on nudges) os) made.sent, submit_nudges s (client_in s past) [])
entry_nudges s past e valid run (Hears t v answer bd at lt made) =
    omega (
      arith,
      ap is_reply bd,
      ap (λ (os : List Outgoing). tally (on nudges) os) made.sent,
      submit_nudges s (with_answer t.0 (client_in s past)) (nudge s ∷ []),
    )
entry_nudges s past e valid run (Ends v bd at made) =
    omega (arith, ap is_reply bd, ap (λ (os : List Outgoing). tally (on nudges) os) made.sent, submit_nudges s (with_end s v (client_in s past)) [])
entry_nudges s past e valid run (Coordinates tells at made) =
    let c : Coordinator = coordinator_in s past in
    omega (
      arith,
      ap (λ (os : List Outgoing). tally (on nudges) os) made.sent,
      each_none (on nudges) (coordinator_row c e.took.from.0 e.took.body).sent
          (coordinator_each (λ (to : ℕ) (b : Body). nudges b ≡ 0) c
          (record {
            turn = λ to v lt. refl;
            show = λ to v lt. refl;
            sweep = λ to v lt. refl;
            ask_done = λ to v k lt. refl;
            ask_asked = λ to v k lt. refl;
            advanced = λ v. refl;
          }) e.took.from.0 e.took.body),
      takes_no_answer s past e valid run (omega (arith, at)),
    )
entry_nudges s past e valid run (Works p r w) =
    node_nudges s past e valid run (omega (arith, w.brings.at, w.brings.below)) (Works p r w)
entry_nudges s past e valid run (Obeys p out more at lt order state sent woken) =
    node_nudges s past e valid run (omega (arith, at, lt)) (Obeys p out more at lt order state sent woken)

nudges_sent : (s : ScriptData) (past : List Entry) → IsValid s → is_lossy s ≡ false → IsStepRun s past → sent_in nudges past ≡ taken_in is_reply past
nudges_sent s [] valid keeps run = refl
nudges_sent s (e ∷ past) valid keeps run =
    omega (
      arith,
      nudges_sent s past valid keeps run.1,
      entry_nudges s past e valid run (progress s past e (lawful s valid keeps) (all_apt s (e ∷ past) valid run) run),
    )

one_nudge : (b : Body) → is_nudge b ≡ nudges b
one_nudge Nudge = refl
one_nudge Go = refl
one_nudge _ = refl

nudged_taken : (past : List Entry) → nudged past ≡ taken_in nudges past
nudged_taken [] = refl
nudged_taken (e ∷ past) = omega (arith, one_nudge e.took.body, nudged_taken past)

nudges_taken : (s : ScriptData) (past : List Entry) → IsValid s → is_lossy s ≡ false → IsStepRun s past → in_flight s past ≡ [] → nudged past ≡ length s.trees
nudges_taken s past valid keeps run empty =
    omega (
      arith,
      nudged_taken past,
      taken_all nudges s past run empty,
      nudges_sent s past valid keeps run,
      replies_taken s past valid keeps run empty,
    )

-- So many letters of advancements were taken.
idle_pend : (n : ℕ) (phase : Phase) (dones : NodeRows) → running phase ≡ 0 → (unasked n phase dones ≡ 0) × (stages phase ≡ 0)
idle_pend n Idle dones rests = (refl, refl)
idle_pend n Turning dones rests = absurd (omega (arith, rests))
idle_pend n (Counting reads) dones rests = absurd (omega (arith, rests))
idle_pend n (Paused reads) dones rests = absurd (omega (arith, rests))
idle_pend n Showing dones rests = absurd (omega (arith, rests))
idle_pend n Sweeping dones rests = absurd (omega (arith, rests))

apart_by : (n a u x stage round : ℕ) → u ≡ a + 1 → stage ≡ 0 → x + 6 * n + 1 ≡ a + (u * (6 * n + 1) + 2 * n * stage + 4 * n * round)
    → x ≡ a * (2 + 6 * n) + 4 * n * round
apart_by n a u x stage round up none is =
    let one : u * (6 * n + 1) ≡ (a + 1) * (6 * n + 1) = ap (λ (k : ℕ). k * (6 * n + 1)) up in
    let two : 2 * n * stage ≡ 2 * n * 0 = ap (λ (k : ℕ). 2 * n * k) none in
    omega (arith, one, two, is)

aparts_taken : (s : ScriptData) (past : List Entry) → IsValid s → is_lossy s ≡ false → IsStepRun s past → in_flight s past ≡ []
    → taken_in is_apart past ≡ advances_in s.rows * (2 + 6 * s.nodes) + 4 * s.nodes * (coordinator_in s past).count.number
aparts_taken s past valid keeps run empty =
    let c = coordinator_in s past in
    let calm = idle_pend s.nodes c.phase c.count.current.dones (idle s past valid keeps run empty) in
    let all : asked_for s past ≡ advances_in s.rows = ap advances_in (all_rows s past valid run empty) in
    let up : c.update ≡ advances_in s.rows + 1 =
    omega (
      arith,
      all,
      ended_all s past valid run empty,
      (small s past (lawful s valid keeps) run (all_apt s past valid run)).ended,
      none_flies is_advanced s past empty,
    ) in
    apart_by s.nodes (advances_in s.rows) c.update (taken_in is_apart past) (stages c.phase) c.count.number up calm.1
    (omega (arith, paid s past valid keeps run, none_flies price s past empty, calm.0, all))

-- The law.
pub entries_counted : (s : ScriptData) (past : List Entry) → IsValid s → is_lossy s ≡ false → has_strict s ≡ false → IsStepRun s past → in_flight s past ≡ []
    → length past ≡ entries_of s (rounds_in s (reverse past))
entries_counted s past valid keeps plain run empty =
    let rounds : rounds_in s (reverse past) ≡ (coordinator_in s past).count.number = ap (λ (c : Coordinator). c.count.number) (coordinator_after s past) in
    let none : strict_entries s ≡ 0 = rw plain refl in
    rw rounds (omega (
      arith,
      counted s past valid run,
      taken_all is_go s past run empty,
      no_go s past valid run,
      works_taken s past valid keeps run empty,
      notes_taken s past valid keeps run empty,
      replies_taken s past valid keeps run empty,
      nudges_taken s past valid keeps run empty,
      aparts_taken s past valid keeps run empty,
      strict_few s past valid run,
      none,
      some_subs s.nodes s.items s.trees valid.trees,
    ))
