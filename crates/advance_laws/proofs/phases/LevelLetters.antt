-- What an entry makes of the versions in messages.
use Rattle.std.proofs.Common.{if◌then◌else◌, ◌≡◌, ◌≢◌, ℕ, ◌+◌, ◌≤◌, ◌==◌, Bool, true, false, List, [], ◌∷◌, ◌++◌, refl, sym, ap, subst, ◌∙◌, arith, take, drop}
use Rattle.std.proofs.lemmas.Bool.Decides.{nat_tests}
use Rattle.tv_base.specs.declared.numbers.TreeNo.{TreeNo}
use Rattle.tv_base.specs.declared.numbers.Version.{Version}
use Rattle.letter_types.specs.declared.bodies.Body.{Body}
use Rattle.letter_types.specs.declared.bodies.Body.TheVariants.{Root, Sub as SubLetter, Done, Reply, Turn, Show, Sweep, Swept, AskDone, AskAsked, Decide, Decided, Release, Wake, Order as OrderLetter}
use Rattle.letter_types.specs.declared.entries.Entry.{Entry}
use Rattle.letter_types.specs.declared.entries.Letter.{Letter}
use Rattle.letter_types.specs.declared.entries.LetterId.{LetterId}
use Rattle.letter_types.specs.declared.entries.Outgoing.{Outgoing}
use Rattle.letter_types.specs.Letters.{drop_id}
use Rattle.letter_types.specs.Steps.{Out}
use Rattle.tx_trees.specs.ScriptData.{ScriptData, reads}
use Rattle.world_model.specs.Node.{Node}
use Rattle.world_model.specs.Coordinator.{Coordinator, version, to_nodes, counted_version, end_count, coordinator_row}
use Rattle.world_model.specs.declared.phase.Phase.{Phase}
use Rattle.world_model.specs.declared.phase.Phase.TheVariants.{Idle, Turning, Counting, Showing, Sweeping, Paused}
use Rattle.world_model.specs.Client.{Client, rows_letters, submit, submitted, with_answer, with_end, nudge, advances_sent}
use Rattle.world_model.specs.Counts.{Each}
use Rattle.world_model.specs.Runs.{IsStepRun, client_in, coordinator_in, node_in, in_flight, MayFollow}
use Rattle.world_model.specs.AllApt.{AllApt}
use Rattle.world_model.proofs.Bags.{tally-drop, tally_most}
use Rattle.world_model.proofs.Every.{coordinator_kept, each_append, each_both, each_map, each_zero}
use Rattle.advance_laws.proofs.governed.Lawful.{IsLawful}
use Rattle.world_model.proofs.Nexts.{Order, Turns as TurnsTo, Shows as ShowsTo, Sweeps as SweepsTo, TellsDone, TellsAsked}
use Rattle.world_model.proofs.Orders.{coordinator_nodes, of, to_nodes_each}
use Rattle.world_model.proofs.EachOutstanding.{each_outstanding}
use Rattle.world_model.specs.Kept.{outstanding}
use Rattle.advance_laws.specs.Phases.{Stage, Told, TurnStage, ShowStage, SweepStage, token, count_in_flight, within, most_update, most_read}
use Rattle.advance_laws.proofs.phases.Outcomes.{Outcome, Rests, Queues, Flags, Turns, Acks, LastTurned, LastShown, Finishes, GoesOn, Resumes, KeepsDone, KeepsAsked, Agrees, Recounts, Pauses, asked_kept, finished, gone_on, round_begun}
use Rattle.advance_laws.proofs.phases.Small.{outcome_in}
use Rattle.advance_laws.proofs.recovery.Tokens.{told}
use Rattle.advance_laws.proofs.phases.LevelAt.{LevelBody, Levels, order, orders_no_trees}
use Rattle.advance_laws.proofs.governed.Brought.{each_of_brought}
use Rattle.advance_laws.proofs.counting.Letters.{waits_in_flight}
use Rattle.advance_laws.proofs.recovery.Heeds.{IsWake}
use Rattle.advance_laws.proofs.phases.Progress.{Begins, Coordinates, Ends, Hears, Obeys, Progress, WakesFor, Works, are_wakes}
use Rattle.advance_laws.proofs.counting.Working.{AsksOf, SentIn, done_version, root_version}
use Rattle.world_model.proofs.Sends.{OfRows, rows_each}

-- The versions in letters.
-- the same of a letter that is sent, whatever its id will be
abbrev InLevel : ScriptData → Phase → ℕ → ℕ → Body → Type 0
InLevel s phase u to body = LetterId → LevelBody s phase u body

-- a root that isn't of a read tree takes its home's update version, and a Sub that of the letter that asked
sub_level : (s : ScriptData) (phase : Phase) (u : ℕ) (st : Node) (does : Body) (t : TreeNo) (v : Version) → st.turns.update.0 ≤ most_update phase u
    → LevelBody s phase u does → AsksOf t does → v ≡ done_version s st does → reads s t.0 ≡ false → v.0 ≤ most_update phase u
sub_level s phase u st (Root w) t v most right asks is other =
    let here : reads s w.0 ≡ false = ap (λ (x : TreeNo). reads s x.0) asks ∙ other in
    let same : root_version s st w.0 ≡ st.turns.update = rw here refl in
    omega (arith, most, ap (λ (x : Version). x.0) (is ∙ same))
sub_level s phase u st (SubLetter w k x) t v most right asks is other =
    let here : x.0 ≤ most_update phase u = right (ap (λ (y : TreeNo). reads s y.0) asks ∙ other) in
    omega (arith, here, ap (λ (y : Version). y.0) is)
sub_level s phase u st _ t v most right asks is other = absurd asks

-- what is sent for a letter of this level
sent_level : (s : ScriptData) (phase : Phase) (u : ℕ) (st : Node) (does : Body) (to : ℕ) (body : Body) → st.turns.update.0 ≤ most_update phase u
    → LevelBody s phase u does → SentIn s st does body → InLevel s phase u to body
sent_level s phase u st does to (SubLetter t k v) most right sent id = sub_level s phase u st does t v most right sent.0 sent.1
sent_level s phase u st does to (Done t k v notice) most right sent id = tt
sent_level s phase u st does to (Decide t v commit) most right sent id = tt
sent_level s phase u st does to (Decided t v) most right sent id = tt
sent_level s phase u st does to (Reply t v answer) most right sent id = tt
sent_level s phase u st does to (Release t) most right sent id = tt
sent_level s phase u st does to (Wake t k) most right sent id = tt
sent_level s phase u st does to _ most right sent id = absurd sent

rows_level : (s : ScriptData) (phase : Phase) (u : ℕ) → OfRows (InLevel s phase u)
rows_level s phase u = record { root = λ to t id. tt; advance = λ to id. tt; numbered = λ to i id. tt; lose = λ to id. tt }

-- what a node answers to an order
order_level : (s : ScriptData) (phase : Phase) (u : ℕ) (st : Node) (body : Body) (out : Out Node) → Order s st body out
    → Each (of (InLevel s phase u)) out.sent
order_level s phase u st body out (TurnsTo v bd is) =
    subst (λ (o : Out Node). Each (of (InLevel s phase u)) o.sent) (sym is) ((λ id. tt), tt)
order_level s phase u st body out (ShowsTo v bd is) =
    subst (λ (o : Out Node). Each (of (InLevel s phase u)) o.sent) (sym is) ((λ id. tt), tt)
order_level s phase u st body out (SweepsTo v bd is) =
    subst (λ (o : Out Node). Each (of (InLevel s phase u)) o.sent) (sym is) ((λ id. tt), tt)
order_level s phase u st body out (TellsDone v k bd is) =
    subst (λ (o : Out Node). Each (of (InLevel s phase u)) o.sent) (sym is) ((λ id. tt), tt)
order_level s phase u st body out (TellsAsked v k bd is) =
    subst (λ (o : Out Node). Each (of (InLevel s phase u)) o.sent) (sym is) ((λ id. tt), tt)

-- and the letters that it wakes
wake_level : (s : ScriptData) (phase : Phase) (u to : ℕ) (body : Body) → IsWake body → InLevel s phase u to body
wake_level s phase u to (Wake t k) wake id = tt
wake_level s phase u to _ wake id = absurd wake

obeyed_level : (s : ScriptData) (phase : Phase) (u : ℕ) (st : Node) (body : Body) (out : Out Node) (more : List Outgoing)
    → Order s st body out → WakesFor body more → Each (of (InLevel s phase u)) (out.sent ++ more)
obeyed_level s phase u st body out more order woken =
    each_append (of (InLevel s phase u)) out.sent more (order_level s phase u st body out order)
    (each_map (λ (o : Outgoing). IsWake o.body) (of (InLevel s phase u)) more (λ o wake. wake_level s phase u o.to.0 o.body wake)
    (are_wakes body more woken))

-- every letter that has still to be done has a version of the coordinator's phase
abbrev pub LettersAt : ScriptData → List Entry → Coordinator → Type 0
LettersAt s past c = Each (λ (l : Letter). LevelBody s c.phase c.update l.body) (outstanding s past)

-- an entry of another actor than the coordinator, which sends letters of the right versions
letters_kept : (s : ScriptData) (past : List Entry) (e : Entry) (sent : List Outgoing) → MayFollow s past e → e.actor.0 ≢ s.nodes
    → LettersAt s past (coordinator_in s past) → e.sent ≡ sent
    → Each (of (InLevel s (coordinator_in s past).phase (coordinator_in s past).update)) sent
    → LettersAt s (e ∷ past) (coordinator_in s (e ∷ past))
letters_kept s past e sent m away was is right =
    let c = coordinator_in s past in
    let new : Each (of (InLevel s c.phase c.update)) e.sent =
    subst (λ (os : List Outgoing). Each (of (InLevel s c.phase c.update)) os) (sym is) right in
    subst (λ (d : Coordinator). LettersAt s (e ∷ past) d) (sym (coordinator_kept s past e away))
    (each_outstanding (λ (l : Letter). LevelBody s c.phase c.update l.body) s past e m was new)

-- a letter stays right where the greatest update version doesn't sink
level_mono : (s : ScriptData) (from to : Phase) (u : ℕ) (body : Body) → most_update from u ≤ most_update to u
    → LevelBody s from u body → LevelBody s to u body
level_mono s from to u (Turn v) le right = right
level_mono s from to u (Show v) le right = right
level_mono s from to u (Sweep v) le right = right
level_mono s from to u (SubLetter t k v) le right = λ is. let most = right is in omega (arith, most, le)
level_mono s from to u (OrderLetter e what v) le right = absurd right
level_mono s from to u _ le right = tt

-- what a step of the coordinator leaves right: the outstanding letters, and those that it sends
record Right (s : ScriptData) (c : Coordinator) (out : Out Coordinator) : Type 0 where
  same : out.state.update ≡ c.update
  higher : most_update c.phase c.update ≤ most_update out.state.phase c.update
  sent : Each (of (InLevel s out.state.phase c.update)) out.sent

-- so the letters are right after it
letters_right : (s : ScriptData) (past : List Entry) (e : Entry) (out : Out Coordinator) → MayFollow s past e
    → LettersAt s past (coordinator_in s past)
    → coordinator_in s (e ∷ past) ≡ out.state → e.sent ≡ out.sent → Right s (coordinator_in s past) out
    → LettersAt s (e ∷ past) (coordinator_in s (e ∷ past))
letters_right s past e out m was moved is right =
    let c = coordinator_in s past in
    let old =
    each_map (λ (l : Letter). LevelBody s c.phase c.update l.body)
    (λ (l : Letter). LevelBody s out.state.phase c.update l.body) (outstanding s past)
    (λ l here. level_mono s c.phase out.state.phase c.update l.body right.higher here) was in
    let new : Each (of (InLevel s out.state.phase c.update)) e.sent =
    subst (λ (os : List Outgoing). Each (of (InLevel s out.state.phase c.update)) os) (sym is) right.sent in
    let all : Each (λ (l : Letter). LevelBody s out.state.phase c.update l.body) (outstanding s (e ∷ past)) =
    each_outstanding (λ (l : Letter). LevelBody s out.state.phase c.update l.body) s past e m old new in
    subst (λ (d : Coordinator). LettersAt s (e ∷ past) d) (sym moved)
    (subst (λ (n : ℕ). Each (λ (l : Letter). LevelBody s out.state.phase n l.body) (outstanding s (e ∷ past))) (sym right.same) all)

pick_asks : (s : ScriptData) (phase : Phase) (u n : ℕ) (b : Bool) (v : Version) (k : ℕ)
    → Each (of (InLevel s phase u)) (if b then to_nodes n (AskAsked v k) else [])
pick_asks s phase u n true v k = to_nodes_each (InLevel s phase u) n (AskAsked v k) (λ to lt id. tt)
pick_asks s phase u n false v k = tt

pub most_update_most : (phase : Phase) (u : ℕ) → most_update phase u ≤ u + 1
most_update_most Idle u = omega arith
most_update_most _ u = omega arith

round_right : (s : ScriptData) (c d : Coordinator) (reads : Bool) (k : ℕ) → d.update ≡ c.update
    → Right s c (round_begun reads k d)
round_right s c d reads k same = record {
  same = same;
  higher = most_update_most c.phase c.update;
  sent = to_nodes_each (InLevel s (Counting reads) c.update) d.nodes (AskDone (counted_version reads d) k) (λ to lt id. tt);
}

agrees_right : (s : ScriptData) (c : Coordinator) (reads : Bool) (from : ℕ) (row : List ℕ)
    → Right s c (end_count reads (asked_kept from row c))
agrees_right s c false from row = record {
  same = refl;
  higher = most_update_most c.phase c.update;
  sent = to_nodes_each (InLevel s Showing c.update) c.nodes (Show (version c.update)) (λ to lt id. refl);
}
agrees_right s c true from row = record {
  same = refl;
  higher = most_update_most c.phase c.update;
  sent = to_nodes_each (InLevel s Sweeping c.update) c.nodes (Sweep (version c.update)) (λ to lt id. refl);
}

-- a letter that is no order is right in the next version too
level_further : (s : ScriptData) (to : Phase) (u : ℕ) (body : Body) → order TurnStage body ≡ 0 → order ShowStage body ≡ 0
    → order SweepStage body ≡ 0 → u + 1 ≤ most_update to (u + 1) → LevelBody s Sweeping u body → LevelBody s to (u + 1) body
level_further s to u (Turn v) a b c le right = absurd (omega (arith, a))
level_further s to u (Show v) a b c le right = absurd (omega (arith, b))
level_further s to u (Sweep v) a b c le right = absurd (omega (arith, c))
level_further s to u (SubLetter t k v) a b c le right = λ is. let most = right is in omega (arith, most, le)
level_further s to u (OrderLetter e what v) a b c le right = absurd right
level_further s to u _ a b c le right = tt

order_most : (g : Stage) (body : Body) → order g body ≤ token g body
order_most TurnStage (Turn v) = omega arith
order_most TurnStage _ = omega arith
order_most ShowStage (Show v) = omega arith
order_most ShowStage _ = omega arith
order_most SweepStage (Sweep v) = omega arith
order_most SweepStage _ = omega arith

-- at the end of the sweeping phase the last token is the answer that is taken
swept_leaves : (g : Stage) (v : Version) (a n tokens : ℕ) → tokens + within g Sweeping a ≡ within g Sweeping n → a + 1 ≡ n
    → tokens ≤ token g (Swept v)
swept_leaves TurnStage v a n tokens now full = omega (arith, now)
swept_leaves ShowStage v a n tokens now full = omega (arith, now)
swept_leaves SweepStage v a n tokens now full = omega (arith, now, full)

swept_order : (g : Stage) (v : Version) → order g (Swept v) ≡ 0
swept_order TurnStage v = refl
swept_order ShowStage v = refl
swept_order SweepStage v = refl

-- where the last answer to a Sweep is taken no order has still to be done
no_orders : (g : Stage) (s : ScriptData) (past : List Entry) (e : Entry) (v : Version) → MayFollow s past e → Told s past g
    → (coordinator_in s past).phase ≡ Sweeping → e.took.body ≡ Swept v
    → ((coordinator_in s past).acks + 1 == (coordinator_in s past).nodes) ≡ true
    → Each (λ (l : Letter). order g l.body ≡ 0) (outstanding s past)
no_orders g s past e v m was at bd last =
    let c = coordinator_in s past in
    let left = drop_id e.took.id (in_flight s past) in
    let full : c.acks + 1 ≡ c.nodes = grind (arith, nat_tests) in
    let now : count_in_flight (token g) s past + within g Sweeping c.acks ≡ within g Sweeping s.nodes =
    subst (λ (q : Phase). count_in_flight (token g) s past + within g q c.acks ≡ within g q s.nodes) at was in
    each_zero (λ (l : Letter). order g l.body) (outstanding s past)
    (omega (
      arith,
      waits_in_flight (order g) s past (orders_no_trees g),
      tally-drop (λ (l : Letter). order g l.body) e.took.id (in_flight s past) e.took m.waits,
      tally-drop (λ (l : Letter). token g l.body) e.took.id (in_flight s past) e.took m.waits,
      tally_most (λ (l : Letter). order g l.body) (λ (l : Letter). token g l.body) left (λ l. order_most g l.body),
      swept_leaves g v c.acks s.nodes (count_in_flight (token g) s past) now (full ∙ coordinator_nodes s past),
      ap (order g) bd,
      swept_order g v,
      ap (token g) bd,
    ))

-- an advancement ends, where the letter taken was its last token
letters_ended : (s : ScriptData) (past : List Entry) (e : Entry) (v : Version) (out : Out Coordinator) → IsLawful s
    → IsStepRun s (e ∷ past)
    → AllApt s past → LettersAt s past (coordinator_in s past) → (coordinator_in s past).phase ≡ Sweeping
    → e.took.body ≡ Swept v → ((coordinator_in s past).acks + 1 == (coordinator_in s past).nodes) ≡ true
    → coordinator_in s (e ∷ past) ≡ out.state → e.sent ≡ out.sent → out.state.update ≡ (coordinator_in s past).update + 1
    → (coordinator_in s past).update + 1 ≤ most_update out.state.phase ((coordinator_in s past).update + 1)
    → Each (of (InLevel s out.state.phase ((coordinator_in s past).update + 1))) out.sent
    → LettersAt s (e ∷ past) (coordinator_in s (e ∷ past))
letters_ended s past e v out laws run apt was at bd last moved is next most right =
    let c = coordinator_in s past in
    let z : (g : Stage) → Each (λ (l : Letter). order g l.body ≡ 0) (outstanding s past) =
    λ g. no_orders g s past e v run.0 (told g s past laws run.1 apt) at bd last in
    let old : Each (λ (l : Letter). LevelBody s Sweeping c.update l.body) (outstanding s past) =
    subst (λ (q : Phase). Each (λ (l : Letter). LevelBody s q c.update l.body) (outstanding s past)) at was in
    let all =
    each_both _ _ (outstanding s past) (z TurnStage)
    (each_both _ _ (outstanding s past) (z ShowStage) (each_both _ _ (outstanding s past) (z SweepStage) old)) in
    let new : Each (of (InLevel s out.state.phase (c.update + 1))) e.sent =
    subst (λ (os : List Outgoing). Each (of (InLevel s out.state.phase (c.update + 1))) os) (sym is) right in
    let after : Each (λ (l : Letter). LevelBody s out.state.phase (c.update + 1) l.body) (outstanding s (e ∷ past)) =
    each_outstanding (λ (l : Letter). LevelBody s out.state.phase (c.update + 1) l.body) s past e run.0
    (each_map _ (λ (l : Letter). LevelBody s out.state.phase (c.update + 1) l.body) (outstanding s past)
    (λ l here. level_further s out.state.phase c.update l.body here.0 here.1.0 here.1.1.0 most here.1.1.1) all) new in
    subst (λ (d : Coordinator). LettersAt s (e ∷ past) d) (sym moved)
    (subst (λ (n : ℕ). Each (λ (l : Letter). LevelBody s out.state.phase n l.body) (outstanding s (e ∷ past))) (sym next) after)

-- every step of the coordinator leaves the letters right
outcome_letters : (s : ScriptData) (past : List Entry) (e : Entry) (out : Out Coordinator) → IsLawful s
    → IsStepRun s (e ∷ past) → AllApt s past
    → LettersAt s past (coordinator_in s past) → coordinator_in s (e ∷ past) ≡ out.state → e.sent ≡ out.sent
    → Outcome (coordinator_in s past) e.took.from.0 e.took.body out → LettersAt s (e ∷ past) (coordinator_in s (e ∷ past))
outcome_letters s past e out laws run apt was moved is (Rests phase at ignored eq) =
    letters_right s past e out run.0 was moved is
    (subst (λ (o : Out Coordinator). Right s (coordinator_in s past) o) (sym eq)
    (record { same = refl; higher = omega arith; sent = tt }))
outcome_letters s past e out laws run apt was moved is (Queues phase at goes bd eq) =
    letters_right s past e out run.0 was moved is
    (subst (λ (o : Out Coordinator). Right s (coordinator_in s past) o) (sym eq)
    (record { same = refl; higher = omega arith; sent = tt }))
outcome_letters s past e out laws run apt was moved is (Flags reads at bd eq) =
    letters_right s past e out run.0 was moved is
    (subst (λ (o : Out Coordinator). Right s (coordinator_in s past) o) (sym eq)
    (record { same = refl; higher = omega arith; sent = tt }))
outcome_letters s past e out laws run apt was moved is (Turns at bd eq) =
    let c = coordinator_in s past in
    letters_right s past e out run.0 was moved is
    (subst (λ (o : Out Coordinator). Right s c o) (sym eq) (record {
      same = refl;
      higher = most_update_most c.phase c.update;
      sent = to_nodes_each (InLevel s Turning c.update) c.nodes (Turn (version (c.update + 1))) (λ to lt id. refl);
    }))
outcome_letters s past e out laws run apt was moved is (Acks phase at answer more eq) =
    letters_right s past e out run.0 was moved is
    (subst (λ (o : Out Coordinator). Right s (coordinator_in s past) o) (sym eq)
    (record { same = refl; higher = omega arith; sent = tt }))
outcome_letters s past e out laws run apt was moved is (LastTurned v at bd last eq) =
    let c = coordinator_in s past in
    letters_right s past e out run.0 was moved is
    (subst (λ (o : Out Coordinator). Right s c o) (sym eq) (round_right s c c false (c.count.number + 1) refl))
outcome_letters s past e out laws run apt was moved is (LastShown v at bd last eq) =
    let c = coordinator_in s past in
    letters_right s past e out run.0 was moved is
    (subst (λ (o : Out Coordinator). Right s c o) (sym eq) (round_right s c c true (c.count.number + 1) refl))
outcome_letters s past e out laws run apt was moved is (Finishes v at bd last none eq) =
    let c = coordinator_in s past in
    letters_ended s past e v (finished c) laws run apt was at bd last
    (moved ∙ ap (λ (o : Out Coordinator). o.state) eq) (is ∙ ap (λ (o : Out Coordinator). o.sent) eq) refl (omega arith)
    ((λ id. tt), tt)
outcome_letters s past e out laws run apt was moved is (GoesOn v at bd last some eq) =
    let c = coordinator_in s past in
    letters_ended s past e v (gone_on c) laws run apt was at bd last
    (moved ∙ ap (λ (o : Out Coordinator). o.state) eq) (is ∙ ap (λ (o : Out Coordinator). o.sent) eq) refl (omega arith) (
      (λ id. tt),
      to_nodes_each (InLevel s Turning (c.update + 1)) c.nodes (Turn (version (c.update + 2)))
          (λ to lt id. omega arith),
    )
outcome_letters s past e out laws run apt was moved is (Resumes reads at bd eq) =
    let c = coordinator_in s past in
    letters_right s past e out run.0 was moved is
    (subst (λ (o : Out Coordinator). Right s c o) (sym eq) (round_right s c c reads (c.count.number + 1) refl))
outcome_letters s past e out laws run apt was moved is (KeepsDone reads v k row at bd here eq) =
    let c = coordinator_in s past in
    letters_right s past e out run.0 was moved is
    (subst (λ (o : Out Coordinator). Right s c o) (sym eq) (record {
      same = refl;
      higher = omega arith;
      sent = pick_asks s c.phase c.update c.nodes _ c.count.current.version c.count.current.number;
    }))
outcome_letters s past e out laws run apt was moved is (KeepsAsked reads v k row takes verdict eq) =
    letters_right s past e out run.0 was moved is
    (subst (λ (o : Out Coordinator). Right s (coordinator_in s past) o) (sym eq)
    (record { same = refl; higher = omega arith; sent = tt }))
outcome_letters s past e out laws run apt was moved is (Agrees reads v k row takes verdict eq) =
    let c = coordinator_in s past in
    letters_right s past e out run.0 was moved is
    (subst (λ (o : Out Coordinator). Right s c o) (sym eq) (agrees_right s c reads e.took.from.0 row))
outcome_letters s past e out laws run apt was moved is (Recounts reads v k row takes verdict flag eq) =
    let c = coordinator_in s past in
    letters_right s past e out run.0 was moved is
    (subst (λ (o : Out Coordinator). Right s c o) (sym eq)
    (round_right s c (asked_kept e.took.from.0 row c) reads (c.count.number + 1) refl))
outcome_letters s past e out laws run apt was moved is (Pauses reads v k row takes verdict flag eq) =
    let c = coordinator_in s past in
    letters_right s past e out run.0 was moved is
    (subst (λ (o : Out Coordinator). Right s c o) (sym eq)
    (record { same = refl; higher = most_update_most c.phase c.update; sent = tt }))

-- what the client sends carries no version
submit_level : (s : ScriptData) (phase : Phase) (u : ℕ) (c : Client) (first : List Outgoing)
    → Each (of (InLevel s phase u)) first → Each (of (InLevel s phase u)) (submit s c first).sent
submit_level s phase u c first right =
    let rest = take (submitted c (take c.next s.rows) (drop c.next s.rows)) (drop c.next s.rows) in
    each_append (of (InLevel s phase u)) first (rows_letters s (advances_sent s c) rest) right
    (rows_each (InLevel s phase u) s (advances_sent s c) rest (rows_level s phase u))

-- the versions in letters after an entry
pub letters_next : (s : ScriptData) (past : List Entry) (e : Entry) → IsLawful s → IsStepRun s (e ∷ past) → AllApt s past
    → Levels s past → Progress s past e → LettersAt s (e ∷ past) (coordinator_in s (e ∷ past))
letters_next s past e laws run apt was (Begins bd at made) =
    let c = coordinator_in s past in
    letters_kept s past e (submit s (client_in s past) []).sent run.0 (omega (arith, at)) was.letters made.sent
    (submit_level s c.phase c.update (client_in s past) [] tt)
letters_next s past e laws run apt was (Hears t v answer bd at lt made) =
    let c = coordinator_in s past in
    let client = with_answer t.0 (client_in s past) in
    letters_kept s past e (submit s client (nudge s ∷ [])).sent run.0 (omega (arith, at)) was.letters made.sent
    (submit_level s c.phase c.update client (nudge s ∷ []) ((λ id. tt), tt))
letters_next s past e laws run apt was (Ends v bd at made) =
    let c = coordinator_in s past in
    let client = with_end s v (client_in s past) in
    letters_kept s past e (submit s client []).sent run.0 (omega (arith, at)) was.letters made.sent
    (submit_level s c.phase c.update client [] tt)
letters_next s past e laws run apt was (Coordinates tells at made) =
    outcome_letters s past e (coordinator_row (coordinator_in s past) e.took.from.0 e.took.body)
    laws run apt was.letters made.state made.sent
    (outcome_in s past e laws run.1 apt)
letters_next s past e laws run apt was (Works p r work) =
    let c = coordinator_in s past in
    let st = node_in s past p in
    let b = work.brings in
    let right : LevelBody s c.phase c.update r.body =
    each_of_brought (λ (l : Letter). LevelBody s c.phase c.update l.body) s past e p r b run.0 was.letters in
    letters_kept s past e e.sent run.0 (omega (arith, b.at, b.below)) was.letters refl
    (each_map (λ (o : Outgoing). SentIn s st r.body o.body) (of (InLevel s c.phase c.update)) e.sent
    (λ o sent. sent_level s c.phase c.update st r.body o.to.0 o.body (was.node p b.below).update_to right sent) work.sent)
letters_next s past e laws run apt was (Obeys p out more at lt order state sent woken) =
    let c = coordinator_in s past in
    letters_kept s past e (out.sent ++ more) run.0 (omega (arith, at, lt)) was.letters sent
    (obeyed_level s c.phase c.update (node_in s past p) e.took.body out more order woken)

pub most_read_most : (phase : Phase) (u : ℕ) → most_read phase u ≤ u
most_read_most (Counting true) u = omega arith
most_read_most (Paused true) u = omega arith
most_read_most Showing u = omega arith
most_read_most _ u = omega arith
