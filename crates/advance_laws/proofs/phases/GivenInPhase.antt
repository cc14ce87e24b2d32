-- In every run of the coordinator that remembers, what was given is what its phase allows: so advancements are as they should be.
use Rattle.std.proofs.Common.{◌≡◌, ◌≢◌, ◌⊎◌, inl, inr, ℕ, zero, suc, ◌+◌, ◌<◌, ◌≤◌, ◌==◌, max, Bool, true, false, not, ◌&&◌, if◌then◌else◌, List, [], ◌∷◌, ◌++◌, refl, sym, ap, subst, ◌∙◌, arith}
use Rattle.std.proofs.Math.Nat.{le-max_left, le-max_right, max-eq_left, max-eq_right}
use Rattle.std.proofs.lemmas.Bool.{cases_eq}
use Rattle.tv_base.specs.declared.numbers.Version.{Version}
use Rattle.phase_out.specs.Counts.{nudged}
use Rattle.letter_types.specs.declared.bodies.Body.{Body}
use Rattle.letter_types.specs.declared.bodies.Body.TheVariants.{Go, Sub as SubLetter, Turn, Show, Sweep, AskDone, AskAsked, DoneRow, AskedRow, Order}
use Rattle.letter_types.specs.declared.bodies.What.TheVariants as whats
use Rattle.letter_types.specs.declared.entries.Entry.{Entry}
use Rattle.letter_types.specs.declared.entries.Letter.{Letter}
use Rattle.letter_types.specs.declared.entries.Outgoing.{Outgoing}
use Rattle.letter_types.specs.Steps.{Out, still}
use Rattle.phase_out.specs.Rounds.{all_in}
use Rattle.tx_trees.specs.ScriptData.{ScriptData}
use Rattle.world_model.specs.AllApt.{AllApt}
use Rattle.world_model.specs.Coordinator.{Coordinator, advanced, begin_phase, coordinator_row, counted_version, end_count, in_phase, to_nodes, version}
use Rattle.world_model.specs.Counts.{Each, one_if, tally}
use Rattle.world_model.specs.Kept.{outstanding}
use Rattle.world_model.specs.Node.{Node}
use Rattle.world_model.specs.Runs.{IsStepRun, MayFollow, coordinator_in, in_flight, node_in}
use Rattle.world_model.specs.declared.phase.Phase.{Phase}
use Rattle.world_model.specs.declared.phase.Phase.TheVariants.{Counting, Idle, Paused, Showing, Sweeping, Turning}
use Rattle.world_model.proofs.Bags.{one_if_same}
use Rattle.world_model.proofs.EachOutstanding.{each_waits}
use Rattle.world_model.proofs.Every.{coordinator_kept, each_both, each_map, node_kept}
use Rattle.world_model.proofs.Gone.{under_or}
use Rattle.world_model.proofs.Orders.{coordinator_nodes, to_nodes_each}
use Rattle.advance_laws.specs.Advances.{running}
use Rattle.advance_laws.specs.Given.{IsGivenAnew, greatest_given, greatest_told, version_told}
use Rattle.advance_laws.specs.Phases.{Stage, TurnStage, ShowStage, SweepStage, count_in_flight, most_low, most_read, most_update, token}
use Rattle.advance_laws.specs.Quiet.{IsGivenInQuiet, IsQuietForReads, IsQuietForUpdates}
use Rattle.advance_laws.proofs.counting.KeptRows.{with_done}
use Rattle.advance_laws.proofs.governed.Advancing.{IsAdvancing, IsAhead, IsOrderGiven, IsTurnedTo, IsWithin, given_stays, greatest_least, sent_given}
use Rattle.advance_laws.proofs.governed.Lawful.{IsLawful}
use Rattle.advance_laws.proofs.phases.LevelAt.{Level, LevelBody, Levels, tell, tells}
use Rattle.advance_laws.proofs.phases.Levels.{levels}
use Rattle.advance_laws.proofs.phases.Outcomes.{Outcome, Rests, Queues, Flags, Turns, Acks, LastTurned, LastShown, Finishes, GoesOn, Resumes, KeepsDone, KeepsAsked, Agrees, Recounts, Pauses, asked_kept, finished, gone_on, round_begun, keep_done}
use Rattle.advance_laws.proofs.phases.Progress.{coordinates}
use Rattle.advance_laws.proofs.right.Sending.{IsApart, Sending, SendsApart, SendsAsked, SendsDone, SendsOrders, sending}
use Rattle.advance_laws.proofs.phases.Shows.{given_in_quiet}
use Rattle.advance_laws.proofs.phases.Small.{IsSmall, outcome_in, small}
use Rattle.advance_laws.proofs.recovery.Tokens.{showing_phase, sweeping_phase, told, turning_phase}
use Rattle.advance_laws.proofs.phases.LevelLetters.{most_read_most}
use Rattle.tx_trees.specs.Counts.{is_lossy}

-- the greatest version that a stage may have been given in a phase of an advancement from version u
abbrev most_given : Stage → Phase → ℕ → ℕ
most_given TurnStage phase u = most_update phase u
most_given ShowStage phase u = most_read phase u
most_given SweepStage phase u = most_low phase u

-- The greatest of what goes to all nodes.
-- a list's last letter is among those of which the greatest is told
last_told : (g : Stage) (os : List Outgoing) (o : Outgoing) → version_told g o.body ≤ greatest_told g (os ++ o ∷ [])
last_told g [] o = le-max_left (version_told g o.body) 0
last_told g (x ∷ os) o =
    omega (arith, last_told g os o, le-max_right (version_told g x.body) (greatest_told g (os ++ o ∷ [])))

nodes_told : (g : Stage) (n : ℕ) (body : Body) → 1 ≤ n → greatest_told g (to_nodes n body) ≡ version_told g body
nodes_told g zero body some = absurd (omega (arith, some))
nodes_told g (suc n) body some =
    let most : greatest_told g (to_nodes (suc n) body) ≤ version_told g body =
    greatest_least g (version_told g body) (to_nodes (suc n) body)
    (to_nodes_each (λ to b. version_told g b ≤ version_told g body) (suc n) body (λ to lt. omega arith)) in
    omega (arith, most, last_told g (to_nodes n body) (record { to = record { 0 = n }; body = body }))

asks_told : (g : Stage) (n : ℕ) (v : Version) (k : ℕ) (b : Bool) → greatest_told g (if b then to_nodes n (AskAsked v k) else []) ≤ 0
asks_told g n v k false = omega arith
asks_told g n v k true =
    greatest_least g 0 (to_nodes n (AskAsked v k)) (to_nodes_each (λ to b. version_told g b ≤ 0) n (AskAsked v k) (λ to lt. none g)) where
      none : (g : Stage) → version_told g (AskAsked v k) ≤ 0
      none TurnStage = omega arith
      none ShowStage = omega arith
      none SweepStage = omega arith

-- What a step of the coordinator gives: the greatest that it tells, or what was given before, is the most of the new phase.
abbrev Gives : Stage → Coordinator → Out Coordinator → Type 0
Gives g c out = max (greatest_told g out.sent) (most_given g c.phase c.update) ≡ most_given g out.state.phase out.state.update

by_out : (g : Stage) (c : Coordinator) (out o : Out Coordinator) → out ≡ o → Gives g c o → Gives g c out
by_out g c out o is gives = subst (Gives g c) (sym is) gives

-- nothing is told
tells_nothing : (g : Stage) (c : Coordinator) (out : Out Coordinator) → greatest_told g out.sent ≤ 0
    → most_given g c.phase c.update ≡ most_given g out.state.phase out.state.update → Gives g c out
tells_nothing g c out none same = max-eq_right (omega (arith, none)) ∙ same

-- one version more is told
tells_more : (g : Stage) (c : Coordinator) (out : Out Coordinator) (n m k : ℕ) → greatest_told g out.sent ≡ n → most_given g c.phase c.update ≡ m
    → most_given g out.state.phase out.state.update ≡ k → (m ≤ n × n ≡ k) ⊎ (n ≤ m × m ≡ k) → Gives g c out
tells_more g c out n m k says before now (inl (le, is)) = max-eq_left (omega (arith, says, before, le)) ∙ says ∙ is ∙ sym now
tells_more g c out n m k says before now (inr (le, is)) = max-eq_right (omega (arith, says, before, le)) ∙ before ∙ is ∙ sym now

-- the most of a phase that is known
in_this : (g : Stage) (c : Coordinator) (phase : Phase) → c.phase ≡ phase → most_given g c.phase c.update ≡ most_given g phase c.update
in_this g c phase at = ap (λ (p : Phase). most_given g p c.update) at

round_told : (g : Stage) (n : ℕ) (v : Version) (k : ℕ) → greatest_told g (to_nodes n (AskDone v k)) ≤ 0
round_told g n v k =
    greatest_least g 0 (to_nodes n (AskDone v k)) (to_nodes_each (λ to b. version_told g b ≤ 0) n (AskDone v k) (λ to lt. none g)) where
      none : (g : Stage) → version_told g (AskDone v k) ≤ 0
      none TurnStage = omega arith
      none ShowStage = omega arith
      none SweepStage = omega arith

-- a round begins, in a phase of which the most is that of counting
begins : (g : Stage) (c d : Coordinator) (kind : Bool) (k : ℕ) (phase : Phase) → d.update ≡ c.update → c.phase ≡ phase
    → most_given g phase c.update ≡ most_given g (Counting kind) c.update → Gives g c (round_begun kind k d)
begins g c d kind k phase up at same =
    tells_nothing g c (round_begun kind k d) (round_told g d.nodes (counted_version kind d) k)
    (in_this g c phase at ∙ same ∙ ap (λ (n : ℕ). most_given g (Counting kind) n) (sym up))

turned_most : (g : Stage) (u : ℕ) → most_given g Turning u ≡ most_given g (Counting false) u
turned_most TurnStage u = refl
turned_most ShowStage u = refl
turned_most SweepStage u = refl

shown_most : (g : Stage) (u : ℕ) → most_given g Showing u ≡ most_given g (Counting true) u
shown_most TurnStage u = refl
shown_most ShowStage u = refl
shown_most SweepStage u = refl

paused_most : (g : Stage) (kind : Bool) (u : ℕ) → most_given g (Paused kind) u ≡ most_given g (Counting kind) u
paused_most TurnStage kind u = refl
paused_most ShowStage true u = refl
paused_most ShowStage false u = refl
paused_most SweepStage kind u = refl

ended_most : (g : Stage) (u : ℕ) → most_given g Sweeping u ≡ most_given g Idle (u + 1)
ended_most TurnStage u = refl
ended_most ShowStage u = omega arith
ended_most SweepStage u = omega arith

-- an advancement begins
turning_told : (g : Stage) (c : Coordinator) (u : ℕ) (out : Out Coordinator) → greatest_told g out.sent ≡ version_told g (Turn (version (u + 1)))
    → out.state.phase ≡ Turning → out.state.update ≡ u → most_given g c.phase c.update ≡ most_given g Idle u → Gives g c out
turning_told g c u out says phase up before =
    tells_more g c out (version_told g (Turn (version (u + 1)))) (most_given g Idle u) (most_given g Turning u) says before
    (ap (λ (p : Phase). most_given g p out.state.update) phase ∙ ap (λ (n : ℕ). most_given g Turning n) up) (by g) where
      by : (g : Stage) → (most_given g Idle u ≤ version_told g (Turn (version (u + 1))) × version_told g (Turn (version (u + 1))) ≡ most_given g Turning u)
          ⊎ (version_told g (Turn (version (u + 1))) ≤ most_given g Idle u × most_given g Idle u ≡ most_given g Turning u)
      by TurnStage = inl (omega arith, refl)
      by ShowStage = inr (omega arith, refl)
      by SweepStage = inr (omega arith, refl)

-- the client is told first
advanced_told : (g : Stage) (c : Coordinator) (os : List Outgoing) → greatest_told g (advanced c ∷ os) ≡ greatest_told g os
advanced_told TurnStage c os = max-eq_right (omega arith)
advanced_told ShowStage c os = max-eq_right (omega arith)
advanced_told SweepStage c os = max-eq_right (omega arith)

-- a count ends
agrees : (g : Stage) (c : Coordinator) (kind : Bool) (d : Coordinator) → d.update ≡ c.update → d.nodes ≡ c.nodes → 1 ≤ c.nodes
    → c.phase ≡ Counting kind → Gives g c (end_count kind d)
agrees g c false d up nodes some at =
    tells_more g c (end_count false d) (version_told g (Show (version d.update))) (most_given g (Counting false) c.update)
    (most_given g Showing d.update) (nodes_told g d.nodes (Show (version d.update)) (omega (arith, nodes, some))) (in_this g c (Counting false) at)
    refl (by g) where
      by : (g : Stage) → (most_given g (Counting false) c.update ≤ version_told g (Show (version d.update)) × version_told g (Show (version d.update)) ≡ most_given g Showing d.update)
          ⊎ (version_told g (Show (version d.update)) ≤ most_given g (Counting false) c.update × most_given g (Counting false) c.update ≡ most_given g Showing d.update)
      by TurnStage = inr (omega arith, omega (arith, up))
      by ShowStage = inl (omega (arith, up), refl)
      by SweepStage = inr (omega arith, omega (arith, up))
agrees g c true d up nodes some at =
    tells_more g c (end_count true d) (version_told g (Sweep (version d.update))) (most_given g (Counting true) c.update)
    (most_given g Sweeping d.update) (nodes_told g d.nodes (Sweep (version d.update)) (omega (arith, nodes, some))) (in_this g c (Counting true) at)
    refl (by g) where
      by : (g : Stage) → (most_given g (Counting true) c.update ≤ version_told g (Sweep (version d.update)) × version_told g (Sweep (version d.update)) ≡ most_given g Sweeping d.update)
          ⊎ (version_told g (Sweep (version d.update)) ≤ most_given g (Counting true) c.update × most_given g (Counting true) c.update ≡ most_given g Sweeping d.update)
      by TurnStage = inr (omega arith, omega (arith, up))
      by ShowStage = inr (omega arith, omega (arith, up))
      by SweepStage = inl (omega (arith, up), refl)

gives : (g : Stage) (c : Coordinator) (from : ℕ) (body : Body) (out : Out Coordinator) → 1 ≤ c.nodes → Outcome c from body out → Gives g c out
gives g c from body out some (Rests phase at ignored is) = by_out g c out _ is (tells_nothing g c (still c) (omega arith) refl)
gives g c from body out some (Queues phase at goes bd is) =
    by_out g c out _ is (tells_nothing g c (still (record c { waits = c.waits + 1 })) (omega arith) refl)
gives g c from body out some (Flags kind at bd is) = by_out g c out _ is (tells_nothing g c (still (record c { count = nudged c.count })) (omega arith) refl)
gives g c from body out some (Acks phase at answer more is) =
    by_out g c out _ is (tells_nothing g c (still (record c { acks = c.acks + 1 })) (omega arith) refl)
gives g c from body out some (Turns at bd is) =
    by_out g c out _ is
    (turning_told g c c.update (begin_phase Turning (Turn (version (c.update + 1))) c) (nodes_told g c.nodes (Turn (version (c.update + 1))) some)
    refl refl (in_this g c Idle at))
gives g c from body out some (LastTurned v at bd last is) = by_out g c out _ is (begins g c c false (c.count.number + 1) Turning refl at (turned_most g c.update))
gives g c from body out some (LastShown v at bd last is) = by_out g c out _ is (begins g c c true (c.count.number + 1) Showing refl at (shown_most g c.update))
gives g c from body out some (Finishes v at bd last none is) =
    by_out g c out _ is
    (tells_nothing g c (finished c) (omega (arith, advanced_told g c [])) (in_this g c Sweeping at ∙ ended_most g c.update))
gives g c from body out some (GoesOn v at bd last more is) =
    by_out g c out _ is
    (turning_told g c (c.update + 1) (gone_on c)
    (advanced_told g c (to_nodes c.nodes (Turn (version (c.update + 2)))) ∙ nodes_told g c.nodes (Turn (version (c.update + 2))) some
    ∙ ap (λ (n : ℕ). version_told g (Turn (version n))) (omega arith))
    refl refl (in_this g c Sweeping at ∙ ended_most g c.update))
gives g c from body out some (Resumes kind at bd is) =
    by_out g c out _ is (begins g c c kind (c.count.number + 1) (Paused kind) refl at (paused_most g kind c.update))
gives g c from body out some (KeepsDone kind v k row at bd here is) =
    by_out g c out _ is
    (tells_nothing g c (keep_done from row c)
    (asks_told g c.nodes c.count.current.version c.count.current.number (all_in (with_done from row c.count.current).dones && not (all_in c.count.current.dones))) refl)
gives g c from body out some (KeepsAsked kind v k row takes none is) =
    by_out g c out _ is (tells_nothing g c (still (asked_kept from row c)) (omega arith) refl)
gives g c from body out some (Agrees kind v k row takes agree is) =
    by_out g c out _ is (agrees g c kind (asked_kept from row c) refl refl some takes.phase)
gives g c from body out some (Recounts kind v k row takes differs flag is) =
    by_out g c out _ is (begins g c (asked_kept from row c) kind (c.count.number + 1) (Counting kind) refl takes.phase refl)
gives g c from body out some (Pauses kind v k row takes differs flag is) =
    by_out g c out _ is
    (tells_nothing g c (still (in_phase (Paused kind) (asked_kept from row c))) (omega arith)
    (in_this g c (Counting kind) takes.phase ∙ sym (paused_most g kind c.update)))

-- an entry of another actor tells nothing
apart_told : (g : Stage) (body : Body) → IsApart body → version_told g body ≡ 0
apart_told TurnStage (Turn v) apart = absurd apart
apart_told TurnStage (Order e what v) apart = absurd apart
apart_told TurnStage _ apart = refl
apart_told ShowStage (Show v) apart = absurd apart
apart_told ShowStage (Order e what v) apart = absurd apart
apart_told ShowStage _ apart = refl
apart_told SweepStage (Sweep v) apart = absurd apart
apart_told SweepStage (Order e what v) apart = absurd apart
apart_told SweepStage _ apart = refl

rows_told : (g : Stage) (v : Version) (k : ℕ) (row : List ℕ)
    → (version_told g (DoneRow v k row) ≡ 0) × (version_told g (AskedRow v k row) ≡ 0)
rows_told TurnStage v k row = (refl, refl)
rows_told ShowStage v k row = (refl, refl)
rows_told SweepStage v k row = (refl, refl)

-- the entries of others leave what was given
pub given_by : (g : Stage) (s : ScriptData) (past : List Entry) (e : Entry) → e.actor.0 ≢ s.nodes → Sending s past e
    → greatest_given g (e ∷ past) ≡ greatest_given g past
given_by g s past e away (SendsApart ne plain all) =
    given_stays g e past
    (each_map (λ (o : Outgoing). IsApart o.body) (λ (o : Outgoing). version_told g o.body ≡ 0) e.sent (λ o apart. apart_told g o.body apart) all)
given_by g s past e away (SendsDone v k lt bd sent same) =
    given_stays g e past (subst (λ (os : List Outgoing). Each (λ (o : Outgoing). version_told g o.body ≡ 0) os) (sym sent)
    ((rows_told g v k _).0, tt))
given_by g s past e away (SendsAsked v k lt bd sent same) =
    given_stays g e past (subst (λ (os : List Outgoing). Each (λ (o : Outgoing). version_told g o.body ≡ 0) os) (sym sent)
    ((rows_told g v k _).1, tt))
given_by g s past e away (SendsOrders at rowless) = absurd (away at)

given_away : (g : Stage) (s : ScriptData) (past : List Entry) (e : Entry) → IsLawful s → IsStepRun s (e ∷ past) → AllApt s (e ∷ past)
    → e.actor.0 ≢ s.nodes → greatest_given g (e ∷ past) ≡ greatest_given g past
given_away g s past e laws run apt away = given_by g s past e away (sending s past e laws.trees run apt)

-- so does an entry that has an act, which is none of the coordinator's
acted_by : (g : Stage) (s : ScriptData) (past : List Entry) (e : Entry) → is_lossy s ≡ false → MayFollow s past e → (e.acts ≡ [] → ⊥) → Sending s past e
    → greatest_given g (e ∷ past) ≡ greatest_given g past
acted_by g s past e keeps m acts (SendsApart ne plain all) = given_by g s past e ne (SendsApart ne plain all)
acted_by g s past e keeps m acts (SendsDone v k lt bd sent same) =
    given_by g s past e (λ eq. omega (arith, eq, lt)) (SendsDone v k lt bd sent same)
acted_by g s past e keeps m acts (SendsAsked v k lt bd sent same) =
    given_by g s past e (λ eq. omega (arith, eq, lt)) (SendsAsked v k lt bd sent same)
acted_by g s past e keeps m acts (SendsOrders at rowless) = absurd (acts (coordinates s past e keeps m at).acts)

pub given_acted : (g : Stage) (s : ScriptData) (past : List Entry) (e : Entry) → IsLawful s → IsStepRun s (e ∷ past) → AllApt s (e ∷ past)
    → (e.acts ≡ [] → ⊥) → greatest_given g (e ∷ past) ≡ greatest_given g past
given_acted g s past e laws run apt acts = acted_by g s past e laws.keeps run.0 acts (sending s past e laws.trees run apt)

-- what was given is the most of the phase, in every run
abbrev IsMost : Stage → ScriptData → List Entry → Type 0
IsMost g s past = greatest_given g past ≡ most_given g (coordinator_in s past).phase (coordinator_in s past).update

most_kept : (g : Stage) (s : ScriptData) (past : List Entry) (e : Entry) → e.actor.0 ≢ s.nodes → Sending s past e → IsMost g s past
    → IsMost g s (e ∷ past)
most_kept g s past e away sends was =
    given_by g s past e away sends ∙ was
    ∙ ap (λ (c : Coordinator). most_given g c.phase c.update) (sym (coordinator_kept s past e away))

most_next : (g : Stage) (s : ScriptData) (past : List Entry) (e : Entry) → IsLawful s → IsStepRun s (e ∷ past) → AllApt s past
    → Sending s past e → IsMost g s past → IsMost g s (e ∷ past)
most_next g s past e laws run apt (SendsApart ne plain all) was = most_kept g s past e ne (SendsApart ne plain all) was
most_next g s past e laws run apt (SendsDone v k lt bd sent same) was =
    most_kept g s past e (λ eq. omega (arith, eq, lt)) (SendsDone v k lt bd sent same) was
most_next g s past e laws run apt (SendsAsked v k lt bd sent same) was =
    most_kept g s past e (λ eq. omega (arith, eq, lt)) (SendsAsked v k lt bd sent same) was
most_next g s past e laws run apt (SendsOrders at rowless) was =
    let made = coordinates s past e laws.keeps run.0 at in
    let c = coordinator_in s past in
    let out = coordinator_row c e.took.from.0 e.took.body in
    let some : 1 ≤ c.nodes = omega (arith, coordinator_nodes s past, laws.trees.valid.some_nodes) in
    ap (λ (os : List Outgoing). max (greatest_told g os) (greatest_given g past)) made.sent
    ∙ ap (λ (n : ℕ). max (greatest_told g out.sent) n) was
    ∙ gives g c e.took.from.0 e.took.body out some (outcome_in s past e laws run.1 apt)
    ∙ ap (λ (d : Coordinator). most_given g d.phase d.update) (sym made.state)

most_first : (g : Stage) (s : ScriptData) → IsMost g s []
most_first TurnStage s = refl
most_first ShowStage s = refl
most_first SweepStage s = refl

given_is : (g : Stage) (s : ScriptData) (past : List Entry) → IsLawful s → IsStepRun s past → AllApt s past → IsMost g s past
given_is g s [] laws run apt = most_first g s
given_is g s (e ∷ past) laws run apt =
    most_next g s past e laws run apt.1 (sending s past e laws.trees run apt) (given_is g s past laws run.1 apt.1)

-- A node is within it.
record IsMid (update read low turned showed swept : ℕ) : Type 0 where
  turned_low : turned ≤ low + 2
  showed_low : showed ≤ low + 1
  swept_low : swept ≤ low + 1
  showed_update : showed < update
  swept_read : swept ≤ read
  update_turned : update ≤ turned
  read_showed : read ≤ showed
  low_swept : low ≤ swept

mid : (phase : Phase) (u update read low t1 t2 t3 : ℕ) → 1 ≤ u → Level phase u update read low t1 t2 t3
    → IsMid update read low (most_update phase u) (most_read phase u) (most_low phase u)
mid Idle u update read low t1 t2 t3 one l = omega (arith, one, l)
mid Turning u update read low t1 t2 t3 one l = omega (arith, one, l)
mid (Counting true) u update read low t1 t2 t3 one l = omega (arith, one, l)
mid (Counting false) u update read low t1 t2 t3 one l = omega (arith, one, l)
mid (Paused true) u update read low t1 t2 t3 one l = omega (arith, one, l)
mid (Paused false) u update read low t1 t2 t3 one l = omega (arith, one, l)
mid Showing u update read low t1 t2 t3 one l = omega (arith, one, l)
mid Sweeping u update read low t1 t2 t3 one l = omega (arith, one, l)

within : (s : ScriptData) (past : List Entry) (p : ℕ) → IsLawful s → IsStepRun s past → AllApt s past → p < s.nodes
    → IsWithin past (node_in s past p).turns
within s past p laws run apt lt =
    let c = coordinator_in s past in
    let all = levels s past laws run apt in
    let turns = (node_in s past p).turns in
    let m = mid c.phase c.update turns.update.0 turns.read.0 turns.low.0 (tells s past TurnStage p) (tells s past ShowStage p)
    (tells s past SweepStage p) all.first (all.node p lt) in
    let a = given_is TurnStage s past laws run apt in
    let b = given_is ShowStage s past laws run apt in
    let d = given_is SweepStage s past laws run apt in
    record {
      turned_low = omega (arith, a, m.turned_low);
      showed_low = omega (arith, b, m.showed_low);
      swept_low = omega (arith, d, m.swept_low);
      showed_update = omega (arith, b, m.showed_update);
      swept_read = omega (arith, d, m.swept_read);
      update_turned = omega (arith, a, m.update_turned);
      read_showed = omega (arith, b, m.read_showed);
      low_swept = omega (arith, d, m.low_swept);
    }

turned_running : (phase : Phase) (u : ℕ) → most_update phase u ≤ u + running phase
turned_running Idle u = omega arith
turned_running _ u = omega arith

-- Letters.
-- a number of one is at most that of all
each_counted_by : {X : Type 0} (f : X → ℕ) (n : ℕ) (xs : List X) → tally f xs ≤ n → Each (λ (x : X). f x ≤ n) xs
each_counted_by f n [] le = tt
each_counted_by f n (x ∷ xs) le = (omega (arith, le), each_counted_by f n xs (omega (arith, le)))

each_counted : {X : Type 0} (f : X → ℕ) (xs : List X) → Each (λ (x : X). f x ≤ tally f xs) xs
each_counted f xs = each_counted_by f (tally f xs) xs (omega arith)

-- an order in flight comes in its phase, so it is of what was given
order_body : (s : ScriptData) (past : List Entry) (body : Body) → IsLawful s → IsStepRun s past → AllApt s past
    → LevelBody s (coordinator_in s past).phase (coordinator_in s past).update body
    → ((g : Stage) → token g body ≤ count_in_flight (token g) s past) → IsOrderGiven past body
order_body s past (Turn v) laws run apt level there =
    let c = coordinator_in s past in
    let at = turning_phase c.phase (count_in_flight (token TurnStage) s past) c.acks s.nodes (there TurnStage) (told TurnStage s past laws run apt) in
    omega (arith, level, given_is TurnStage s past laws run apt, ap (λ (p : Phase). most_update p c.update) at)
order_body s past (Show v) laws run apt level there =
    let c = coordinator_in s past in
    let at = showing_phase c.phase (count_in_flight (token ShowStage) s past) c.acks s.nodes (there ShowStage) (told ShowStage s past laws run apt) in
    omega (arith, level, given_is ShowStage s past laws run apt, ap (λ (p : Phase). most_read p c.update) at)
order_body s past (Sweep v) laws run apt level there =
    let c = coordinator_in s past in
    let at = sweeping_phase c.phase (count_in_flight (token SweepStage) s past) c.acks s.nodes (there SweepStage) (told SweepStage s past laws run apt) in
    omega (arith, level, given_is SweepStage s past laws run apt, ap (λ (p : Phase). most_low p c.update) at)
order_body s past (Order e what v) laws run apt level there = absurd level
order_body s past _ laws run apt level there = tt

-- each of those in flight counts itself
each_token : (s : ScriptData) (past : List Entry) → Each (λ (l : Letter). (g : Stage) → token g l.body ≤ count_in_flight (token g) s past) (in_flight s past)
each_token s past =
    let one = λ (g : Stage). each_counted (λ (l : Letter). token g l.body) (in_flight s past) in
    each_map _ (λ (l : Letter). (g : Stage) → token g l.body ≤ count_in_flight (token g) s past) (in_flight s past) (λ l all g. by l all g)
    (each_both (λ (l : Letter). token TurnStage l.body ≤ count_in_flight (token TurnStage) s past) _ (in_flight s past) (one TurnStage)
    (each_both (λ (l : Letter). token ShowStage l.body ≤ count_in_flight (token ShowStage) s past)
    (λ (l : Letter). token SweepStage l.body ≤ count_in_flight (token SweepStage) s past) (in_flight s past) (one ShowStage) (one SweepStage))) where
      by : (l : Letter) → (token TurnStage l.body ≤ count_in_flight (token TurnStage) s past)
          × ((token ShowStage l.body ≤ count_in_flight (token ShowStage) s past) × (token SweepStage l.body ≤ count_in_flight (token SweepStage) s past))
          → (g : Stage) → token g l.body ≤ count_in_flight (token g) s past
      by l all TurnStage = all.0
      by l all ShowStage = all.1.0
      by l all SweepStage = all.1.1

orders_given : (s : ScriptData) (past : List Entry) → IsLawful s → IsStepRun s past → AllApt s past
    → Each (λ (l : Letter). IsOrderGiven past l.body) (in_flight s past)
orders_given s past laws run apt =
    let c = coordinator_in s past in
    each_map _ (λ (l : Letter). IsOrderGiven past l.body) (in_flight s past) (λ l all. order_body s past l.body laws run apt all.0 all.1)
    (each_both (λ (l : Letter). LevelBody s c.phase c.update l.body)
    (λ (l : Letter). (g : Stage) → token g l.body ≤ count_in_flight (token g) s past) (in_flight s past)
    (each_waits (λ (l : Letter). LevelBody s c.phase c.update l.body) s past (levels s past laws run apt).letters) (each_token s past))

turned_body : (s : ScriptData) (past : List Entry) (body : Body) → IsLawful s → IsStepRun s past → AllApt s past
    → LevelBody s (coordinator_in s past).phase (coordinator_in s past).update body → IsTurnedTo s past body
turned_body s past (SubLetter t k v) laws run apt level = λ writes. omega (arith, level writes, given_is TurnStage s past laws run apt)
turned_body s past Go laws run apt level = tt
turned_body s past _ laws run apt level = tt

most_low_most : (phase : Phase) (u : ℕ) → most_low phase u ≤ u
most_low_most Sweeping u = omega arith
most_low_most _ u = omega arith

-- an order to node p is one more that it has to obey
ahead_body : (s : ScriptData) (past : List Entry) (p : ℕ) (l : Letter) (body : Body) → l.body ≡ body → Levels s past → p < s.nodes
    → LevelBody s (coordinator_in s past).phase (coordinator_in s past).update body
    → ((g : Stage) → tell g p l.to.0 l.body ≤ tells s past g p) → l.to.0 ≡ p → IsAhead (node_in s past p).turns body
ahead_body s past p l (Show v) is all lt level there to =
    let c = coordinator_in s past in
    let one : tell ShowStage p l.to.0 l.body ≡ 1 =
    ap (λ (b : Body). tell ShowStage p l.to.0 b) is ∙ ap (λ (n : ℕ). one_if (n == p)) to ∙ one_if_same p in
    omega (arith, one, there ShowStage, level, (all.node p lt).read_to, most_read_most c.phase c.update)
ahead_body s past p l (Sweep v) is all lt level there to =
    let c = coordinator_in s past in
    let one : tell SweepStage p l.to.0 l.body ≡ 1 =
    ap (λ (b : Body). tell SweepStage p l.to.0 b) is ∙ ap (λ (n : ℕ). one_if (n == p)) to ∙ one_if_same p in
    omega (arith, one, there SweepStage, level, (all.node p lt).low_to, most_low_most c.phase c.update)
ahead_body s past p l Go is all lt level there to = tt
ahead_body s past p l _ is all lt level there to = tt

each_told : (s : ScriptData) (past : List Entry) (p : ℕ) → Each (λ (l : Letter). (g : Stage) → tell g p l.to.0 l.body ≤ tells s past g p) (in_flight s past)
each_told s past p =
    let one = λ (g : Stage). each_counted (λ (l : Letter). tell g p l.to.0 l.body) (in_flight s past) in
    each_map _ (λ (l : Letter). (g : Stage) → tell g p l.to.0 l.body ≤ tells s past g p) (in_flight s past) (λ l all g. by l all g)
    (each_both (λ (l : Letter). tell TurnStage p l.to.0 l.body ≤ tells s past TurnStage p) _ (in_flight s past) (one TurnStage)
    (each_both (λ (l : Letter). tell ShowStage p l.to.0 l.body ≤ tells s past ShowStage p)
    (λ (l : Letter). tell SweepStage p l.to.0 l.body ≤ tells s past SweepStage p) (in_flight s past) (one ShowStage) (one SweepStage))) where
      by : (l : Letter) → (tell TurnStage p l.to.0 l.body ≤ tells s past TurnStage p)
          × ((tell ShowStage p l.to.0 l.body ≤ tells s past ShowStage p) × (tell SweepStage p l.to.0 l.body ≤ tells s past SweepStage p))
          → (g : Stage) → tell g p l.to.0 l.body ≤ tells s past g p
      by l all TurnStage = all.0
      by l all ShowStage = all.1.0
      by l all SweepStage = all.1.1

orders_ahead : (s : ScriptData) (past : List Entry) (p : ℕ) → IsLawful s → IsStepRun s past → AllApt s past → p < s.nodes
    → Each (λ (l : Letter). l.to.0 ≡ p → IsAhead (node_in s past p).turns l.body) (in_flight s past)
orders_ahead s past p laws run apt lt =
    let c = coordinator_in s past in
    let all = levels s past laws run apt in
    each_map _ (λ (l : Letter). l.to.0 ≡ p → IsAhead (node_in s past p).turns l.body) (in_flight s past)
    (λ l both to. ahead_body s past p l l.body refl all lt both.0 both.1 to)
    (each_both (λ (l : Letter). LevelBody s c.phase c.update l.body)
    (λ (l : Letter). (g : Stage) → tell g p l.to.0 l.body ≤ tells s past g p) (in_flight s past)
    (each_waits (λ (l : Letter). LevelBody s c.phase c.update l.body) s past all.letters) (each_told s past p))

-- So advancements are as they should be, in every run.
pub advancing : (s : ScriptData) (past : List Entry) → IsLawful s → IsStepRun s past → AllApt s past → IsAdvancing s past
advancing s past laws run apt =
    let c = coordinator_in s past in
    let numbers : IsSmall s past = small s past laws run apt in
    let all = levels s past laws run apt in
    record {
      within = λ p lt. within s past p laws run apt lt;
      asked = omega (arith, given_is TurnStage s past laws run apt, turned_running c.phase c.update, numbers.asked);
      heard = λ p lt. omega (arith, numbers.ended, (all.node p lt).low_from);
      orders = orders_given s past laws run apt;
      trees = each_map (λ (l : Letter). LevelBody s c.phase c.update l.body) (λ (l : Letter). IsTurnedTo s past l.body) (outstanding s past)
          (λ l level. turned_body s past l.body laws run apt level) all.letters;
      ahead = λ p lt. orders_ahead s past p laws run apt lt;
    }

-- And what is told is what was told before, or the next version, in quiet.
next_or_less : (v m : ℕ) (Q : Type 0) → Q → v ≤ m + 1 → (v ≤ m) ⊎ ((v ≡ m + 1) × Q)
next_or_less v m Q quiet le = by (under_or v m) where
  by : (v ≤ m) ⊎ (m < v) → (v ≤ m) ⊎ ((v ≡ m + 1) × Q)
  by (inl less) = inl less
  by (inr more) = inr (omega (arith, more, le), quiet)

anew_body : (s : ScriptData) (past : List Entry) (body : Body) → IsGivenInQuiet s past body
    → version_told ShowStage body ≤ greatest_given ShowStage past + 1 → version_told SweepStage body ≤ greatest_given SweepStage past + 1 → IsGivenAnew s past body
anew_body s past (Show v) quiet shown swept = next_or_less v.0 (greatest_given ShowStage past) (IsQuietForUpdates s past v.0) quiet shown
anew_body s past (Sweep v) quiet shown swept = next_or_less v.0 (greatest_given SweepStage past) (IsQuietForReads s past v.0) quiet swept
anew_body s past (Order e whats.Turn v) quiet shown swept = tt
anew_body s past (Order e whats.Show v) quiet shown swept =
    next_or_less v.0 (greatest_given ShowStage past) (IsQuietForUpdates s past v.0) quiet shown
anew_body s past (Order e whats.Sweep v) quiet shown swept =
    next_or_less v.0 (greatest_given SweepStage past) (IsQuietForReads s past v.0) quiet swept
anew_body s past Go quiet shown swept = tt
anew_body s past _ quiet shown swept = tt

-- what was given rises by one at most: a node that the coordinator's entry leaves as it was is within both
given_by_one : (s : ScriptData) (past : List Entry) (e : Entry) → IsLawful s → IsStepRun s (e ∷ past) → AllApt s (e ∷ past)
    → (greatest_given ShowStage (e ∷ past) ≤ greatest_given ShowStage past + 1) × (greatest_given SweepStage (e ∷ past) ≤ greatest_given SweepStage past + 1)
given_by_one s past e laws run apt = by (cases_eq e.actor.0 s.nodes) where
  by : (e.actor.0 ≡ s.nodes) ⊎ (e.actor.0 ≢ s.nodes)
      → (greatest_given ShowStage (e ∷ past) ≤ greatest_given ShowStage past + 1) × (greatest_given SweepStage (e ∷ past) ≤ greatest_given SweepStage past + 1)
  by (inr away) = (
    omega (arith, given_away ShowStage s past e laws run apt away),
    omega (arith, given_away SweepStage s past e laws run apt away),
  )
  by (inl at) =
      let some : 0 < s.nodes = laws.trees.valid.some_nodes in
      let same : (node_in s (e ∷ past) 0).turns.low.0 ≡ (node_in s past 0).turns.low.0 =
      ap (λ (st : Node). st.turns.low.0) (node_kept s past e 0 (λ eq. omega (arith, eq, at, some))) in
      let before = within s past 0 laws run.1 apt.1 some in
      let now = within s (e ∷ past) 0 laws run apt some in (
        omega (arith, now.showed_low, same, before.low_swept, before.swept_read, before.read_showed),
        omega (arith, now.swept_low, same, before.low_swept),
      )

pub given_anew : (s : ScriptData) (past : List Entry) (e : Entry) → IsLawful s → IsStepRun s (e ∷ past) → AllApt s (e ∷ past)
    → Each (λ (o : Outgoing). IsGivenAnew s past o.body) e.sent
given_anew s past e laws run apt =
    let (shown, swept) = given_by_one s past e laws run apt in
    each_map _ (λ (o : Outgoing). IsGivenAnew s past o.body) e.sent
    (λ o all. anew_body s past o.body all.0 (omega (arith, all.1.0, shown)) (omega (arith, all.1.1, swept)))
    (each_both (λ (o : Outgoing). IsGivenInQuiet s past o.body) _ e.sent (given_in_quiet s past e laws run apt)
    (each_both (λ (o : Outgoing). version_told ShowStage o.body ≤ greatest_given ShowStage (e ∷ past))
    (λ (o : Outgoing). version_told SweepStage o.body ≤ greatest_given SweepStage (e ∷ past)) e.sent (sent_given ShowStage e past) (sent_given SweepStage e past)))
