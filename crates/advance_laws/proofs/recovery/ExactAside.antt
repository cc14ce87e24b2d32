-- Exact versions, and what entries of the client and of nodes make of them: a node that has told its numbers since the
-- coordinator has forgotten heeds no order before it goes on, and then only those of its phase.
use Rattle.std.proofs.Common.{◌≡◌, ◌≢◌, ◌⊎◌, inl, inr, ℕ, ◌<◌, ◌≤◌, Bool, true, false, List, ◌∷◌, refl, sym, ap, subst, ◌∙◌, arith}
use Rattle.std.proofs.lemmas.Bool.{cases_eq}
use Rattle.tv_base.specs.declared.numbers.Version.{Version}
use Rattle.letter_types.specs.declared.bodies.Body.{Body}
use Rattle.letter_types.specs.declared.bodies.Body.TheVariants.{Go, Order, Numbers}
use Rattle.letter_types.specs.declared.bodies.What.{What}
use Rattle.letter_types.specs.declared.entries.Entry.{Entry}
use Rattle.letter_types.specs.declared.entries.Letter.{Letter}
use Rattle.letter_types.specs.declared.entries.LetterId.{LetterId}
use Rattle.letter_types.specs.declared.entries.Outgoing.{Outgoing}
use Rattle.node_versions.specs.declared.turns.Turns.{Turns}
use Rattle.tx_trees.specs.ScriptData.{ScriptData}
use Rattle.tx_trees.specs.Valid.{IsValid}
use Rattle.world_model.specs.Core.{Core}
use Rattle.world_model.specs.Counts.{Each}
use Rattle.world_model.specs.Done.{raised_if}
use Rattle.world_model.specs.Node.{Node}
use Rattle.world_model.specs.Restarting.{Restarting}
use Rattle.world_model.specs.Runs.{IsStepRun, MayFollow, in_flight, keeping_in, restarting_in}
use Rattle.world_model.specs.declared.restarting.RestartPhase.{RestartPhase}
use Rattle.world_model.specs.declared.restarting.RestartPhase.TheVariants.{Idle, Recovering, Doing, Counting, Paused}
use Rattle.world_model.proofs.EachOutstanding.{each_waits}
use Rattle.world_model.proofs.Every.{each_both, each_map, each_step, node_kept}
use Rattle.world_model.specs.Meant.{IsLetterMeant, IsMeant}
use Rattle.world_model.proofs.Meant.{letters_are_meant}
use Rattle.advance_laws.proofs.recovery.Heeds.{Answers, Heed, Leaves, Obeys, Repeats, turned_to}
use Rattle.advance_laws.proofs.governed.Lawful.{IsTreeLawful}
use Rattle.advance_laws.proofs.right.Aside.{Aside, Counts, Heeds, IsSentBy, Submits, Tells, Works, sends_aside}
use Rattle.advance_laws.proofs.right.Away.{restarting_kept}
use Rattle.advance_laws.proofs.recovery.ExactSteps.{AreExact, IsExactFor, IsNearIn, IsNoFurther, IsStill, IsStillTold}
use Rattle.advance_laws.proofs.right.Good.{IsCurrent, IsGood, IsLetterRight, IsOrder, IsRight, Knows, ended_few, epoch_in, in_phase, steady_in, took_right, turns_in}

pub record IsExact (s : ScriptData) (past : List Entry) : Type 0 where
  pub letters : (restarting_in s past).phase ≡ Recovering
      → Each (λ (l : Letter). IsStillTold (restarting_in s past).epoch (turns_in s past) l.from.0 l.body) (in_flight s past)
  pub nodes : IsExactFor s.nodes (restarting_in s past) (turns_in s past)

-- What is known of a good past.
pub near_now : (s : ScriptData) (past : List Entry) → IsValid s → IsGood s past
    → IsNearIn s.nodes (restarting_in s past) (turns_in s past)
near_now s past valid good = λ knows.
    let c = restarting_in s past in
    let steady = steady_in s past c.phase good refl knows in
    record {
      small = ended_few s past c.phase valid good steady;
      low = λ q lt. omega (arith, (good.within q lt).low_swept, steady.up_to.swept);
      read = λ q lt. omega (arith, (good.within q lt).read_showed, steady.up_to.showed);
    }

-- A node that has heard of the coordinator's epoch reads and keeps what it did, or obeys an order of the present phase.
pub data Moved (c : Restarting) (old new : Turns) : Type 0 where
  Stood : new.read.0 ≡ old.read.0 → new.low.0 ≡ old.low.0 → Moved c old new
  Heeded : (what : What) (v : Version) → IsCurrent c what v → new ≡ turned_to what v old → Moved c old new

-- an order that such a node heeds is of the present phase
pub current_now : (s : ScriptData) (past : List Entry) (e : Entry) (p n : ℕ) (what : What) (v : Version) → IsGood s past
    → MayFollow s past e
    → e.took.body ≡ Order n what v → (restarting_in s past).epoch ≤ epoch_in s past p → epoch_in s past p ≤ n
    → IsCurrent (restarting_in s past) what v
current_now s past e p n what v good m bd since new =
    let right : IsOrder s past e.took.to.0 n what v = took_right s past e (Order n what v) good m bd in
    right.current (omega (arith, right.epoch, since, new))

core_stood : (c : Restarting) (old new : Core) (n : ℕ) → new ≡ record old { epoch = n } → Moved c old.node.turns new.node.turns
core_stood c old new n is = Stood (ap (λ (x : Core). x.node.turns.read.0) is) (ap (λ (x : Core). x.node.turns.low.0) is)

heed_moved : (s : ScriptData) (past : List Entry) (e : Entry) (p : ℕ) → IsGood s past → MayFollow s past e
    → (restarting_in s past).epoch ≤ epoch_in s past p
    → Heed s (keeping_in s past p).core (keeping_in s (e ∷ past) p).core e.took.body e.sent
    → Moved (restarting_in s past) (turns_in s past p) (turns_in s (e ∷ past) p)
heed_moved s past e p good m since (Leaves n of late same none) =
    Stood (ap (λ (x : Core). x.node.turns.read.0) same) (ap (λ (x : Core). x.node.turns.low.0) same)
heed_moved s past e p good m since (Answers n bd new same is) =
    core_stood (restarting_in s past) (keeping_in s past p).core (keeping_in s (e ∷ past) p).core n same
heed_moved s past e p good m since (Repeats n what v bd new was same is) =
    core_stood (restarting_in s past) (keeping_in s past p).core (keeping_in s (e ∷ past) p).core n same
heed_moved s past e p good m since (Obeys n what v more bd new less epoch turns is woken) =
    Heeded what v (current_now s past e p n what v good m bd since new) turns

raised_moved : (c : Restarting) (old new : Turns) (raises : Bool) (v : ℕ) → new ≡ raised_if raises v old → Moved c old new
raised_moved c old new true v is = Stood (ap (λ (t : Turns). t.read.0) is) (ap (λ (t : Turns). t.low.0) is)
raised_moved c old new false v is = Stood (ap (λ (t : Turns). t.read.0) is) (ap (λ (t : Turns). t.low.0) is)

-- whoever's entry it is
away_moved : (s : ScriptData) (past : List Entry) (e : Entry) (q : ℕ) → e.actor.0 ≢ q
    → Moved (restarting_in s past) (turns_in s past q) (turns_in s (e ∷ past) q)
away_moved s past e q ne = grind (arith, node_kept)

at_moved : (s : ScriptData) (past : List Entry) (e : Entry) (p q : ℕ) → e.actor.0 ≡ p
    → (p ≡ q → Moved (restarting_in s past) (turns_in s past p) (turns_in s (e ∷ past) p)) → (p ≡ q) ⊎ (p ≢ q)
    → Moved (restarting_in s past) (turns_in s past q) (turns_in s (e ∷ past) q)
at_moved s past e p q at here (inl same) =
    subst (λ (n : ℕ). Moved (restarting_in s past) (turns_in s past n) (turns_in s (e ∷ past) n)) same (here same)
at_moved s past e p q at here (inr other) = away_moved s past e q (λ is. other (sym at ∙ is))

moved : (s : ScriptData) (past : List Entry) (e : Entry) (q : ℕ) → IsGood s past → MayFollow s past e → Aside s past e
    → q < s.nodes
    → (restarting_in s past).epoch ≤ epoch_in s past q
    → Moved (restarting_in s past) (turns_in s past q) (turns_in s (e ∷ past) q)
moved s past e q good m (Submits c first at told bare made) lt since = away_moved s past e q (λ is. omega (arith, at, is, lt))
moved s past e q good m (Tells n at bd made) lt since = away_moved s past e q (λ is. omega (arith, at, is, lt))
moved s past e q good m (Works p r work) lt since =
    at_moved s past e p q work.brings.at
    (λ same.
    raised_moved (restarting_in s past) (turns_in s past p) (turns_in s (e ∷ past) p) work.turns.raises work.turns.version
    work.turns.turns)
    (cases_eq p q)
moved s past e q good m (Counts p count) lt since =
    at_moved s past e p q count.at
    (λ same. Stood (ap (λ (st : Node). st.turns.read.0) count.same) (ap (λ (st : Node). st.turns.low.0) count.same))
    (cases_eq p q)
moved s past e q good m (Heeds p at below heed) lt since =
    at_moved s past e p q at
    (λ same.
    heed_moved s past e p good m (subst (λ (n : ℕ). (restarting_in s past).epoch ≤ epoch_in s past n) (sym same) since) heed)
    (cases_eq p q)

-- so what it has told is still so while the coordinator recovers, and it comes no further than the phase says
still_moved : (c : Restarting) (old new : Turns) (r l : Version) → c.phase ≡ Recovering → Moved c old new → IsStill old r l
    → IsStill new r l
still_moved c old new r l waits (Stood read low) was = record { read = read ∙ was.read; low = low ∙ was.low }
still_moved c old new r l waits (Heeded what v current is) was = absurd (cc (sym waits ∙ current.phase))

further_moved : (c : Restarting) (old new : Turns) (phase : RestartPhase) → c.phase ≡ phase → Moved c old new
    → IsNoFurther phase c.ended old → IsNoFurther phase c.ended new
further_moved c old new phase at is was = grind arith

-- Letters and nodes after an entry of the client or of a node.
old_still : (s : ScriptData) (past : List Entry) (e : Entry) (from to : ℕ) (body : Body) → IsGood s past → MayFollow s past e
    → Aside s past e → (restarting_in s past).phase ≡ Recovering → IsMeant s from to body → IsRight s past from to body
    → IsStillTold (restarting_in s past).epoch (turns_in s past) from body
    → IsStillTold (restarting_in s past).epoch (turns_in s (e ∷ past)) from body
old_still s past e from to (Numbers n u r l) good m next waits meant right was = λ is.
    still_moved (restarting_in s past) (turns_in s past from) (turns_in s (e ∷ past) from) r l waits
    (moved s past e from good m next meant.0.0 (right.latest is waits).epoch) (was is)
old_still s past e from to Go good m next waits meant right was = tt
old_still s past e from to _ good m next waits meant right was = tt

sent_still : (s : ScriptData) (past : List Entry) (e : Entry) (epoch : ℕ) (body : Body) → IsSentBy s past e body
    → IsStillTold epoch (turns_in s (e ∷ past)) e.actor.0 body
sent_still s past e epoch body is = grind arith

-- what holds of each letter in flight, to be as it should
pub each_now : (P : Letter → Type 0) (s : ScriptData) (past : List Entry) → IsTreeLawful s → IsStepRun s past → IsGood s past
    → Each P (in_flight s past)
    → Each (λ (l : Letter). IsLetterMeant s l × (IsLetterRight s past l × P l)) (in_flight s past)
each_now P s past laws run good all =
    each_both (IsLetterMeant s) (λ (l : Letter). IsLetterRight s past l × P l) (in_flight s past)
    (each_waits (IsLetterMeant s) s past (letters_are_meant s past laws.valid run))
    (each_both (IsLetterRight s past) P (in_flight s past) good.letters all)

aside_letters : (s : ScriptData) (past : List Entry) (e : Entry) → IsTreeLawful s → IsStepRun s (e ∷ past) → IsGood s past
    → Aside s past e → (restarting_in s past).phase ≡ Recovering
    → Each (λ (l : Letter). IsStillTold (restarting_in s past).epoch (turns_in s past) l.from.0 l.body) (in_flight s past)
    → Each (λ (l : Letter). IsStillTold (restarting_in s past).epoch (turns_in s (e ∷ past)) l.from.0 l.body)
    (in_flight s (e ∷ past))
aside_letters s past e laws run good next waits was =
    let c = restarting_in s past in
    let P = λ (l : Letter). IsStillTold c.epoch (turns_in s past) l.from.0 l.body in
    let Q = λ (l : Letter). IsStillTold c.epoch (turns_in s (e ∷ past)) l.from.0 l.body in
    each_step Q s past e
    (each_map (λ (l : Letter). IsLetterMeant s l × (IsLetterRight s past l × P l)) Q (in_flight s past)
    (λ l all. old_still s past e l.from.0 l.to.0 l.body good run.0 next waits all.0 all.1.0 all.1.1)
    (each_now P s past laws run.1 good was))
    (each_map (λ (o : Outgoing). IsSentBy s past e o.body)
    (λ (o : Outgoing). (i : LetterId) → Q (record { id = i; from = record { 0 = e.actor.0 }; to = o.to; body = o.body })) e.sent
    (λ o sent i. sent_still s past e c.epoch o.body sent) (sends_aside s past e next))

-- nodes in each phase
aside_steady : (s : ScriptData) (past : List Entry) (e : Entry) (phase : RestartPhase) → IsGood s past → MayFollow s past e
    → Aside s past e → (restarting_in s past).phase ≡ phase → Knows phase
    → ((q : ℕ) → q < s.nodes → IsNoFurther phase (restarting_in s past).ended (turns_in s past q))
    → (q : ℕ) → q < s.nodes → IsNoFurther phase (restarting_in s past).ended (turns_in s (e ∷ past) q)
aside_steady s past e phase good m next at knows was = λ q lt.
    let c = restarting_in s past in
    let steady = steady_in s past phase good at knows in
    further_moved c (turns_in s past q) (turns_in s (e ∷ past) q) phase at
    (moved s past e q good m next lt (steady.level q lt).since)
    (was q lt)

aside_nodes : (s : ScriptData) (past : List Entry) (e : Entry) (phase : RestartPhase) → IsGood s past → MayFollow s past e
    → Aside s past e → (restarting_in s past).phase ≡ phase
    → AreExact s.nodes phase (restarting_in s past).ended (restarting_in s past).told (turns_in s past)
    → AreExact s.nodes phase (restarting_in s past).ended (restarting_in s past).told (turns_in s (e ∷ past))
aside_nodes s past e Recovering good m next at was = λ q t lt has.
    let heard = (in_phase s past Recovering good at).nodes q t lt has in
    still_moved (restarting_in s past) (turns_in s past q) (turns_in s (e ∷ past) q) t.read t.low at
    (moved s past e q good m next lt heard.latest.epoch) (was q t lt has)
aside_nodes s past e Idle good m next at was = aside_steady s past e Idle good m next at (λ is. cc is) was
aside_nodes s past e (Doing what) good m next at was = aside_steady s past e (Doing what) good m next at (λ is. cc is) was
aside_nodes s past e (Counting reads) good m next at was =
    aside_steady s past e (Counting reads) good m next at (λ is. cc is) was
aside_nodes s past e (Paused reads) good m next at was = aside_steady s past e (Paused reads) good m next at (λ is. cc is) was

pub exact_aside : (s : ScriptData) (past : List Entry) (e : Entry) → IsTreeLawful s → IsStepRun s (e ∷ past) → IsGood s past
    → e.actor.0 ≢ s.nodes → Aside s past e → IsExact s past → IsExact s (e ∷ past)
exact_aside s past e laws run good away next was =
    let c = restarting_in s past in
    let same = sym (restarting_kept s past e away) in
    record {
      letters =
          subst
          (λ (d : Restarting). d.phase ≡ Recovering
          → Each (λ (l : Letter). IsStillTold d.epoch (turns_in s (e ∷ past)) l.from.0 l.body) (in_flight s (e ∷ past)))
          same (λ waits. aside_letters s past e laws run good next waits (was.letters waits));
      nodes = subst (λ (d : Restarting). IsExactFor s.nodes d (turns_in s (e ∷ past))) same
          (aside_nodes s past e c.phase good run.0 next refl was.nodes);
    }
