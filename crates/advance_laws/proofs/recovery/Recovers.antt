-- While a coordinator that forgets recovers, each node and the client is asked by a message in flight, or answers by
-- one, or its answer is kept; and not all are. So some message is in flight.
use Rattle.std.proofs.Common.{◌≡◌, ◌≢◌, ◌⊎◌, inl, inr, ℕ, zero, suc, ◌+◌, ◌<◌, ◌≤◌, ◌==◌, ◌&&◌, not, Bool, true, false, List, [], ◌∷◌, length, replicate, refl, sym, ap, subst, ◌∙◌, arith, Option, Some, None}
use Rattle.std.specs.Prelude.{is_some, slice_get, slice_set}
use Rattle.std.specs.List.{list_all}
use Rattle.std.proofs.lemmas.Bool.{and_from, cases_eq}
use Rattle.std.proofs.Math.Bool.{and-false}
use Rattle.tv_base.specs.Outside.{one_more}
use Rattle.tv_base.specs.declared.numbers.Version.{Version}
use Rattle.letter_types.specs.declared.bodies.Body.{Body}
use Rattle.letter_types.specs.declared.bodies.Body.TheVariants.{Go, Ask, Numbers, Wanted}
use Rattle.letter_types.specs.declared.entries.Entry.{Entry}
use Rattle.letter_types.specs.declared.entries.Letter.{Letter}
use Rattle.letter_types.specs.declared.entries.Outgoing.{Outgoing}
use Rattle.letter_types.specs.Steps.{Out}
use Rattle.tx_trees.specs.ScriptData.{ScriptData, client_of}
use Rattle.world_model.specs.AllApt.{AllApt}
use Rattle.world_model.specs.Client.{advances_sent}
use Rattle.world_model.specs.Coordinator.{to_nodes}
use Rattle.world_model.specs.Counts.{one_if, tally}
use Rattle.script_parts.specs.Counts.{is_lossy}
use Rattle.world_model.specs.Restarting.{AllTold, Restarting, forget, restarting_row, to_client, with_wanted}
use Rattle.world_model.specs.Runs.{IsStepRun, MayFollow, client_in, in_flight, keeping_in, restarting_in}
use Rattle.world_model.specs.declared.restarting.RestartPhase.TheVariants.{Recovering}
use Rattle.world_model.specs.declared.restarting.Told.{Told}
use Rattle.world_model.proofs.Bags.{sealed_tally, tally-append, one_if_both}
use Rattle.world_model.proofs.Restarts.{restarting_nodes}
use Rattle.advance_laws.proofs.recovery.Heeds.{Answers, Heed, IsOfEpoch, Leaves, Obeys, Repeats}
use Rattle.advance_laws.proofs.governed.Lawful.{IsTreeLawful}
use Rattle.advance_laws.proofs.phases.Progress.{MadeByRestarting, TellsAnew, course, restarts, told_anew}
use Rattle.advance_laws.proofs.counting.Waves.{flow_of, going, leaving}
use Rattle.advance_laws.proofs.counting.Working.{IsOfTrees}
use Rattle.advance_laws.proofs.right.Aside.{Aside, Counts, Heeds, IsEpochless, Submits, Tells, Works, aside}
use Rattle.advance_laws.proofs.right.AtCoordinator.{nodes_sent}
use Rattle.advance_laws.proofs.right.Away.{restarting_kept}
use Rattle.advance_laws.proofs.recovery.Forgetting.{good_run}
use Rattle.advance_laws.proofs.right.Good.{IsGood, Knows, in_phase}
use Rattle.advance_laws.proofs.recovery.RecoverSteps.{Forgot, HasMore, IsWanted, Stays, Waiting, has_all, waiting}
use Rattle.advance_laws.proofs.recovery.RestartSteps.{HearsMore, IsLeft, restart_step}

-- a letter that asks actor q in epoch e, or answers: the client, or a node
abbrev pub asking : Bool → ℕ → ℕ → ℕ → ℕ → Body → ℕ
asking client e q from to (Ask d) = one_if ((d == e) && (to == q))
asking client e q from to (Numbers d u r l) = one_if (not client && ((d == e) && (from == q)))
asking client e q from to (Wanted d k) = one_if (client && ((d == e) && (from == q)))
asking client e q from to Go = 0
asking client e q from to _ = 0

abbrev pub IsAsked : ScriptData → Bool → ℕ → Type 0
IsAsked s true q = q ≡ client_of s
IsAsked s false q = q < s.nodes

-- its answer is kept
abbrev pub is_told : Option (Option Told) → ℕ
is_told (Some (Some t)) = 1
is_told (Some None) = 0
is_told None = 0

abbrev pub is_heard : Option ℕ → ℕ
is_heard (Some k) = 1
is_heard None = 0

abbrev pub has_told : Bool → Restarting → ℕ → ℕ
has_told true d q = is_heard d.heard
has_told false d q = is_told (slice_get d.told q)

record IsAwaited (s : ScriptData) (past : List Entry) (d : Restarting) : Type 0 where
  each : (client : Bool) (q : ℕ) → IsAsked s client q → 1 ≤ going (asking client d.epoch q) s past + has_told client d q
  misses : has_all d ≡ false

abbrev Awaits : ScriptData → List Entry → Restarting → Type 0
Awaits s past d = d.phase ≡ Recovering → IsAwaited s past d

-- Letters that aren't such.
asks_other : (d e a q : ℕ) → a ≢ q → one_if ((d == e) && (a == q)) ≡ 0
asks_other d e a q ne = grind arith

epochless_none : (client : Bool) (e q from to : ℕ) (body : Body) → IsEpochless body → asking client e q from to body ≡ 0
epochless_none client e q from to body none = grind arith

trees_none : (client : Bool) (e q from to : ℕ) (body : Body) → IsOfTrees body → asking client e q from to body ≡ 0
trees_none client e q from to body of = grind arith

late_none : (client : Bool) (n e q from to : ℕ) (body : Body) → IsOfEpoch n body → n < e → asking client e q from to body ≡ 0
late_none client n e q from to body of less = grind arith

-- a letter that changes nothing
left_none : (client : Bool) (s : ScriptData) (c : Restarting) (q from to : ℕ) (body : Body) → IsLeft body Recovering from c
    → TellsAnew body
    → IsAsked s client q → length c.told ≡ s.nodes → c.nodes ≡ s.nodes → asking client c.epoch q from to body ≡ 0
left_none client s c q from to body left tells asked places nodes = grind arith

-- Entries of the client and of nodes: who takes a question answers it.
none_taken : (f : ℕ → ℕ → Body → ℕ) (s : ScriptData) (past : List Entry) (e : Entry) → MayFollow s past e
    → f e.took.from.0 e.actor.0 e.took.body ≡ 0 → going f s past ≤ going f s (e ∷ past)
none_taken f s past e m none = omega (arith, flow_of f s past e m, none)

answered : (client : Bool) (s : ScriptData) (past : List Entry) (e : Entry) (d n q : ℕ) (answer : Body) (to : ℕ)
    → MayFollow s past e
    → e.took.body ≡ Ask n → e.sent ≡ record { to = record { 0 = to }; body = answer } ∷ []
    → asking client d q e.took.from.0 e.actor.0 (Ask n) ≡ asking client d q e.actor.0 to answer
    → going (asking client d q) s past ≤ going (asking client d q) s (e ∷ past)
answered client s past e d n q answer to m bd is same = grind (arith, flow_of)

tells_same : (client : Bool) (s : ScriptData) (d n q a from to k : ℕ) → IsAsked s client q → a ≡ client_of s
    → asking client d q from a (Ask n) ≡ asking client d q a to (Wanted n k)
tells_same true s d n q a from to k asked at = refl
tells_same false s d n q a from to k asked at = asks_other n d a q (λ is. omega (arith, is, at, asked))

numbers_same : (client : Bool) (s : ScriptData) (d n q a from to : ℕ) (u r l : Version) → IsAsked s client q → a < s.nodes
    → asking client d q from a (Ask n) ≡ asking client d q a to (Numbers n u r l)
numbers_same true s d n q a from to u r l asked lt = asks_other n d a q (λ is. omega (arith, is, lt, asked))
numbers_same false s d n q a from to u r l asked lt = refl

heed_keeps : (client : Bool) (s : ScriptData) (past : List Entry) (e : Entry) (p q : ℕ) → IsGood s past → MayFollow s past e
    → e.actor.0 ≡ p
    → p < s.nodes → IsAsked s client q → Heed s (keeping_in s past p).core (keeping_in s (e ∷ past) p).core e.took.body e.sent
    → going (asking client (restarting_in s past).epoch q) s past ≤ going (asking client (restarting_in s past).epoch q) s
    (e ∷ past)
heed_keeps client s past e p q good m at lt asked (Leaves n of late same none) =
    let d = (restarting_in s past).epoch in
    none_taken (asking client d q) s past e m
    (late_none client n d q e.took.from.0 e.actor.0 e.took.body of (omega (arith, late, good.epochs p lt)))
heed_keeps client s past e p q good m at lt asked (Answers n bd new same is) =
    let d = (restarting_in s past).epoch in
    let t = (keeping_in s past p).core.node.turns in
    answered client s past e d n q (Numbers n t.update t.read t.low) s.nodes m bd is
    (numbers_same client s d n q e.actor.0 e.took.from.0 s.nodes t.update t.read t.low asked (omega (arith, at, lt)))
heed_keeps client s past e p q good m at lt asked (Repeats n what v bd new was same is) =
    none_taken (asking client (restarting_in s past).epoch q) s past e m
    (ap (λ (b : Body). asking client (restarting_in s past).epoch q e.took.from.0 e.actor.0 b) bd)
heed_keeps client s past e p q good m at lt asked (Obeys n what v more bd new less epoch turns is woken) =
    none_taken (asking client (restarting_in s past).epoch q) s past e m
    (ap (λ (b : Body). asking client (restarting_in s past).epoch q e.took.from.0 e.actor.0 b) bd)

aside_keeps : (client : Bool) (s : ScriptData) (past : List Entry) (e : Entry) (q : ℕ) → IsGood s past → MayFollow s past e
    → IsAsked s client q → Aside s past e
    → going (asking client (restarting_in s past).epoch q) s past ≤ going (asking client (restarting_in s past).epoch q) s
    (e ∷ past)
aside_keeps client s past e q good m asked (Submits c first at told bare made) =
    let d = (restarting_in s past).epoch in
    none_taken (asking client d q) s past e m (epochless_none client d q e.took.from.0 e.actor.0 e.took.body told.took)
aside_keeps client s past e q good m asked (Tells n at bd made) =
    let d = (restarting_in s past).epoch in
    let k = advances_sent s (client_in s past) in
    answered client s past e d n q (Wanted n k) s.nodes m bd made.sent
    (tells_same client s d n q e.actor.0 e.took.from.0 s.nodes k asked at)
aside_keeps client s past e q good m asked (Works p r work) =
    let d = (restarting_in s past).epoch in
    none_taken (asking client d q) s past e m (trees_none client d q e.took.from.0 e.actor.0 e.took.body work.took)
aside_keeps client s past e q good m asked (Counts p count) =
    let d = (restarting_in s past).epoch in
    none_taken (asking client d q) s past e m (epochless_none client d q e.took.from.0 e.actor.0 e.took.body count.took)
aside_keeps client s past e q good m asked (Heeds p at lt heed) = heed_keeps client s past e p q good m at lt asked heed

aside_awaits : (s : ScriptData) (past : List Entry) (e : Entry) → IsGood s past → MayFollow s past e → e.actor.0 ≢ s.nodes
    → Aside s past e
    → Awaits s past (restarting_in s past) → Awaits s (e ∷ past) (restarting_in s (e ∷ past))
aside_awaits s past e good m away next was =
    subst (Awaits s (e ∷ past)) (sym (restarting_kept s past e away)) (λ waits. record {
      each = λ client q asked. omega (arith, (was waits).each client q asked, aside_keeps client s past e q good m asked next);
      misses = (was waits).misses;
    })

-- Entries of the coordinator.
-- what is sent is in flight then
sent_there : (f : ℕ → ℕ → Body → ℕ) (s : ScriptData) (past : List Entry) (e : Entry)
    → tally (leaving f e.actor.0) e.sent ≤ going f s (e ∷ past)
sent_there f s past e = grind (arith, sealed_tally, tally-append)

-- it forgets, and asks all
asks_all : (client : Bool) (s : ScriptData) (c : Restarting) (a q : ℕ) → c.nodes ≡ s.nodes → IsAsked s client q
    → 1 ≤ tally (leaving (asking client (one_more c.epoch) q) a) (forget c).sent
asks_all client s c a q nodes asked = by client (split client) asked where
  d : ℕ
  d = one_more c.epoch

  split : (b : Bool) → tally (leaving (asking b d q) a) (forget c).sent
      ≡ tally (leaving (asking b d q) a) (to_nodes c.nodes (Ask d)) + (one_if ((d == d) && (c.nodes + 1 == q)) + 0)
  split b = tally-append (leaving (asking b d q) a) (to_nodes c.nodes (Ask d)) (to_client (Ask d) c ∷ [])

  by : (b : Bool) → tally (leaving (asking b d q) a) (forget c).sent
      ≡ tally (leaving (asking b d q) a) (to_nodes c.nodes (Ask d)) + (one_if ((d == d) && (c.nodes + 1 == q)) + 0)
      → IsAsked s b q → 1 ≤ tally (leaving (asking b d q) a) (forget c).sent
  by false is lt =
      omega (
        arith,
        is,
        nodes_sent (asking false d q) c.nodes a (Ask d) q (omega (arith, lt, nodes))
            (omega (arith, one_if_both d q)),
      )
  by true is at =
      let here : c.nodes + 1 ≡ q = omega (arith, nodes, at) in
      let one : one_if ((d == d) && (c.nodes + 1 == q)) ≡ 1 =
      ap (λ (k : ℕ). one_if ((d == d) && (k == q))) here ∙ one_if_both d q in
      omega (arith, is, one)

-- it has kept what it hears
told_there : (ts : AllTold) (from : ℕ) (t : Told) → from < length ts → is_told (slice_get (slice_set ts from (Some t)) from) ≡ 1
told_there [] from t lt = absurd (omega (arith, lt))
told_there (x ∷ ts) zero t lt = refl
told_there (x ∷ ts) (suc from) t lt = told_there ts from t (omega (arith, lt))

told_more : (ts : AllTold) (from q : ℕ) (t : Told)
    → is_told (slice_get ts q) ≤ is_told (slice_get (slice_set ts from (Some t)) q)
told_more [] from q t = omega arith
told_more (None ∷ ts) zero zero t = omega arith
told_more (Some x ∷ ts) zero zero t = omega arith
told_more (x ∷ ts) zero (suc q) t = omega arith
told_more (x ∷ ts) (suc from) zero t = omega arith
told_more (x ∷ ts) (suc from) (suc q) t = told_more ts from q t

node_told : (ts : AllTold) (d from q : ℕ) (t : Told) → from < length ts
    → one_if ((d == d) && (from == q)) ≤ is_told (slice_get (slice_set ts from (Some t)) q)
node_told ts d from q t lt = grind (arith, told_there)

-- what is kept then covers what was, and the letter
record Covers (client : Bool) (c d : Restarting) (q from to : ℕ) (body : Body) : Type 0 where
  epoch : d.epoch ≡ c.epoch
  letter : asking client c.epoch q from to body ≤ has_told client d q
  before : has_told client c q ≤ has_told client d q

hears_covers : (client : Bool) (c d : Restarting) (q from to : ℕ) (body : Body) → HearsMore c from body d
    → Covers client c d q from to body
hears_covers client c d q from to body is = grind (arith, node_told, told_more)

-- a witness of one kind or the other is still there
pub still_covered : (now before weight kept was : ℕ) → 1 ≤ before + was → before ≤ now + weight → weight ≤ kept → was ≤ kept
    → 1 ≤ now + kept
still_covered now before weight zero was some le covers more = omega (arith, some, le, covers, more)
still_covered now before weight (suc kept) was some le covers more = omega arith

covered : (client : Bool) (s : ScriptData) (past : List Entry) (e : Entry) (d : Restarting) (q : ℕ) → MayFollow s past e
    → Covers client (restarting_in s past) d q e.took.from.0 e.actor.0 e.took.body
    → 1 ≤ going (asking client (restarting_in s past).epoch q) s past + has_told client (restarting_in s past) q
    → 1 ≤ going (asking client d.epoch q) s (e ∷ past) + has_told client d q
covered client s past e d q m covers was = grind (arith, flow_of)

same_told : (client : Bool) (c : Restarting) (i q : ℕ) → has_told client (with_wanted i c) q ≡ has_told client c q
same_told true c i q = refl
same_told false c i q = refl

awaits_by : (s : ScriptData) (past : List Entry) (e : Entry) (out : Out Restarting) → IsGood s past → MayFollow s past e
    → TellsAnew e.took.body → e.sent ≡ out.sent → Awaits s past (restarting_in s past)
    → Waiting (restarting_in s past) e.took.from.0 e.took.body out → IsAwaited s (e ∷ past) out.state
awaits_by s past e out good m tells sent was (Forgot is) =
    let c = restarting_in s past in
    subst (λ (o : Out Restarting). IsAwaited s (e ∷ past) o.state) (sym is) (record {
      each = λ client q asked.
          let f = asking client (one_more c.epoch) q in
          let all : tally (leaving f e.actor.0) e.sent ≡ tally (leaving f e.actor.0) (forget c).sent =
          ap (λ (os : List Outgoing). tally (leaving f e.actor.0) os) (sent ∙ ap (λ (o : Out Restarting). o.sent) is) in
          omega (arith, sent_there f s past e, all, asks_all client s c e.actor.0 q (restarting_nodes s past) asked);
      misses = and-false (list_all is_some (replicate c.nodes None));
    })
awaits_by s past e out good m tells sent was (Stays waits left is) =
    let c = restarting_in s past in
    subst (λ (o : Out Restarting). IsAwaited s (e ∷ past) o.state) (sym is) (record {
      each = λ client q asked.
          omega (
            arith,
            (was waits).each client q asked,
            none_taken (asking client c.epoch q) s past e m
                (left_none client s c q e.took.from.0 e.actor.0 e.took.body left tells asked
                (in_phase s past Recovering good waits).places
                (restarting_nodes s past)),
          );
      misses = (was waits).misses;
    })
awaits_by s past e out good m tells sent was (IsWanted i waits bd is) =
    let c = restarting_in s past in
    subst (λ (o : Out Restarting). IsAwaited s (e ∷ past) o.state) (sym is) (record {
      each = λ client q asked.
          omega (
            arith,
            (was waits).each client q asked,
            same_told client c i q,
            none_taken (asking client c.epoch q) s past e m (ap (asking client c.epoch q e.took.from.0 e.actor.0) bd),
          );
      misses = (was waits).misses;
    })
awaits_by s past e out good m tells sent was (HasMore d waits hears misses is) =
    let c = restarting_in s past in
    subst (λ (o : Out Restarting). IsAwaited s (e ∷ past) o.state) (sym is) (record {
      each = λ client q asked.
          covered client s past e d q m (hears_covers client c d q e.took.from.0 e.actor.0 e.took.body hears)
          ((was waits).each client q asked);
      misses = misses;
    })

coordinator_awaits : (s : ScriptData) (past : List Entry) (e : Entry) → IsGood s past → MayFollow s past e
    → TellsAnew e.took.body
    → MadeByRestarting s past e → Awaits s past (restarting_in s past) → Awaits s (e ∷ past) (restarting_in s (e ∷ past))
coordinator_awaits s past e good m tells made was =
    let c = restarting_in s past in
    let out = restarting_row c e.took.from.0 e.took.body in
    subst (Awaits s (e ∷ past)) (sym made.state) (λ waits.
    awaits_by s past e out good m tells made.sent was
    (waiting c e.took.from.0 e.took.body out (restart_step c e.took.from.0 e.took.body) waits))

-- In every run.
awaits_in : (s : ScriptData) (past : List Entry) → IsTreeLawful s → is_lossy s ≡ true → IsStepRun s past → AllApt s past
    → Awaits s past (restarting_in s past)
awaits_in s [] laws loses run apt = λ waits. absurd (cc waits)
awaits_in s (e ∷ past) laws loses run apt = by (cases_eq e.actor.0 s.nodes) (awaits_in s past laws loses run.1 apt.1) where
  good : IsGood s past
  good = good_run s past laws loses run.1 apt.1

  by : (e.actor.0 ≡ s.nodes) ⊎ (e.actor.0 ≢ s.nodes) → Awaits s past (restarting_in s past)
      → Awaits s (e ∷ past) (restarting_in s (e ∷ past))
  by (inl at) was =
      coordinator_awaits s past e good run.0 (told_anew s past e laws loses run at) (restarts s past e loses run.0 at) was
  by (inr away) was =
      aside_awaits s past e good run.0 away (aside s past e laws.valid loses run away (course s past e laws apt run)) was

-- So it doesn't wait where no letter is in flight.
all_kept : (ts : AllTold) → ((q : ℕ) → q < length ts → 1 ≤ is_told (slice_get ts q)) → list_all is_some ts ≡ true
all_kept [] all = refl
all_kept (None ∷ ts) all = absurd (omega (arith, all 0 (omega arith)))
all_kept (Some t ∷ ts) all = all_kept ts (λ q lt. all (suc q) (omega (arith, lt)))

heard_some : (o : Option ℕ) → 1 ≤ is_heard o → is_some o ≡ true
heard_some None some = absurd (omega (arith, some))
heard_some (Some k) some = refl

pub never_waits : (s : ScriptData) (past : List Entry) → IsTreeLawful s → is_lossy s ≡ true → IsStepRun s past → AllApt s past
    → in_flight s past ≡ [] → Knows (restarting_in s past).phase
never_waits s past laws loses run apt empty waits =
    let c = restarting_in s past in
    let awaited = awaits_in s past laws loses run apt waits in
    let places = (in_phase s past Recovering (good_run s past laws loses run apt) waits).places in
    let none : (client : Bool) (q : ℕ) → going (asking client c.epoch q) s past ≡ 0 =
    λ client q. ap (λ (ls : List Letter). tally (λ (l : Letter). asking client c.epoch q l.from.0 l.to.0 l.body) ls) empty in
    let nodes : list_all is_some c.told ≡ true =
    all_kept c.told (λ q lt. omega (arith, awaited.each false q (omega (arith, lt, places)), none false q)) in
    let client : is_some c.heard ≡ true =
    heard_some c.heard (omega (arith, awaited.each true (client_of s) refl, none true (client_of s))) in
    let clash : true ≡ false = sym (and_from (list_all is_some c.told) (is_some c.heard) nodes client) ∙ awaited.misses in
    cc clash
