-- What an entry sends, by four kinds of entries: one that sends no row, no order and asks for none; one that tells a row of
-- completions, or of requests; and one of the coordinator, which sends no row.
use Rattle.std.proofs.Common.{◌≡◌, ◌≢◌, ℕ, ◌<◌, List, [], ◌∷◌, ◌++◌, sym, ap, subst, ◌∙◌, arith, take, drop, inl, inr}
use Rattle.letter_types.specs.declared.bodies.Body.{Body}
use Rattle.letter_types.specs.declared.bodies.Body.TheVariants.{Go, Root, Sub as SubLetter, Done, Reply, Advanced, Turn, Show, Sweep, Turned, Shown, Swept, AskDone, AskAsked, DoneRow, AskedRow, Decide, Decided, Release, Wake, Order as OrderLetter, Obeyed, Ask}
use Rattle.letter_types.specs.declared.entries.Entry.{Entry}
use Rattle.letter_types.specs.declared.entries.Outgoing.{Outgoing}
use Rattle.letter_types.specs.Steps.{Out}
use Rattle.tv_base.specs.declared.numbers.Version.{Version}
use Rattle.pair_counters.specs.Numbers.{numbers_of}
use Rattle.world_model.specs.Node.{Node}
use Rattle.tx_trees.specs.ScriptData.{ScriptData}
use Rattle.world_model.specs.Advancing.{to_coordinator}
use Rattle.world_model.specs.Client.{Client, rows_letters, submit, submitted, with_answer, with_end, nudge, advances_sent}
use Rattle.world_model.specs.Counts.{Each, tally}
use Rattle.world_model.specs.Runs.{client_in, coordinator_in, node_in, IsStepRun, keeping_in, restarting_in}
use Rattle.world_model.specs.AllApt.{AllApt}
use Rattle.world_model.proofs.Every.{each_append, each_map, each_none}
use Rattle.advance_laws.proofs.governed.Lawful.{IsTreeLawful}
use Rattle.world_model.proofs.Nexts.{MadeByCoordinator, Order, Turns, Shows, Sweeps, TellsDone, TellsAsked}
use Rattle.world_model.proofs.Orders.{coordinator_each}
use Rattle.advance_laws.proofs.recovery.Heeds.{IsWake, AreWakes, Heed, Leaves, Answers, Repeats, Obeys as HeedObeys, IsOfEpoch}
use Rattle.advance_laws.proofs.phases.Progress.{Begins, Coordinates, Ends, Hears, Obeys, Progress, WakesFor, Works, are_wakes, Asked, Course, Forgetting, Heeds, Restarts, course, MadeByRestarting}
use Rattle.advance_laws.proofs.counting.Working.{IsOfTrees, SentIn}
use Rattle.world_model.proofs.Sends.{OfRows, rows_each}
use Rattle.world_model.proofs.Restarts.{restarting_each}
use Rattle.world_model.specs.Core.{Core}

-- no letter of a round
abbrev pub IsPlain : Body → Type 0
IsPlain (AskDone v k) = ⊥
IsPlain (AskAsked v k) = ⊥
IsPlain (DoneRow v k row) = ⊥
IsPlain (AskedRow v k row) = ⊥
IsPlain _ = Unit {0}

-- nor an order
abbrev pub IsApart : Body → Type 0
IsApart (AskDone v k) = ⊥
IsApart (AskAsked v k) = ⊥
IsApart (DoneRow v k row) = ⊥
IsApart (AskedRow v k row) = ⊥
IsApart (Turn v) = ⊥
IsApart (Show v) = ⊥
IsApart (Sweep v) = ⊥
IsApart (OrderLetter e what v) = ⊥
IsApart _ = Unit {0}

pub apart_plain : (body : Body) → IsApart body → IsPlain body
apart_plain (AskDone v k) apart = apart
apart_plain (AskAsked v k) apart = apart
apart_plain (DoneRow v k row) apart = apart
apart_plain (AskedRow v k row) apart = apart
apart_plain (OrderLetter e what v) apart = absurd apart
apart_plain _ apart = tt

-- no row
abbrev pub IsRowless : Body → Type 0
IsRowless (DoneRow v k row) = ⊥
IsRowless (AskedRow v k row) = ⊥
IsRowless _ = Unit {0}

-- all that is sent
abbrev pub AllPlain : List Outgoing → Type 0
AllPlain os = Each (λ (o : Outgoing). IsPlain o.body) os

abbrev pub AllApart : List Outgoing → Type 0
AllApart os = Each (λ (o : Outgoing). IsApart o.body) os

abbrev pub AllRowless : List Outgoing → Type 0
AllRowless os = Each (λ (o : Outgoing). IsRowless o.body) os

pub data Sending (s : ScriptData) (past : List Entry) (e : Entry) : Type 0 where
  SendsApart : e.actor.0 ≢ s.nodes → IsPlain e.took.body → AllApart e.sent → Sending s past e
  SendsDone : (v : Version) (k : ℕ) → e.actor.0 < s.nodes → e.took.body ≡ AskDone v k
      → e.sent ≡ to_coordinator s (DoneRow v k (numbers_of s.nodes ((node_in s past e.actor.0).counts.done v.0)))
      → node_in s (e ∷ past) e.actor.0 ≡ node_in s past e.actor.0 → Sending s past e
  SendsAsked : (v : Version) (k : ℕ) → e.actor.0 < s.nodes → e.took.body ≡ AskAsked v k
      → e.sent ≡ to_coordinator s (AskedRow v k (numbers_of s.nodes ((node_in s past e.actor.0).counts.asked v.0)))
      → node_in s (e ∷ past) e.actor.0 ≡ node_in s past e.actor.0 → Sending s past e
  SendsOrders : e.actor.0 ≡ s.nodes → AllRowless e.sent → Sending s past e

-- The letters of trees and of the client are apart.
sent_apart : (s : ScriptData) (st : Node) (does body : Body) → SentIn s st does body → IsApart body
sent_apart s st does (SubLetter t k v) sent = tt
sent_apart s st does (Done t k v notice) sent = tt
sent_apart s st does (Decide t v commit) sent = tt
sent_apart s st does (Decided t v) sent = tt
sent_apart s st does (Reply t v answer) sent = tt
sent_apart s st does (Release t) sent = tt
sent_apart s st does (Wake t k) sent = tt
sent_apart s st does _ sent = absurd sent

pub trees_plain : (body : Body) → IsOfTrees body → IsPlain body
trees_plain (Root t) of = tt
trees_plain (SubLetter t k v) of = tt
trees_plain (Done t k v notice) of = tt
trees_plain (Decide t v commit) of = tt
trees_plain (Decided t v) of = tt
trees_plain (Release t) of = tt
trees_plain (Wake t k) of = tt
trees_plain _ of = absurd of

wake_apart : (body : Body) → IsWake body → IsApart body
wake_apart (Wake t k) wake = tt
wake_apart _ wake = absurd wake

rows_apart : OfRows (λ to body. IsApart body)
rows_apart = record { root = λ to t. tt; advance = λ to. tt; numbered = λ to i. tt; lose = λ to. tt }

apart_append : (xs ys : List Outgoing) → AllApart xs → AllApart ys → AllApart (xs ++ ys)
apart_append xs ys a b = each_append (λ (o : Outgoing). IsApart o.body) xs ys a b

submit_apart : (s : ScriptData) (c : Client) (first : List Outgoing) → AllApart first → AllApart (submit s c first).sent
submit_apart s c first all =
    let rows = take (submitted c (take c.next s.rows) (drop c.next s.rows)) (drop c.next s.rows) in
    apart_append first (rows_letters s (advances_sent s c) rows) all
    (rows_each (λ to body. IsApart body) s (advances_sent s c) rows rows_apart)

apart_by : (e : Entry) (os : List Outgoing) → e.sent ≡ os → AllApart os → AllApart e.sent
apart_by e os is all = subst AllApart (sym is) all

plain_by : (e : Entry) (body : Body) → e.took.body ≡ body → IsPlain body → IsPlain e.took.body
plain_by e body is plain = subst IsPlain (sym is) plain

wakes_apart : (more : List Outgoing) → AreWakes more → AllApart more
wakes_apart more woken =
    each_map (λ (o : Outgoing). IsWake o.body) (λ (o : Outgoing). IsApart o.body) more (λ o wake. wake_apart o.body wake) woken

woken_apart : (body : Body) (more : List Outgoing) → WakesFor body more → AllApart more
woken_apart body more woken = wakes_apart more (are_wakes body more woken)

-- an order that wakes nothing
none_woken : (e : Entry) (body : Body) (more : List Outgoing) → e.took.body ≡ body → WakesFor e.took.body more → WakesFor body more
none_woken e body more is woken = subst (λ (b : Body). WakesFor b more) is woken

-- where node p obeys, and sends more behind
abbrev Sends : Entry → Out Node → List Outgoing → Type 0
Sends e out more = e.sent ≡ out.sent ++ more

obeys : (s : ScriptData) (past : List Entry) (e : Entry) (out : Out Node) (more : List Outgoing) → e.actor.0 < s.nodes
    → Order s (node_in s past e.actor.0) e.took.body out → node_in s (e ∷ past) e.actor.0 ≡ out.state → Sends e out more
    → WakesFor e.took.body more → Sending s past e
obeys s past e out more lt (Turns v bd is) state sent woken =
    SendsApart (λ eq. omega (arith, eq, lt)) (plain_by e (Turn v) bd tt)
    (apart_by e _ (sent ∙ ap (λ (o : Out Node). o.sent ++ more) is)
    (apart_append (to_coordinator s (Turned v)) more (tt, tt) (woken_apart e.took.body more woken)))
obeys s past e out more lt (Shows v bd is) state sent woken =
    SendsApart (λ eq. omega (arith, eq, lt)) (plain_by e (Show v) bd tt)
    (apart_by e _ (sent ∙ ap (λ (o : Out Node). o.sent ++ more) is)
    (apart_append (to_coordinator s (Shown v)) more (tt, tt) (woken_apart e.took.body more woken)))
obeys s past e out more lt (Sweeps v bd is) state sent woken =
    SendsApart (λ eq. omega (arith, eq, lt)) (plain_by e (Sweep v) bd tt)
    (apart_by e _ (sent ∙ ap (λ (o : Out Node). o.sent ++ more) is)
    (apart_append (to_coordinator s (Swept v)) more (tt, tt) (woken_apart e.took.body more woken)))
obeys s past e out more lt (TellsDone v k bd is) state sent woken =
    let row : List Outgoing = to_coordinator s (DoneRow v k (numbers_of s.nodes ((node_in s past e.actor.0).counts.done v.0))) in
    SendsDone v k lt bd
    (sent ∙ ap (λ (o : Out Node). o.sent ++ more) is ∙ ap (λ (os : List Outgoing). row ++ os) (none_woken e (AskDone v k) more bd woken))
    (state ∙ ap (λ (o : Out Node). o.state) is)
obeys s past e out more lt (TellsAsked v k bd is) state sent woken =
    let row : List Outgoing = to_coordinator s (AskedRow v k (numbers_of s.nodes ((node_in s past e.actor.0).counts.asked v.0))) in
    SendsAsked v k lt bd
    (sent ∙ ap (λ (o : Out Node). o.sent ++ more) is ∙ ap (λ (os : List Outgoing). row ++ os) (none_woken e (AskAsked v k) more bd woken))
    (state ∙ ap (λ (o : Out Node). o.state) is)

-- the coordinator sends no row
pub orders_rowless : (s : ScriptData) (past : List Entry) (e : Entry) → MadeByCoordinator s past e → AllRowless e.sent
orders_rowless s past e made =
    subst AllRowless (sym made.sent)
    (coordinator_each (λ to body. IsRowless body) (coordinator_in s past) (record {
      turn = λ to v lt. tt;
      show = λ to v lt. tt;
      sweep = λ to v lt. tt;
      ask_done = λ to v k lt. tt;
      ask_asked = λ to v k lt. tt;
      advanced = λ v. tt;
    }) e.took.from.0 e.took.body)

sending_by : (s : ScriptData) (past : List Entry) (e : Entry) → Progress s past e → Sending s past e
sending_by s past e (Begins bd at made) =
    SendsApart (λ eq. omega (arith, eq, at)) (plain_by e Go bd tt)
    (apart_by e _ made.sent (submit_apart s (client_in s past) [] tt))
sending_by s past e (Hears t v answer bd at lt made) =
    SendsApart (λ eq. omega (arith, eq, at)) (plain_by e (Reply t v answer) bd tt)
    (apart_by e _ made.sent (submit_apart s (with_answer t.0 (client_in s past)) (nudge s ∷ []) (tt, tt)))
sending_by s past e (Ends v bd at made) =
    SendsApart (λ eq. omega (arith, eq, at)) (plain_by e (Advanced v) bd tt)
    (apart_by e _ made.sent (submit_apart s (with_end s v (client_in s past)) [] tt))
sending_by s past e (Coordinates tells at made) = SendsOrders at (orders_rowless s past e made)
sending_by s past e (Works p r work) =
    SendsApart (λ eq. omega (arith, eq, work.brings.at, work.brings.below)) (trees_plain e.took.body work.took)
    (each_map (λ (o : Outgoing). SentIn s (node_in s past p) r.body o.body) (λ (o : Outgoing). IsApart o.body) e.sent
    (λ o sent. sent_apart s (node_in s past p) r.body o.body sent) work.sent)
sending_by s past e (Obeys p out more at lt order state sent woken) =
    obeys s past e out more (omega (arith, at, lt))
    (subst (λ (n : ℕ). Order s (node_in s past n) e.took.body out) (sym at) order)
    (subst (λ (n : ℕ). node_in s (e ∷ past) n ≡ out.state) (sym at) state) sent woken

-- Entries of scripts whose coordinator forgets.
pub heed_apart : (s : ScriptData) (c d : Core) (body : Body) (sent : List Outgoing) → Heed s c d body sent → AllApart sent
heed_apart s c d body sent (Leaves n of late same none) = subst AllApart (sym none) tt
heed_apart s c d body sent (Answers n bd new same is) = subst AllApart (sym is) (tt, tt)
heed_apart s c d body sent (Repeats n what v bd new was same is) = subst AllApart (sym is) (tt, tt)
heed_apart s c d body sent (HeedObeys n what v more bd new less epoch turns is woken) =
    subst AllApart (sym is) (apart_append (to_coordinator s (Obeyed n what v)) more (tt, tt) (wakes_apart more woken))

of_epoch_plain : (n : ℕ) (body : Body) → IsOfEpoch n body → IsPlain body
of_epoch_plain n (OrderLetter e what v) of = tt
of_epoch_plain n (Ask e) of = tt
of_epoch_plain n _ of = absurd of

pub heed_plain : (s : ScriptData) (c d : Core) (body : Body) (sent : List Outgoing) → Heed s c d body sent → IsPlain body
heed_plain s c d body sent (Leaves n of late same none) = of_epoch_plain n body of
heed_plain s c d body sent (Answers n bd new same is) = subst IsPlain (sym bd) tt
heed_plain s c d body sent (Repeats n what v bd new was same is) = subst IsPlain (sym bd) tt
heed_plain s c d body sent (HeedObeys n what v more bd new less epoch turns is woken) = subst IsPlain (sym bd) tt

restarts_rowless : (s : ScriptData) (past : List Entry) (e : Entry) → MadeByRestarting s past e → AllRowless e.sent
restarts_rowless s past e made =
    subst AllRowless (sym made.sent)
    (restarting_each (λ to body. IsRowless body) (restarting_in s past) (record {
      ask = λ to n lt. tt;
      ask_client = λ n. tt;
      order = λ to n what v lt. tt;
      ask_done = λ to v k lt. tt;
      ask_asked = λ to v k lt. tt;
      advanced = λ v. tt;
    }) e.took.from.0 e.took.body)

forgetting_sends : (s : ScriptData) (past : List Entry) (e : Entry) → Forgetting s past e → Sending s past e
forgetting_sends s past e (Asked n bd at loses made) =
    SendsApart (λ eq. omega (arith, eq, at)) (plain_by e (Ask n) bd tt) (apart_by e _ made.sent (tt, tt))
forgetting_sends s past e (Restarts tells at loses made) = SendsOrders at (restarts_rowless s past e made)
forgetting_sends s past e (Heeds p at lt loses heed) =
    let c = (keeping_in s past p).core in
    let d = (keeping_in s (e ∷ past) p).core in
    SendsApart (λ eq. omega (arith, eq, at, lt)) (heed_plain s c d e.took.body e.sent heed) (heed_apart s c d e.took.body e.sent heed)

-- the coordinator sends no row, of either kind
sends_rowless : (s : ScriptData) (past : List Entry) (e : Entry) → e.actor.0 ≡ s.nodes → Sending s past e → AllRowless e.sent
sends_rowless s past e at (SendsApart away plain all) = absurd (away at)
sends_rowless s past e at (SendsDone v k lt bd sent same) = absurd (omega (arith, at, lt))
sends_rowless s past e at (SendsAsked v k lt bd sent same) = absurd (omega (arith, at, lt))
sends_rowless s past e at (SendsOrders there rowless) = rowless

course_sends : (s : ScriptData) (past : List Entry) (e : Entry) → Course s past e → Sending s past e
course_sends s past e (inl next) = sending_by s past e next
course_sends s past e (inr next) = forgetting_sends s past e next

pub course_rowless : (s : ScriptData) (past : List Entry) (e : Entry) → e.actor.0 ≡ s.nodes → Course s past e → AllRowless e.sent
course_rowless s past e at next = sends_rowless s past e at (course_sends s past e next)

-- each entry of a run
pub sending : (s : ScriptData) (past : List Entry) (e : Entry) → IsTreeLawful s → IsStepRun s (e ∷ past)
    → AllApt s (e ∷ past)
    → Sending s past e
sending s past e laws run apt = course_sends s past e (course s past e laws apt run)

-- A number that is 0 for each letter that is apart.
pub apart_none : (f : Outgoing → ℕ) (os : List Outgoing) → AllApart os → ((o : Outgoing) → IsApart o.body → f o ≡ 0)
    → tally f os ≡ 0
apart_none f os all none =
    each_none f os (each_map (λ (o : Outgoing). IsApart o.body) (λ (o : Outgoing). f o ≡ 0) os none all)
