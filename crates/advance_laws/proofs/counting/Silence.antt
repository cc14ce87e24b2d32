-- A version of which no counted message is outstanding, and in which no root is born, stays so. Counters grow. A
-- version is silent, or a pair has a message of it.
use Rattle.std.proofs.Common.{if◌then◌else◌, ◌≡◌, ◌≢◌, ◌⊎◌, inl, inr, ℕ, zero, suc, ◌<◌, ◌≤◌, ◌==◌, Bool, true, false, List, [], ◌∷◌, ◌++◌, refl, sym, ap, subst, ◌∙◌, arith, take, drop}
use Rattle.std.proofs.lemmas.Bool.Decides.{nat_tests}
use Rattle.letter_types.specs.declared.bodies.Body.{Body}
use Rattle.letter_types.specs.declared.bodies.Body.TheVariants.{Root, Sub as SubLetter, Done, Reply, Decide, Decided, Release, Wake, Obeyed}
use Rattle.letter_types.specs.declared.entries.Entry.{Entry}
use Rattle.letter_types.specs.declared.entries.Letter.{Letter}
use Rattle.letter_types.specs.declared.entries.Outgoing.{Outgoing}
use Rattle.letter_types.specs.Steps.{Out}
use Rattle.tv_base.specs.declared.numbers.Version.{Version}
use Rattle.world_model.specs.Node.{Node}
use Rattle.tx_trees.specs.ScriptData.{ScriptData, reads}
use Rattle.tx_trees.specs.Valid.{IsValid}
use Rattle.world_model.specs.Client.{Client, rows_letters, submit, submitted, with_answer, with_end, nudge, advances_sent}
use Rattle.world_model.specs.Counts.{Each, tally}
use Rattle.world_model.specs.Runs.{client_in, coordinator_in, node_in, IsStepRun, keeping_in, restarting_in}
use Rattle.world_model.specs.AllApt.{AllApt}
use Rattle.world_model.proofs.Outstanding.{IsOutstanding}
use Rattle.world_model.proofs.Every.{each_append, each_map, each_none}
use Rattle.advance_laws.proofs.governed.Lawful.{IsTreeLawful}
use Rattle.world_model.proofs.Nexts.{Order, Turns, Shows, Sweeps, TellsDone, TellsAsked}
use Rattle.world_model.proofs.Orders.{coordinator_each}
use Rattle.advance_laws.specs.Balance.{version_is, goes_between, out}
use Rattle.advance_laws.specs.Quiet.{IsSilent}
use Rattle.advance_laws.proofs.counting.Balance.{apt_counts, flow}
use Rattle.advance_laws.proofs.governed.Brought.{brought_meant, brought_outstanding, brought_to, sender_below}
use Rattle.advance_laws.proofs.counting.Moves.{sent_on}
use Rattle.advance_laws.proofs.recovery.Heeds.{IsWake, AreWakes, Heed, Leaves, Answers, Repeats, Obeys as HeedObeys}
use Rattle.advance_laws.proofs.phases.Progress.{Begins, Coordinates, Ends, Hears, Obeys, Progress, WakesFor, Works, are_wakes, Asked, Course, Heeds, Restarts, course}
use Rattle.advance_laws.proofs.counting.Working.{SentIn, done_version}
use Rattle.world_model.proofs.Sends.{OfRows, rows_each}
use Rattle.world_model.proofs.Restarts.{restarting_each}
use Rattle.world_model.specs.Core.{Core}
use Rattle.world_model.specs.Advancing.{to_coordinator}

-- no root is born in version v
abbrev pub Closed : ScriptData → List Entry → ℕ → Type 0
Closed s past v =
    (p : ℕ) → p < s.nodes → ((node_in s past p).turns.update.0 ≢ v) × ((node_in s past p).turns.read.0 ≢ v)

-- no counted letter of version v
abbrev NoneOf : ℕ → List Outgoing → Type 0
NoneOf v os = Each (λ (o : Outgoing). version_is v o.body ≡ false) os

none_append : (v : ℕ) (xs ys : List Outgoing) → NoneOf v xs → NoneOf v ys → NoneOf v (xs ++ ys)
none_append v xs ys a b = each_append (λ (o : Outgoing). version_is v o.body ≡ false) xs ys a b

rows_none : (v : ℕ) → OfRows (λ to body. version_is v body ≡ false)
rows_none v = record { root = λ to t. refl; advance = λ to. refl; numbered = λ to i. refl; lose = λ to. refl }

submit_none : (v : ℕ) (s : ScriptData) (c : Client) (first : List Outgoing) → NoneOf v first
    → NoneOf v (submit s c first).sent
submit_none v s c first all =
    let rows = take (submitted c (take c.next s.rows) (drop c.next s.rows)) (drop c.next s.rows) in
    none_append v first (rows_letters s (advances_sent s c) rows) all
    (rows_each (λ to body. version_is v body ≡ false) s (advances_sent s c) rows (rows_none v))

order_none : (s : ScriptData) (v : ℕ) (st : Node) (body : Body) (out : Out Node) → Order s st body out
    → NoneOf v out.sent
order_none s v st body out (Turns w bd is) = subst (λ (o : Out Node). NoneOf v o.sent) (sym is) (refl, tt)
order_none s v st body out (Shows w bd is) = subst (λ (o : Out Node). NoneOf v o.sent) (sym is) (refl, tt)
order_none s v st body out (Sweeps w bd is) = subst (λ (o : Out Node). NoneOf v o.sent) (sym is) (refl, tt)
order_none s v st body out (TellsDone w k bd is) = subst (λ (o : Out Node). NoneOf v o.sent) (sym is) (refl, tt)
order_none s v st body out (TellsAsked w k bd is) = subst (λ (o : Out Node). NoneOf v o.sent) (sym is) (refl, tt)

apart_by : (w v : ℕ) → w ≢ v → (w == v) ≡ false
apart_by w v ne = grind (arith, nat_tests)

-- a letter is done in another version than one that is closed, if it isn't a counted one of it
root_other : (s : ScriptData) (st : Node) (v : ℕ) (b : Bool) → (st.turns.update.0 ≢ v) × (st.turns.read.0 ≢ v)
    → ((if b then st.turns.read else st.turns.update).0 == v) ≡ false
root_other s st v true closed = apart_by st.turns.read.0 v closed.1
root_other s st v false closed = apart_by st.turns.update.0 v closed.0

done_other : (s : ScriptData) (st : Node) (v : ℕ) (does : Body) → (st.turns.update.0 ≢ v) × (st.turns.read.0 ≢ v)
    → version_is v does ≡ false → ((done_version s st does).0 == v) ≡ false
done_other s st v (Root t) closed none = root_other s st v (reads s t.0) closed
done_other s st v (SubLetter t k w) closed none = none
done_other s st v (Done t k w notice) closed none = none
done_other s st v (Decide t w commit) closed none = none
done_other s st v (Decided t w) closed none = none
done_other s st v _ closed none = apart_by st.turns.update.0 v closed.0

-- so is what is sent for it
sent_none : (s : ScriptData) (st : Node) (v : ℕ) (does body : Body) → ((done_version s st does).0 == v) ≡ false → SentIn s st does body
    → version_is v body ≡ false
sent_none s st v does (SubLetter t k w) other sent = ap (λ (x : Version). x.0 == v) sent.1 ∙ other
sent_none s st v does (Done t k w notice) other sent = ap (λ (x : Version). x.0 == v) sent ∙ other
sent_none s st v does (Decide t w commit) other sent = ap (λ (x : Version). x.0 == v) sent ∙ other
sent_none s st v does (Decided t w) other sent = ap (λ (x : Version). x.0 == v) sent ∙ other
sent_none s st v does (Reply t w answer) other sent = refl
sent_none s st v does (Release t) other sent = refl
sent_none s st v does (Wake t k) other sent = refl
sent_none s st v does _ other sent = absurd sent

wake_none : (v : ℕ) (body : Body) → IsWake body → version_is v body ≡ false
wake_none v (Wake t k) wake = refl
wake_none v _ wake = absurd wake

wakes_none : (v : ℕ) (more : List Outgoing) → AreWakes more → NoneOf v more
wakes_none v more woken =
    each_map (λ (o : Outgoing). IsWake o.body) (λ (o : Outgoing). version_is v o.body ≡ false) more (λ o wake. wake_none v o.body wake)
    woken

woken_none : (v : ℕ) (body : Body) (more : List Outgoing) → WakesFor body more → NoneOf v more
woken_none v body more woken = wakes_none v more (are_wakes body more woken)

pub goes_itself : (v p q : ℕ) (l : Letter) → version_is v l.body ≡ true → l.from.0 ≡ p → l.to.0 ≡ q
    → goes_between v p q l ≡ 1
goes_itself v p q l is a b = grind (arith, nat_tests)

-- in silence no letter that has still to be done is a counted one of the version
not_there : (s : ScriptData) (past : List Entry) (r : Letter) (v : ℕ) (b : Bool) → IsOutstanding s past r → IsSilent s past v
    → (version_is v r.body ≡ true → r.from.0 < s.nodes) → r.to.0 < s.nodes → version_is v r.body ≡ b → version_is v r.body ≡ false
not_there s past r v false there silent from to is = is
not_there s past r v true there silent from to is =
    absurd (omega (
      arith,
      silent r.from.0 r.to.0 (from is) to,
      goes_itself v r.from.0 r.to.0 r is refl refl,
      there (goes_between v r.from.0 r.to.0),
    ))

by_sent : (v : ℕ) (e : Entry) (os : List Outgoing) → e.sent ≡ os → NoneOf v os → NoneOf v e.sent
by_sent v e os is all = subst (NoneOf v) (sym is) all

none_sent : (s : ScriptData) (past : List Entry) (e : Entry) (v : ℕ) → IsValid s → IsStepRun s (e ∷ past) → IsSilent s past v
    → Closed s past v
    → Progress s past e → NoneOf v e.sent
none_sent s past e v valid run silent closed (Begins bd at made) =
    by_sent v e _ made.sent (submit_none v s (client_in s past) [] tt)
none_sent s past e v valid run silent closed (Hears t w answer bd at lt made) =
    by_sent v e _ made.sent (submit_none v s (with_answer t.0 (client_in s past)) (nudge s ∷ []) (refl, tt))
none_sent s past e v valid run silent closed (Ends w bd at made) =
    by_sent v e _ made.sent (submit_none v s (with_end s w (client_in s past)) [] tt)
none_sent s past e v valid run silent closed (Coordinates tells at made) =
    by_sent v e _ made.sent (coordinator_each (λ to body. version_is v body ≡ false) (coordinator_in s past) (record {
      turn = λ to w lt. refl;
      show = λ to w lt. refl;
      sweep = λ to w lt. refl;
      ask_done = λ to w k lt. refl;
      ask_asked = λ to w k lt. refl;
      advanced = λ w. refl;
    }) e.took.from.0 e.took.body)
none_sent s past e v valid run silent closed (Works p r work) =
    let b = work.brings in
    let st = node_in s past p in
    let meant = brought_meant s past e p r valid b run in
    let none : version_is v r.body ≡ false =
    not_there s past r v (version_is v r.body) (brought_outstanding s past e p r b run.0) silent
    (λ is. sender_below s r.from.0 p v r.body valid meant is) (omega (arith, brought_to s past e p r b run, b.below)) refl in
    each_map (λ (o : Outgoing). SentIn s st r.body o.body) (λ (o : Outgoing). version_is v o.body ≡ false) e.sent
    (λ o sent. sent_none s st v r.body o.body (done_other s st v r.body (closed p b.below) none) sent) work.sent
none_sent s past e v valid run silent closed (Obeys p out more at lt order state sent woken) =
    by_sent v e (out.sent ++ more) sent
    (none_append v out.sent more (order_none s v (node_in s past p) e.took.body out order) (woken_none v e.took.body more woken))

heed_none : (s : ScriptData) (v : ℕ) (c d : Core) (body : Body) (sent : List Outgoing) → Heed s c d body sent → NoneOf v sent
heed_none s v c d body sent (Leaves n of late same none) = subst (NoneOf v) (sym none) tt
heed_none s v c d body sent (Answers n bd new same is) = subst (NoneOf v) (sym is) (refl, tt)
heed_none s v c d body sent (Repeats n what w bd new was same is) = subst (NoneOf v) (sym is) (refl, tt)
heed_none s v c d body sent (HeedObeys n what w more bd new less epoch turns is woken) =
    subst (NoneOf v) (sym is) (none_append v (to_coordinator s (Obeyed n what w)) more (refl, tt) (wakes_none v more woken))

course_none : (s : ScriptData) (past : List Entry) (e : Entry) (v : ℕ) → IsValid s → IsStepRun s (e ∷ past) → IsSilent s past v
    → Closed s past v → Course s past e → NoneOf v e.sent
course_none s past e v valid run silent closed (inl next) = none_sent s past e v valid run silent closed next
course_none s past e v valid run silent closed (inr (Asked n bd at loses made)) = by_sent v e _ made.sent (refl, tt)
course_none s past e v valid run silent closed (inr (Restarts tells at loses made)) =
    by_sent v e _ made.sent (restarting_each (λ to body. version_is v body ≡ false) (restarting_in s past) (record {
      ask = λ to n lt. refl;
      ask_client = λ n. refl;
      order = λ to n what w lt. refl;
      ask_done = λ to w k lt. refl;
      ask_asked = λ to w k lt. refl;
      advanced = λ w. refl;
    }) e.took.from.0 e.took.body)
course_none s past e v valid run silent closed (inr (Heeds p at lt loses heed)) =
    heed_none s v (keeping_in s past p).core (keeping_in s (e ∷ past) p).core e.took.body e.sent heed

uncounted : (a v p q : ℕ) (o : Outgoing) → version_is v o.body ≡ false → sent_on a v p q o ≡ 0
uncounted a v p q o is = rw is refl

-- a silent version that is closed stays silent
pub silent_stays : (s : ScriptData) (past : List Entry) (e : Entry) (v : ℕ) → IsTreeLawful s → IsStepRun s (e ∷ past)
    → AllApt s (e ∷ past)
    → IsSilent s past v → Closed s past v → IsSilent s (e ∷ past) v
silent_stays s past e v laws run apt silent closed = λ p q lp lq.
    let none = course_none s past e v laws.valid run silent closed (course s past e laws apt run) in
    let sent : tally (sent_on e.actor.0 v p q) e.sent ≡ 0 =
    each_none (sent_on e.actor.0 v p q) e.sent
    (each_map (λ (o : Outgoing). version_is v o.body ≡ false) (λ (o : Outgoing). sent_on e.actor.0 v p q o ≡ 0) e.sent
    (uncounted e.actor.0 v p q) none) in
    omega (arith, flow s past e v p q run.0, silent p q lp lq, sent)

-- Counters only grow, but for what is swept.
pub done_grows : (s : ScriptData) (past : List Entry) (e : Entry) (q v p : ℕ) → IsTreeLawful s → IsStepRun s (e ∷ past)
    → AllApt s (e ∷ past)
    → q < s.nodes → (node_in s (e ∷ past) q).turns.low.0 ≤ v
    → (node_in s past q).counts.done v p ≤ (node_in s (e ∷ past) q).counts.done v p
done_grows s past e q v p laws run apt lt low =
    let counts = apt_counts s past e v laws.valid apt run in omega (arith, counts.done p q lt low)

pub asked_grows : (s : ScriptData) (past : List Entry) (e : Entry) (p v q : ℕ) → IsTreeLawful s → IsStepRun s (e ∷ past)
    → AllApt s (e ∷ past)
    → p < s.nodes → (node_in s (e ∷ past) p).turns.low.0 ≤ v
    → (node_in s past p).counts.asked v q ≤ (node_in s (e ∷ past) p).counts.asked v q
asked_grows s past e p v q laws run apt lt low =
    let counts = apt_counts s past e v laws.valid apt run in omega (arith, counts.asked p q lt low)

-- Either a version is silent or a pair has an outstanding letter of it.
-- a number of pairs is 0 for each pair below, or not for one
abbrev NoPair : (ℕ → ℕ → ℕ) → ℕ → ℕ → Type 0
NoPair f k m = (p q : ℕ) → p < k → q < m → f p q ≡ 0

abbrev SomePair : (ℕ → ℕ → ℕ) → ℕ → ℕ → Type 0
SomePair f k m = (p : ℕ) × (q : ℕ) × (p < k) × (q < m) × (1 ≤ f p q)

pub below_or_at : (q m : ℕ) → q < suc m → (q < m) ⊎ (q ≡ m)
below_or_at q m lt = grind arith

none_or_some : (n : ℕ) → (n ≡ 0) ⊎ (1 ≤ n)
none_or_some n = grind arith

last_in_row : (f : ℕ → ℕ) (m q : ℕ) → ((r : ℕ) → r < m → f r ≡ 0) → f m ≡ 0 → (q < m) ⊎ (q ≡ m) → f q ≡ 0
last_in_row f m q all none (inl lt) = all q lt
last_in_row f m q all none (inr is) = ap f is ∙ none

row_next : (f : ℕ → ℕ) (m : ℕ) → ((r : ℕ) → r < m → f r ≡ 0) ⊎ ((r : ℕ) × (r < m) × (1 ≤ f r)) → (f m ≡ 0) ⊎ (1 ≤ f m)
    → ((r : ℕ) → r < suc m → f r ≡ 0) ⊎ ((r : ℕ) × (r < suc m) × (1 ≤ f r))
row_next f m (inr (r, lt, some)) any = inr (r, omega (arith, lt), some)
row_next f m (inl all) (inl none) = inl (λ r lt. last_in_row f m r all none (below_or_at r m lt))
row_next f m (inl all) (inr some) = inr (m, omega arith, some)

row_or : (f : ℕ → ℕ) (m : ℕ) → ((r : ℕ) → r < m → f r ≡ 0) ⊎ ((r : ℕ) × (r < m) × (1 ≤ f r))
row_or f zero = inl (λ r lt. absurd (omega (arith, lt)))
row_or f (suc m) = row_next f m (row_or f m) (none_or_some (f m))

last_row : (f : ℕ → ℕ → ℕ) (k m p q : ℕ) → NoPair f k m → ((r : ℕ) → r < m → f k r ≡ 0) → q < m → (p < k) ⊎ (p ≡ k)
    → f p q ≡ 0
last_row f k m p q all row lt (inl less) = all p q less lt
last_row f k m p q all row lt (inr is) = ap (λ (n : ℕ). f n q) is ∙ row q lt

all_next : (f : ℕ → ℕ → ℕ) (k m : ℕ) → NoPair f k m ⊎ SomePair f k m
    → ((r : ℕ) → r < m → f k r ≡ 0) ⊎ ((r : ℕ) × (r < m) × (1 ≤ f k r))
    → NoPair f (suc k) m ⊎ SomePair f (suc k) m
all_next f k m (inr (p, q, lp, lq, some)) row = inr (p, q, omega (arith, lp), lq, some)
all_next f k m (inl all) (inr (q, lq, some)) = inr (k, q, omega arith, lq, some)
all_next f k m (inl all) (inl row) = inl (λ p q lp lq. last_row f k m p q all row lq (below_or_at p k lp))

all_or : (f : ℕ → ℕ → ℕ) (k m : ℕ) → NoPair f k m ⊎ SomePair f k m
all_or f zero m = inl (λ p q lp lq. absurd (omega (arith, lp)))
all_or f (suc k) m = all_next f k m (all_or f k m) (row_or (f k) m)

pub silent_or_not : (s : ScriptData) (past : List Entry) (v : ℕ)
    → IsSilent s past v ⊎ ((p : ℕ) × (q : ℕ) × (p < s.nodes) × (q < s.nodes) × (1 ≤ out s past v p q))
silent_or_not s past v = all_or (out s past v) s.nodes s.nodes
