-- Every message comes in time: a message of a transaction is of a version that its node goes by, and so is an order.
use Rattle.std.proofs.Common.{if◌then◌else◌, ◌≡◌, ◌⊎◌, inl, inr, ℕ, ◌+◌, ◌<◌, ◌≤◌, ◌||◌, not, Bool, true, false, List, [], ◌∷◌, ◌++◌, refl, sym, ap, subst, ◌∙◌, arith, take, drop, Option, Some, None}
use Rattle.std.proofs.lemmas.Bool.{or_right}
use Rattle.item_versions.proofs.Window.{in_window-is}
use Rattle.letter_types.specs.declared.bodies.Body.{Body}
use Rattle.letter_types.specs.declared.bodies.Body.TheVariants.{Root, Sub as SubLetter, Done, Reply, Turn, Show, Sweep, Decide, Decided, Release, Wake}
use Rattle.letter_types.specs.declared.entries.Entry.{Entry}
use Rattle.letter_types.specs.declared.entries.Letter.{Letter}
use Rattle.letter_types.specs.declared.entries.LetterId.{LetterId}
use Rattle.letter_types.specs.declared.entries.Outgoing.{Outgoing}
use Rattle.letter_types.specs.Kept.{brought}
use Rattle.letter_types.specs.Steps.{Out}
use Rattle.tv_base.specs.declared.numbers.Version.{Version}
use Rattle.tree_home.specs.declared.homes.Answered.{Answered}
use Rattle.world_model.specs.Named.{is_near, is_strict_at, is_timely}
use Rattle.world_model.specs.Node.{Node}
use Rattle.world_model.specs.Notices.{answer_noted, values_of}
use Rattle.world_model.specs.Strict.{decides_near, is_near_answer}
use Rattle.tx_trees.specs.ScriptData.{ScriptData, reads}
use Rattle.world_model.specs.Coordinator.{coordinator_row}
use Rattle.world_model.specs.Client.{Client, rows_letters, submit, submitted, with_answer, with_end, nudge, advances_sent}
use Rattle.world_model.specs.Counts.{Each}
use Rattle.world_model.specs.Runs.{client_in, coordinator_in, node_in, MayFollow, IsStepRun}
use Rattle.world_model.specs.AllApt.{AllApt}
use Rattle.world_model.proofs.Every.{coordinator_kept, each_append, each_map}
use Rattle.advance_laws.proofs.governed.Lawful.{IsLawful, IsTreeLawful}
use Rattle.world_model.proofs.Nexts.{Order, Turns, Shows, Sweeps, TellsDone, TellsAsked}
use Rattle.world_model.proofs.Orders.{coordinator_each}
use Rattle.advance_laws.proofs.governed.Brought.{BringsTo, IsAsking, brought_meant, brought_outstanding, brought_to, each_of_brought, sender_below}
use Rattle.advance_laws.proofs.recovery.Heeds.{IsWake}
use Rattle.advance_laws.proofs.phases.Progress.{Begins, Coordinates, Ends, Hears, Obeys, Progress, WakesFor, Works, are_wakes, coordinates, itself, progress}
use Rattle.advance_laws.proofs.counting.Working.{SentIn, done_version}
use Rattle.advance_laws.proofs.phases.Levels.{IsOrder, Levels, levels, order_timely}
use Rattle.advance_laws.proofs.phases.Outcomes.{update_next}
use Rattle.advance_laws.proofs.phases.Small.{outcome_in}
use Rattle.advance_laws.specs.Balance.{version_is, goes_between}
use Rattle.advance_laws.proofs.counting.Below.{left_silent}
use Rattle.advance_laws.proofs.right.Sending.{Sending, SendsApart, SendsDone, SendsAsked, SendsOrders, sending}
use Rattle.advance_laws.proofs.counting.Silence.{goes_itself}
use Rattle.advance_laws.proofs.phases.LevelLetters.{most_update_most, most_read_most}
use Rattle.world_model.proofs.Gone.{under_or}
use Rattle.world_model.proofs.EachOutstanding.{each_first, each_outstanding}
use Rattle.world_model.specs.Kept.{kept_in, outstanding}
use Rattle.tv_base.proofs.Truths.{same_test}
use Rattle.world_model.proofs.Sends.{OfRows, rows_each}

-- the version of a letter of a tree
abbrev pub tree_version : Body → ℕ
tree_version (SubLetter t k v) = v.0
tree_version (Done t k v notice) = v.0
tree_version (Decide t v commit) = v.0
tree_version (Decided t v) = v.0
tree_version _ = 0

-- what is sent is of a version at most m
abbrev SentUpTo : ℕ → List Outgoing → Type 0
SentUpTo m os = Each (λ (o : Outgoing). (i : LetterId) → tree_version o.body ≤ m) os

up_to_append : (m : ℕ) (xs ys : List Outgoing) → SentUpTo m xs → SentUpTo m ys → SentUpTo m (xs ++ ys)
up_to_append m xs ys a b = each_append (λ (o : Outgoing). (i : LetterId) → tree_version o.body ≤ m) xs ys a b

rows_up_to : (m : ℕ) → OfRows (λ to body. (i : LetterId) → tree_version body ≤ m)
rows_up_to m = record {
  root = λ to t i. omega arith;
  advance = λ to i. omega arith;
  numbered = λ to k i. omega arith;
  lose = λ to i. omega arith;
}

submit_up_to : (m : ℕ) (s : ScriptData) (c : Client) (first : List Outgoing) → SentUpTo m first
    → SentUpTo m (submit s c first).sent
submit_up_to m s c first all =
    let rows = take (submitted c (take c.next s.rows) (drop c.next s.rows)) (drop c.next s.rows) in
    up_to_append m first (rows_letters s (advances_sent s c) rows) all
    (rows_each (λ to body. (i : LetterId) → tree_version body ≤ m) s (advances_sent s c) rows (rows_up_to m))

order_up_to : (m : ℕ) (s : ScriptData) (st : Node) (body : Body) (out : Out Node) → Order s st body out
    → SentUpTo m out.sent
order_up_to m s st body out (Turns v bd is) =
    subst (λ (o : Out Node). SentUpTo m o.sent) (sym is) ((λ i. omega arith), tt)
order_up_to m s st body out (Shows v bd is) =
    subst (λ (o : Out Node). SentUpTo m o.sent) (sym is) ((λ i. omega arith), tt)
order_up_to m s st body out (Sweeps v bd is) =
    subst (λ (o : Out Node). SentUpTo m o.sent) (sym is) ((λ i. omega arith), tt)
order_up_to m s st body out (TellsDone v k bd is) =
    subst (λ (o : Out Node). SentUpTo m o.sent) (sym is) ((λ i. omega arith), tt)
order_up_to m s st body out (TellsAsked v k bd is) =
    subst (λ (o : Out Node). SentUpTo m o.sent) (sym is) ((λ i. omega arith), tt)

read_up_to : (s : ScriptData) (past : List Entry) (p : ℕ) → Levels s past → p < s.nodes
    → (node_in s past p).turns.read.0 ≤ (coordinator_in s past).update + 1
read_up_to s past p all lt =
    let c = coordinator_in s past in omega (arith, (all.node p lt).read_to, most_read_most c.phase c.update)

update_up_to : (s : ScriptData) (past : List Entry) (p : ℕ) → Levels s past → p < s.nodes
    → (node_in s past p).turns.update.0 ≤ (coordinator_in s past).update + 1
update_up_to s past p all lt =
    let c = coordinator_in s past in omega (arith, (all.node p lt).update_to, most_update_most c.phase c.update)

-- so is the version in which a letter is done
root_up_to : (m : ℕ) (st : Node) (b : Bool) → st.turns.update.0 ≤ m → st.turns.read.0 ≤ m
    → (if b then st.turns.read else st.turns.update).0 ≤ m
root_up_to m st true update read = read
root_up_to m st false update read = update

pub done_up_to : (m : ℕ) (s : ScriptData) (st : Node) (does : Body) → st.turns.update.0 ≤ m → st.turns.read.0 ≤ m → tree_version does ≤ m
    → (done_version s st does).0 ≤ m
done_up_to m s st (Root t) update read own = root_up_to m st (reads s t.0) update read
done_up_to m s st (SubLetter t k v) update read own = own
done_up_to m s st (Done t k v notice) update read own = own
done_up_to m s st (Decide t v commit) update read own = own
done_up_to m s st (Decided t v) update read own = own
done_up_to m s st _ update read own = update

pub in_up_to : (m : ℕ) (s : ScriptData) (st : Node) (does body : Body) → (done_version s st does).0 ≤ m → SentIn s st does body
    → tree_version body ≤ m
in_up_to m s st does (SubLetter t k v) le sent = omega (arith, le, ap (λ (x : Version). x.0) sent.1)
in_up_to m s st does (Done t k v notice) le sent = omega (arith, le, ap (λ (x : Version). x.0) sent)
in_up_to m s st does (Decide t v commit) le sent = omega (arith, le, ap (λ (x : Version). x.0) sent)
in_up_to m s st does (Decided t v) le sent = omega (arith, le, ap (λ (x : Version). x.0) sent)
in_up_to m s st does (Reply t v answer) le sent = omega arith
in_up_to m s st does (Release t) le sent = omega arith
in_up_to m s st does (Wake t k) le sent = omega arith
in_up_to m s st does _ le sent = absurd sent

wake_up_to : (m : ℕ) (body : Body) → IsWake body → tree_version body ≤ m
wake_up_to m (Wake t k) wake = omega arith
wake_up_to m _ wake = absurd wake

woken_up_to : (m : ℕ) (body : Body) (more : List Outgoing) → WakesFor body more → SentUpTo m more
woken_up_to m body more woken =
    each_map (λ (o : Outgoing). IsWake o.body) (λ (o : Outgoing). (i : LetterId) → tree_version o.body ≤ m) more
    (λ o wake i. wake_up_to m o.body wake) (are_wakes body more woken)

by_sent : (m : ℕ) (e : Entry) (os : List Outgoing) → e.sent ≡ os → SentUpTo m os → SentUpTo m e.sent
by_sent m e os is all = subst (SentUpTo m) (sym is) all

-- so what is sent is, by each kind of entry
sent_up_to : (s : ScriptData) (past : List Entry) (e : Entry) → MayFollow s past e → Levels s past
    → Each (λ (l : Letter). tree_version l.body ≤ (coordinator_in s past).update + 1) (outstanding s past)
    → Progress s past e → SentUpTo ((coordinator_in s past).update + 1) e.sent
sent_up_to s past e m0 all took (Begins bd at made) = by_sent _ e _ made.sent (submit_up_to _ s (client_in s past) [] tt)
sent_up_to s past e m0 all took (Hears t v answer bd at lt made) =
    by_sent _ e _ made.sent
    (submit_up_to _ s (with_answer t.0 (client_in s past)) (nudge s ∷ []) ((λ i. omega arith), tt))
sent_up_to s past e m0 all took (Ends v bd at made) =
    by_sent _ e _ made.sent (submit_up_to _ s (with_end s v (client_in s past)) [] tt)
sent_up_to s past e m0 all took (Coordinates tells at made) =
    let m = (coordinator_in s past).update + 1 in
    by_sent m e _ made.sent
    (coordinator_each (λ to body. LetterId → tree_version body ≤ m) (coordinator_in s past) (record {
      turn = λ to v lt i. omega arith;
      show = λ to v lt i. omega arith;
      sweep = λ to v lt i. omega arith;
      ask_done = λ to v k lt i. omega arith;
      ask_asked = λ to v k lt i. omega arith;
      advanced = λ v i. omega arith;
    }) e.took.from.0 e.took.body)
sent_up_to s past e m0 all took (Works p r work) =
    let m = (coordinator_in s past).update + 1 in
    let st = node_in s past p in
    let lt = work.brings.below in
    let own : tree_version r.body ≤ m = each_of_brought (λ (l : Letter). tree_version l.body ≤ m) s past e p r work.brings m0 took in
    let le = done_up_to m s st r.body (update_up_to s past p all lt) (read_up_to s past p all lt) own in
    each_map (λ (o : Outgoing). SentIn s st r.body o.body) (λ (o : Outgoing). (i : LetterId) → tree_version o.body ≤ m) e.sent
    (λ o sent i. in_up_to m s st r.body o.body le sent) work.sent
sent_up_to s past e m0 all took (Obeys p out more at lt order state sent woken) =
    let m = (coordinator_in s past).update + 1 in
    by_sent m e (out.sent ++ more) sent
    (up_to_append m out.sent more (order_up_to m s (node_in s past p) e.took.body out order) (woken_up_to m e.took.body more woken))

-- the coordinator's version never falls
one_of : (m n : ℕ) → (m ≡ n) ⊎ (m ≡ n + 1) → n ≤ m
one_of m n (inl is) = omega (arith, is)
one_of m n (inr is) = omega (arith, is)

update_rises : (s : ScriptData) (past : List Entry) (e : Entry) → IsLawful s → IsStepRun s (e ∷ past) → AllApt s past
    → Sending s past e
    → (coordinator_in s past).update ≤ (coordinator_in s (e ∷ past)).update
update_rises s past e laws run apt (SendsApart away plain all) =
    let same = ap (λ (c : _). c.update) (coordinator_kept s past e away) in omega (arith, same)
update_rises s past e laws run apt (SendsDone v k lt bd sent kept) =
    let same = ap (λ (c : _). c.update) (coordinator_kept s past e (λ eq. omega (arith, eq, lt))) in omega (arith, same)
update_rises s past e laws run apt (SendsAsked v k lt bd sent kept) =
    let same = ap (λ (c : _). c.update) (coordinator_kept s past e (λ eq. omega (arith, eq, lt))) in omega (arith, same)
update_rises s past e laws run apt (SendsOrders at rowless) =
    let c = coordinator_in s past in
    let row = coordinator_row c e.took.from.0 e.took.body in
    let same = ap (λ (d : _). d.update) (coordinates s past e laws.keeps run.0 at).state in
    let rise =
    one_of row.state.update c.update
    (update_next c e.took.from.0 e.took.body row (outcome_in s past e laws run.1 apt)) in
    omega (arith, same, rise)

-- every letter of a tree that has still to be done is of a version at most one above the coordinator's
pub letters_up_to : (s : ScriptData) (past : List Entry) → IsLawful s → IsStepRun s past → AllApt s past
    → Each (λ (l : Letter). tree_version l.body ≤ (coordinator_in s past).update + 1) (outstanding s past)
letters_up_to s [] laws run apt =
    each_first (λ (l : Letter). tree_version l.body ≤ (coordinator_in s []).update + 1) s (omega arith, tt)
letters_up_to s (e ∷ past) laws run apt =
    let u = (coordinator_in s past).update in
    let w = (coordinator_in s (e ∷ past)).update in
    let was = letters_up_to s past laws run.1 apt.1 in
    let rise = update_rises s past e laws run apt.1 (sending s past e laws.trees run apt) in
    each_outstanding (λ (l : Letter). tree_version l.body ≤ w + 1) s past e run.0
    (each_map (λ (l : Letter). tree_version l.body ≤ u + 1) (λ (l : Letter). tree_version l.body ≤ w + 1)
    (outstanding s past)
    (λ l le. omega (arith, le, rise)) was)
    (each_map (λ (o : Outgoing). (i : LetterId) → tree_version o.body ≤ u + 1) (λ (o : Outgoing). (i : LetterId)
    → tree_version o.body ≤ w + 1) e.sent
    (λ o le i. omega (arith, le i, rise))
    (sent_up_to s past e run.0 (levels s past laws run.1 apt.1) was (progress s past e laws apt run)))

-- A letter of a tree that is brought: its node hasn't left its version, and counts in it.
not_left : (s : ScriptData) (past : List Entry) (e : Entry) (p v : ℕ) (r : Letter) → IsLawful s → IsStepRun s (e ∷ past)
    → AllApt s past → BringsTo s past e p r → r.from.0 < s.nodes → version_is v r.body ≡ true
    → ((node_in s past p).turns.low.0 ≤ v) ⊎ (v < (node_in s past p).turns.low.0) → (node_in s past p).turns.low.0 ≤ v
not_left s past e p v r laws run apt b from is (inl le) = le
not_left s past e p v r laws run apt b from is (inr left) =
    absurd (omega (
      arith,
      left_silent s past v p laws run.1 apt b.below left r.from.0 p from b.below,
      goes_itself v r.from.0 p r is refl (brought_to s past e p r b run),
      brought_outstanding s past e p r b run.0 (goes_between v r.from.0 p),
    ))

pub tree_letter_near : (s : ScriptData) (past : List Entry) (e : Entry) (p v : ℕ) (r : Letter) → IsLawful s → IsStepRun s (e ∷ past)
    → AllApt s past → BringsTo s past e p r → version_is v r.body ≡ true → tree_version r.body ≡ v
    → ((node_in s past p).turns.low.0 ≤ v) × (v ≤ (node_in s past p).turns.low.0 + 2)
tree_letter_near s past e p v r laws run apt b is ver =
    let all = levels s past laws run.1 apt in
    let m = (coordinator_in s past).update + 1 in
    let most = each_of_brought (λ (l : Letter). tree_version l.body ≤ m) s past e p r b run.0 (letters_up_to s past laws run.1 apt) in
    let from = sender_below s r.from.0 p v r.body laws.trees.valid (brought_meant s past e p r laws.trees.valid b run) is in (
      not_left s past e p v r laws run apt b from is (under_or (node_in s past p).turns.low.0 v),
      omega (arith, most, ver, (all.node p b.below).low_from, all.first),
    )

-- A letter of a tree that is brought to a node is of a version that the node counts in.
abbrev pub IsNearAt : ScriptData → List Entry → ℕ → Letter → Type 0
IsNearAt s past p r = (v : ℕ) → version_is v r.body ≡ true → tree_version r.body ≡ v
    → ((node_in s past p).turns.low.0 ≤ v) × (v ≤ (node_in s past p).turns.low.0 + 2)

near_timely : (s : ScriptData) (past : List Entry) (p : ℕ) (v : Version) (r : Letter) (body : Body) → IsNearAt s past p r → r.body ≡ body
    → version_is v.0 body ≡ true → tree_version body ≡ v.0 → is_near (node_in s past p) v ≡ true
near_timely s past p v r body near bd is ver =
    let both = near v.0 (ap (version_is v.0) bd ∙ is) (ap tree_version bd ∙ ver) in
    in_window-is (node_in s past p).turns.low.0 v.0 both.0 both.1

-- so it is timely there, and so is any other letter where an order is
pub timely_near : (s : ScriptData) (past : List Entry) (p : ℕ) (r : Letter) (body : Body) → IsNearAt s past p r → r.body ≡ body
    → (IsOrder body → is_timely s (node_in s past p) body ≡ true) → is_timely s (node_in s past p) body ≡ true
timely_near s past p r (SubLetter t k v) near bd order = near_timely s past p v r (SubLetter t k v) near bd (same_test v.0) refl
timely_near s past p r (Done t k v notice) near bd order = near_timely s past p v r (Done t k v notice) near bd (same_test v.0) refl
timely_near s past p r (Decide t v commit) near bd order = near_timely s past p v r (Decide t v commit) near bd (same_test v.0) refl
timely_near s past p r (Decided t v) near bd order = near_timely s past p v r (Decided t v) near bd (same_test v.0) refl
timely_near s past p r (Turn v) near bd order = order tt
timely_near s past p r (Show v) near bd order = order tt
timely_near s past p r (Sweep v) near bd order = order tt
timely_near s past p r _ near bd order = refl

-- An order that is brought was taken itself.
is_no_asking : (body : Body) → IsOrder body → IsAsking body → ⊥
is_no_asking (Root t) order asks = order
is_no_asking (SubLetter t k v) order asks = order
is_no_asking _ order asks = asks

order_there : (s : ScriptData) (past : List Entry) (e : Entry) (p : ℕ) (r : Letter) (body : Body) → IsLawful s → IsStepRun s (e ∷ past)
    → AllApt s past → BringsTo s past e p r → r.body ≡ body → IsOrder body → is_timely s (node_in s past p) body ≡ true
order_there s past e p r body laws run apt b bd is =
    let same : r ≡ e.took = itself s past e p r b (λ asks. is_no_asking body is (subst IsAsking bd asks)) in
    order_timely s past e body p laws run.1 apt run.0 b.below (ap (λ (l : Letter). l.body) (sym same) ∙ bd) is

timely_by : (s : ScriptData) (past : List Entry) (e : Entry) (p : ℕ) (r : Letter) → IsLawful s → IsStepRun s (e ∷ past)
    → AllApt s past → BringsTo s past e p r → is_timely s (node_in s past p) r.body ≡ true
timely_by s past e p r laws run apt b =
    timely_near s past p r r.body (λ v is ver. tree_letter_near s past e p v r laws run apt b is ver) refl
    (λ order. order_there s past e p r r.body laws run apt b refl order)

-- also where it isn't known yet that the letter is apt
pub letter_timely : (s : ScriptData) (past : List Entry) (e : Entry) (r : Letter) → IsLawful s → IsStepRun s (e ∷ past) → AllApt s past
    → e.actor.0 < s.nodes → brought (kept_in s past e.actor.0) e.took e.took.body ≡ Some r
    → is_timely s (node_in s past e.actor.0) r.body ≡ true
letter_timely s past e r laws run apt lt is =
    timely_by s past e e.actor.0 r laws run apt (record { at = refl; below = lt; brings = is })

-- And the tree that a notice answers is of a version that its home counts in.
answer_in_near : (s : ScriptData) (st : Node) (v : Version) (found : Option Answered) → is_near st v ≡ true
    → ((a : Answered) → found ≡ Some a → a.version ≡ v) → is_near_answer s st found ≡ true
answer_in_near s st v None near own = refl
answer_in_near s st v (Some a) near own =
    let here : is_near st a.version ≡ true = ap (is_near st) (own a refl) ∙ near in
    ap (λ (b : Bool). not (is_strict_at s a.tree.0) || b) here ∙ or_right (not (is_strict_at s a.tree.0)) true refl

answer_by : (s : ScriptData) (past : List Entry) (e : Entry) (p : ℕ) (r : Letter) (body : Body) → IsTreeLawful s → IsStepRun s (e ∷ past)
    → AllApt s past → BringsTo s past e p r → r.body ≡ body → is_timely s (node_in s past p) body ≡ true
    → decides_near s (node_in s past p) body ≡ true
answer_by s past e p r (Done t k v notice) laws run apt b bd timely =
    answer_in_near s (node_in s past p) v (answer_noted t k (values_of notice) (node_in s past p).homes) timely
    (λ a is. laws.answered_in past r t k v notice a p apt run.1 (brought_outstanding s past e p r b run.0) bd (brought_to s past e p r b run)
    b.below is)
answer_by s past e p r _ laws run apt b bd timely = refl

-- where the letter is timely
pub near_where_timely : (s : ScriptData) (past : List Entry) (e : Entry) (r : Letter) → IsTreeLawful s → IsStepRun s (e ∷ past) → AllApt s past
    → e.actor.0 < s.nodes → brought (kept_in s past e.actor.0) e.took e.took.body ≡ Some r
    → is_timely s (node_in s past e.actor.0) r.body ≡ true → decides_near s (node_in s past e.actor.0) r.body ≡ true
near_where_timely s past e r laws run apt lt is timely =
    answer_by s past e e.actor.0 r r.body laws run apt (record { at = refl; below = lt; brings = is }) refl timely

pub answer_near : (s : ScriptData) (past : List Entry) (e : Entry) (r : Letter) → IsLawful s → IsStepRun s (e ∷ past) → AllApt s past
    → e.actor.0 < s.nodes → brought (kept_in s past e.actor.0) e.took e.took.body ≡ Some r
    → decides_near s (node_in s past e.actor.0) r.body ≡ true
answer_near s past e r laws run apt lt is =
    near_where_timely s past e r laws.trees run apt lt is (letter_timely s past e r laws run apt lt is)
