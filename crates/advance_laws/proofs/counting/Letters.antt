-- How many messages of a kind are sent, under a number that looks at bodies.
use Rattle.std.proofs.Common.{if◌then◌else◌, ◌≡◌, ℕ, zero, suc, ◌<◌, Bool, true, false, List, [], ◌∷◌, map, refl, ap, ◌∙◌, arith}
use Rattle.tv_base.specs.declared.numbers.SubNo.{SubNo}
use Rattle.tv_base.specs.declared.numbers.TreeNo.{TreeNo}
use Rattle.tv_base.specs.declared.numbers.Version.{Version}
use Rattle.letter_types.specs.declared.bodies.Answer.{Answer}
use Rattle.letter_types.specs.declared.bodies.Body.{Body}
use Rattle.letter_types.specs.declared.bodies.Body.TheVariants.{Root, Sub as SubLetter, Done, Reply, Turn, Show, Sweep, Turned, Shown, Swept, AskDone, AskAsked, DoneRow, AskedRow, Decide, Decided, Release, Wake}
use Rattle.letter_types.specs.declared.bodies.Notice.{Notice}
use Rattle.letter_types.specs.declared.entries.Entry.{Entry}
use Rattle.letter_types.specs.declared.entries.Letter.{Letter}
use Rattle.letter_types.specs.declared.entries.Outgoing.{Outgoing}
use Rattle.letter_types.specs.declared.kept.KeptLetter.{KeptLetter}
use Rattle.letter_types.specs.Steps.{Out}
use Rattle.tx_trees.specs.ScriptData.{ScriptData}
use Rattle.pair_counters.specs.Numbers.{numbers_of}
use Rattle.world_model.specs.Node.{Node}
use Rattle.world_model.specs.Coordinator.{Coordinator, to_nodes}
use Rattle.world_model.specs.Counts.{tally}
use Rattle.world_model.specs.Runs.{MayFollow, in_flight, node_in}
use Rattle.world_model.proofs.Bags.{tally-append}
use Rattle.world_model.proofs.Every.{each_map, each_none}
use Rattle.world_model.proofs.Flows.{flow}
use Rattle.world_model.proofs.Nexts.{Order, Turns, Shows, Sweeps, TellsDone, TellsAsked}
use Rattle.world_model.proofs.Sends.{on}
use Rattle.world_model.specs.Kept.{kept_by, kept_in, outstanding}
use Rattle.advance_laws.specs.Phases.{count_in_flight}
use Rattle.advance_laws.proofs.governed.Brought.{IsAsking, kept_ask}
use Rattle.advance_laws.proofs.recovery.Heeds.{IsWake}
use Rattle.advance_laws.proofs.phases.Outcomes.{keep_done}
use Rattle.advance_laws.proofs.phases.Progress.{Begins, Coordinates, Ends, Hears, Obeys, Progress, WakesFor, Works, are_wakes}
use Rattle.advance_laws.proofs.counting.Working.{AreSentIn, IsOfTrees, SentIn}

-- a letter to each node counts as often as there are nodes, or not at all
pub to_nodes_none : (f : Body → ℕ) (n : ℕ) (body : Body) → f body ≡ 0 → tally (on f) (to_nodes n body) ≡ 0
to_nodes_none f zero body none = refl
to_nodes_none f (suc n) body none =
    omega (
      arith,
      none,
      to_nodes_none f n body none,
      tally-append (on f) (to_nodes n body) (record { to = record { 0 = n }; body = body } ∷ []),
    )

pub to_nodes_one : (f : Body → ℕ) (n : ℕ) (body : Body) → f body ≡ 1 → tally (on f) (to_nodes n body) ≡ n
to_nodes_one f zero body one = refl
to_nodes_one f (suc n) body one =
    omega (
      arith,
      one,
      to_nodes_one f n body one,
      tally-append (on f) (to_nodes n body) (record { to = record { 0 = n }; body = body } ∷ []),
    )

pick_none : (f : Body → ℕ) (b : Bool) (xs : List Outgoing) → tally (on f) xs ≡ 0 → tally (on f) (if b then xs else []) ≡ 0
pick_none f true xs none = none
pick_none f false xs none = refl

-- a row of completions brings no letter but those that ask for requests
pub keep_done_none : (f : Body → ℕ) (from : ℕ) (row : List ℕ) (c : Coordinator)
    → f (AskAsked c.count.current.version c.count.current.number) ≡ 0 → tally (on f) (keep_done from row c).sent ≡ 0
keep_done_none f from row c none =
    pick_none f _ (to_nodes c.nodes (AskAsked c.count.current.version c.count.current.number))
    (to_nodes_none f c.nodes (AskAsked c.count.current.version c.count.current.number) none)

-- a number that counts no letter of trees
pub record NoTrees (f : Body → ℕ) : Type 0 where
  pub root : (t : TreeNo) → f (Root t) ≡ 0
  pub sub : (t : TreeNo) (k : SubNo) (v : Version) → f (SubLetter t k v) ≡ 0
  pub done : (t : TreeNo) (k : SubNo) (v : Version) (notice : Notice) → f (Done t k v notice) ≡ 0
  pub reply : (t : TreeNo) (v : Version) (answer : Answer) → f (Reply t v answer) ≡ 0
  pub wake : (t : TreeNo) (k : SubNo) → f (Wake t k) ≡ 0
  pub decide : (t : TreeNo) (v : Version) (commit : Bool) → f (Decide t v commit) ≡ 0
  pub decided : (t : TreeNo) (v : Version) → f (Decided t v) ≡ 0
  pub release : (t : TreeNo) → f (Release t) ≡ 0

-- neither one that is taken, nor one that is sent for it
pub none_of_trees : (f : Body → ℕ) (body : Body) → NoTrees f → IsOfTrees body → f body ≡ 0
none_of_trees f (Root t) none of = none.root t
none_of_trees f (SubLetter t k v) none of = none.sub t k v
none_of_trees f (Done t k v notice) none of = none.done t k v notice
none_of_trees f (Decide t v commit) none of = none.decide t v commit
none_of_trees f (Decided t v) none of = none.decided t v
none_of_trees f (Release t) none of = none.release t
none_of_trees f (Wake t k) none of = none.wake t k
none_of_trees f _ none of = absurd of

none_sent_in : (f : Body → ℕ) (s : ScriptData) (st : Node) (does body : Body) → NoTrees f → SentIn s st does body → f body ≡ 0
none_sent_in f s st does (SubLetter t k v) none sent = none.sub t k v
none_sent_in f s st does (Done t k v notice) none sent = none.done t k v notice
none_sent_in f s st does (Decide t v commit) none sent = none.decide t v commit
none_sent_in f s st does (Decided t v) none sent = none.decided t v
none_sent_in f s st does (Reply t v answer) none sent = none.reply t v answer
none_sent_in f s st does (Release t) none sent = none.release t
none_sent_in f s st does (Wake t k) none sent = none.wake t k
none_sent_in f s st does _ none sent = absurd sent

pub all_sent_none : (f : Body → ℕ) (s : ScriptData) (st : Node) (does : Body) (os : List Outgoing) → NoTrees f → AreSentIn s st does os
    → tally (on f) os ≡ 0
all_sent_none f s st does os none all =
    each_none (on f) os
    (each_map (λ (o : Outgoing). SentIn s st does o.body) (λ (o : Outgoing). on f o ≡ 0) os
    (λ o sent. none_sent_in f s st does o.body none sent) all)

-- two numbers that count no letter of trees; an answer counts by f as the order that it answers counts by h
pub record Passes (f h : Body → ℕ) : Type 0 where
  pub sent : NoTrees f
  pub took : NoTrees h
  pub turned : (v : Version) → f (Turned v) ≡ h (Turn v)
  pub shown : (v : Version) → f (Shown v) ≡ h (Show v)
  pub swept : (v : Version) → f (Swept v) ≡ h (Sweep v)
  pub done_row : (v : Version) (k : ℕ) (row : List ℕ) → f (DoneRow v k row) ≡ h (AskDone v k)
  pub asked_row : (v : Version) (k : ℕ) (row : List ℕ) → f (AskedRow v k row) ≡ h (AskAsked v k)

order_passes : (f h : Body → ℕ) → Passes f h → (s : ScriptData) (st : Node) (body : Body) (out : Out Node) → Order s st body out
    → tally (on f) out.sent ≡ h body
order_passes f h passes s st body out (Turns v bd is) =
    ap (λ (o : Out Node). tally (on f) o.sent) is ∙ omega (arith, passes.turned v, ap h bd)
order_passes f h passes s st body out (Shows v bd is) =
    ap (λ (o : Out Node). tally (on f) o.sent) is ∙ omega (arith, passes.shown v, ap h bd)
order_passes f h passes s st body out (Sweeps v bd is) =
    ap (λ (o : Out Node). tally (on f) o.sent) is ∙ omega (arith, passes.swept v, ap h bd)
order_passes f h passes s st body out (TellsDone v k bd is) =
    ap (λ (o : Out Node). tally (on f) o.sent) is
    ∙ omega (arith, passes.done_row v k (numbers_of s.nodes (st.counts.done v.0)), ap h bd)
order_passes f h passes s st body out (TellsAsked v k bd is) =
    ap (λ (o : Out Node). tally (on f) o.sent) is
    ∙ omega (arith, passes.asked_row v k (numbers_of s.nodes (st.counts.asked v.0)), ap h bd)

wake_none : (f : Body → ℕ) (body : Body) → NoTrees f → IsWake body → f body ≡ 0
wake_none f (Wake t k) none wake = none.wake t k
wake_none f _ none wake = absurd wake

-- nor a letter that an order wakes
woken_none : (f : Body → ℕ) (body : Body) (more : List Outgoing) → NoTrees f → WakesFor body more → tally (on f) more ≡ 0
woken_none f body more none woken =
    each_none (on f) more
    (each_map (λ (o : Outgoing). IsWake o.body) (λ (o : Outgoing). on f o ≡ 0) more (λ o wake. wake_none f o.body none wake)
    (are_wakes body more woken))

-- what a node sends counts by f as what it took counts by h
pub node_passes : (f h : Body → ℕ) → Passes f h → (s : ScriptData) (past : List Entry) (e : Entry) → e.actor.0 < s.nodes
    → Progress s past e → tally (on f) e.sent ≡ h e.took.body
node_passes f h passes s past e node (Begins bd at made) = absurd (omega (arith, node, at))
node_passes f h passes s past e node (Hears t v answer bd at lt made) = absurd (omega (arith, node, at))
node_passes f h passes s past e node (Ends v bd at made) = absurd (omega (arith, node, at))
node_passes f h passes s past e node (Coordinates tells at made) = absurd (omega (arith, node, at))
node_passes f h passes s past e node (Works p r work) =
    omega (
      arith,
      all_sent_none f s (node_in s past p) r.body e.sent passes.sent work.sent,
      none_of_trees h e.took.body passes.took work.took,
    )
node_passes f h passes s past e node (Obeys p out more at lt order state sent woken) =
    omega (
      arith,
      ap (λ (os : List Outgoing). tally (on f) os) sent,
      tally-append (on f) out.sent more,
      order_passes f h passes s (node_in s past p) e.took.body out order,
      woken_none f e.took.body more passes.sent woken,
    )

-- so a node's entry leaves the number over the letters in flight
pub node_keeps : (f : Body → ℕ) → Passes f f → (s : ScriptData) (past : List Entry) (e : Entry) → MayFollow s past e
    → e.actor.0 < s.nodes → Progress s past e → count_in_flight f s (e ∷ past) ≡ count_in_flight f s past
node_keeps f passes s past e m node next = omega (arith, flow f s past e m, node_passes f f passes s past e node next)

-- A number that counts no letter of trees counts none that is kept, so of outstanding letters those in flight alone.
asking_none : (f : Body → ℕ) (body : Body) → NoTrees f → IsAsking body → f body ≡ 0
asking_none f (Root t) none asks = none.root t
asking_none f (SubLetter t k v) none asks = none.sub t k v
asking_none f _ none asks = absurd asks

kept_none : (f : Body → ℕ) (s : ScriptData) (past : List Entry) (n : ℕ) → NoTrees f
    → tally (λ (l : Letter). f l.body) (kept_by s past n) ≡ 0
kept_none f s past zero none = refl
kept_none f s past (suc n) none =
    let kept : List Letter = map (λ (x : KeptLetter). x.letter) (kept_in s past n) in
    omega (
      arith,
      kept_none f s past n none,
      tally-append (λ (l : Letter). f l.body) (kept_by s past n) kept,
      each_none (λ (l : Letter). f l.body) kept
          (each_map (λ (l : Letter). IsAsking l.body) (λ (l : Letter). f l.body ≡ 0) kept (λ l asks. asking_none f l.body none asks)
          (kept_ask s past n)),
    )

pub waits_in_flight : (f : Body → ℕ) (s : ScriptData) (past : List Entry) → NoTrees f
    → tally (λ (l : Letter). f l.body) (outstanding s past) ≡ count_in_flight f s past
waits_in_flight f s past none =
    omega (
      arith,
      tally-append (λ (l : Letter). f l.body) (in_flight s past) (kept_by s past s.nodes),
      kept_none f s past s.nodes none,
    )
