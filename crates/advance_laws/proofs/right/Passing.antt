-- Orders and answers of the present epoch in flight, after an entry of the client or of a node: they stay, but for an order
-- that is answered by its node, which has come to its version.
use Rattle.std.proofs.Common.{◌≡◌, ◌≢◌, ◌⊎◌, inl, inr, ℕ, ◌+◌, ◌<◌, ◌≤◌, ◌==◌, ◌&&◌, Bool, false, List, [], ◌∷◌, ◌++◌, refl, sym, ap, subst, ◌∙◌, arith}
use Rattle.std.proofs.lemmas.Bool.{cases_eq}
use Rattle.std.proofs.lemmas.Bool.Decides.{nat_tests}
use Rattle.tv_base.specs.declared.numbers.Version.{Version}
use Rattle.letter_types.specs.declared.bodies.Body.{Body}
use Rattle.letter_types.specs.declared.bodies.Body.TheVariants.{Wake, Order, Obeyed}
use Rattle.letter_types.specs.declared.bodies.What.{What}
use Rattle.letter_types.specs.declared.entries.Entry.{Entry}
use Rattle.letter_types.specs.declared.entries.Outgoing.{Outgoing}
use Rattle.node_versions.specs.declared.turns.Turns.{Turns}
use Rattle.tx_trees.specs.ScriptData.{ScriptData}
use Rattle.world_model.specs.Advancing.{to_coordinator}
use Rattle.world_model.specs.Client.{submit}
use Rattle.world_model.specs.Core.{Core}
use Rattle.world_model.specs.Counts.{Each, one_if, tally}
use Rattle.world_model.specs.Node.{Node}
use Rattle.world_model.specs.Runs.{MayFollow, keeping_in, node_in, restarting_in}
use Rattle.world_model.proofs.Bags.{one_if_other}
use Rattle.world_model.proofs.Every.{each_map, each_none}
use Rattle.advance_laws.proofs.recovery.Heeds.{Answers, AreWakes, Heed, IsOfEpoch, IsWake, Leaves, Obeys, Repeats, turned_to, version_of}
use Rattle.advance_laws.proofs.counting.Waves.{flow_of, going, leaving}
use Rattle.advance_laws.proofs.counting.Working.{IsOfTrees, SentIn}
use Rattle.advance_laws.proofs.right.Aside.{AreBare, Aside, Counts, Heeds, IsBare, IsEpochless, Submits, Tells, Works, submit_bare}
use Rattle.advance_laws.proofs.right.Good.{IsCurrent, IsGood, IsOrder, order_to, token, took_right, turns_in}

-- neither an order nor an answer
abbrev pub IsNoToken : Body → Type 0
IsNoToken (Order n what v) = ⊥
IsNoToken (Obeyed n what v) = ⊥
IsNoToken _ = Unit {0}

epochless_none : (body : Body) → IsEpochless body → IsNoToken body
epochless_none body none = grind arith

bare_none : (body : Body) → IsBare body → IsNoToken body
bare_none body bare = grind arith

wake_none : (body : Body) → IsWake body → IsNoToken body
wake_none (Wake t k) wake = tt
wake_none _ wake = absurd wake

tree_none : (body : Body) → IsOfTrees body → IsNoToken body
tree_none body of = grind arith

sent_none : (s : ScriptData) (st : Node) (does body : Body) → SentIn s st does body → IsNoToken body
sent_none s st does body sent = grind arith

-- A number of letters of the present epoch.
-- it counts neither a letter that is no token, nor one of an epoch before
record Weighs (n : ℕ) (f : ℕ → ℕ → Body → ℕ) : Type 0 where
  none : (from to : ℕ) (body : Body) → IsNoToken body → f from to body ≡ 0
  order : (from to m : ℕ) (what : What) (v : Version) → m ≢ n → f from to (Order m what v) ≡ 0
  answer : (from to m : ℕ) (what : What) (v : Version) → m ≢ n → f from to (Obeyed m what v) ≡ 0

apart_and : (m n : ℕ) (test : Bool) → m ≢ n → one_if ((m == n) && test) ≡ 0
apart_and m n test ne = let no : (m == n) ≡ false = grind (arith, nat_tests) in rw no refl

no_token : (n from to : ℕ) (body : Body) → IsNoToken body → token n from to body ≡ 0
no_token n from to body none = grind arith

no_order : (n q from to : ℕ) (body : Body) → IsNoToken body → order_to n q from to body ≡ 0
no_order n q from to (Order m what v) none = absurd none
no_order n q from to _ none = refl

token_weighs : (n : ℕ) → Weighs n (token n)
token_weighs n = record {
  none = no_token n;
  order = λ from to m what v ne. one_if_other m n ne;
  answer = λ from to m what v ne. one_if_other m n ne;
}

order_weighs : (n q : ℕ) → Weighs n (order_to n q)
order_weighs n q = record {
  none = no_order n q;
  order = λ from to m what v ne. apart_and m n (to == q) ne;
  answer = λ from to m what v ne. refl;
}

-- of letters of which none counts
sum_none : (n a : ℕ) (f : ℕ → ℕ → Body → ℕ) (os : List Outgoing) → Weighs n f → Each (λ (o : Outgoing). IsNoToken o.body) os
    → tally (leaving f a) os ≡ 0
sum_none n a f os weighs all =
    each_none (leaving f a) os
    (each_map (λ (o : Outgoing). IsNoToken o.body) (λ (o : Outgoing). leaving f a o ≡ 0) os (λ o none. weighs.none a o.to.0 o.body none) all)

-- an entry that takes none and sends none
none_passes : (s : ScriptData) (past : List Entry) (e : Entry) (n : ℕ) (f : ℕ → ℕ → Body → ℕ) → MayFollow s past e → Weighs n f
    → f e.took.from.0 e.actor.0 e.took.body ≡ 0 → Each (λ (o : Outgoing). IsNoToken o.body) e.sent
    → going f s (e ∷ past) ≡ going f s past
none_passes s past e n f m weighs took sent = omega (arith, flow_of f s past e m, took, sum_none n e.actor.0 f e.sent weighs sent)

-- an entry that takes an order and answers it
answer_flows : (s : ScriptData) (past : List Entry) (e : Entry) (n k : ℕ) (what : What) (v : Version) (more : List Outgoing) (f : ℕ → ℕ → Body → ℕ)
    → MayFollow s past e → Weighs n f → e.took.body ≡ Order k what v → e.sent ≡ to_coordinator s (Obeyed k what v) ++ more
    → AreWakes more
    → going f s (e ∷ past) + f e.took.from.0 e.actor.0 (Order k what v) ≡ going f s past + f e.actor.0 s.nodes (Obeyed k what v)
answer_flows s past e n k what v more f m weighs bd sent woken =
    grind (arith, each_map, flow_of, sum_none, wake_none)

-- What becomes of those of the present epoch.
pub data Passes (s : ScriptData) (past : List Entry) (e : Entry) : Type 0 where
  Stay : going (token (restarting_in s past).epoch) s (e ∷ past) ≡ going (token (restarting_in s past).epoch) s past
      → ((q : ℕ) → going (order_to (restarting_in s past).epoch q) s (e ∷ past) ≡ going (order_to (restarting_in s past).epoch q) s past)
      → Passes s past e
  Answered : (p : ℕ) (what : What) (v : Version) → p < s.nodes → IsCurrent (restarting_in s past) what v
      → v.0 ≤ version_of what (turns_in s (e ∷ past) p)
      → going (token (restarting_in s past).epoch) s (e ∷ past) ≡ going (token (restarting_in s past).epoch) s past
      → ((q : ℕ) → q ≢ p → going (order_to (restarting_in s past).epoch q) s (e ∷ past) ≡ going (order_to (restarting_in s past).epoch q) s past)
      → Passes s past e

stay : (s : ScriptData) (past : List Entry) (e : Entry) → MayFollow s past e
    → ((f : ℕ → ℕ → Body → ℕ) → Weighs (restarting_in s past).epoch f → f e.took.from.0 e.actor.0 e.took.body ≡ 0)
    → Each (λ (o : Outgoing). IsNoToken o.body) e.sent → Passes s past e
stay s past e m took sent =
    let n = (restarting_in s past).epoch in
    Stay (none_passes s past e n (token n) m (token_weighs n) (took (token n) (token_weighs n)) sent)
    (λ q. none_passes s past e n (order_to n q) m (order_weighs n q) (took (order_to n q) (order_weighs n q)) sent)

took_none : (s : ScriptData) (past : List Entry) (e : Entry) → MayFollow s past e → IsNoToken e.took.body
    → Each (λ (o : Outgoing). IsNoToken o.body) e.sent → Passes s past e
took_none s past e m none sent = stay s past e m (λ f weighs. weighs.none e.took.from.0 e.actor.0 e.took.body none) sent

-- a letter of an epoch before the node's isn't of the present one
late_none : (m n from to : ℕ) (body : Body) (f : ℕ → ℕ → Body → ℕ) → Weighs n f → IsOfEpoch m body → m < n → f from to body ≡ 0
late_none m n from to body f weighs of less = grind arith

-- an order of another epoch is answered
old_passes : (s : ScriptData) (past : List Entry) (e : Entry) (k : ℕ) (what : What) (v : Version) (more : List Outgoing)
    → MayFollow s past e → e.took.body ≡ Order k what v → e.sent ≡ to_coordinator s (Obeyed k what v) ++ more → AreWakes more
    → k ≢ (restarting_in s past).epoch → Passes s past e
old_passes s past e k what v more m bd sent woken ne =
    let n = (restarting_in s past).epoch in
    let same : (f : ℕ → ℕ → Body → ℕ) → Weighs n f → going f s (e ∷ past) ≡ going f s past =
    λ f weighs.
    omega (
      arith,
      answer_flows s past e n k what v more f m weighs bd sent woken,
      weighs.order e.took.from.0 e.actor.0 k what v ne,
      weighs.answer e.actor.0 s.nodes k what v ne,
    ) in
    Stay (same (token n) (token_weighs n)) (λ q. same (order_to n q) (order_weighs n q))

other_node : (m n p q : ℕ) → q ≢ p → one_if ((m == n) && (p == q)) ≡ 0
other_node m n p q ne = grind arith

-- one of the present epoch, by a node that has come to its version
now_passes : (s : ScriptData) (past : List Entry) (e : Entry) (p k : ℕ) (what : What) (v : Version) (more : List Outgoing)
    → MayFollow s past e → e.actor.0 ≡ p → p < s.nodes → e.took.body ≡ Order k what v
    → e.sent ≡ to_coordinator s (Obeyed k what v) ++ more
    → AreWakes more → v.0 ≤ version_of what (turns_in s (e ∷ past) p) → IsCurrent (restarting_in s past) what v
    → Passes s past e
now_passes s past e p k what v more m at lt bd sent woken there current =
    let n = (restarting_in s past).epoch in
    Answered p what v lt current there
    (omega (arith, answer_flows s past e n k what v more (token n) m (token_weighs n) bd sent woken))
    (λ q ne.
    omega (
      arith,
      answer_flows s past e n k what v more (order_to n q) m (order_weighs n q) bd sent woken,
      other_node k n e.actor.0 q (λ same. ne (same ∙ at)),
    ))

answered : (s : ScriptData) (past : List Entry) (e : Entry) (p k : ℕ) (what : What) (v : Version) (more : List Outgoing)
    → IsGood s past
    → MayFollow s past e → e.actor.0 ≡ p → p < s.nodes → e.took.body ≡ Order k what v
    → e.sent ≡ to_coordinator s (Obeyed k what v) ++ more
    → AreWakes more → v.0 ≤ version_of what (turns_in s (e ∷ past) p)
    → (k ≡ (restarting_in s past).epoch) ⊎ (k ≢ (restarting_in s past).epoch)
    → Passes s past e
answered s past e p k what v more good m at lt bd sent woken there (inl now) =
    let right : IsOrder s past e.took.to.0 k what v = took_right s past e (Order k what v) good m bd in
    now_passes s past e p k what v more m at lt bd sent woken there (right.current now)
answered s past e p k what v more good m at lt bd sent woken there (inr ne) =
    old_passes s past e k what v more m bd sent woken ne

turned_version : (what : What) (v : Version) (t : Turns) → version_of what (turned_to what v t) ≡ v.0
turned_version what v t = grind arith

heed_passes : (s : ScriptData) (past : List Entry) (e : Entry) (p : ℕ) → IsGood s past → MayFollow s past e → e.actor.0 ≡ p
    → p < s.nodes
    → Heed s (keeping_in s past p).core (keeping_in s (e ∷ past) p).core e.took.body e.sent → Passes s past e
heed_passes s past e p good m at lt (Leaves n of late same none) =
    stay s past e m
    (λ f weighs.
    late_none n (restarting_in s past).epoch e.took.from.0 e.actor.0 e.took.body f weighs of (omega (arith, late, good.epochs p lt)))
    (subst (λ (os : List Outgoing). Each (λ (o : Outgoing). IsNoToken o.body) os) (sym none) tt)
heed_passes s past e p good m at lt (Answers n bd new same is) =
    took_none s past e m (subst IsNoToken (sym bd) tt)
    (subst (λ (os : List Outgoing). Each (λ (o : Outgoing). IsNoToken o.body) os) (sym is) (tt, tt))
heed_passes s past e p good m at lt (Repeats n what v bd new was same is) =
    answered s past e p n what v [] good m at lt bd is tt
    (subst (λ (d : Core). v.0 ≤ version_of what d.node.turns) (sym same) was) (cases_eq n (restarting_in s past).epoch)
heed_passes s past e p good m at lt (Obeys n what v more bd new less epoch turns is woken) =
    let version : version_of what (turns_in s (e ∷ past) p) ≡ v.0 =
    ap (version_of what) turns ∙ turned_version what v (turns_in s past p) in
    answered s past e p n what v more good m at lt bd is woken (omega (arith, version)) (cases_eq n (restarting_in s past).epoch)

bare_all : (os : List Outgoing) → AreBare os → Each (λ (o : Outgoing). IsNoToken o.body) os
bare_all os all = each_map (λ (o : Outgoing). IsBare o.body) (λ (o : Outgoing). IsNoToken o.body) os (λ o bare. bare_none o.body bare) all

-- by each kind of entry
pub passes : (s : ScriptData) (past : List Entry) (e : Entry) → IsGood s past → MayFollow s past e → Aside s past e
    → Passes s past e
passes s past e good m (Submits c first at told bare made) =
    took_none s past e m (epochless_none e.took.body told.took)
    (subst (λ (os : List Outgoing). Each (λ (o : Outgoing). IsNoToken o.body) os) (sym made.sent)
    (bare_all (submit s c first).sent (submit_bare s c first bare)))
passes s past e good m (Tells n at bd made) =
    took_none s past e m (subst IsNoToken (sym bd) tt)
    (subst (λ (os : List Outgoing). Each (λ (o : Outgoing). IsNoToken o.body) os) (sym made.sent) (tt, tt))
passes s past e good m (Works p r work) =
    took_none s past e m (tree_none e.took.body work.took)
    (each_map (λ (o : Outgoing). SentIn s (node_in s past p) r.body o.body) (λ (o : Outgoing). IsNoToken o.body) e.sent
    (λ o sent. sent_none s (node_in s past p) r.body o.body sent) work.sent)
passes s past e good m (Counts p count) =
    took_none s past e m (epochless_none e.took.body count.took) (bare_all e.sent count.sent)
passes s past e good m (Heeds p at lt heed) = heed_passes s past e p good m at lt heed
