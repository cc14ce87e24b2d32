-- An entry of the coordinator leaves nodes and the client, and messages that it doesn't take.
use Rattle.std.proofs.Common.{◌≡◌, ◌⊎◌, inl, inr, ℕ, zero, suc, ◌+◌, ◌<◌, ◌≤◌, List, [], ◌∷◌, refl, sym, ap, subst, ◌∙◌, arith}
use Rattle.std.specs.Prelude.{take}
use Rattle.letter_types.specs.Letters.{drop_id, letters_of}
use Rattle.letter_types.specs.declared.bodies.Body.{Body}
use Rattle.letter_types.specs.declared.bodies.Body.TheVariants.{Go, Obeyed, Order}
use Rattle.letter_types.specs.declared.bodies.What.{What}
use Rattle.tv_base.specs.declared.numbers.Version.{Version}
use Rattle.letter_types.specs.declared.entries.Entry.{Entry}
use Rattle.letter_types.specs.declared.entries.Letter.{Letter}
use Rattle.letter_types.specs.declared.entries.LetterId.{LetterId}
use Rattle.letter_types.specs.declared.entries.Outgoing.{Outgoing}
use Rattle.script_parts.specs.Counts.{advances_in}
use Rattle.tx_trees.specs.ScriptData.{ScriptData}
use Rattle.world_model.specs.Client.{Client}
use Rattle.world_model.specs.Coordinator.{to_nodes}
use Rattle.world_model.specs.Counts.{Each, tally}
use Rattle.world_model.specs.Keeping.{KeepingNode}
use Rattle.world_model.specs.Runs.{MayFollow, client_in, in_flight, keeping_in, restarting_in}
use Rattle.world_model.proofs.Bags.{tally-append, tally-drop, one_if_both, one_if_other, one_if_same}
use Rattle.world_model.proofs.Every.{each_append, each_map, each_none, each_sealed, each_zero}
use Rattle.world_model.proofs.Flows.{client_kept}
use Rattle.world_model.proofs.Outstanding.{keeping_elsewhere}
use Rattle.advance_laws.specs.Advances.{asked_for}
use Rattle.advance_laws.proofs.counting.Waves.{going, leaving}
use Rattle.advance_laws.proofs.right.Good.{AreRight, IsCurrent, IsLetterRight, IsRight, order_to, token}

-- What stays.
pub node_stays : (s : ScriptData) (past : List Entry) (e : Entry) (q : ℕ) → e.actor.0 ≡ s.nodes → q < s.nodes
    → keeping_in s (e ∷ past) q ≡ keeping_in s past q
node_stays s past e q at lt = keeping_elsewhere s past e q (λ same. omega (arith, at, lt, same))

-- so what holds of a node does still
pub held_at : (P : KeepingNode → Type 0) (s : ScriptData) (past : List Entry) (e : Entry) (q : ℕ) → e.actor.0 ≡ s.nodes → q < s.nodes
    → P (keeping_in s past q) → P (keeping_in s (e ∷ past) q)
held_at P s past e q at lt held = subst P (sym (node_stays s past e q at lt)) held

pub client_stays : (s : ScriptData) (past : List Entry) (e : Entry) → e.actor.0 ≡ s.nodes → client_in s (e ∷ past) ≡ client_in s past
client_stays s past e at = client_kept s past e (λ same. omega (arith, at, same))

pub asked_stays : (s : ScriptData) (past : List Entry) (e : Entry) → e.actor.0 ≡ s.nodes → asked_for s (e ∷ past) ≡ asked_for s past
asked_stays s past e at = ap (λ (c : Client). advances_in (take c.next s.rows)) (client_stays s past e at)

-- The letters that are left.
abbrev pub left_of : ScriptData → List Entry → Entry → List Letter
left_of s past e = drop_id e.took.id (in_flight s past)

pub each_after : (P : Letter → Type 0) (s : ScriptData) (past : List Entry) (e : Entry) → Each P (left_of s past e)
    → Each (λ (o : Outgoing). (i : LetterId) → P (record { id = i; from = record { 0 = e.actor.0 }; to = o.to; body = o.body })) e.sent
    → Each P (in_flight s (e ∷ past))
each_after P s past e old new =
    each_append P (left_of s past e) (letters_of e) old (each_sealed P e.stamp.0 e.actor.0 0 e.sent new)

-- Orders and answers of the present epoch, where the coordinator waits for none.
token_none : (e from to : ℕ) (body : Body) (s : ScriptData) (past : List Entry) → e ≡ (restarting_in s past).epoch
    → ((what : What) (v : Version) → IsCurrent (restarting_in s past) what v → ⊥) → IsRight s past from to body → token e from to body ≡ 0
token_none e from to (Order d what v) s past same calm right =
    one_if_other d e (λ is. calm what v (right.current (is ∙ same)))
token_none e from to (Obeyed d what v) s past same calm right = one_if_other d e (λ is. calm what v (right.current (is ∙ same)))
token_none e from to Go s past same calm right = refl
token_none e from to _ s past same calm right = refl

-- there is none
pub calm_none : (s : ScriptData) (past : List Entry) → ((what : What) (v : Version) → IsCurrent (restarting_in s past) what v → ⊥)
    → AreRight s past → going (token (restarting_in s past).epoch) s past ≡ 0
calm_none s past calm right =
    let e = (restarting_in s past).epoch in
    each_none (λ (l : Letter). token e l.from.0 l.to.0 l.body) (in_flight s past)
    (each_map (IsLetterRight s past) (λ (l : Letter). token e l.from.0 l.to.0 l.body ≡ 0) (in_flight s past)
    (λ l ok. token_none e l.from.0 l.to.0 l.body s past refl calm ok) right)

-- where the letter that is taken is the last one, none is left
pub none_left : (s : ScriptData) (past : List Entry) (e : Entry) → MayFollow s past e
    → going (token (restarting_in s past).epoch) s past
    ≡ token (restarting_in s past).epoch e.took.from.0 e.took.to.0 e.took.body
    → Each (λ (l : Letter). token (restarting_in s past).epoch l.from.0 l.to.0 l.body ≡ 0) (left_of s past e)
none_left s past e m last =
    let f = λ (l : Letter). token (restarting_in s past).epoch l.from.0 l.to.0 l.body in
    each_zero f (left_of s past e) (omega (arith, last, tally-drop f e.took.id (in_flight s past) e.took m.waits))

-- An order to a node is one of the epoch's letters.
pub order_most : (e q from to : ℕ) (body : Body) → order_to e q from to body ≤ token e from to body
order_most e q from to body = grind arith

-- Orders to all nodes.
pub orders_tokens : (n e a : ℕ) (what : What) (v : Version) → tally (leaving (token e) a) (to_nodes n (Order e what v)) ≡ n
orders_tokens zero e a what v = refl
orders_tokens (suc n) e a what v =
    omega (
      arith,
      one_if_same e,
      orders_tokens n e a what v,
      tally-append (leaving (token e) a) (to_nodes n (Order e what v)) (record { to = record { 0 = n }; body = Order e what v } ∷ []),
    )

below_or : (q n : ℕ) → q < suc n → (q < n) ⊎ (n ≡ q)
below_or q n lt = grind arith

-- a letter to all nodes is one to this node
pub nodes_sent : (f : ℕ → ℕ → Body → ℕ) (n a : ℕ) (body : Body) (q : ℕ) → q < n → 1 ≤ f a q body
    → 1 ≤ tally (leaving f a) (to_nodes n body)
nodes_sent f zero a body q lt one = absurd (omega (arith, lt))
nodes_sent f (suc n) a body q lt one = by (nodes_sent f n a body q) (below_or q n lt) where
  split : tally (leaving f a) (to_nodes (suc n) body) ≡ tally (leaving f a) (to_nodes n body) + (f a n body + 0)
  split = tally-append (leaving f a) (to_nodes n body) (record { to = record { 0 = n }; body = body } ∷ [])

  by : (q < n → 1 ≤ f a q body → 1 ≤ tally (leaving f a) (to_nodes n body)) → (q < n) ⊎ (n ≡ q)
      → 1 ≤ tally (leaving f a) (to_nodes (suc n) body)
  by rest (inl less) = omega (arith, split, rest less one)
  by rest (inr is) = omega (arith, split, one, ap (λ (k : ℕ). f a k body) is)

pub order_sent : (n e a : ℕ) (what : What) (v : Version) (q : ℕ) → q < n → 1 ≤ tally (leaving (order_to e q) a) (to_nodes n (Order e what v))
order_sent n e a what v q lt = nodes_sent (order_to e q) n a (Order e what v) q lt (omega (arith, one_if_both e q))
