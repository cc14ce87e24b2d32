-- What an entry of a run does to the counters.
use Rattle.std.proofs.Common.{◌≡◌, ◌≢◌, ℕ, ◌+◌, ◌<◌, ◌≤◌, ◌==◌, ◌&&◌, Bool, true, false, List, ◌∷◌, ◌⊎◌, inl, inr, refl, sym, ap, subst, ◌∙◌, arith}
use Rattle.std.specs.Prelude.{nat_lt}
use Rattle.std.proofs.lemmas.Bool.{cases_eq}
use Rattle.std.proofs.lemmas.Bool.Decides.{nat_tests}
use Rattle.tv_base.proofs.Chosen.{unless_most}
use Rattle.letter_types.specs.declared.bodies.Body.{Body}
use Rattle.letter_types.specs.declared.entries.Entry.{Entry}
use Rattle.letter_types.specs.declared.entries.Letter.{Letter}
use Rattle.letter_types.specs.declared.entries.Outgoing.{Outgoing}
use Rattle.letter_types.specs.Steps.{Out}
use Rattle.pair_counters.specs.Numbers.{from_version}
use Rattle.world_model.specs.Node.{Node}
use Rattle.tx_trees.specs.ScriptData.{ScriptData}
use Rattle.world_model.specs.Counts.{tally, one_if}
use Rattle.world_model.specs.Kept.{of_done}
use Rattle.world_model.specs.Runs.{node_in}
use Rattle.world_model.proofs.Bags.{tally_same, tally_none, one_if_most, one_if_and}
use Rattle.world_model.proofs.Every.{node_kept}
use Rattle.world_model.proofs.Outstanding.{done_apart}
use Rattle.advance_laws.specs.Balance.{MOST_COUNTED, version_is, goes_between}
use Rattle.world_model.proofs.Nexts.{Made}
use Rattle.advance_laws.proofs.counting.Counters.{counted}

-- what an entry of actor a sends to q, if a is p
abbrev pub sent_on : ℕ → ℕ → ℕ → ℕ → Outgoing → ℕ
sent_on a v p q o = one_if (version_is v o.body && ((a == p) && (o.to.0 == q)))

-- an entry adds as much to both counters of a pair, but for the counted letters that the one sends and the one that the
-- other does, in a version that the nodes haven't left; in one that they have, no more
pub record Counts (s : ScriptData) (past : List Entry) (e : Entry) (v : ℕ) : Type 0 where
  pub self : ℕ → ℕ → ℕ
  pub asked : (p q : ℕ) → p < s.nodes → (node_in s (e ∷ past) p).turns.low.0 ≤ v
      → (node_in s (e ∷ past) p).counts.asked v q
      ≡ (node_in s past p).counts.asked v q + self p q + tally (sent_on e.actor.0 v p q) e.sent
  pub done : (p q : ℕ) → q < s.nodes → (node_in s (e ∷ past) q).turns.low.0 ≤ v
      → (node_in s (e ∷ past) q).counts.done v p
      ≡ (node_in s past q).counts.done v p + self p q + of_done (goes_between v p q) s past e
  pub asked_most : (p q : ℕ) → p < s.nodes
      → (node_in s (e ∷ past) p).counts.asked v q
      ≤ (node_in s past p).counts.asked v q + self p q + tally (sent_on e.actor.0 v p q) e.sent
  pub done_most : (p q : ℕ) → q < s.nodes
      → (node_in s (e ∷ past) q).counts.done v p ≤
      (node_in s past q).counts.done v p + self p q + of_done (goes_between v p q) s past e
  pub little : (p q : ℕ) → self p q ≤ 1
  pub few : (p q : ℕ) → p < s.nodes → self p q + tally (sent_on e.actor.0 v p q) e.sent ≤ MOST_COUNTED

-- all that an actor sends is its own
sent_here : (a v p q : ℕ) (os : List Outgoing) → (a == p) ≡ true → tally (sent_on a v p q) os ≡ tally (counted v q) os
sent_here a v p q os is = tally_same (sent_on a v p q) (counted v q) os (λ o. rw is refl)

and_false : (b : Bool) → one_if (b && false) ≡ 0
and_false true = refl
and_false false = refl

sent_elsewhere : (a v p q : ℕ) (os : List Outgoing) → a ≢ p → tally (sent_on a v p q) os ≡ 0
sent_elsewhere a v p q os ne =
    let is : (a == p) ≡ false = grind (arith, nat_tests) in
    tally_none (sent_on a v p q) os (λ o. rw is (and_false (version_is v o.body)))

took_elsewhere : (v p q : ℕ) (l : Letter) → l.to.0 ≢ q → goes_between v p q l ≡ 0
took_elsewhere v p q l ne =
    let is : (l.to.0 == q) ≡ false = grind (arith, nat_tests) in
    rw is (grind (arith, nat_tests))

-- the letter taken has come to its addressee
took_here : (v p q : ℕ) (l : Letter) → l.to.0 ≡ q → goes_between v p q l ≡ one_if (version_is v l.body && (l.from.0 == p))
took_here v p q l eq = let is : (l.to.0 == q) ≡ true = grind (arith, nat_tests) in rw is (grind (arith, nat_tests))

-- An entry that counts nothing.
pub uncounted_goes : (v p q : ℕ) (l : Letter) → version_is v l.body ≡ false → goes_between v p q l ≡ 0
uncounted_goes v p q l is = rw is refl

-- the entry of the coordinator or the client, which does no letter to a node
pub aside : (s : ScriptData) (past : List Entry) (e : Entry) (v : ℕ) → e.took.to.0 ≡ e.actor.0 → s.nodes ≤ e.actor.0
    → Counts s past e v
aside s past e v to outside = record {
  self = λ p q. 0;
  asked = λ p q lt low.
      rw (node_kept s past e p (omega arith)) (omega (arith, sent_elsewhere e.actor.0 v p q e.sent (omega arith)));
  done = λ p q lt low.
      rw (node_kept s past e q (omega arith)) (omega (arith, done_apart (goes_between v p q) s past e outside, took_elsewhere v p q e.took (omega arith)));
  asked_most = λ p q lt.
      rw (node_kept s past e p (omega arith)) (omega (arith, sent_elsewhere e.actor.0 v p q e.sent (omega arith)));
  done_most = λ p q lt.
      rw (node_kept s past e q (omega arith)) (omega (arith, done_apart (goes_between v p q) s past e outside, took_elsewhere v p q e.took (omega arith)));
  little = λ p q. omega arith;
  few = λ p q lt. omega (arith, sent_elsewhere e.actor.0 v p q e.sent (omega arith));
}

-- The entry of a node.

-- a row at node h, of a letter that it took from `from`: whether it has one more of version v with itself, and what it
-- counts besides
pub record RowCounts (h v from : ℕ) (body : Body) (st : Node) (row : Out Node) : Type 0 where
  pub own : Bool
  pub asked : (q : ℕ) → row.state.turns.low.0 ≤ v
      → row.state.counts.asked v q ≡ st.counts.asked v q + one_if (own && (h == q)) + tally (counted v q) row.sent
  pub done : (p : ℕ) → row.state.turns.low.0 ≤ v
      → row.state.counts.done v p
      ≡ st.counts.done v p + one_if (own && (h == p)) + one_if (version_is v body && (from == p))
  pub asked_most : (q : ℕ) → row.state.counts.asked v q ≤ st.counts.asked v q + one_if (own && (h == q)) + tally
      (counted v q) row.sent
  pub done_most : (p : ℕ)
      → row.state.counts.done v p ≤ st.counts.done v p + one_if (own && (h == p)) + one_if
      (version_is v body && (from == p))
  pub few : (q : ℕ) → one_if own + tally (counted v q) row.sent ≤ MOST_COUNTED

-- a row that counts nothing, but for what is swept
pub quiet_row : (h v from : ℕ) (body : Body) (st : Node) (row : Out Node) → version_is v body ≡ false
    → ((q : ℕ) → row.state.turns.low.0 ≤ v → row.state.counts.asked v q ≡ st.counts.asked v q)
    → ((p : ℕ) → row.state.turns.low.0 ≤ v → row.state.counts.done v p ≡ st.counts.done v p)
    → ((q : ℕ) → row.state.counts.asked v q ≤ st.counts.asked v q)
    → ((p : ℕ) → row.state.counts.done v p ≤ st.counts.done v p)
    → ((q : ℕ) → tally (counted v q) row.sent ≡ 0) → RowCounts h v from body st row
quiet_row h v from body st row none asked done less_asked less_done sent = record {
  own = false;
  asked = λ q low. omega (arith, asked q low, sent q);
  done = λ p low. rw none (omega (arith, done p low));
  asked_most = λ q. omega (arith, less_asked q, sent q);
  done_most = λ p. rw none (omega (arith, less_done p));
  few = λ q. omega (arith, sent q);
}

pub cut_at : (w v q : ℕ) (f : ℕ → ℕ → ℕ) → w ≤ v → from_version w f v q ≡ f v q
cut_at w v q f le = let kept : nat_lt v w ≡ false = grind (arith, nat_tests) in rw kept refl

pub cut_most : (w v q : ℕ) (f : ℕ → ℕ → ℕ) → from_version w f v q ≤ f v q
cut_most w v q f = unless_most (nat_lt v w) (f v q)

-- an entry does letter r, which came to its actor
pub record DoesLetter (s : ScriptData) (past : List Entry) (e : Entry) (r : Letter) : Type 0 where
  pub is : (f : Letter → ℕ) → of_done f s past e ≡ f r
  pub to : r.to.0 ≡ e.actor.0

-- what a node counts with itself, seen from each end
own_at : (own : Bool) (h p q : ℕ) → h ≡ p → one_if (own && ((h == p) && (h == q))) ≡ one_if (own && (h == q))
own_at own h p q eq = grind (arith, nat_tests)

own_from : (own : Bool) (h p q : ℕ) → h ≡ q → one_if (own && ((h == p) && (h == q))) ≡ one_if (own && (h == p))
own_from own h p q eq = grind (arith, nat_tests)

own_not : (own : Bool) (h p q : ℕ) → h ≢ p → one_if (own && ((h == p) && (h == q))) ≡ 0
own_not own h p q ne = grind (arith, nat_tests)

own_not_to : (own : Bool) (h p q : ℕ) → h ≢ q → one_if (own && ((h == p) && (h == q))) ≡ 0
own_not_to own h p q ne = grind (arith, nat_tests)

-- the requests of p to q, with so many more of its own
abbrev AskedMore : ScriptData → List Entry → Entry → ℕ → ℕ → ℕ → ℕ → Type 0
AskedMore s past e v p q self =
    (node_in s (e ∷ past) p).counts.asked v q
    ≡ (node_in s past p).counts.asked v q + self + tally (sent_on e.actor.0 v p q) e.sent

-- the completions of q from p, with so many more of its own
abbrev DoneMore : ScriptData → List Entry → Entry → ℕ → ℕ → ℕ → ℕ → Type 0
DoneMore s past e v p q self =
    (node_in s (e ∷ past) q).counts.done v p ≡ (node_in s past q).counts.done v p + self + of_done (goes_between v p q) s past e

-- what the actor sends is what its row says
sent_by : (s : ScriptData) (past : List Entry) (e : Entry) (h v p q : ℕ) (row : Out Node) → Made s past e h row
    → e.actor.0 ≡ p
    → tally (sent_on e.actor.0 v p q) e.sent ≡ tally (counted v q) row.sent
sent_by s past e h v p q row made at =
    let is : (e.actor.0 == p) ≡ true = grind (arith, nat_tests) in
    sent_here e.actor.0 v p q e.sent is ∙ ap (tally (counted v q)) made.sent

-- a node hasn't left a version that its row hasn't
low_of : (s : ScriptData) (past : List Entry) (e : Entry) (h p v : ℕ) (row : Out Node) → Made s past e h row → h ≡ p
    → (node_in s (e ∷ past) p).turns.low.0 ≤ v → row.state.turns.low.0 ≤ v
low_of s past e h p v row made eq low =
    let there : (node_in s (e ∷ past) h).turns.low.0 ≤ v = subst (λ (n : ℕ). (node_in s (e ∷ past) n).turns.low.0 ≤ v)
    (sym eq) low in
    subst (λ (st : Node). st.turns.low.0 ≤ v) made.state there

-- the requests of the actor and of the others
asked_by : (s : ScriptData) (past : List Entry) (e : Entry) (r : Letter) (h v p q : ℕ) (row : Out Node) → Made s past e h row
    → e.actor.0 ≡ h
    → (counts : RowCounts h v r.from.0 r.body (node_in s past h) row)
    → (h ≡ p) ⊎ (h ≢ p) → (node_in s (e ∷ past) p).turns.low.0 ≤ v
    → AskedMore s past e v p q (one_if (counts.own && ((h == p) && (h == q))))
asked_by s past e r h v p q row made at counts (inl eq) low =
    let low' : row.state.turns.low.0 ≤ v = low_of s past e h p v row made eq low in
    let here : AskedMore s past e v h q (one_if (counts.own && (h == q))) =
    rw made.state (omega (arith, counts.asked q low', sent_by s past e h v h q row made at)) in
    let there = subst (λ (n : ℕ). AskedMore s past e v n q (one_if (counts.own && (h == q)))) eq here in
    rw (own_at counts.own h p q eq) there
asked_by s past e r h v p q row made at counts (inr ne) low =
    rw (node_kept s past e p (λ is. ne (sym at ∙ is)))
    (omega (arith, own_not counts.own h p q ne, sent_elsewhere e.actor.0 v p q e.sent (λ is. ne (sym at ∙ is))))

-- the completions at the actor and at the others
done_more : (s : ScriptData) (past : List Entry) (e : Entry) (r : Letter) (h v p q : ℕ) (row : Out Node) → Made s past e h row
    → e.actor.0 ≡ h
    → DoesLetter s past e r → (counts : RowCounts h v r.from.0 r.body (node_in s past h) row)
    → (h ≡ q) ⊎ (h ≢ q) → (node_in s (e ∷ past) q).turns.low.0 ≤ v
    → DoneMore s past e v p q (one_if (counts.own && ((h == p) && (h == q))))
done_more s past e r h v p q row made at does counts (inl eq) low =
    let low' : row.state.turns.low.0 ≤ v = low_of s past e h q v row made eq low in
    let here : DoneMore s past e v p h (one_if (counts.own && (h == p))) =
    rw made.state (omega (arith, counts.done p low', does.is (goes_between v p h), took_here v p h r (does.to ∙ at))) in
    let there = subst (λ (n : ℕ). DoneMore s past e v p n (one_if (counts.own && (h == p)))) eq here in
    rw (own_from counts.own h p q eq) there
done_more s past e r h v p q row made at does counts (inr ne) low =
    rw (node_kept s past e q (λ is. ne (sym at ∙ is)))
    (omega (arith, own_not_to counts.own h p q ne, does.is (goes_between v p q), took_elsewhere v p q r (λ is. ne (sym (does.to ∙ at) ∙ is))))

-- Of every version: no more than that.
abbrev AskedMost : ScriptData → List Entry → Entry → ℕ → ℕ → ℕ → ℕ → Type 0
AskedMost s past e v p q self =
    (node_in s (e ∷ past) p).counts.asked v q ≤ (node_in s past p).counts.asked v q + self + tally
    (sent_on e.actor.0 v p q) e.sent

abbrev DoneMost : ScriptData → List Entry → Entry → ℕ → ℕ → ℕ → ℕ → Type 0
DoneMost s past e v p q self =
    (node_in s (e ∷ past) q).counts.done v p ≤ (node_in s past q).counts.done v p + self + of_done (goes_between v p q) s past e

asked_most_by : (s : ScriptData) (past : List Entry) (e : Entry) (r : Letter) (h v p q : ℕ) (row : Out Node) → Made s past e h row
    → e.actor.0 ≡ h
    → (counts : RowCounts h v r.from.0 r.body (node_in s past h) row)
    → (h ≡ p) ⊎ (h ≢ p) → AskedMost s past e v p q (one_if (counts.own && ((h == p) && (h == q))))
asked_most_by s past e r h v p q row made at counts (inl eq) =
    let here : AskedMost s past e v h q (one_if (counts.own && (h == q))) =
    rw made.state (omega (arith, counts.asked_most q, sent_by s past e h v h q row made at)) in
    let there = subst (λ (n : ℕ). AskedMost s past e v n q (one_if (counts.own && (h == q)))) eq here in
    rw (own_at counts.own h p q eq) there
asked_most_by s past e r h v p q row made at counts (inr ne) =
    rw (node_kept s past e p (λ is. ne (sym at ∙ is)))
    (omega (arith, own_not counts.own h p q ne, sent_elsewhere e.actor.0 v p q e.sent (λ is. ne (sym at ∙ is))))

done_most_by : (s : ScriptData) (past : List Entry) (e : Entry) (r : Letter) (h v p q : ℕ) (row : Out Node) → Made s past e h row
    → e.actor.0 ≡ h
    → DoesLetter s past e r → (counts : RowCounts h v r.from.0 r.body (node_in s past h) row)
    → (h ≡ q) ⊎ (h ≢ q) → DoneMost s past e v p q (one_if (counts.own && ((h == p) && (h == q))))
done_most_by s past e r h v p q row made at does counts (inl eq) =
    let here : DoneMost s past e v p h (one_if (counts.own && (h == p))) =
    rw made.state (omega (arith, counts.done_most p, does.is (goes_between v p h), took_here v p h r (does.to ∙ at))) in
    let there = subst (λ (n : ℕ). DoneMost s past e v p n (one_if (counts.own && (h == p)))) eq here in
    rw (own_from counts.own h p q eq) there
done_most_by s past e r h v p q row made at does counts (inr ne) =
    rw (node_kept s past e q (λ is. ne (sym at ∙ is)))
    (omega (arith, own_not_to counts.own h p q ne, does.is (goes_between v p q), took_elsewhere v p q r (λ is. ne (sym (does.to ∙ at) ∙ is))))

-- no more are counted than an entry counts at most
few_by : (s : ScriptData) (past : List Entry) (e : Entry) (h v p q : ℕ) (row : Out Node) (own c : Bool)
    → Made s past e h row
    → one_if own + tally (counted v q) row.sent ≤ MOST_COUNTED → (e.actor.0 ≡ p) ⊎ (e.actor.0 ≢ p)
    → one_if (own && c) + tally (sent_on e.actor.0 v p q) e.sent ≤ MOST_COUNTED
few_by s past e h v p q row own c made few (inl eq) =
    omega (arith, one_if_and own c, sent_by s past e h v p q row made eq)
few_by s past e h v p q row own c made few (inr ne) =
    omega (arith, one_if_most (own && c), sent_elsewhere e.actor.0 v p q e.sent ne)

-- the entry of a node, by what its row counts
pub by_node : (s : ScriptData) (past : List Entry) (e : Entry) (r : Letter) (h v : ℕ) (row : Out Node) → Made s past e h row
    → e.actor.0 ≡ h
    → DoesLetter s past e r → RowCounts h v r.from.0 r.body (node_in s past h) row → Counts s past e v
by_node s past e r h v row made at does counts = record {
  self = λ p q. one_if (counts.own && ((h == p) && (h == q)));
  asked = λ p q lt low. asked_by s past e r h v p q row made at counts (cases_eq h p) low;
  done = λ p q lt low. done_more s past e r h v p q row made at does counts (cases_eq h q) low;
  asked_most = λ p q lt. asked_most_by s past e r h v p q row made at counts (cases_eq h p);
  done_most = λ p q lt. done_most_by s past e r h v p q row made at does counts (cases_eq h q);
  little = λ p q. one_if_most (counts.own && ((h == p) && (h == q)));
  few = λ p q lt. few_by s past e h v p q row counts.own ((h == p) && (h == q)) made (counts.few q)
      (cases_eq e.actor.0 p);
}
