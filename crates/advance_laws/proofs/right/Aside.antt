-- An entry of the client or of a node, and what it sends, in a script whose coordinator forgets.
use Rattle.std.proofs.Common.{◌≡◌, ◌≢◌, ◌⊎◌, inl, inr, ℕ, ◌<◌, max, true, List, [], ◌∷◌, ◌++◌, refl, sym, ap, subst, ◌∙◌, take, drop}
use Rattle.tv_base.specs.declared.numbers.Version.{Version}
use Rattle.letter_types.specs.declared.bodies.Body.{Body}
use Rattle.letter_types.specs.declared.bodies.Body.TheVariants.{Go, Root, Reply, Nudge, Advance, Turn, Show, Sweep, AskDone, AskAsked, DoneRow, AskedRow, Advanced, Wake, Lose, AdvanceNo, Wanted, Ask, Order as OrderLetter, Numbers, Obeyed}
use Rattle.letter_types.specs.declared.bodies.What.{What}
use Rattle.letter_types.specs.declared.entries.Entry.{Entry}
use Rattle.letter_types.specs.declared.entries.Letter.{Letter}
use Rattle.letter_types.specs.declared.entries.Outgoing.{Outgoing}
use Rattle.letter_types.specs.Steps.{Out}
use Rattle.tx_trees.specs.ScriptData.{ScriptData, client_of}
use Rattle.tx_trees.specs.Valid.{IsValid}
use Rattle.world_model.specs.Advancing.{to_coordinator}
use Rattle.world_model.specs.Client.{Client, advances_sent, nudge, rows_letters, submit, submitted, wanted, with_answer, with_end}
use Rattle.world_model.specs.Counts.{Each}
use Rattle.script_parts.specs.Counts.{is_lossy}
use Rattle.world_model.specs.Node.{Node}
use Rattle.world_model.specs.Runs.{IsStepRun, client_in, keeping_in, node_in}
use Rattle.world_model.proofs.Every.{each_append, each_map}
use Rattle.world_model.proofs.Nexts.{MadeByClient, Order, Shows, Sweeps, TellsAsked, TellsDone, Turns}
use Rattle.world_model.proofs.Sends.{OfRows, rows_each}
use Rattle.world_model.specs.Meant.{IsMeant}
use Rattle.world_model.proofs.Meant.{took_meant}
use Rattle.advance_laws.proofs.recovery.Heeds.{AreWakes, Heed, IsWake}
use Rattle.advance_laws.proofs.recovery.Heeds.{Answers as HeedAnswers, Leaves as HeedLeaves, Obeys as HeedObeys, Repeats as HeedRepeats}
use Rattle.advance_laws.proofs.phases.Progress.{Asked, Begins, Coordinates, Course, Ends, Hears, Obeys as ObeysOrder, Restarts, WakesFor, Work, are_wakes}
use Rattle.advance_laws.proofs.phases.Progress.{Heeds as HeedsLetter, Works as WorksFor}
use Rattle.advance_laws.proofs.counting.Working.{SentIn}

-- a letter that tells of no epoch
abbrev pub IsEpochless : Body → Type 0
IsEpochless (Ask n) = ⊥
IsEpochless (Numbers n u r l) = ⊥
IsEpochless (Wanted n k) = ⊥
IsEpochless (OrderLetter n what v) = ⊥
IsEpochless (Obeyed n what v) = ⊥
IsEpochless _ = Unit {0}

-- a letter that is sent for rows of the script or for counts, or to oneself: it tells of no version to which nodes come
abbrev pub IsBare : Body → Type 0
IsBare (Root t) = Unit {0}
IsBare Nudge = Unit {0}
IsBare Advance = Unit {0}
IsBare (AdvanceNo i) = Unit {0}
IsBare Lose = Unit {0}
IsBare (DoneRow v k row) = Unit {0}
IsBare (AskedRow v k row) = Unit {0}
IsBare (Wake t k) = Unit {0}
IsBare _ = ⊥

abbrev pub AreBare : List Outgoing → Type 0
AreBare os = Each (λ (o : Outgoing). IsBare o.body) os

-- the client as it begins, hears of a tree, or of advancements that have ended
pub record IsTold (s : ScriptData) (past : List Entry) (e : Entry) (c : Client) : Type 0 where
  pub took : IsEpochless e.took.body
  pub next : c.next ≡ (client_in s past).next
  pub ended : (c.ended ≡ (client_in s past).ended)
      ⊎ ((v : Version) × (e.took.body ≡ Advanced v) × (c.ended ≡ max (client_in s past).ended v.0))

-- node p is asked for what it has counted
pub record TellsCounts (s : ScriptData) (past : List Entry) (e : Entry) (p : ℕ) : Type 0 where
  pub at : e.actor.0 ≡ p
  pub below : p < s.nodes
  pub took : IsEpochless e.took.body
  pub same : node_in s (e ∷ past) p ≡ node_in s past p
  pub sent : AreBare e.sent

-- the client submits rows, or tells how many advancements it asked for; a node works for a tree, tells what it has counted,
-- or heeds an order or a question
pub data Aside (s : ScriptData) (past : List Entry) (e : Entry) : Type 0 where
  Submits : (c : Client) (first : List Outgoing) → e.actor.0 ≡ client_of s → IsTold s past e c → AreBare first
      → MadeByClient s past e (submit s c first) → Aside s past e
  Tells : (n : ℕ) → e.actor.0 ≡ client_of s → e.took.body ≡ Ask n → MadeByClient s past e (wanted s n (client_in s past)) → Aside s past e
  Works : (p : ℕ) (r : Letter) → Work s past e p r → Aside s past e
  Counts : (p : ℕ) → TellsCounts s past e p → Aside s past e
  Heeds : (p : ℕ) → e.actor.0 ≡ p → p < s.nodes → Heed s (keeping_in s past p).core (keeping_in s (e ∷ past) p).core e.took.body e.sent
      → Aside s past e

took_as : (s : ScriptData) (past : List Entry) (e : Entry) (body : Body) → IsValid s → IsStepRun s (e ∷ past)
    → e.took.body ≡ body
    → IsMeant s e.took.from.0 e.took.to.0 body
took_as s past e body valid run is = subst (IsMeant s e.took.from.0 e.took.to.0) is (took_meant s past e valid run)

epochless_as : (e : Entry) (body : Body) → e.took.body ≡ body → IsEpochless body → IsEpochless e.took.body
epochless_as e body is none = subst IsEpochless (sym is) none

-- An order of a coordinator that is told what was counted.
wake_bare : (body : Body) → IsWake body → IsBare body
wake_bare (Wake t k) wake = tt
wake_bare _ wake = absurd wake

wakes_bare : (more : List Outgoing) → AreWakes more → AreBare more
wakes_bare more woken =
    each_map (λ (o : Outgoing). IsWake o.body) (λ (o : Outgoing). IsBare o.body) more (λ o wake. wake_bare o.body wake) woken

counts : (s : ScriptData) (past : List Entry) (e : Entry) (p : ℕ) (out : Out Node) (body : Body) (more : List Outgoing)
    → e.actor.0 ≡ p → p < s.nodes → e.took.body ≡ body → IsEpochless body → out.state ≡ node_in s past p → AreBare out.sent
    → node_in s (e ∷ past) p ≡ out.state → e.sent ≡ out.sent ++ more → WakesFor e.took.body more → Aside s past e
counts s past e p out body more at lt is none same bare state sent woken = Counts p (record {
  at = at;
  below = lt;
  took = epochless_as e body is none;
  same = state ∙ same;
  sent =
      subst AreBare (sym sent)
      (each_append (λ (o : Outgoing). IsBare o.body) out.sent more bare (wakes_bare more (are_wakes e.took.body more woken)));
})

order_aside : (s : ScriptData) (past : List Entry) (e : Entry) (p : ℕ) (out : Out Node) (more : List Outgoing) → IsValid s
    → is_lossy s ≡ true
    → IsStepRun s (e ∷ past) → e.actor.0 ≡ p → p < s.nodes → Order s (node_in s past p) e.took.body out
    → node_in s (e ∷ past) p ≡ out.state → e.sent ≡ out.sent ++ more → WakesFor e.took.body more → Aside s past e
order_aside s past e p out more valid loses run at lt (Turns v bd is) state sent woken =
    absurd (cc (sym loses ∙ (took_as s past e (Turn v) valid run bd).1))
order_aside s past e p out more valid loses run at lt (Shows v bd is) state sent woken =
    absurd (cc (sym loses ∙ (took_as s past e (Show v) valid run bd).1))
order_aside s past e p out more valid loses run at lt (Sweeps v bd is) state sent woken =
    absurd (cc (sym loses ∙ (took_as s past e (Sweep v) valid run bd).1))
order_aside s past e p out more valid loses run at lt (TellsDone v k bd is) state sent woken =
    counts s past e p out (AskDone v k) more at lt bd tt (ap (λ (o : Out Node). o.state) is)
    (subst (λ (o : Out Node). AreBare o.sent) (sym is) (tt, tt)) state sent woken
order_aside s past e p out more valid loses run at lt (TellsAsked v k bd is) state sent woken =
    counts s past e p out (AskAsked v k) more at lt bd tt (ap (λ (o : Out Node). o.state) is)
    (subst (λ (o : Out Node). AreBare o.sent) (sym is) (tt, tt)) state sent woken

-- what the client has heard then
pub end_is : (s : ScriptData) (v : Version) (c : Client) → is_lossy s ≡ true → (with_end s v c).ended ≡ max c.ended v.0
end_is s v c loses = rw loses refl

-- each entry that isn't the coordinator's
pub aside : (s : ScriptData) (past : List Entry) (e : Entry) → IsValid s → is_lossy s ≡ true → IsStepRun s (e ∷ past)
    → e.actor.0 ≢ s.nodes
    → Course s past e → Aside s past e
aside s past e valid loses run away (inl (Begins bd at made)) =
    Submits (client_in s past) [] at (record { took = epochless_as e Go bd tt; next = refl; ended = inl refl }) tt made
aside s past e valid loses run away (inl (Hears t v answer bd at lt made)) =
    Submits (with_answer t.0 (client_in s past)) (nudge s ∷ []) at
    (record { took = epochless_as e (Reply t v answer) bd tt; next = refl; ended = inl refl }) (tt, tt) made
aside s past e valid loses run away (inl (Ends v bd at made)) =
    Submits (with_end s v (client_in s past)) [] at (record {
      took = epochless_as e (Advanced v) bd tt;
      next = refl;
      ended = inr (v, bd, end_is s v (client_in s past) loses);
    }) tt made
aside s past e valid loses run away (inl (Coordinates tells at made)) = absurd (away at)
aside s past e valid loses run away (inl (WorksFor p r work)) = Works p r work
aside s past e valid loses run away (inl (ObeysOrder p out more at lt order state sent woken)) =
    order_aside s past e p out more valid loses run at lt order state sent woken
aside s past e valid loses run away (inr (Asked n bd at forgets made)) = Tells n at bd made
aside s past e valid loses run away (inr (Restarts tells at forgets made)) = absurd (away at)
aside s past e valid loses run away (inr (HeedsLetter p at lt forgets heed)) = Heeds p at lt heed

-- What is sent: a letter that tells of nothing here, or one of a tree; how many advancements were asked for; a node's
-- numbers; or that an order was obeyed.
pub data IsSentBy (s : ScriptData) (past : List Entry) (e : Entry) (body : Body) : Type 0 where
  Bare : IsBare body → IsSentBy s past e body
  OfTree : (p : ℕ) (r : Letter) → Work s past e p r → SentIn s (node_in s past p) r.body body → IsSentBy s past e body
  Asks : (n : ℕ) → e.took.body ≡ Ask n → body ≡ Wanted n (advances_sent s (client_in s past)) → IsSentBy s past e body
  Numbered : (p n : ℕ) → e.actor.0 ≡ p → p < s.nodes → e.took.body ≡ Ask n
      → (keeping_in s (e ∷ past) p).core ≡ record (keeping_in s past p).core { epoch = n }
      → body ≡ Numbers n (node_in s past p).turns.update (node_in s past p).turns.read (node_in s past p).turns.low → IsSentBy s past e body
  Answered : (n : ℕ) (what : What) (v : Version) → e.took.body ≡ OrderLetter n what v → body ≡ Obeyed n what v → IsSentBy s past e body

abbrev pub AreSentBy : ScriptData → List Entry → Entry → List Outgoing → Type 0
AreSentBy s past e os = Each (λ (o : Outgoing). IsSentBy s past e o.body) os

are_bare : (s : ScriptData) (past : List Entry) (e : Entry) (os : List Outgoing) → AreBare os → AreSentBy s past e os
are_bare s past e os all = each_map (λ (o : Outgoing). IsBare o.body) (λ (o : Outgoing). IsSentBy s past e o.body) os (λ o bare. Bare bare) all

by_sent : (s : ScriptData) (past : List Entry) (e : Entry) (os : List Outgoing) → e.sent ≡ os → AreSentBy s past e os
    → AreSentBy s past e e.sent
by_sent s past e os is all = subst (AreSentBy s past e) (sym is) all

rows_bare : OfRows (λ to body. IsBare body)
rows_bare = record { root = λ to t. tt; advance = λ to. tt; numbered = λ to i. tt; lose = λ to. tt }

pub submit_bare : (s : ScriptData) (c : Client) (first : List Outgoing) → AreBare first → AreBare (submit s c first).sent
submit_bare s c first all =
    let rows = take (submitted c (take c.next s.rows) (drop c.next s.rows)) (drop c.next s.rows) in
    each_append (λ (o : Outgoing). IsBare o.body) first (rows_letters s (advances_sent s c) rows) all
    (rows_each (λ to body. IsBare body) s (advances_sent s c) rows rows_bare)

heed_sends : (s : ScriptData) (past : List Entry) (e : Entry) (p : ℕ) → e.actor.0 ≡ p → p < s.nodes
    → Heed s (keeping_in s past p).core (keeping_in s (e ∷ past) p).core e.took.body e.sent → AreSentBy s past e e.sent
heed_sends s past e p at lt (HeedLeaves n of late same none) = by_sent s past e [] none tt
heed_sends s past e p at lt (HeedAnswers n bd new same is) = by_sent s past e _ is (Numbered p n at lt bd same refl, tt)
heed_sends s past e p at lt (HeedRepeats n what v bd new was same is) = by_sent s past e _ is (Answered n what v bd refl, tt)
heed_sends s past e p at lt (HeedObeys n what v more bd new less epoch turns is woken) =
    by_sent s past e (to_coordinator s (Obeyed n what v) ++ more) is
    (Answered n what v bd refl, are_bare s past e more (wakes_bare more woken))

pub sends_aside : (s : ScriptData) (past : List Entry) (e : Entry) → Aside s past e → AreSentBy s past e e.sent
sends_aside s past e (Submits c first at told bare made) =
    by_sent s past e _ made.sent (are_bare s past e (submit s c first).sent (submit_bare s c first bare))
sends_aside s past e (Tells n at bd made) = by_sent s past e _ made.sent (Asks n bd refl, tt)
sends_aside s past e (Works p r work) =
    each_map (λ (o : Outgoing). SentIn s (node_in s past p) r.body o.body) (λ (o : Outgoing). IsSentBy s past e o.body) e.sent
    (λ o sent. OfTree p r work sent) work.sent
sends_aside s past e (Counts p count) = are_bare s past e e.sent count.sent
sends_aside s past e (Heeds p at lt heed) = heed_sends s past e p at lt heed
