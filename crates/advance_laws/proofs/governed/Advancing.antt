-- What every law above needs of advancements: how the numbers of nodes stand to the versions that were given. No phase and no
-- coordinator is named here.
use Rattle.std.proofs.Common.{◌≡◌, ◌⊎◌, inl, inr, ℕ, ◌+◌, ◌<◌, ◌≤◌, max, false, List, ◌∷◌, [], subst, ◌∙◌, arith}
use Rattle.std.proofs.Math.Nat.{le-max_left, le-max_right, max-eq_left, max-eq_right, max-le}
use Rattle.letter_types.specs.declared.bodies.Body.{Body}
use Rattle.letter_types.specs.declared.bodies.Body.TheVariants.{Go, Sub as SubLetter, Turn, Show, Sweep, Order}
use Rattle.letter_types.specs.declared.bodies.What.TheVariants as whats
use Rattle.letter_types.specs.declared.entries.Entry.{Entry}
use Rattle.letter_types.specs.declared.entries.Letter.{Letter}
use Rattle.letter_types.specs.declared.entries.Outgoing.{Outgoing}
use Rattle.node_versions.specs.declared.turns.Turns.{Turns}
use Rattle.tx_trees.specs.ScriptData.{ScriptData, reads}
use Rattle.world_model.specs.Counts.{Each}
use Rattle.world_model.specs.Kept.{outstanding}
use Rattle.world_model.specs.Runs.{MayFollow, client_in, in_flight, node_in}
use Rattle.world_model.proofs.Every.{each_map, each_taken}
use Rattle.advance_laws.specs.Advances.{asked_for}
use Rattle.advance_laws.specs.Given.{IsGivenAnew, IsShownAnew, IsSweptAnew, KeepTogether, greatest_given, greatest_told, version_told}
use Rattle.advance_laws.specs.Phases.{Stage, TurnStage, ShowStage, SweepStage}
use Rattle.advance_laws.specs.Quiet.{IsQuietForReads, IsQuietForUpdates}
use Rattle.advance_laws.proofs.governed.Brought.{BringsTo, each_of_brought}

-- a node has come no further than it was told, and not much less far
pub record IsWithin (past : List Entry) (turns : Turns) : Type 0 where
  pub turned_low : greatest_given TurnStage past ≤ turns.low.0 + 2
  pub showed_low : greatest_given ShowStage past ≤ turns.low.0 + 1
  pub swept_low : greatest_given SweepStage past ≤ turns.low.0 + 1
  pub showed_update : greatest_given ShowStage past < turns.update.0
  pub swept_read : greatest_given SweepStage past ≤ turns.read.0
  pub update_turned : turns.update.0 ≤ greatest_given TurnStage past
  pub read_showed : turns.read.0 ≤ greatest_given ShowStage past
  pub low_swept : turns.low.0 ≤ greatest_given SweepStage past

-- an order is of a version that was given
abbrev pub IsOrderGiven : List Entry → Body → Type 0
IsOrderGiven past (Turn v) = v.0 ≤ greatest_given TurnStage past
IsOrderGiven past (Show v) = v.0 ≤ greatest_given ShowStage past
IsOrderGiven past (Sweep v) = v.0 ≤ greatest_given SweepStage past
IsOrderGiven past (Order e whats.Turn v) = v.0 ≤ greatest_given TurnStage past
IsOrderGiven past (Order e whats.Show v) = v.0 ≤ greatest_given ShowStage past
IsOrderGiven past (Order e whats.Sweep v) = v.0 ≤ greatest_given SweepStage past
IsOrderGiven past _ = Unit {0}

-- a letter of a tree that isn't a read tree is of a version to which nodes were told to turn
abbrev pub IsTurnedTo : ScriptData → List Entry → Body → Type 0
IsTurnedTo s past (SubLetter t k v) = reads s t.0 ≡ false → v.0 ≤ greatest_given TurnStage past
IsTurnedTo s past Go = Unit {0}
IsTurnedTo s past _ = Unit {0}

-- an order of a coordinator that remembers has still to be obeyed
abbrev pub IsAhead : Turns → Body → Type 0
IsAhead turns (Show v) = turns.read.0 < v.0
IsAhead turns (Sweep v) = turns.low.0 < v.0
IsAhead turns Go = Unit {0}
IsAhead turns _ = Unit {0}

-- how far advancements are: nodes are within what was given, that isn't more than the client has asked for, and of what it
-- has heard that it has ended, it has; what is in flight and what is kept is of versions that were given, and orders in flight
-- of a coordinator that remembers have still to be obeyed
pub record IsAdvancing (s : ScriptData) (past : List Entry) : Type 0 where
  pub within : (p : ℕ) → p < s.nodes → IsWithin past (node_in s past p).turns
  pub asked : greatest_given TurnStage past ≤ asked_for s past + 1
  pub heard : (p : ℕ) → p < s.nodes → (client_in s past).ended ≤ (node_in s past p).turns.low.0
  pub orders : Each (λ (l : Letter). IsOrderGiven past l.body) (in_flight s past)
  pub trees : Each (λ (l : Letter). IsTurnedTo s past l.body) (outstanding s past)
  pub ahead : (p : ℕ) → p < s.nodes → Each (λ (l : Letter). l.to.0 ≡ p → IsAhead (node_in s past p).turns l.body) (in_flight s past)

-- What was given never falls.
pub given_rises : (g : Stage) (e : Entry) (past : List Entry) → greatest_given g past ≤ greatest_given g (e ∷ past)
given_rises g e past = le-max_right (greatest_told g e.sent) (greatest_given g past)

-- What is told is at most the greatest of it, and that is what some letter tells.
told_most : (g : Stage) (m : ℕ) (os : List Outgoing) → greatest_told g os ≤ m → Each (λ (o : Outgoing). version_told g o.body ≤ m) os
told_most g m [] le = tt
told_most g m (o ∷ os) le = (
  omega (arith, le, le-max_left (version_told g o.body) (greatest_told g os)),
  told_most g m os (omega (arith, le, le-max_right (version_told g o.body) (greatest_told g os))),
)

-- so it is at most what is given once it is sent
pub sent_given : (g : Stage) (e : Entry) (past : List Entry) → Each (λ (o : Outgoing). version_told g o.body ≤ greatest_given g (e ∷ past)) e.sent
sent_given g e past = told_most g (greatest_given g (e ∷ past)) e.sent (le-max_left (greatest_told g e.sent) (greatest_given g past))

pub greatest_least : (g : Stage) (m : ℕ) (os : List Outgoing) → Each (λ (o : Outgoing). version_told g o.body ≤ m) os → greatest_told g os ≤ m
greatest_least g m [] all = omega arith
greatest_least g m (o ∷ os) all = max-le all.0 (greatest_least g m os all.1)

-- where nothing is told, what was given stays
pub given_stays : (g : Stage) (e : Entry) (past : List Entry) → Each (λ (o : Outgoing). version_told g o.body ≡ 0) e.sent
    → greatest_given g (e ∷ past) ≡ greatest_given g past
given_stays g e past none =
    let zero : greatest_told g e.sent ≤ 0 =
    greatest_least g 0 e.sent (each_map (λ (o : Outgoing). version_told g o.body ≡ 0) (λ (o : Outgoing). version_told g o.body ≤ 0) e.sent
    (λ o is. omega (arith, is)) none) in
    max-eq_right (omega (arith, zero))

-- What is given anew is the next version, which is quiet.
shown_anew : (s : ScriptData) (past : List Entry) (v : ℕ) → IsShownAnew s past v
    → (v ≤ greatest_given ShowStage past)
    ⊎ ((v ≡ greatest_given ShowStage past + 1) × IsQuietForUpdates s past (greatest_given ShowStage past + 1))
shown_anew s past v (inl le) = inl le
shown_anew s past v (inr (is, quiet)) = inr (is, subst (IsQuietForUpdates s past) is quiet)

swept_anew : (s : ScriptData) (past : List Entry) (v : ℕ) → IsSweptAnew s past v
    → (v ≤ greatest_given SweepStage past)
    ⊎ ((v ≡ greatest_given SweepStage past + 1) × IsQuietForReads s past (greatest_given SweepStage past + 1))
swept_anew s past v (inl le) = inl le
swept_anew s past v (inr (is, quiet)) = inr (is, subst (IsQuietForReads s past) is quiet)

told_show : (s : ScriptData) (past : List Entry) (body : Body) → IsGivenAnew s past body
    → (version_told ShowStage body ≤ greatest_given ShowStage past)
    ⊎ ((version_told ShowStage body ≡ greatest_given ShowStage past + 1) × IsQuietForUpdates s past (greatest_given ShowStage past + 1))
told_show s past (Show v) anew = shown_anew s past v.0 anew
told_show s past (Order e whats.Show v) anew = shown_anew s past v.0 anew
told_show s past (Order e whats.Turn v) anew = inl (omega arith)
told_show s past (Order e whats.Sweep v) anew = inl (omega arith)
told_show s past Go anew = inl (omega arith)
told_show s past _ anew = inl (omega arith)

told_sweep : (s : ScriptData) (past : List Entry) (body : Body) → IsGivenAnew s past body
    → (version_told SweepStage body ≤ greatest_given SweepStage past)
    ⊎ ((version_told SweepStage body ≡ greatest_given SweepStage past + 1) × IsQuietForReads s past (greatest_given SweepStage past + 1))
told_sweep s past (Sweep v) anew = swept_anew s past v.0 anew
told_sweep s past (Order e whats.Sweep v) anew = swept_anew s past v.0 anew
told_sweep s past (Order e whats.Turn v) anew = inl (omega arith)
told_sweep s past (Order e whats.Show v) anew = inl (omega arith)
told_sweep s past Go anew = inl (omega arith)
told_sweep s past _ anew = inl (omega arith)

-- the greatest of numbers of which each is at most m, or is m + 1 where Q holds
greatest_next : (Q : Type 0) (g : Stage) (m : ℕ) (os : List Outgoing)
    → Each (λ (o : Outgoing). (version_told g o.body ≤ m) ⊎ ((version_told g o.body ≡ m + 1) × Q)) os
    → (greatest_told g os ≤ m) ⊎ ((greatest_told g os ≡ m + 1) × Q)
greatest_next Q g m [] all = inl (omega arith)
greatest_next Q g m (o ∷ os) all = by all.0 (greatest_next Q g m os all.1) where
  a : ℕ
  a = version_told g o.body

  b : ℕ
  b = greatest_told g os

  by : (a ≤ m) ⊎ ((a ≡ m + 1) × Q) → (b ≤ m) ⊎ ((b ≡ m + 1) × Q) → (max a b ≤ m) ⊎ ((max a b ≡ m + 1) × Q)
  by (inl less) (inl fewer) = inl (max-le less fewer)
  by (inl less) (inr (is, q)) = inr (max-eq_right (omega (arith, less, is)) ∙ is, q)
  by (inr (is, q)) (inl fewer) = inr (max-eq_left (omega (arith, fewer, is)) ∙ is, q)
  by (inr (is, q)) (inr (same, r)) = inr (max-eq_left (omega (arith, same, is)) ∙ is, q)

-- so what was given stays, or rises by one
given_next : (Q : Type 0) (g : Stage) (e : Entry) (past : List Entry)
    → Each (λ (o : Outgoing). (version_told g o.body ≤ greatest_given g past) ⊎ ((version_told g o.body ≡ greatest_given g past + 1) × Q)) e.sent
    → (greatest_given g (e ∷ past) ≡ greatest_given g past) ⊎ ((greatest_given g (e ∷ past) ≡ greatest_given g past + 1) × Q)
given_next Q g e past all = by (greatest_next Q g (greatest_given g past) e.sent all) where
  m : ℕ
  m = greatest_given g past

  k : ℕ
  k = greatest_told g e.sent

  by : (k ≤ m) ⊎ ((k ≡ m + 1) × Q) → (max k m ≡ m) ⊎ ((max k m ≡ m + 1) × Q)
  by (inl le) = inl (max-eq_right le)
  by (inr (is, q)) = inr (max-eq_left (omega (arith, is)) ∙ is, q)

pub shown_next : (s : ScriptData) (past : List Entry) (e : Entry) → Each (λ (o : Outgoing). IsGivenAnew s past o.body) e.sent
    → (greatest_given ShowStage (e ∷ past) ≡ greatest_given ShowStage past)
    ⊎ ((greatest_given ShowStage (e ∷ past) ≡ greatest_given ShowStage past + 1) × IsQuietForUpdates s past (greatest_given ShowStage past + 1))
shown_next s past e anew =
    given_next (IsQuietForUpdates s past (greatest_given ShowStage past + 1)) ShowStage e past
    (each_map (λ (o : Outgoing). IsGivenAnew s past o.body) _ e.sent (λ o is. told_show s past o.body is) anew)

pub swept_next : (s : ScriptData) (past : List Entry) (e : Entry) → Each (λ (o : Outgoing). IsGivenAnew s past o.body) e.sent
    → (greatest_given SweepStage (e ∷ past) ≡ greatest_given SweepStage past)
    ⊎ ((greatest_given SweepStage (e ∷ past) ≡ greatest_given SweepStage past + 1) × IsQuietForReads s past (greatest_given SweepStage past + 1))
swept_next s past e anew =
    given_next (IsQuietForReads s past (greatest_given SweepStage past + 1)) SweepStage e past
    (each_map (λ (o : Outgoing). IsGivenAnew s past o.body) _ e.sent (λ o is. told_sweep s past o.body is) anew)

-- A letter of a tree that is brought, and an order that is taken.
pub brought_turned : (s : ScriptData) (past : List Entry) (e : Entry) (p : ℕ) (r : Letter) (body : Body) → IsAdvancing s past
    → MayFollow s past e → BringsTo s past e p r → r.body ≡ body → IsTurnedTo s past body
brought_turned s past e p r body all m b is =
    subst (IsTurnedTo s past) is (each_of_brought (λ (l : Letter). IsTurnedTo s past l.body) s past e p r b m all.trees)

pub taken_given : (s : ScriptData) (past : List Entry) (e : Entry) (body : Body) → IsAdvancing s past → MayFollow s past e
    → e.took.body ≡ body → IsOrderGiven past body
taken_given s past e body all m is =
    subst (IsOrderGiven past) is (each_taken (λ (l : Letter). IsOrderGiven past l.body) s past e m all.orders)

-- an order that is taken has still to be obeyed
pub taken_ahead : (s : ScriptData) (past : List Entry) (e : Entry) (p : ℕ) (body : Body) → IsAdvancing s past → MayFollow s past e
    → e.actor.0 ≡ p → p < s.nodes → e.took.body ≡ body → IsAhead (node_in s past p).turns body
taken_ahead s past e p body all m at lt is =
    subst (IsAhead (node_in s past p).turns) is
    (each_taken (λ (l : Letter). l.to.0 ≡ p → IsAhead (node_in s past p).turns l.body) s past e m (all.ahead p lt) (m.addressee ∙ at))

-- So any two nodes are together.
pub together : (past : List Entry) (p q : Turns) → IsWithin past p → IsWithin past q → KeepTogether p q
together past p q a b = record {
  update = omega (arith, a.update_turned, b.turned_low);
  read = omega (arith, a.read_showed, b.showed_update);
  low = omega (arith, a.low_swept, b.swept_read);
}
