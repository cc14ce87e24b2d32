-- What is left to show of an entry of the coordinator, once its messages are as they should be.
use Rattle.std.proofs.Common.{◌≡◌, ◌⊎◌, inl, inr, ℕ, ◌+◌, ◌<◌, ◌≤◌, List, ◌∷◌, ap, arith}
use Rattle.std.proofs.lemmas.Bool.{cases_lt}
use Rattle.letter_types.specs.declared.bodies.Body.{Body}
use Rattle.letter_types.specs.declared.bodies.Body.TheVariants.{Go, Obeyed, Order, Show, Sweep, Turn}
use Rattle.letter_types.specs.declared.entries.Entry.{Entry}
use Rattle.letter_types.specs.declared.entries.Letter.{Letter}
use Rattle.letter_types.specs.declared.entries.LetterId.{LetterId}
use Rattle.letter_types.specs.declared.entries.Outgoing.{Outgoing}
use Rattle.node_versions.specs.declared.turns.Turns.{Turns}
use Rattle.tx_trees.specs.ScriptData.{ScriptData}
use Rattle.tx_trees.specs.Valid.{IsValid}
use Rattle.world_model.specs.AllApt.{AllApt}
use Rattle.world_model.specs.Client.{Client}
use Rattle.world_model.specs.Counts.{Each, tally}
use Rattle.world_model.specs.Keeping.{KeepingNode}
use Rattle.world_model.specs.Kept.{outstanding}
use Rattle.world_model.specs.Runs.{IsStepRun, MayFollow, client_in, in_flight, restarting_in}
use Rattle.world_model.specs.Runs.{Moves}
use Rattle.world_model.proofs.Coordination.{IsCoordinated, OfCoordinator, coordinated_each, of_forgetting, of_remembering}
use Rattle.world_model.proofs.EachOutstanding.{each_outstanding, each_waits}
use Rattle.world_model.proofs.Every.{each_both, each_drop, each_map, each_none}
use Rattle.world_model.specs.Meant.{IsLetterMeant, IsMeant}
use Rattle.world_model.proofs.Meant.{letters_are_meant}
use Rattle.advance_laws.specs.Advances.{asked_for}
use Rattle.advance_laws.specs.Given.{greatest_given, version_told}
use Rattle.advance_laws.specs.Phases.{Stage, TurnStage, ShowStage, SweepStage}
use Rattle.advance_laws.specs.Quiet.{IsSilent}
use Rattle.advance_laws.proofs.governed.Advancing.{IsWithin, given_rises, given_stays}
use Rattle.advance_laws.proofs.phases.Closing.{tree_version}
use Rattle.advance_laws.proofs.governed.Lawful.{IsTreeLawful}
use Rattle.advance_laws.proofs.counting.Silence.{Closed, silent_stays}
use Rattle.advance_laws.proofs.counting.Waves.{going, leaving}
use Rattle.advance_laws.proofs.right.AtCoordinator.{asked_stays, client_stays, each_after, held_at, left_of, none_left}
use Rattle.advance_laws.proofs.right.Good.{AreRight, IsGood, IsInPhase, IsLetterRight, IsRight, order_to, token, turns_in}
use Rattle.advance_laws.proofs.right.RightAfter.{IsForgetting, IsGivenStill, IsOfNode, IsSteadily, IsTelling, right_forgets, right_kept, right_told}

-- Numbers come from nodes.
of_node : (s : ScriptData) (from to : ℕ) (body : Body) → IsMeant s from to body → IsOfNode s from body
of_node s from to body meant = grind arith

-- The letters that are left were right, and come from where they should.
abbrev WasRight : ScriptData → List Entry → Letter → Type 0
WasRight s past l = IsOfNode s l.from.0 l.body × IsLetterRight s past l

were_right : (s : ScriptData) (past : List Entry) (e : Entry) → IsValid s → IsStepRun s past → IsGood s past
    → Each (WasRight s past) (left_of s past e)
were_right s past e valid run good =
    let P = λ (l : Letter). IsOfNode s l.from.0 l.body in
    each_drop (WasRight s past) e.took.id (in_flight s past)
    (each_both P (IsLetterRight s past) (in_flight s past)
    (each_map (IsLetterMeant s) P (in_flight s past) (λ l meant. of_node s l.from.0 l.to.0 l.body meant)
    (each_waits (IsLetterMeant s) s past (letters_are_meant s past valid run))) good.letters)

-- what is sent is right
abbrev AreSentRight : ScriptData → List Entry → Entry → Type 0
AreSentRight s past e = Each (λ (o : Outgoing). (i : LetterId) → IsRight s (e ∷ past) e.actor.0 o.to.0 o.body) e.sent

pub letters_kept : (s : ScriptData) (past : List Entry) (e : Entry) → IsValid s → IsStepRun s past → IsGood s past
    → IsSteadily s past e → AreSentRight s past e → AreRight s (e ∷ past)
letters_kept s past e valid run good steadily sent =
    each_after (IsLetterRight s (e ∷ past)) s past e
    (each_map (WasRight s past) (IsLetterRight s (e ∷ past)) (left_of s past e)
    (λ l was. right_kept s past e l.from.0 l.to.0 l.body steadily was.0 was.1)
    (were_right s past e valid run good)) sent

pub letters_forgotten : (s : ScriptData) (past : List Entry) (e : Entry) → IsValid s → IsStepRun s past → IsGood s past
    → IsForgetting s past e → AreSentRight s past e → AreRight s (e ∷ past)
letters_forgotten s past e valid run good forgets sent =
    each_after (IsLetterRight s (e ∷ past)) s past e
    (each_map (WasRight s past) (IsLetterRight s (e ∷ past)) (left_of s past e)
    (λ l was. right_forgets s past e l.from.0 l.to.0 l.body forgets was.0 was.1)
    (were_right s past e valid run good)) sent

-- the letter that is taken is the last of its epoch, or there is none
abbrev pub IsLast : ScriptData → List Entry → Entry → Type 0
IsLast s past e =
    going (token (restarting_in s past).epoch) s past ≡ token (restarting_in s past).epoch e.took.from.0 e.took.to.0 e.took.body

pub letters_told : (s : ScriptData) (past : List Entry) (e : Entry) → IsValid s → IsStepRun s past → MayFollow s past e
    → IsGood s past → IsTelling s past e → IsLast s past e → AreSentRight s past e → AreRight s (e ∷ past)
letters_told s past e valid run m good telling last sent =
    let T = λ (l : Letter). token (restarting_in s past).epoch l.from.0 l.to.0 l.body ≡ 0 in
    each_after (IsLetterRight s (e ∷ past)) s past e
    (each_map (λ (l : Letter). WasRight s past l × T l) (IsLetterRight s (e ∷ past)) (left_of s past e)
    (λ l was. right_told s past e l.from.0 l.to.0 l.body telling was.0.0 (was.0.1, was.1))
    (each_both (WasRight s past) T (left_of s past e) (were_right s past e valid run good) (none_left s past e m last)))
    sent

-- Letters that order nothing.
abbrev pub OrdersNothing : Body → Type 0
OrdersNothing (Turn v) = ⊥
OrdersNothing (Show v) = ⊥
OrdersNothing (Sweep v) = ⊥
OrdersNothing (Order e what v) = ⊥
OrdersNothing (Obeyed e what v) = ⊥
OrdersNothing Go = Unit {0}
OrdersNothing _ = Unit {0}

abbrev pub OrderNothing : List Outgoing → Type 0
OrderNothing os = Each (λ (o : Outgoing). OrdersNothing o.body) os

told_nothing : (g : Stage) (body : Body) → OrdersNothing body → version_told g body ≡ 0
told_nothing g body none = grind arith

pub given_still : (past : List Entry) (e : Entry) → OrderNothing e.sent → IsGivenStill past e
given_still past e none =
    λ g. given_stays g e past
    (each_map (λ (o : Outgoing). OrdersNothing o.body) (λ (o : Outgoing). version_told g o.body ≡ 0) e.sent (λ o is. told_nothing g o.body is) none)

no_token : (e from to : ℕ) (body : Body) → OrdersNothing body → token e from to body ≡ 0
no_token e from to body none = grind arith

pub tokens_none : (e a : ℕ) (os : List Outgoing) → OrderNothing os → tally (leaving (token e) a) os ≡ 0
tokens_none e a os none =
    each_none (leaving (token e) a) os
    (each_map (λ (o : Outgoing). OrdersNothing o.body) (λ (o : Outgoing). leaving (token e) a o ≡ 0) os (λ o is. no_token e a o.to.0 o.body is) none)

no_order : (e q from to : ℕ) (body : Body) → OrdersNothing body → order_to e q from to body ≡ 0
no_order e q from to body none = grind arith

pub orders_none : (e q a : ℕ) (os : List Outgoing) → OrderNothing os → tally (leaving (order_to e q) a) os ≡ 0
orders_none e q a os none =
    each_none (leaving (order_to e q) a) os
    (each_map (λ (o : Outgoing). OrdersNothing o.body) (λ (o : Outgoing). leaving (order_to e q) a o ≡ 0) os
    (λ o is. no_order e q a o.to.0 o.body is) none)

-- A node's numbers against what is given now.
pub record IsFit (past : List Entry) (e : Entry) (turns : Turns) : Type 0 where
  pub turned : greatest_given TurnStage (e ∷ past) ≤ turns.low.0 + 2
  pub showed : greatest_given ShowStage (e ∷ past) ≤ turns.low.0 + 1
  pub swept : greatest_given SweepStage (e ∷ past) ≤ turns.low.0 + 1
  pub above : greatest_given ShowStage (e ∷ past) < turns.update.0
  pub reached : greatest_given SweepStage (e ∷ past) ≤ turns.read.0

within_now : (past : List Entry) (e : Entry) (turns : Turns) → IsWithin past turns → IsFit past e turns → IsWithin (e ∷ past) turns
within_now past e turns was fit =
    omega (arith, was, fit, given_rises TurnStage e past, given_rises ShowStage e past, given_rises SweepStage e past)

pub fits_still : (past : List Entry) (e : Entry) (turns : Turns) → IsGivenStill past e → IsWithin past turns → IsFit past e turns
fits_still past e turns still was = omega (arith, was, still TurnStage, still ShowStage, still SweepStage)

-- Below what was swept to, nothing is born.
pub closed_below : (s : ScriptData) (past : List Entry) (v : ℕ) → IsGood s past → v < greatest_given SweepStage past → Closed s past v
closed_below s past v good lt = grind arith

-- a version that is newly swept to has left one that is silent, in which nothing is born
pub record IsNewlySilent (s : ScriptData) (past : List Entry) (v : ℕ) : Type 0 where
  pub silent : IsSilent s past v
  pub closed : Closed s past v

silent_now : (s : ScriptData) (past : List Entry) (e : Entry) → IsTreeLawful s → IsStepRun s (e ∷ past) → AllApt s (e ∷ past) → IsGood s past
    → ((v : ℕ) → greatest_given SweepStage past ≤ v → v < greatest_given SweepStage (e ∷ past) → IsNewlySilent s past v)
    → (v : ℕ) → v < greatest_given SweepStage (e ∷ past) → IsSilent s (e ∷ past) v
silent_now s past e laws run apt good new v lt = by (cases_lt v (greatest_given SweepStage past)) where
  by : (v < greatest_given SweepStage past) ⊎ (greatest_given SweepStage past ≤ v) → IsSilent s (e ∷ past) v
  by (inl old) = silent_stays s past e v laws run apt (good.silent v old) (closed_below s past v good old)
  by (inr from) = let n = new v from lt in silent_stays s past e v laws run apt n.silent n.closed

-- So all is as it should be.
-- no letter that the coordinator sends is one of a tree
of_no_tree : OfCoordinator (λ (body : Body). tree_version body ≡ 0)
of_no_tree = grind arith

coordinated : (s : ScriptData) (past : List Entry) (e : Entry) → e.actor.0 ≡ s.nodes → Moves s past e
    → IsCoordinated s e
coordinated s past e at is = grind (arith, of_forgetting, of_remembering)

trees_now : (s : ScriptData) (past : List Entry) (e : Entry) → MayFollow s past e → e.actor.0 ≡ s.nodes → IsGood s past
    → Each (λ (l : Letter). tree_version l.body ≤ greatest_given TurnStage (e ∷ past)) (outstanding s (e ∷ past))
trees_now s past e m at good =
    each_outstanding (λ (l : Letter). tree_version l.body ≤ greatest_given TurnStage (e ∷ past)) s past e m
    (each_map (λ (l : Letter). tree_version l.body ≤ greatest_given TurnStage past)
    (λ (l : Letter). tree_version l.body ≤ greatest_given TurnStage (e ∷ past)) (outstanding s past)
    (λ l le. omega (arith, le, given_rises TurnStage e past)) good.trees)
    (each_map (λ (o : Outgoing). tree_version o.body ≡ 0)
    (λ (o : Outgoing). (i : LetterId) → tree_version o.body ≤ greatest_given TurnStage (e ∷ past)) e.sent
    (λ o none i. omega (arith, none))
    (coordinated_each (λ (body : Body). tree_version body ≡ 0) s e of_no_tree (coordinated s past e at m.moves)))

pub good_now : (s : ScriptData) (past : List Entry) (e : Entry) → IsTreeLawful s → IsStepRun s (e ∷ past) → AllApt s (e ∷ past)
    → e.actor.0 ≡ s.nodes → IsGood s past → (restarting_in s past).epoch ≤ (restarting_in s (e ∷ past)).epoch
    → AreRight s (e ∷ past) → ((q : ℕ) → q < s.nodes → IsFit past e (turns_in s past q))
    → ((v : ℕ) → greatest_given SweepStage past ≤ v → v < greatest_given SweepStage (e ∷ past) → IsNewlySilent s past v)
    → greatest_given TurnStage (e ∷ past) ≤ asked_for s past + 1
    → IsInPhase s (e ∷ past) (restarting_in s (e ∷ past)).phase → IsGood s (e ∷ past)
good_now s past e laws run apt at good later letters fit new asked phased = record {
  epochs = λ p lt. held_at (λ (n : KeepingNode). n.core.epoch ≤ (restarting_in s (e ∷ past)).epoch) s past e p at lt
      (omega (arith, good.epochs p lt, later));
  within = λ p lt. held_at (λ (n : KeepingNode). IsWithin (e ∷ past) n.core.node.turns) s past e p at lt
      (within_now past e (turns_in s past p) (good.within p lt) (fit p lt));
  silent = silent_now s past e laws run apt good new;
  trees = trees_now s past e run.0 at good;
  letters = letters;
  phased = phased;
  asked = omega (arith, asked, asked_stays s past e at);
  heard = λ p lt.
      let same = ap (λ (c : Client). c.ended) (client_stays s past e at) in
      held_at (λ (n : KeepingNode). (client_in s (e ∷ past)).ended ≤ n.core.node.turns.low.0) s past e p at lt (omega (arith, same, good.heard p lt));
}
