-- What holds after each entry of a run of a coordinator that forgets.
use Rattle.std.proofs.Common.{◌≡◌, ℕ, ◌+◌, ◌<◌, ◌≤◌, ◌==◌, ◌&&◌, true, List, [], ◌∷◌, length, Some, arith, subst}
use Rattle.std.specs.Prelude.{slice_get}
use Rattle.tv_base.specs.declared.numbers.Version.{Version}
use Rattle.letter_types.specs.declared.bodies.Body.{Body}
use Rattle.letter_types.specs.declared.bodies.Body.TheVariants.{Go, Advanced, Ask, Numbers, Obeyed, Order, Wanted}
use Rattle.letter_types.specs.declared.bodies.What.{What}
use Rattle.letter_types.specs.declared.bodies.What.TheVariants.{Turn as ToTurn, Show as ToShow, Sweep as ToSweep}
use Rattle.letter_types.specs.declared.entries.Entry.{Entry}
use Rattle.letter_types.specs.declared.entries.Letter.{Letter}
use Rattle.node_versions.specs.declared.turns.Turns.{Turns}
use Rattle.tx_trees.specs.Counts.{advances_in}
use Rattle.tx_trees.specs.ScriptData.{ScriptData}
use Rattle.tx_trees.specs.Valid.{IsValid}
use Rattle.tx_trees.proofs.Rebuilding.{asked_most}
use Rattle.world_model.specs.Counts.{Each, one_if}
use Rattle.world_model.specs.Kept.{outstanding}
use Rattle.world_model.specs.Restarting.{Restarting, target}
use Rattle.world_model.specs.Runs.{MayFollow, client_in, in_flight, keeping_in, node_in, restarting_in}
use Rattle.world_model.specs.declared.restarting.RestartPhase.{RestartPhase}
use Rattle.world_model.specs.declared.restarting.RestartPhase.TheVariants.{Idle, Recovering, Doing, Counting, Paused}
use Rattle.world_model.specs.declared.restarting.Told.{Told}
use Rattle.world_model.proofs.Every.{each_taken}
use Rattle.advance_laws.specs.Advances.{asked_for}
use Rattle.advance_laws.specs.Given.{greatest_given}
use Rattle.advance_laws.specs.Phases.{TurnStage, ShowStage, SweepStage, stage_of}
use Rattle.advance_laws.specs.Quiet.{IsSilent}
use Rattle.advance_laws.proofs.governed.Advancing.{IsWithin}
use Rattle.advance_laws.proofs.phases.Closing.{tree_version}
use Rattle.advance_laws.proofs.counting.Waves.{going}

-- the epoch of which a node has heard last
abbrev pub epoch_in : ScriptData → List Entry → ℕ → ℕ
epoch_in s past p = (keeping_in s past p).core.epoch

abbrev pub turns_in : ScriptData → List Entry → ℕ → Turns
turns_in s past p = (node_in s past p).turns

-- an order or an answer of epoch e
abbrev pub token : ℕ → ℕ → ℕ → Body → ℕ
token e from to (Order d what v) = one_if (d == e)
token e from to (Obeyed d what v) = one_if (d == e)
token e from to Go = 0
token e from to _ = 0

-- an order of epoch e to node q
abbrev pub order_to : ℕ → ℕ → ℕ → ℕ → Body → ℕ
order_to e q from to (Order d what v) = one_if ((d == e) && (to == q))
order_to e q from to Go = 0
order_to e q from to _ = 0

-- an order is of the coordinator's present phase
pub record IsCurrent (c : Restarting) (what : What) (v : Version) : Type 0 where
  pub phase : c.phase ≡ Doing what
  pub version : v.0 ≡ (target what c.ended).0

-- a node is at least as far as it has told
pub record IsAsTold (turns : Turns) (u r l : Version) : Type 0 where
  pub update : u.0 ≤ turns.update.0
  pub read : r.0 ≤ turns.read.0
  pub low : l.0 ≤ turns.low.0

-- node q told low version l since the coordinator has forgotten last, and nothing was given since
pub record IsLatest (s : ScriptData) (past : List Entry) (q l : ℕ) : Type 0 where
  pub epoch : (restarting_in s past).epoch ≤ epoch_in s past q
  pub turned : greatest_given TurnStage past ≤ l + 2
  pub showed : greatest_given ShowStage past ≤ l + 1
  pub swept : greatest_given SweepStage past ≤ l + 1

-- A letter in flight: its epoch has begun; numbers are no more than the node's, and those of this epoch are the latest
-- while they are waited for; orders and answers of this epoch are of its phase; an order is of a version that was
-- given, and one that its node will still heed isn't below what was swept to; what the client tells in this epoch
-- covers what was given; and an advancement that has ended has ended at each node.
pub record AreNumbers (s : ScriptData) (past : List Entry) (q e : ℕ) (u r l : Version) : Type 0 where
  pub epoch : e ≤ (restarting_in s past).epoch
  pub told : IsAsTold (turns_in s past q) u r l
  pub latest : e ≡ (restarting_in s past).epoch → (restarting_in s past).phase ≡ Recovering → IsLatest s past q l.0

pub record IsOrder (s : ScriptData) (past : List Entry) (q e : ℕ) (what : What) (v : Version) : Type 0 where
  pub epoch : e ≤ (restarting_in s past).epoch
  pub current : e ≡ (restarting_in s past).epoch → IsCurrent (restarting_in s past) what v
  pub given : v.0 ≤ greatest_given (stage_of what) past
  pub window : q < s.nodes → epoch_in s past q ≤ e → greatest_given SweepStage past ≤ v.0

pub record IsAnswer (s : ScriptData) (past : List Entry) (e : ℕ) (what : What) (v : Version) : Type 0 where
  pub epoch : e ≤ (restarting_in s past).epoch
  pub current : e ≡ (restarting_in s past).epoch → IsCurrent (restarting_in s past) what v

pub record AreWanted (s : ScriptData) (past : List Entry) (e k : ℕ) : Type 0 where
  pub epoch : e ≤ (restarting_in s past).epoch
  pub covers : e ≡ (restarting_in s past).epoch → (restarting_in s past).phase ≡ Recovering → greatest_given TurnStage past ≤ k + 1

abbrev pub IsRight : ScriptData → List Entry → ℕ → ℕ → Body → Type 0
IsRight s past from to (Ask e) = e ≤ (restarting_in s past).epoch
IsRight s past from to (Numbers e u r l) = AreNumbers s past from e u r l
IsRight s past from to (Order e what v) = IsOrder s past to e what v
IsRight s past from to (Obeyed e what v) = IsAnswer s past e what v
IsRight s past from to (Wanted e k) = AreWanted s past e k
IsRight s past from to (Advanced v) = (q : ℕ) → q < s.nodes → v.0 ≤ (turns_in s past q).low.0
IsRight s past from to Go = Unit {0}
IsRight s past from to _ = Unit {0}

abbrev pub IsLetterRight : ScriptData → List Entry → Letter → Type 0
IsLetterRight s past l = IsRight s past l.from.0 l.to.0 l.body

-- all in flight are as they should be
abbrev pub AreRight : ScriptData → List Entry → Type 0
AreRight s past = Each (IsLetterRight s past) (in_flight s past)

-- from where on a node's versions are in each phase, where so many advancements have ended
abbrev pub least_read : RestartPhase → ℕ → ℕ
least_read (Counting true) f = f + 1
least_read (Paused true) f = f + 1
least_read (Doing ToSweep) f = f + 1
least_read Idle f = f
least_read _ f = f

abbrev pub least_update : RestartPhase → ℕ → ℕ
least_update Idle f = f + 1
least_update (Doing ToTurn) f = f + 1
least_update _ f = f + 2

-- what a node comes to, now or by an order in flight
abbrev pub due : RestartPhase → ℕ → ℕ
due (Doing ToTurn) f = f + 2
due (Doing ToShow) f = f + 1
due (Doing ToSweep) f = f + 1
due Idle f = 0
due _ f = 0

abbrev pub reached : RestartPhase → Turns → ℕ
reached (Doing ToTurn) turns = turns.update.0
reached (Doing ToShow) turns = turns.read.0
reached (Doing ToSweep) turns = turns.low.0
reached Idle turns = 0
reached _ turns = 0

-- with this epoch, these numbers, and so many orders of the present epoch in flight to it
pub record LevelOf (phase : RestartPhase) (f e epoch : ℕ) (turns : Turns) (orders : ℕ) : Type 0 where
  pub since : e ≤ epoch
  pub low : f ≤ turns.low.0
  pub read : least_read phase f ≤ turns.read.0
  pub update : least_update phase f ≤ turns.update.0
  pub comes : due phase f ≤ reached phase turns + orders

-- in a phase in which nodes are told something: its orders and answers in flight and its acknowledgements are as many
-- as nodes
abbrev pub AreTokens : RestartPhase → ℕ → ℕ → ℕ → Type 0
AreTokens (Doing what) tokens acks n = tokens + acks ≡ n
AreTokens Idle tokens acks n = Unit {0}
AreTokens _ tokens acks n = Unit {0}

-- what was given is of the advancement after so many others, at most, and wanted
pub record IsUpTo (past : List Entry) (f wanted : ℕ) : Type 0 where
  pub turned : greatest_given TurnStage past ≤ f + 2
  pub showed : greatest_given ShowStage past ≤ f + 1
  pub swept : greatest_given SweepStage past ≤ f + 1
  pub asked : greatest_given TurnStage past ≤ wanted + 1

-- where the coordinator knows how many advancements have ended
pub record IsSteady (s : ScriptData) (past : List Entry) (phase : RestartPhase) : Type 0 where
  pub level : (q : ℕ) → q < s.nodes
      → LevelOf phase (restarting_in s past).ended (restarting_in s past).epoch (epoch_in s past q) (turns_in s past q)
      (going (order_to (restarting_in s past).epoch q) s past)
  pub tokens : AreTokens phase (going (token (restarting_in s past).epoch) s past) (restarting_in s past).acks s.nodes
  pub up_to : IsUpTo past (restarting_in s past).ended (restarting_in s past).wanted

-- where it doesn't: what it has heard so far in this epoch
pub record IsHeardOf (s : ScriptData) (past : List Entry) (q : ℕ) (t : Told) : Type 0 where
  pub told : IsAsTold (turns_in s past q) t.update t.read t.low
  pub latest : IsLatest s past q t.low.0

pub record IsHeard (s : ScriptData) (past : List Entry) : Type 0 where
  pub places : length (restarting_in s past).told ≡ s.nodes
  pub nodes : (q : ℕ) (t : Told) → q < s.nodes → slice_get (restarting_in s past).told q ≡ Some (Some t) → IsHeardOf s past q t
  pub client : (k : ℕ) → (restarting_in s past).heard ≡ Some k → greatest_given TurnStage past ≤ k + 1

abbrev pub IsInPhase : ScriptData → List Entry → RestartPhase → Type 0
IsInPhase s past Recovering = IsHeard s past
IsInPhase s past Idle = IsSteady s past Idle
IsInPhase s past (Doing what) = IsSteady s past (Doing what)
IsInPhase s past (Counting reads) = IsSteady s past (Counting reads)
IsInPhase s past (Paused reads) = IsSteady s past (Paused reads)

-- no node is in a later epoch than the coordinator, and each is within what was given; below what was swept to all is
-- silent; letters of trees are of versions to which nodes were told to turn, and the others as they should be; and so
-- is the coordinator
pub record IsGood (s : ScriptData) (past : List Entry) : Type 0 where
  pub epochs : (p : ℕ) → p < s.nodes → epoch_in s past p ≤ (restarting_in s past).epoch
  pub within : (p : ℕ) → p < s.nodes → IsWithin past (turns_in s past p)
  pub silent : (v : ℕ) → v < greatest_given SweepStage past → IsSilent s past v
  pub trees : Each (λ (l : Letter). tree_version l.body ≤ greatest_given TurnStage past) (outstanding s past)
  pub letters : AreRight s past
  pub phased : IsInPhase s past (restarting_in s past).phase
  pub asked : greatest_given TurnStage past ≤ asked_for s past + 1
  pub heard : (p : ℕ) → p < s.nodes → (client_in s past).ended ≤ (turns_in s past p).low.0

-- after each entry so far
abbrev pub AllGood : ScriptData → List Entry → Type 0
AllGood s [] = IsGood s []
AllGood s (e ∷ past) = IsGood s (e ∷ past) × AllGood s past

-- Where the coordinator is in this phase.
pub in_phase : (s : ScriptData) (past : List Entry) (phase : RestartPhase) → IsGood s past
    → (restarting_in s past).phase ≡ phase → IsInPhase s past phase
in_phase s past phase good at = subst (λ (p : RestartPhase). IsInPhase s past p) at good.phased

-- a phase in which it knows how many advancements have ended
abbrev pub Knows : RestartPhase → Type 0
Knows phase = phase ≡ Recovering → ⊥

pub steady_in : (s : ScriptData) (past : List Entry) (phase : RestartPhase) → IsGood s past
    → (restarting_in s past).phase ≡ phase → Knows phase → IsSteady s past phase
steady_in s past phase good at knows = grind arith

-- How far nodes are: no further than what was given, nor than the advancements that the client asks for.
pub low_turned : (past : List Entry) (turns : Turns) → IsWithin past turns → turns.low.0 + 1 ≤ greatest_given TurnStage past
low_turned past turns w = omega (arith, w.low_swept, w.swept_read, w.read_showed, w.showed_update, w.update_turned)

pub read_turned : (past : List Entry) (turns : Turns) → IsWithin past turns
    → turns.read.0 + 1 ≤ greatest_given TurnStage past
read_turned past turns w = omega (arith, w.read_showed, w.showed_update, w.update_turned)

pub turned_most : (s : ScriptData) (past : List Entry) → IsGood s past
    → greatest_given TurnStage past ≤ advances_in s.rows + 1
turned_most s past good = omega (arith, good.asked, asked_most (client_in s past).next s.rows)

pub low_few : (s : ScriptData) (past : List Entry) (q : ℕ) → IsValid s → IsGood s past → q < s.nodes
    → (turns_in s past q).low.0 ≤ 100
low_few s past q valid good lt = grind (arith, turned_most)

-- nor have more of them ended
pub ended_most : (s : ScriptData) (past : List Entry) (phase : RestartPhase) → IsValid s → IsGood s past
    → IsSteady s past phase → (restarting_in s past).ended ≤ advances_in s.rows
ended_most s past phase valid good steady = grind (arith, turned_most)

pub ended_few : (s : ScriptData) (past : List Entry) (phase : RestartPhase) → IsValid s → IsGood s past
    → IsSteady s past phase → (restarting_in s past).ended ≤ 100
ended_few s past phase valid good steady =
    omega (arith, ended_most s past phase valid good steady, valid.limited.advances)

-- The letter that is taken is as it should be.
pub took_right : (s : ScriptData) (past : List Entry) (e : Entry) (body : Body) → IsGood s past → MayFollow s past e
    → e.took.body ≡ body → IsRight s past e.took.from.0 e.took.to.0 body
took_right s past e body good m is =
    subst (IsRight s past e.took.from.0 e.took.to.0) is
    (each_taken (IsLetterRight s past) s past e m good.letters)
