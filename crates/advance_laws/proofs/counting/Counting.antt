-- How a coordinator counts, whatever else it does: a view of its count, what its entries make of it, and what has to hold of a
-- coordinator that counts so. The laws of rounds speak of this view alone.
use Rattle.std.proofs.Common.{if◌then◌else◌, ◌≡◌, ◌≢◌, ℕ, ◌<◌, ◌≤◌, ◌&&◌, not, Bool, true, false, List, [], ◌∷◌, Some, None}
use Rattle.letter_types.specs.declared.bodies.Body.{Body}
use Rattle.letter_types.specs.declared.bodies.Body.TheVariants.{Nudge, AskDone, AskAsked, DoneRow, AskedRow}
use Rattle.letter_types.specs.declared.entries.Entry.{Entry}
use Rattle.letter_types.specs.declared.entries.Outgoing.{Outgoing}
use Rattle.tv_base.specs.declared.numbers.Version.{Version}
use Rattle.phase_out.specs.Rounds.{RoundData, all_in, is_of, new_round, verdict_of}
use Rattle.tx_trees.specs.ScriptData.{ScriptData}
use Rattle.world_model.specs.AllApt.{AllApt}
use Rattle.world_model.specs.Coordinator.{to_nodes}
use Rattle.world_model.specs.Runs.{IsStepRun, node_in}
use Rattle.advance_laws.proofs.counting.KeptRows.{with_asked, with_done}
use Rattle.advance_laws.proofs.governed.Lawful.{IsTreeLawful}
use Rattle.advance_laws.proofs.right.Sending.{AllPlain}
use Rattle.advance_laws.proofs.counting.Silence.{Closed}

-- a round is counted, for reads or for updates; or its pairs differed, and the next one begins with a nudge; or neither
pub data Pace : Type 0 where
  InRound : Bool → Pace
  AfterRound : Pace
  NoRound : Pace

-- what is known of a count: its last round, the greatest number of a round so far, how it stands with the round, and whether
-- a nudge came since the round began
pub record Count : Type 0 where
  pub round : RoundData
  pub number : ℕ
  pub pace : Pace
  pub flag : Bool

-- round k of version v and n nodes has begun
abbrev pub begun : Bool → Version → ℕ → ℕ → Count
begun reads v k n = record { round = new_round v k n; number = k; pace = InRound reads; flag = false }

-- the count with a row of completions more, or of requests
abbrev pub count_done : ℕ → List ℕ → Count → Count
count_done from row c = record c { round = with_done from row c.round }

abbrev pub count_asked : ℕ → List ℕ → Count → Count
count_asked from row c = record c { round = with_asked from row c.round }

-- the row of completions that fills the last missing place has the requests asked for
abbrev pub asks_after : ℕ → ℕ → List ℕ → RoundData → List Outgoing
asks_after n from row r =
    if all_in (with_done from row r).dones && not (all_in r.dones) then to_nodes n (AskAsked r.version r.number) else []

-- a letter that is no nudge
abbrev pub NoNudge : Body → Type 0
NoNudge Nudge = ⊥
NoNudge _ = Unit {0}

-- one that is no row of completions
abbrev pub NoDone : Body → Type 0
NoDone (DoneRow v k row) = ⊥
NoDone _ = Unit {0}

-- one that is no row which the round takes
abbrev pub Refused : Body → ℕ → RoundData → Type 0
Refused (DoneRow v k row) from r = is_of from v k row r ≡ false
Refused (AskedRow v k row) from r = (is_of from v k row r && all_in r.dones) ≡ false
Refused _ from r = Unit {0}

-- a row of requests of the round that is counted, after all completions
pub record TakesRow (c : Count) (from : ℕ) (body : Body) (reads : Bool) (v : Version) (k : ℕ) (row : List ℕ) : Type 0 where
  pub pace : c.pace ≡ InRound reads
  pub body_is : body ≡ AskedRow v k row
  pub here : is_of from v k row c.round ≡ true
  pub after_dones : all_in c.round.dones ≡ true

-- what an entry of the coordinator of n nodes makes of its count, by the letter that it takes and those that it sends: no
-- round is counted then; the round goes on, or hears a nudge, or the pause goes on; a round begins; the round takes a row
-- of completions, or one of requests which isn't the last; or its pairs differ, and it pauses
pub data CountStep (n : ℕ) (before after : Count) (from : ℕ) (body : Body) (sent : List Outgoing) : Type 0 where
  Leaves : after.pace ≡ NoRound → before.number ≤ after.number → AllPlain sent → CountStep n before after from body sent
  Holds : (reads : Bool) → before.pace ≡ InRound reads → NoNudge body → Refused body from before.round → after ≡ before
      → sent ≡ [] → CountStep n before after from body sent
  IsNudged : (reads : Bool) → before.pace ≡ InRound reads → body ≡ Nudge → after ≡ record before { flag = true } → sent ≡ []
      → CountStep n before after from body sent
  Lasts : before.pace ≡ AfterRound → NoNudge body → after ≡ before → sent ≡ [] → CountStep n before after from body sent
  Begins : (reads : Bool) (v : Version) (k : ℕ) → before.number < k → NoDone body → after ≡ begun reads v k n
      → sent ≡ to_nodes n (AskDone v k) → CountStep n before after from body sent
  TakesDone : (reads : Bool) (v : Version) (k : ℕ) (row : List ℕ) → before.pace ≡ InRound reads → body ≡ DoneRow v k row
      → is_of from v k row before.round ≡ true → after ≡ count_done from row before → sent ≡ asks_after n from row before.round
      → CountStep n before after from body sent
  TakesRequests : (reads : Bool) (v : Version) (k : ℕ) (row : List ℕ) → TakesRow before from body reads v k row
      → verdict_of (with_asked from row before.round) ≡ None → after ≡ count_asked from row before → sent ≡ []
      → CountStep n before after from body sent
  Denies : (reads : Bool) (v : Version) (k : ℕ) (row : List ℕ) → TakesRow before from body reads v k row
      → verdict_of (with_asked from row before.round) ≡ Some false → before.flag ≡ false
      → after ≡ record before { round = with_asked from row before.round; pace = AfterRound } → sent ≡ []
      → CountStep n before after from body sent

-- no root is born in the version, and no node has left it
pub record Open (s : ScriptData) (past : List Entry) (v : ℕ) : Type 0 where
  pub closed : Closed s past v
  pub low : (p : ℕ) → p < s.nodes → (node_in s past p).turns.low.0 ≤ v

-- a fact of a version at a past, by whether it is counted for reads or for updates: as that it wasn't given yet
abbrev pub Premise : Type 1
Premise = Bool → ℕ → List Entry → Type 0

-- a coordinator that counts so: it counts nothing at first, entries of others leave its count, each of its own is a step of
-- it, and the version counted is open where the premise holds of it. A premise that holds after an entry held before it
pub record IsCounting (s : ScriptData) (count : List Entry → Count) (G : Premise) : Type 0 where
  pub lawful : IsTreeLawful s
  pub start : (count []).pace ≡ NoRound
  pub stays : (past : List Entry) (e : Entry) → e.actor.0 ≢ s.nodes → count (e ∷ past) ≡ count past
  pub steps : (past : List Entry) (e : Entry) → IsStepRun s (e ∷ past) → AllApt s past → e.actor.0 ≡ s.nodes
      → CountStep s.nodes (count past) (count (e ∷ past)) e.took.from.0 e.took.body e.sent
  pub back : (reads : Bool) (v : ℕ) (past : List Entry) (e : Entry) → IsStepRun s (e ∷ past) → G reads v (e ∷ past)
      → G reads v past
  pub opens : (reads : Bool) (past : List Entry) → IsStepRun s past → AllApt s past → (count past).pace ≡ InRound reads
      → G reads (count past).round.version.0 past → Open s past (count past).round.version.0

-- a count that has no round, or that pauses, isn't in one
pub none_in_round : (p : Pace) (reads : Bool) → p ≡ NoRound → p ≡ InRound reads → ⊥
none_in_round p reads none counts = cc (none, counts)

pub paused_in_round : (p : Pace) (reads : Bool) → p ≡ AfterRound → p ≡ InRound reads → ⊥
paused_in_round p reads paused counts = cc (paused, counts)
