-- A count: the round that is counted or was last, and what comes of what it is told. Whether it is paused is the phase
-- of its coordinator.
use Rattle.std.specs.Prelude.{◌≡◌, ◌<◌, ⊤, ℕ, Bool, true, false, not, ◌&&◌, List, length, if◌then◌else◌, slice_set, Option, Some, None, MatchOption}
use Rattle.tv_base.specs.declared.numbers.Version.{Version}
use Rattle.phase_out.specs.Rounds.{RoundData, new_round, is_of, all_in, verdict_of}
use Rattle.phase_out.specs.declared.count.RowChange.{RowChange}
use Rattle.phase_out.specs.declared.count.RowChange.TheVariants.{NoRow, Done, Asked}
use Rattle.phase_out.specs.declared.count.Counted.{Counted}
use Rattle.phase_out.specs.declared.count.Counted.TheVariants.{Goes, AsksRequests, Agrees, Recounts, Pauses}

-- the number of the last round, that round with its rows, and whether a transaction was answered since it began
pub record CountData : Type 0 where
  pub number : ℕ
  pub current : RoundData
  pub flag : Bool

-- a count before its first round, after rounds up to a number: the last one is a round of no nodes
abbrev pub start_count : ℕ → CountData
start_count k = record { number = k; current = new_round (record { 0 = 0 }) 0 0; flag = false }

-- a round begins, and no transaction was answered since
abbrev pub count_begun : RoundData → CountData
count_begun r = record { number = r.number; current = r; flag = false }

-- a round of a version and a number begins: it misses every row of n nodes
abbrev pub begin_count : Version → ℕ → ℕ → CountData
begin_count v k n = count_begun (new_round v k n)

-- the round with the row that it is given, in place of an earlier one of its sender
abbrev pub round_with : RowChange → RoundData → RoundData
round_with NoRow r = r
round_with (Done from row) r = record r { dones = slice_set r.dones from.0 (Some row) }
round_with (Asked from row) r = record r { askeds = slice_set r.askeds from.0 (Some row) }

-- the count with the row
abbrev pub count_with : RowChange → CountData → CountData
count_with row c = record c { current = round_with row c.current }

-- a row is a node's, and has a number for each node
abbrev pub IsRowOf : ℕ → List ℕ → RoundData → Type 0
IsRowOf from row r = (from < r.nodes) × (length row ≡ r.nodes)

-- the round may be given the row
abbrev pub MayKeep : RowChange → RoundData → Type 0
MayKeep NoRow r = ⊤
MayKeep (Done from row) r = IsRowOf from.0 row r
MayKeep (Asked from row) r = IsRowOf from.0 row r

-- a transaction was answered
abbrev pub nudged : CountData → CountData
nudged c = record c { flag = true }

-- what the verdict asks for: if a pair differs, another round begins at once if a transaction was answered, else with
-- the next nudge
abbrev pub by_verdict : Option Bool → Bool → Counted
by_verdict None flag = Goes
by_verdict (Some true) flag = Agrees
by_verdict (Some false) flag = if flag then Recounts else Pauses

-- what a row asks for once it is kept: the row of completions that fills the last missing place has the requests asked
-- for, and a row of requests what the verdict asks for
abbrev pub counted_with : RowChange → CountData → Counted
counted_with NoRow c = Goes
counted_with (Done from row) c =
    if all_in (round_with (Done from row) c.current).dones && not (all_in c.current.dones) then AsksRequests else Goes
counted_with (Asked from row) c = by_verdict (verdict_of (round_with (Asked from row) c.current)) c.flag

-- the count after what it is told, and what that asks of its coordinator
pub record CountOut : Type 0 where
  pub state : CountData
  pub counted : Counted

-- the count goes on as it is
abbrev pub count_stays : CountData → CountOut
count_stays c = record { state = c; counted = Goes }

-- the count keeps a row
abbrev pub count_takes : RowChange → CountData → CountOut
count_takes row c = record { state = count_with row c; counted = counted_with row c }

-- what a look at a row finds is what the count is told: nothing comes of it; or the row is kept, as the round may, and
-- asks for this
abbrev pub IsLookAt : RowChange → CountData → CountOut → Option Counted → Type 0
IsLookAt row c told looked = MatchOption looked (told ≡ count_stays c)
    (λ counted. (told ≡ record { state = count_with row c; counted = counted }) × MayKeep row c.current)

-- a sender tells its row of completions, or of requests, of a version and a round's number: it is kept if it is one of
-- this round, that of requests once all completions are in
abbrev pub told_done : ℕ → Version → ℕ → List ℕ → CountData → CountOut
told_done from v k row c = if is_of from v k row c.current then count_takes (Done (record { 0 = from }) row) c else count_stays c

abbrev pub told_asked : ℕ → Version → ℕ → List ℕ → CountData → CountOut
told_asked from v k row c =
    if is_of from v k row c.current && all_in c.current.dones then count_takes (Asked (record { 0 = from }) row) c else count_stays c

-- a transaction was answered, while the count is paused or goes on
abbrev pub told_nudge : Bool → CountData → CountOut
told_nudge false c = count_stays (nudged c)
told_nudge true c = record { state = c; counted = Recounts }
