-- The coordinator's table.
use Rattle.std.specs.Prelude.{if◌then◌else◌, ℕ, zero, suc, Bool, true, false, ◌==◌, ◌+◌, ◌-◌, List, [], ◌∷◌, ◌++◌}
use Rattle.tv_base.specs.declared.numbers.Version.{Version}
use Rattle.tv_base.specs.Outside.{one_more}
use Rattle.phase_out.specs.declared.count.Counted.{Counted}
use Rattle.phase_out.specs.declared.count.Counted.TheVariants.{Goes, AsksRequests, Agrees, Recounts, Pauses}
use Rattle.phase_out.specs.Counts.{CountData, CountOut, start_count, begin_count, told_done, told_asked, told_nudge}
use Rattle.letter_types.specs.declared.bodies.Body.{Body}
use Rattle.letter_types.specs.declared.bodies.Body.TheVariants.{Nudge, Advance, Turn, Show, Sweep, Turned, Shown, Swept, AskDone, AskAsked, DoneRow, AskedRow, Advanced}
use Rattle.letter_types.specs.declared.entries.Outgoing.{Outgoing}
use Rattle.letter_types.specs.Steps.{Out, still}
use Rattle.world_model.specs.declared.phase.Phase.{Phase}
use Rattle.world_model.specs.declared.phase.Phase.TheVariants.{Idle, Turning, Counting, Paused, Showing, Sweeping}

-- the number of nodes, the update version, how many advances wait, the phase, its acknowledgements, and its count
pub record Coordinator : Type 0 where
  pub nodes : ℕ
  pub update : ℕ
  pub waits : ℕ
  pub phase : Phase
  pub acks : ℕ
  pub count : CountData

abbrev pub version : ℕ → Version
version v = record { 0 = v }

abbrev pub start_coordinator : ℕ → Coordinator
start_coordinator n = record {
  nodes = n;
  update = 1;
  waits = 0;
  phase = Idle;
  acks = 0;
  count = start_count 0;
}

-- a message of this body to each of the nodes 0 to n - 1
abbrev pub to_nodes : ℕ → Body → List Outgoing
to_nodes zero body = []
to_nodes (suc n) body = to_nodes n body ++ record { to = record { 0 = n }; body = body } ∷ []

-- a phase that begins misses every acknowledgement
abbrev pub in_phase : Phase → Coordinator → Coordinator
in_phase phase c = record c { phase = phase; acks = 0 }

-- it begins with a message to every node
abbrev pub begin_phase : Phase → Body → Coordinator → Out Coordinator
begin_phase phase body c = record { state = in_phase phase c; sent = to_nodes c.nodes body; acts = [] }

-- the version that a round counts: the read version before this advancement, or the update version
abbrev pub counted_version : Bool → Coordinator → Version
counted_version reads c = version (if reads then c.update - 1 else c.update)

-- a round begins: it misses every row and asks every node for its completions
abbrev pub begin_round : Bool → Coordinator → Out Coordinator
begin_round reads c =
    begin_phase (Counting reads) (AskDone (counted_version reads c) (one_more c.count.number))
    (record c { count = begin_count (counted_version reads c) (one_more c.count.number) c.nodes })

-- one acknowledgement more; the last one brings what comes next
abbrev pub acknowledged : Out Coordinator → Coordinator → Out Coordinator
acknowledged next c = if one_more c.acks == c.nodes then next else still (record c { acks = one_more c.acks })

-- every node is asked for its requests
abbrev pub ask_requests : Coordinator → Out Coordinator
ask_requests c =
    record { state = c; sent = to_nodes c.nodes (AskAsked c.count.current.version c.count.current.number); acts = [] }

-- a version is quiescent: the update version is shown to reads, or what is older is swept
abbrev pub end_count : Bool → Coordinator → Out Coordinator
end_count false c = begin_phase Showing (Show (version c.update)) c
end_count true c = begin_phase Sweeping (Sweep (version c.update)) c

-- what the count asks for
abbrev pub as_counted : Bool → Counted → Coordinator → Out Coordinator
as_counted reads Goes c = still c
as_counted reads AsksRequests c = ask_requests c
as_counted reads Agrees c = end_count reads c
as_counted reads Recounts c = begin_round reads c
as_counted reads Pauses c = still (in_phase (Paused reads) c)

-- the coordinator goes by its count
abbrev pub go_by : Bool → CountOut → Coordinator → Out Coordinator
go_by reads o c = as_counted reads o.counted (record c { count = o.state })

-- the client hears that the advancement has ended
abbrev pub advanced : Coordinator → Outgoing
advanced c = record { to = record { 0 = c.nodes + 1 }; body = Advanced (version c.update) }

-- the next update version, in the phase in which its advancement is
abbrev pub with_next : Phase → ℕ → Coordinator → Coordinator
with_next phase waits c = in_phase phase (record c { update = one_more c.update; waits = waits })

-- an advancement has ended, and the next begins in the same step if one waits
abbrev pub end_advance : Coordinator → Out Coordinator
end_advance c =
    if c.waits == 0
    then record { state = with_next Idle 0 c; sent = advanced c ∷ []; acts = [] }
    else record {
      state = with_next Turning (c.waits - 1) c;
      sent = advanced c ∷ to_nodes c.nodes (Turn (version (one_more (one_more c.update))));
      acts = [];
    }

-- the row of a message and a phase
abbrev pub row_of : Body → Phase → ℕ → Coordinator → Out Coordinator
row_of Advance Idle from c = begin_phase Turning (Turn (version (one_more c.update))) c
row_of Advance _ from c = still (record c { waits = one_more c.waits })
row_of (Turned v) Turning from c = acknowledged (begin_round false c) c
row_of (DoneRow v k row) (Counting reads) from c = go_by reads (told_done from v k row c.count) c
row_of (AskedRow v k row) (Counting reads) from c = go_by reads (told_asked from v k row c.count) c
row_of Nudge (Counting reads) from c = go_by reads (told_nudge false c.count) c
row_of Nudge (Paused reads) from c = go_by reads (told_nudge true c.count) c
row_of (Shown v) Showing from c = acknowledged (begin_round true c) c
row_of (Swept v) Sweeping from c = acknowledged (end_advance c) c
row_of _ _ from c = still c

-- what the coordinator does with a message of this sender and body
abbrev pub coordinator_row : Coordinator → ℕ → Body → Out Coordinator
coordinator_row c from body = row_of body c.phase from c
