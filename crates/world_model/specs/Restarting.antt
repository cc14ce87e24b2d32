-- The table of a coordinator that may forget its state: all but its epoch, which counts how often it has forgotten. It
-- goes on from what the nodes and the client tell.
use Rattle.std.specs.Prelude.{if◌then◌else◌, ℕ, Bool, true, false, not, ◌==◌, ◌&&◌, ◌+◌, ◌*◌, ◌-◌, ◌^◌, min, max, nat_lt, List, [], ◌∷◌, ◌++◌, replicate, length, slice_set, Option, Some, None, is_some}
use Rattle.std.specs.List.{list_all, list_any}
use Rattle.tv_base.specs.declared.numbers.Version.{Version}
use Rattle.tv_base.specs.Outside.{one_more}
use Rattle.phase_out.specs.declared.count.Counted.{Counted}
use Rattle.phase_out.specs.declared.count.Counted.TheVariants.{Goes, AsksRequests, Agrees, Recounts, Pauses}
use Rattle.phase_out.specs.Counts.{CountData, CountOut, start_count, begin_count, told_done, told_asked, told_nudge}
use Rattle.letter_types.specs.declared.bodies.What.{What}
use Rattle.letter_types.specs.declared.bodies.What.TheVariants.{Turn as ToTurn, Show as ToShow, Sweep as ToSweep}
use Rattle.letter_types.specs.declared.bodies.Body.{Body}
use Rattle.letter_types.specs.declared.bodies.Body.TheVariants.{Nudge, AskDone, AskAsked, DoneRow, AskedRow, Advanced, Lose, AdvanceNo, Ask, Numbers, Wanted, Order, Obeyed}
use Rattle.letter_types.specs.declared.entries.Outgoing.{Outgoing}
use Rattle.letter_types.specs.Steps.{Out, still}
use Rattle.world_model.specs.declared.restarting.RestartPhase.{RestartPhase}
use Rattle.world_model.specs.declared.restarting.RestartPhase.TheVariants.{Idle, Recovering, Doing, Counting, Paused}
use Rattle.world_model.specs.declared.restarting.Told.{Told}
use Rattle.world_model.specs.Coordinator.{version, to_nodes}

-- what each node told, or none if it hasn't
abbrev pub AllTold : Type 0
AllTold = List (Option Told)

-- the number of nodes, how often it has forgotten, how many advances are wanted and how many have ended, the phase, its
-- acknowledgements, its count, and what each node and the client told since it has forgotten: the node's versions, and how
-- many advances the client sent
pub record Restarting : Type 0 where
  pub nodes : ℕ
  pub epoch : ℕ
  pub wanted : ℕ
  pub ended : ℕ
  pub phase : RestartPhase
  pub acks : ℕ
  pub count : CountData
  pub told : AllTold
  pub heard : Option ℕ

abbrev pub start_restarting : ℕ → Restarting
start_restarting n = record {
  nodes = n;
  epoch = 0;
  wanted = 0;
  ended = 0;
  phase = Idle;
  acks = 0;
  count = start_count 0;
  told = [];
  heard = None;
}

-- a phase that begins misses every acknowledgement
abbrev pub in_restart_phase : RestartPhase → Restarting → Restarting
in_restart_phase phase c = record c { phase = phase; acks = 0 }

-- the version that nodes are told to turn to, to show or to sweep to, if that many advances have ended
abbrev pub target : What → ℕ → Version
target ToTurn f = version (one_more (one_more f))
target ToShow f = version (one_more f)
target ToSweep f = version (one_more f)

-- an order to every node, in the phase that waits for it
abbrev pub orders : RestartPhase → Restarting → List Outgoing
orders (Doing what) c = to_nodes c.nodes (Order c.epoch what (target what c.ended))
orders _ c = []

-- a phase begins with its orders
abbrev pub enter : RestartPhase → Restarting → Out Restarting
enter phase c = record { state = in_restart_phase phase c; sent = orders phase c; acts = [] }

-- the phase in which no advancement is in progress: turning begins if one more is wanted than have ended
abbrev pub next_advance : ℕ → ℕ → RestartPhase
next_advance wanted ended = if nat_lt ended wanted then Doing ToTurn else Idle

-- a message to the client
abbrev pub to_client : Body → Restarting → Outgoing
to_client body c = record { to = record { 0 = c.nodes + 1 }; body = body }

-- a phase begins with its orders, and before them the client hears how many advancements have ended
abbrev pub enter_telling : RestartPhase → Restarting → Out Restarting
enter_telling phase c = record {
  state = in_restart_phase phase c;
  sent = to_client (Advanced (version c.ended)) c ∷ orders phase c;
  acts = [];
}

-- the version that a round counts: the one that reads have left, or the one that is to be shown
abbrev pub version_counted : Bool → Restarting → Version
version_counted reads c = version (if reads then c.ended else one_more c.ended)

-- a round begins: it misses every row and asks every node for its completions
abbrev pub begin_counting : Bool → Restarting → Out Restarting
begin_counting reads c = record {
  state = in_restart_phase (Counting reads) (record c {
    count = begin_count (version_counted reads c) (one_more c.count.number) c.nodes;
  });
  sent = to_nodes c.nodes (AskDone (version_counted reads c) (one_more c.count.number));
  acts = [];
}

-- every node is asked for its requests
abbrev pub ask_all_requests : Restarting → Out Restarting
ask_all_requests c =
    record { state = c; sent = to_nodes c.nodes (AskAsked c.count.current.version c.count.current.number); acts = [] }

-- the version that was counted is quiescent: it is shown to reads, or if reads have left it nodes sweep to the next one
abbrev pub end_counting : Bool → Restarting → Out Restarting
end_counting false c = enter (Doing ToShow) c
end_counting true c = enter (Doing ToSweep) c

-- what the count asks for
abbrev pub by_counted : Bool → Counted → Restarting → Out Restarting
by_counted reads Goes c = still c
by_counted reads AsksRequests c = ask_all_requests c
by_counted reads Agrees c = end_counting reads c
by_counted reads Recounts c = begin_counting reads c
by_counted reads Pauses c = still (in_restart_phase (Paused reads) c)

-- the coordinator goes by its count
abbrev pub by_count : Bool → CountOut → Restarting → Out Restarting
by_count reads o c = by_counted reads o.counted (record c { count = o.state })

-- the coordinator if that many advances are wanted, and that many have ended
abbrev pub with_advances : ℕ → ℕ → Restarting → Restarting
with_advances wanted f c = record c { wanted = wanted; ended = f }

-- an advancement has ended, and the next begins in the same step if it is wanted
abbrev pub end_advancing : Restarting → Out Restarting
end_advancing c =
    enter_telling (next_advance c.wanted (one_more c.ended)) (with_advances c.wanted (one_more c.ended) c)

-- every node has obeyed: a round begins, or the advancement has ended
abbrev pub after_doing : What → Restarting → Out Restarting
after_doing ToTurn c = begin_counting false c
after_doing ToShow c = begin_counting true c
after_doing ToSweep c = end_advancing c

-- one acknowledgement more; the last one brings what comes next
abbrev pub obeyed : What → Restarting → Out Restarting
obeyed what c = if one_more c.acks == c.nodes then after_doing what c else still (record c { acks = one_more c.acks })

abbrev pub same_what : What → What → Bool
same_what ToTurn ToTurn = true
same_what ToShow ToShow = true
same_what ToSweep ToSweep = true
same_what _ _ = false

-- an answer is to the order that nodes are doing
abbrev pub is_answer : ℕ → What → Version → What → Restarting → Bool
is_answer e what v doing c = (e == c.epoch) && (same_what what doing && (v.0 == (target doing c.ended).0))

-- the number of the last round before an epoch's first one
abbrev pub first_number : ℕ → ℕ
first_number epoch = min (epoch * 2 ^ 32) (2 ^ 64 - 1)

-- all but the number of nodes and the epoch is forgotten, and the next epoch begins
abbrev pub next_epoch : Restarting → Restarting
next_epoch c = record {
  nodes = c.nodes;
  epoch = one_more c.epoch;
  wanted = 0;
  ended = 0;
  phase = Recovering;
  acks = 0;
  count = start_count (first_number (one_more c.epoch));
  told = replicate c.nodes None;
  heard = None;
}

-- every node is asked for its numbers, and then the client how many advances it has sent
abbrev pub forget : Restarting → Out Restarting
forget c = record {
  state = next_epoch c;
  sent = to_nodes c.nodes (Ask (one_more c.epoch)) ++ to_client (Ask (one_more c.epoch)) c ∷ [];
  acts = [];
}

-- the least low version that was told, or the greatest number if none was
abbrev pub least_low : AllTold → ℕ
least_low [] = 2 ^ 64 - 1
least_low (None ∷ ts) = least_low ts
least_low (Some t ∷ ts) = min t.low.0 (least_low ts)

-- tests of what a node told: its low version isn't this number; it reads, or updates, this one
abbrev pub low_differs : ℕ → Option Told → Bool
low_differs f None = false
low_differs f (Some t) = not (t.low.0 == f)

abbrev pub read_is : ℕ → Option Told → Bool
read_is v None = false
read_is v (Some t) = t.read.0 == v

abbrev pub update_is : ℕ → Option Told → Bool
update_is v None = false
update_is v (Some t) = t.update.0 == v

-- if that many advancements are wanted and have ended, it goes on by what nodes told: with a sweep that some node has
-- done, else with a show that some has done, else with a turn that some has done or that is wanted
abbrev pub phase_by : AllTold → ℕ → ℕ → RestartPhase
phase_by ts wanted f =
    if list_any (low_differs f) ts then Doing ToSweep
    else if list_any (read_is (one_more f)) ts then Doing ToShow
    else if list_any (update_is (one_more (one_more f))) ts then Doing ToTurn else next_advance wanted f

-- it resumes by what nodes told, and what the client has sent is wanted
abbrev pub resume : ℕ → Restarting → Out Restarting
resume k c =
    enter_telling (phase_by c.told (max c.wanted k) (least_low c.told))
    (with_advances (max c.wanted k) (least_low c.told) c)

-- it resumes once it was told by each node and by the client
abbrev pub resume_if : Bool → Option ℕ → Restarting → Out Restarting
resume_if true (Some k) c = resume k c
resume_if _ _ c = still c

abbrev pub recover : Restarting → Out Restarting
recover c = resume_if (list_all is_some c.told) c.heard c

-- what a node told is kept in place of an earlier one, if the node has a place
abbrev pub with_told : ℕ → Told → Restarting → Restarting
with_told from t c = record c { told = slice_set c.told from (Some t) }

-- more advances are wanted
abbrev pub with_wanted : ℕ → Restarting → Restarting
with_wanted i c = record c { wanted = max c.wanted i }

-- the row of a message and a phase
abbrev pub restart_row_of : Body → RestartPhase → ℕ → Restarting → Out Restarting
restart_row_of Lose _ from c = forget c
restart_row_of (AdvanceNo i) Idle from c = enter (next_advance (max c.wanted i) c.ended) (with_wanted i c)
restart_row_of (AdvanceNo i) _ from c = still (with_wanted i c)
restart_row_of (Numbers e u r l) Recovering from c =
    if (e == c.epoch) && nat_lt from (length c.told)
    then recover (with_told from (record { update = u; read = r; low = l }) c) else still c
restart_row_of (Wanted e k) Recovering from c =
    if (e == c.epoch) && (from == c.nodes + 1) then recover (record c { heard = Some k }) else still c
restart_row_of (Obeyed e what v) (Doing doing) from c = if is_answer e what v doing c then obeyed doing c else still c
restart_row_of (DoneRow v k row) (Counting reads) from c = by_count reads (told_done from v k row c.count) c
restart_row_of (AskedRow v k row) (Counting reads) from c = by_count reads (told_asked from v k row c.count) c
restart_row_of Nudge (Counting reads) from c = by_count reads (told_nudge false c.count) c
restart_row_of Nudge (Paused reads) from c = by_count reads (told_nudge true c.count) c
restart_row_of _ _ from c = still c

-- what the coordinator does with a message of this sender and body
abbrev pub restarting_row : Restarting → ℕ → Body → Out Restarting
restarting_row c from body = restart_row_of body c.phase from c
