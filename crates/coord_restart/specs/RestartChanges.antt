-- How the coordinator changes in a step that is prepared, and when it may.
use Rattle.std.specs.Prelude.{ℕ, Bool, ◌≡◌, ◌<◌, ⊤, length, max, Some}
use Rattle.tv_base.specs.Outside.{one_more}
use Rattle.phase_out.specs.Counts.{MayKeep, count_with, count_begun, nudged}
use Rattle.letter_types.specs.declared.bodies.Body.{Body}
use Rattle.letter_types.specs.Steps.{Out, made}
use Rattle.world_model.specs.Restarting.{AllTold, Restarting, by_counted, enter, in_restart_phase, least_low, next_advance, next_epoch, phase_by, restart_row_of, with_advances, with_told, with_wanted}
use Rattle.world_model.specs.declared.restarting.RestartPhase.{RestartPhase}
use Rattle.world_model.specs.declared.restarting.RestartPhase.TheVariants.{Counting}
use Rattle.advance_coord.specs.declared.rounds.RowTaken.{RowTaken}
use Rattle.coord_restart.specs.declared.change.Taken.{Taken}
use Rattle.coord_restart.specs.declared.change.Taken.TheVariants.{Nothing, Row, Nudge, Numbers, Sent}
use Rattle.coord_restart.specs.declared.change.Onward.{Onward}
use Rattle.coord_restart.specs.declared.change.RestartNext.{RestartNext}
use Rattle.coord_restart.specs.declared.change.RestartNext.TheVariants.{Stay, Want, Acknowledge, Begin, Count, GoOn, Forget}
use Rattle.coord_restart.specs.declared.change.RestartChange.{RestartChange}
use Rattle.coord_restart.specs.declared.change.RestartPrepared.{RestartPrepared}

-- the coordinator with what it keeps of a message
abbrev pub with_taken : Taken → Restarting → Restarting
with_taken Nothing c = c
with_taken (Row row) c = record c { count = count_with row c.count }
with_taken Nudge c = record c { count = nudged c.count }
with_taken (Numbers from t) c = with_told from.0 t c
with_taken (Sent k) c = record c { heard = Some k }

-- the same, once as many advances are wanted and have ended as when it goes on so
abbrev pub caught_up : Taken → Onward → Restarting → Restarting
caught_up taken onward c = with_advances onward.wanted onward.ended (with_taken taken c)

-- how it goes on by what nodes told, if this many advances are wanted
abbrev pub onward : ℕ → AllTold → Onward
onward wanted ts =
    record { wanted = wanted; ended = least_low ts; phase = phase_by ts wanted (least_low ts) }

-- advances up to a number are wanted, in phase idle
abbrev pub begin_wanted : ℕ → Restarting → Out Restarting
begin_wanted advance c = enter (next_advance (max c.wanted advance) c.ended) (with_wanted advance c)

-- what the count asks for, once the row is kept
abbrev pub after_row_kept : Bool → RowTaken → Restarting → Out Restarting
after_row_kept reads taken c = by_counted reads taken.counted (with_taken (Row taken.row) c)

-- it may keep that
abbrev pub MayTakeUp : Taken → Restarting → Type 0
MayTakeUp (Row row) c = MayKeep row c.count.current
MayTakeUp (Numbers from t) c = from.0 < length c.told
MayTakeUp _ c = ⊤

-- the coordinator after what comes next
abbrev pub after_restart_next : RestartNext → Restarting → Restarting
after_restart_next Stay c = c
after_restart_next (Want wanted) c = record c { wanted = wanted }
after_restart_next Acknowledge c = record c { acks = one_more c.acks }
after_restart_next (Begin phase) c = in_restart_phase phase c
after_restart_next (Count reads round) c = in_restart_phase (Counting reads) (record c { count = count_begun round })
after_restart_next (GoOn o) c = in_restart_phase o.phase (with_advances o.wanted o.ended c)
after_restart_next (Forget count told) c = record (next_epoch c) { count = count; told = told }

-- the coordinator after a step
abbrev pub after_restart_change : RestartChange → Restarting → Restarting
after_restart_change change c = after_restart_next change.next (with_taken change.taken c)

-- a step that is prepared is this row of the coordinator, and the coordinator may do it
pub record IsRestartStepOf (o : Out Restarting) (c : Restarting) (p : RestartPrepared) : Type 0 where
  pub row : made (after_restart_change p.change c) p.out ≡ o
  pub may : MayTakeUp p.change.taken c

-- a step that is prepared is the row of this body, from this actor, in this phase
abbrev pub IsRestartRow : Body → RestartPhase → ℕ → Restarting → RestartPrepared → Type 0
IsRestartRow body phase from c p = IsRestartStepOf (restart_row_of body phase from c) c p
