-- How the coordinator changes in a step that is prepared, and when it may.
use Rattle.std.specs.Prelude.{◌≡◌, Bool}
use Rattle.tv_base.specs.Outside.{one_more}
use Rattle.phase_out.specs.declared.count.RowChange.{RowChange}
use Rattle.phase_out.specs.Counts.{count_begun, count_with, nudged}
pub use Rattle.phase_out.specs.Counts.{MayKeep}
use Rattle.letter_types.specs.declared.bodies.Body.TheVariants.{Turn}
use Rattle.letter_types.specs.Steps.{Out, made}
use Rattle.world_model.specs.Coordinator.{Coordinator, as_counted, begin_phase, in_phase, version, with_next}
use Rattle.world_model.specs.declared.phase.Phase.TheVariants.{Counting, Turning}
use Rattle.advance_coord.specs.declared.change.Next.{Next}
use Rattle.advance_coord.specs.declared.change.Next.TheVariants.{Stay, Wait, Nudge, Acknowledge, Begin, Count, GoOn}
use Rattle.advance_coord.specs.declared.change.CoordinatorChange.{CoordinatorChange}
use Rattle.advance_coord.specs.declared.change.CoordinatorPrepared.{CoordinatorPrepared}
use Rattle.advance_coord.specs.declared.rounds.RowTaken.{RowTaken}

-- the coordinator with the row
abbrev pub with_kept_row : RowChange → Coordinator → Coordinator
with_kept_row row c = record c { count = count_with row c.count }

-- the coordinator after what comes next
abbrev pub after_next_phase : Next → Coordinator → Coordinator
after_next_phase Stay c = c
after_next_phase Wait c = record c { waits = one_more c.waits }
after_next_phase Nudge c = record c { count = nudged c.count }
after_next_phase Acknowledge c = record c { acks = one_more c.acks }
after_next_phase (Begin phase) c = in_phase phase c
after_next_phase (Count reads round) c = in_phase (Counting reads) (record c { count = count_begun round })
after_next_phase (GoOn phase waits) c = with_next phase waits c

-- the coordinator after a step
abbrev pub after_coordinator_change : CoordinatorChange → Coordinator → Coordinator
after_coordinator_change change c = after_next_phase change.next (with_kept_row change.row c)

-- an advancement begins: every node is to turn
abbrev pub begin_turning : Coordinator → Out Coordinator
begin_turning c = begin_phase Turning (Turn (version (one_more c.update))) c

-- what the count asks for, once the row is kept
abbrev pub after_row_taken : Bool → RowTaken → Coordinator → Out Coordinator
after_row_taken reads taken c = as_counted reads taken.counted (with_kept_row taken.row c)

-- the coordinator may do it
abbrev pub CoordinatorMayDo : CoordinatorChange → Coordinator → Type 0
CoordinatorMayDo change c = MayKeep change.row c.count.current

-- a step that is prepared is this row of the coordinator, and the coordinator may do it
pub record IsCoordinatorStepOf (o : Out Coordinator) (c : Coordinator) (p : CoordinatorPrepared) : Type 0 where
  pub row : made (after_coordinator_change p.change c) p.out ≡ o
  pub may : CoordinatorMayDo p.change c
