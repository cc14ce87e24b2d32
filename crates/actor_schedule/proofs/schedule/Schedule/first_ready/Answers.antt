use Rattle.std.proofs.Common.{◌≡◌, ◌∙◌, sym, arith, ℕ, ◌+◌, ◌-◌, ◌%◌, ◌<◌, true, false}
use Rattle.actor_schedule.specs.Schedules.{is_for_worker, may_be_given}
use Rattle.actor_schedule.proofs.Turns.{passed_over, comes_first, last_served, else_nobody, any_meant}
use Rattle.actor_schedule.proofs.schedule.Schedule.first_ready.Goals as goal
use Rattle.actor_schedule.proofs.schedule.Schedule.first_ready.Goals.{in-Some+then-server-worker, in-Some+else-server-worker, in-None, else-is_meant-via-then-is_meant+else-self-actor, else-is_meant-via-else-is_meant}

pub returns-then-self-actor-clause-first : goal.returns-then-self-actor-clause-first
returns-then-self-actor-clause-first c =
    let s = c.args.self.now in
    let place : ℕ = c.args.from + c.loop-later.later in
    let actor : ℕ = place % c.args.actors in
    let left : 0 < c.args.actors - c.loop-later.later = omega arith in
    let meant : is_for_worker s c.args.worker actor ≡ c.match-worker.is_meant = elim c.match-worker.branch [
      | in-Some+then-server-worker w ↦ last_served s c.args.worker w.in-Some.worker actor (cc) w.if-server-worker.true ∙ sym w.is_meant-is
      | in-Some+else-server-worker w ↦ else_nobody s c.args.worker w.in-Some.worker actor (cc) w.if-server-worker.false ∙ sym w.is_meant-is
      | in-None w ↦ any_meant s c.args.worker actor (cc) ∙ sym w.is_meant-is
    ] in
    let passes : may_be_given s c.args.worker actor ≡ true = rw (meant, c.if-is_meant.true) c.if-self-actor.true in
    sym (c.loop-later.invariant.among
    ∙ comes_first (may_be_given s c.args.worker) c.args.actors place (c.args.actors - c.loop-later.later) left passes)

pub loop-later-preserved : goal.loop-later-preserved
loop-later-preserved c = record {
  among =
      let s = c.args.self.now in
      let place : ℕ = c.args.from + c.loop-later.later in
      let actor : ℕ = place % c.args.actors in
      let left : 0 < c.args.actors - c.loop-later.later = omega arith in
      let meant : is_for_worker s c.args.worker actor ≡ c.match-worker.is_meant = elim c.match-worker.branch [
        | in-Some+then-server-worker w ↦ last_served s c.args.worker w.in-Some.worker actor (cc) w.if-server-worker.true ∙ sym w.is_meant-is
        | in-Some+else-server-worker w ↦ else_nobody s c.args.worker w.in-Some.worker actor (cc) w.if-server-worker.false ∙ sym w.is_meant-is
        | in-None w ↦ any_meant s c.args.worker actor (cc) ∙ sym w.is_meant-is
      ] in
      let fails : may_be_given s c.args.worker actor ≡ false = elim c.else-is_meant.branch [
        | else-is_meant-via-then-is_meant+else-self-actor w ↦ rw (meant, w.if-is_meant.true) w.if-self-actor.false
        | else-is_meant-via-else-is_meant w ↦ rw (meant, w.if-is_meant.false)
      ] in
      let fewer : c.args.actors - c.loop-later.later - 1 ≡ c.args.actors - (c.loop-later.later + 1) = omega arith in
      let on : place + 1 ≡ c.args.from + (c.loop-later.later + 1) = omega arith in
      c.loop-later.invariant.among
      ∙ rw (← fewer, ← on)
      (passed_over (may_be_given s c.args.worker) c.args.actors place (c.args.actors - c.loop-later.later) left fails);
  worker = elim c.match-worker.branch [
    | in-Some+then-server-worker w ↦ cc
    | in-Some+else-server-worker w ↦ cc
    | in-None w ↦ cc
  ];
}

pub returns-clause-first : goal.returns-clause-first
returns-clause-first c =
    let none : c.args.actors - c.loop-later.later ≡ 0 = omega arith in
    sym (rw none at c.loop-later.invariant.among)
