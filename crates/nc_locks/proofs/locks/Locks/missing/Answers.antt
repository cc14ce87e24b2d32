use Rattle.std.proofs.Common.{sym, ◌∙◌}
use Rattle.nc_locks.specs.declared.modes.Mode.TheVariants.{Mark}
use Rattle.nc_locks.proofs.Loops.{missing_kept, missing_pushed}
use Rattle.nc_locks.proofs.locks.Locks.missing.Goals.{then-not-has+in_ok-push, else-not-has}
use Rattle.nc_locks.proofs.locks.Locks.missing.Goals as goal

pub loop-item-preserved : goal.loop-item-preserved
loop-item-preserved c =
    elim c.if-not-has.branch [
      | then-not-has+in_ok-push w ↦
          missing_pushed c.args.tree c.args.wanted.now c.loop-item.item-index (record { 0 = 0 }, Mark) c.args.self.now
          c.loop-item.missing.items c.if-not-has.missing.items c.loop-item-test.true c.loop-item.invariant
          (sym c.has.ensures ∙ w.if-not-has.true) (rw w.missing-is w.in_ok-push.ensures.items)
      | else-not-has w ↦
          missing_kept c.args.tree c.args.wanted.now c.loop-item.item-index (record { 0 = 0 }, Mark) c.args.self.now
          c.if-not-has.missing.items c.loop-item-test.true (rw w.missing-is c.loop-item.invariant)
          (sym c.has.ensures ∙ w.if-not-has.false)
    ]
