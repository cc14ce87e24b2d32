use Rattle.std.proofs.Common.{List, refl, subst}
use Rattle.std.proofs.lemmas.List.{take_all}
use Rattle.nc_locks.specs.declared.modes.Lock.{Lock}
use Rattle.nc_locks.specs.Locks.{AreLocks}
use Rattle.nc_locks.specs.inside.Found.{AreTaken}
use Rattle.nc_locks.proofs.Loops.{taken_more}
use Rattle.nc_locks.proofs.locks.Locks.take_all.Goals as goal

pub loop-lock-init : goal.loop-lock-init
loop-lock-init c =
    let P : List Lock → Type 0 = λ ls. AreLocks ls in
    record { at = λ l. refl; ascending = subst P c.self.view_is c.self.invariant.ascending }

pub loop-lock-preserved : goal.loop-lock-preserved
loop-lock-preserved c =
    taken_more c.args.locks.now c.loop-lock.lock-index _ c.args.self.now c.loop-lock.self c.take_away.new.self
    c.loop-lock-test.true c.loop-lock.invariant c.take_away.ensures.gone

pub returns : goal.returns
returns c =
    let P : List Lock → Type 0 = λ xs. AreTaken xs c.args.self.now c.loop-lock.self in
    subst P (take_all c.loop-lock.lock-index c.args.locks.now c.loop-lock-test.false) c.loop-lock.invariant
