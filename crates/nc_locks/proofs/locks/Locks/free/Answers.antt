use Rattle.std.proofs.Common.{List, refl, subst}
use Rattle.nc_locks.specs.declared.modes.Lock.{Lock}
use Rattle.nc_locks.specs.Locks.{AreLocks}
use Rattle.nc_locks.proofs.Loops.{freed_all, freed_more}
use Rattle.nc_locks.proofs.locks.Locks.free.Goals as goal

pub loop-lock-init : goal.loop-lock-init
loop-lock-init c =
    let P : List Lock → Type 0 = λ ls. AreLocks ls in
    record { at = λ l other. refl; ascending = subst P c.self.view_is c.self.invariant.ascending }

pub loop-lock-smaller : goal.loop-lock-smaller
loop-lock-smaller c = c.take_away.ensures.fewer c.in-Some.ensures.0

pub loop-lock-preserved : goal.loop-lock-preserved
loop-lock-preserved c =
    freed_more c.args.tree c.in-Some.lock c.args.self.now c.loop-lock.self c.take_away.new.self c.loop-lock.invariant
    c.in-Some.ensures.1 c.take_away.ensures.gone

pub returns : goal.returns
returns c =
    let P : List Lock → Type 0 = λ ls. AreLocks ls in
    freed_all c.args.tree c.args.self.now c.loop-lock.self (subst P c.self.view_is c.self.invariant.ascending)
    c.loop-lock.invariant c.in_default.ensures
