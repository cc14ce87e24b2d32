use Rattle.std.proofs.Common.{List, refl, subst}
use Rattle.std.proofs.lemmas.List.{take_all}
use Rattle.nc_locks.specs.declared.modes.Lock.{Lock}
use Rattle.nc_locks.specs.Locks.{AreLocks}
use Rattle.nc_locks.specs.inside.Found.{AreAdded}
use Rattle.nc_locks.proofs.Loops.{added_more, added_some, any_err}
use Rattle.nc_locks.proofs.locks.Locks.add_all.Goals as goal

pub loop-lock-init : goal.loop-lock-init
loop-lock-init c =
    let P : List Lock → Type 0 = λ ls. AreLocks ls in
    record { at = λ l. refl; ascending = subst P c.self.view_is c.self.invariant.ascending }

pub returns-in_err-add-clause-err : goal.returns-in_err-add-clause-err
returns-in_err-add-clause-err c =
    any_err c.from_residual.result
    (added_some c.args.locks.now c.loop-lock.lock-index c.args.self.now c.loop-lock.self c.add.new.self
    c.loop-lock.invariant c.in_err-add.ensures.err)

pub loop-lock-preserved : goal.loop-lock-preserved
loop-lock-preserved c =
    added_more c.args.locks.now c.loop-lock.lock-index _ c.args.self.now c.loop-lock.self c.add.new.self
    c.loop-lock-test.true c.loop-lock.invariant c.in_ok-add.ensures.ok

pub returns-clause-ok : goal.returns-clause-ok
returns-clause-ok c =
    let P : List Lock → Type 0 = λ xs. AreAdded xs c.args.self.now c.loop-lock.self in
    subst P (take_all c.loop-lock.lock-index c.args.locks.now c.loop-lock-test.false) c.loop-lock.invariant
