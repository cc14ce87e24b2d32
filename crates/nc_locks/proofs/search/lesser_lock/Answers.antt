use Rattle.nc_locks.proofs.Ranges.{first_lesser}
use Rattle.nc_locks.proofs.search.lesser_lock.Goals as goal

pub returns : goal.returns
returns c =
    first_lesser c.args.own c.args.locks.now.keys c.range.result c.in_ok-lock.lock.now c.next.new.self
    (c.range.ensures.in_range tt) c.in_ok-lock.ensures.steps
