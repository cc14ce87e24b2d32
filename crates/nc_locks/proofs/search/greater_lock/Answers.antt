use Rattle.std.proofs.Common.{sym, ◌∙◌}
use Rattle.nc_locks.proofs.Ranges.{first_greater}
use Rattle.nc_locks.proofs.search.greater_lock.Goals as goal

pub returns-then-is_at_place_of : goal.returns-then-is_at_place_of
returns-then-is_at_place_of c =
    first_greater c.args.own c.args.locks.now.keys c.range.result c.in_ok-lock.lock.now c.next.new.self
    (c.range.ensures.in_range tt) c.in_ok-lock.ensures.steps (sym c.is_at_place_of.ensures ∙ c.if-is_at_place_of.true)
