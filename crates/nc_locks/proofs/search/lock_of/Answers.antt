use Rattle.std.proofs.Common.{Option, subst, sym}
use Rattle.nc_locks.specs.declared.modes.Lock.{Lock}
use Rattle.nc_locks.specs.inside.Found.{IsLockOf}
use Rattle.nc_locks.proofs.Ranges.{no_lock, one_lock, other_tree}
use Rattle.nc_locks.proofs.search.lock_of.Goals as goal

pub returns-in_err-lock : goal.returns-in_err-lock
returns-in_err-lock c =
    let P : Option Lock → Type 0 = λ r. IsLockOf c.args.tree c.args.by_item.now.keys r in
    subst P (sym c.from_residual.ensures)
    (no_lock c.args.tree c.args.by_item.now.keys c.args.by_tree.now.keys c.range.result c.requires
    (c.range.ensures.in_range tt) c.in_err-lock.ensures.steps.0)

pub returns-else-lock-tree : goal.returns-else-lock-tree
returns-else-lock-tree c =
    other_tree c.args.tree c.args.by_item.now.keys c.args.by_tree.now.keys c.range.result c.in_ok-lock.lock.now
    c.next.new.self c.requires (c.range.ensures.in_range tt) c.in_ok-lock.ensures.steps c.if-lock-tree.false

pub returns-then-lock-tree : goal.returns-then-lock-tree
returns-then-lock-tree c =
    one_lock c.args.tree c.args.by_item.now.keys c.args.by_tree.now.keys c.range.result c.in_ok-lock.lock.now
    c.next.new.self c.requires (c.range.ensures.in_range tt) c.in_ok-lock.ensures.steps c.if-lock-tree.true
