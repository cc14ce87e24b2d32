use Rattle.std.proofs.Common.{subst, true, false}
use Rattle.nc_locks.specs.declared.owned.Owned.{Owned}
use Rattle.nc_locks.proofs.Mirrors.{Owned-set, mirrored-back, mirrored-set}
use Rattle.nc_locks.proofs.search.add.Goals as goal

pub returns-in-Err-clause-kept : goal.returns-in-Err-clause-kept
returns-in-Err-clause-kept c =
    let P : Owned → Type 0 = λ o. Owned-set o true c.args.by_tree.now.keys c.insert.new.self.keys in
    let Q : Owned → Type 0 = λ o. Owned-set o false c.insert.new.self.keys c.remove.new.self.keys in
    record {
      ascending = c.insert-2.ensures.ordered;
      mirrored =
          mirrored-back c.args.lock c.args.by_item.now.keys c.insert-2.new.self.keys c.args.by_tree.now.keys
          c.insert.new.self.keys c.remove.new.self.keys c.requires.mirrored c.in-Err.ensures.absent c.in-Err.ensures.err
          (subst P c.of.ensures c.in_ok-insert.ensures.updates.0)
          (subst Q c.of-in-Err.ensures c.remove.ensures.updates.0);
    }

pub returns-in-Ok-clause-kept : goal.returns-in-Ok-clause-kept
returns-in-Ok-clause-kept c =
    let P : Owned → Type 0 = λ o. Owned-set o true c.args.by_tree.now.keys c.insert.new.self.keys in
    record {
      ascending = c.insert-2.ensures.ordered;
      mirrored =
          mirrored-set c.args.lock true c.args.by_item.now.keys c.insert-2.new.self.keys c.args.by_tree.now.keys
          c.insert.new.self.keys c.requires.mirrored c.in-Ok.ensures.updates.0
          (subst P c.of.ensures c.in_ok-insert.ensures.updates.0);
    }
