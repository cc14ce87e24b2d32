use Rattle.std.proofs.Common.{subst, false}
use Rattle.nc_locks.specs.declared.owned.Owned.{Owned}
use Rattle.nc_locks.proofs.Mirrors.{Owned-set, mirrored-set}
use Rattle.nc_locks.proofs.search.take_away.Goals as goal

pub returns-clause-kept : goal.returns-clause-kept
returns-clause-kept c =
    let P : Owned → Type 0 = λ o. Owned-set o false c.args.by_tree.now.keys c.remove-2.new.self.keys in
    record {
      ascending = c.remove.ensures.ordered;
      mirrored =
          mirrored-set c.args.lock false c.args.by_item.now.keys c.remove.new.self.keys c.args.by_tree.now.keys
          c.remove-2.new.self.keys c.requires.mirrored c.remove.ensures.updates.0
          (subst P c.of.ensures c.remove-2.ensures.updates.0);
    }
