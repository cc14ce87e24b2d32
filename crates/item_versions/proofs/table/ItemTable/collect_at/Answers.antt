use Rattle.std.proofs.Common.{◌<◌, length, ap, arith}
use Rattle.item_versions.specs.Table.{Table}
use Rattle.item_versions.proofs.Holding.{IsTable-collected_at}
use Rattle.item_versions.proofs.table.ItemTable.collect_at.Goals as goal

pub invariant_of-self : goal.invariant_of-self
invariant_of-self c =
    let within : c.args.place < length c.self.inside.entries.items =
    omega (arith, c.requires.within, ap (λ (t : Table). length t) c.self.view_is) in
    IsTable-collected_at c.self.inside.entries.items c.collect_entry.new.entries.items c.args.place c.args.f within
    c.self.invariant c.collect_entry.ensures
