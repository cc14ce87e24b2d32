use Rattle.std.proofs.Common.{Option, ap, sym, ◌∙◌}
use Rattle.nc_locks.specs.declared.modes.Lock.{Lock}
use Rattle.nc_locks.specs.declared.modes.Mode.{Mode}
use Rattle.nc_locks.specs.Locks.{first_of, first_where, is_in_way}
use Rattle.nc_locks.proofs.Firsts.{way_of_hold, way_of_look, way_of_mark}
use Rattle.nc_locks.proofs.locks.Locks.in_way.Goals as goal

pub returns-in-Mark : goal.returns-in-Mark
returns-in-Mark c =
    let way : Mode → Option Lock = λ m. first_where (is_in_way c.args.tree c.args.item m) c.args.self.now in
    c.first_of.ensures
    ∙ way_of_mark c.args.tree c.args.item c.args.self.now c.other.result c.other-in-Mark.result c.other.ensures
    c.other-in-Mark.ensures
    ∙ sym (ap way c.in-Mark.is)

pub returns-in-Look : goal.returns-in-Look
returns-in-Look c =
    let way : Mode → Option Lock = λ m. first_where (is_in_way c.args.tree c.args.item m) c.args.self.now in
    c.first_of-in-Look.ensures
    ∙ way_of_look c.args.tree c.args.item c.args.self.now c.other-in-Look.result c.other-in-Look-2.result
    c.other-in-Look.ensures c.other-in-Look-2.ensures
    ∙ sym (ap way c.in-Look.is)

pub returns-in-Hold : goal.returns-in-Hold
returns-in-Hold c =
    let way : Mode → Option Lock = λ m. first_where (is_in_way c.args.tree c.args.item m) c.args.self.now in
    c.first_of-in-Hold-2.ensures
    ∙ ap (λ (r : Option Lock). first_of c.other-in-Hold.result r) c.first_of-in-Hold.ensures
    ∙ way_of_hold c.args.tree c.args.item c.args.self.now c.other-in-Hold.result c.other-in-Hold-2.result
    c.other-in-Hold-3.result c.other-in-Hold.ensures c.other-in-Hold-2.ensures c.other-in-Hold-3.ensures
    ∙ sym (ap way c.in-Hold.is)
