use Rattle.std.proofs.Common.{List, subst, ◌∙◌}
use Rattle.nc_locks.specs.declared.modes.Lock.{Lock}
use Rattle.nc_locks.specs.inside.Found.{AreAdded, AreTaken, OthersStay}
use Rattle.nc_locks.proofs.Members.{taken_all, undone}
use Rattle.nc_locks.proofs.locks.Locks.take.Goals as goal

pub returns-in-Ok-clause-ok : goal.returns-in-Ok-clause-ok
returns-in-Ok-clause-ok c =
    let P : List Lock → Type 0 = λ more. AreAdded more c.args.self.now c.add_all.new.self in
    taken_all c.args.tree c.args.wanted.now c.args.self.now c.add_all.new.self c.in_ok-missing.ensures.ascending
    (subst P (c.deref.ensures.value ∙ c.in_ok-missing.ensures.missing) c.in-Ok.ensures.ok)

pub returns-clause-err : goal.returns-clause-err
returns-clause-err c =
    let P : List Lock → Type 0 = λ more. OthersStay more c.args.self.now c.add_all.new.self in
    let Q : List Lock → Type 0 = λ gone. AreTaken gone c.add_all.new.self c.take_all.new.self in
    undone c.args.tree c.args.wanted.now c.args.self.now c.add_all.new.self c.take_all.new.self
    c.in_ok-missing.ensures.ascending
    (subst P (c.deref.ensures.value ∙ c.in_ok-missing.ensures.missing) c.in-Err.ensures.err)
    (subst Q (c.deref-in-Err.ensures.value ∙ c.in_ok-missing.ensures.missing) c.take_all.ensures)
