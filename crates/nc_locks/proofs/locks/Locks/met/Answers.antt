use Rattle.std.proofs.Common.{refl, ap, sym, ◌∙◌}
use Rattle.std.proofs.lemmas.List.{drop_all}
use Rattle.nc_locks.specs.Locks.{Wanted, met_in}
use Rattle.nc_locks.proofs.Loops.{met_found, met_passed}
use Rattle.nc_locks.proofs.locks.Locks.met.Goals as goal

pub loop-item-init : goal.loop-item-init
loop-item-init c = refl

pub returns-in-Some-clause-met : goal.returns-in-Some-clause-met
returns-in-Some-clause-met c =
    met_found c.args.tree c.args.wanted.now c.loop-item.item-index _ c.args.self.now c.in_way.result c.in-Some.lock
    c.loop-item-test.true c.in_way.ensures c.in-Some.is c.loop-item.invariant

pub loop-item-preserved : goal.loop-item-preserved
loop-item-preserved c =
    met_passed c.args.tree c.args.wanted.now c.loop-item.item-index _ c.args.self.now c.in_way.result
    c.loop-item-test.true c.in_way.ensures c.in_default.is c.loop-item.invariant

pub returns-clause-met : goal.returns-clause-met
returns-clause-met c =
    sym (c.loop-item.invariant
    ∙ ap (λ (ws : Wanted). met_in c.args.tree ws c.args.self.now)
    (drop_all c.loop-item.item-index c.args.wanted.now c.loop-item-test.false))
