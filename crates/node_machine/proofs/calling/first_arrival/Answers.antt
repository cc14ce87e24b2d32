use Rattle.std.proofs.Common.{Option, ℕ, subst, sym}
use Rattle.std.specs.Prelude.{IfNone}
use Rattle.node_machine.specs.inside.Places.{HasNone}
use Rattle.node_machine.proofs.deferred.AllCalled.{has_none}
use Rattle.node_machine.proofs.calling.first_arrival.Goals as goal

pub returns-in_err-place-clause-none : goal.returns-in_err-place-clause-none
returns-in_err-place-clause-none c =
    let P : Option ℕ → Type 0 = λ r. IfNone r (HasNone c.args.key c.args.next c.args.places.now.keys) in
    subst P (sym c.from_residual.ensures)
    (has_none c.args.key c.args.next c.args.places.now.keys c.range.result (c.range.ensures.in_range tt)
    c.in_err-place.ensures.steps.0)
