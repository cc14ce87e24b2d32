use Rattle.std.proofs.Common.{sym, ◌∙◌}
use Rattle.node_machine.specs.inside.Arrivals.{called_at}
use Rattle.node_machine.proofs.deferred.FirstCalledFound.{called_found, ended, passed, stopped}
use Rattle.node_machine.proofs.arrivals.called.Goals as goal

pub loop-place-init : goal.loop-place-init
loop-place-init c = (
  called_found c.args.tree c.args.sub c.args.next c.args.letters.now.entries c.args.places.now.keys
      c.into_iter-place-iterator.result c.requires
      (c.into_iter-place-iterator.ensures.into_iter_gives ∙ c.range-place-items.ensures.between tt),
  tt,
  tt,
)

pub returns-then-is_called : goal.returns-then-is_called
returns-then-is_called c =
    stopped c.args.letters.now.entries c.in-Some.place.now c.next.new.self c.loop-place.place-iterator
    (called_at c.args.tree c.args.sub c.args.letters.now.entries) c.loop-place.invariant.0 c.in-Some.ensures.steps
    (sym c.is_called.ensures ∙ c.if-is_called.true)

pub loop-place-preserved : goal.loop-place-preserved
loop-place-preserved c = (
  passed c.args.letters.now.entries c.in-Some.place.now c.next.new.self c.loop-place.place-iterator
      (called_at c.args.tree c.args.sub c.args.letters.now.entries) c.loop-place.invariant.0 c.in-Some.ensures.steps
      (sym c.is_called.ensures ∙ c.if-is_called.false),
  tt,
  tt,
)

pub returns : goal.returns
returns c =
    sym (ended c.args.letters.now.entries c.loop-place.place-iterator
    (called_at c.args.tree c.args.sub c.args.letters.now.entries) c.loop-place.invariant.0 c.in-None.ensures.steps.0)
