use Rattle.std.proofs.Common.{◌==◌, ◌+◌, not, refl, sym, ◌∙◌, arith}
use Rattle.letter_types.specs.declared.entries.Letter.{Letter}
use Rattle.sim_runner.proofs.OldestPlaces.{found_none, found_there, none_more, none_yet}
use Rattle.sim_runner.proofs.pickers.oldest_for_other.Goals as goal

pub loop-place-init : goal.loop-place-init
loop-place-init c = none_yet (λ (x : Letter). not (x.to.0 == c.args.actor.0)) c.args.world.now.bag

pub loop-place-preserved : goal.loop-place-preserved
loop-place-preserved c =
    none_more (λ (x : Letter). not (x.to.0 == c.args.actor.0)) c.args.world.now.bag c.loop-place.place (c.loop-place.place + 1) c.letter.result.now c.loop-place.invariant c.letter.ensures
    (sym c.is_for_other.ensures ∙ c.if-is_for_other.false) refl

pub returns-then-is_for_other : goal.returns-then-is_for_other
returns-then-is_for_other c =
    sym (found_there (λ (x : Letter). not (x.to.0 == c.args.actor.0)) c.args.world.now.bag c.loop-place.place c.letter.result.now c.loop-place.invariant c.letter.ensures
    (sym c.is_for_other.ensures ∙ c.if-is_for_other.true))

pub returns : goal.returns
returns c =
    sym (found_none (λ (x : Letter). not (x.to.0 == c.args.actor.0)) c.args.world.now.bag c.loop-place.place c.loop-place.invariant
    (omega (arith, c.waiting-place-end.ensures, c.loop-place-test.false, c.loop-place.auto.place-end)))
