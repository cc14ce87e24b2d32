use Rattle.std.proofs.Common.{◌+◌, not, refl, sym, ◌∙◌, arith}
use Rattle.letter_types.specs.declared.entries.Letter.{Letter}
use Rattle.letter_types.specs.Letters.{same_id}
use Rattle.sim_runner.proofs.OldestPlaces.{found_none, found_there, none_more, none_yet}
use Rattle.sim_runner.proofs.pickers.oldest_of_other.Goals as goal

pub loop-place-init : goal.loop-place-init
loop-place-init c = none_yet (λ (x : Letter). not (same_id c.args.id x.id)) c.args.world.now.bag

pub loop-place-preserved : goal.loop-place-preserved
loop-place-preserved c =
    none_more (λ (x : Letter). not (same_id c.args.id x.id)) c.args.world.now.bag c.loop-place.place (c.loop-place.place + 1) c.letter.result.now c.loop-place.invariant c.letter.ensures
    (sym c.has_other_id.ensures ∙ c.if-has_other_id.false) refl

pub returns-then-has_other_id : goal.returns-then-has_other_id
returns-then-has_other_id c =
    sym (found_there (λ (x : Letter). not (same_id c.args.id x.id)) c.args.world.now.bag c.loop-place.place c.letter.result.now c.loop-place.invariant c.letter.ensures
    (sym c.has_other_id.ensures ∙ c.if-has_other_id.true))

pub returns : goal.returns
returns c =
    sym (found_none (λ (x : Letter). not (same_id c.args.id x.id)) c.args.world.now.bag c.loop-place.place c.loop-place.invariant
    (omega (arith, c.waiting-place-end.ensures, c.loop-place-test.false, c.loop-place.auto.place-end)))
