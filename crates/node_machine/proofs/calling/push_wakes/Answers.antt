use Rattle.std.proofs.Common.{List, ap, ◌∙◌, ◌++◌}
use Rattle.letter_types.specs.declared.entries.Outgoing.{Outgoing}
use Rattle.node_machine.proofs.deferred.AllCalled.{wakes_found}
use Rattle.node_machine.proofs.calling.push_wakes.Goals as goal

pub loop-place-init : goal.loop-place-init
loop-place-init c = (
  ap (λ (ls : List Outgoing). c.args.sent.now ++ ls)
      (wakes_found c.args.key c.args.next c.args.letters.now.entries c.args.places.now.keys
      c.into_iter-place-iterator.result c.requires.kept c.requires.reason
      (c.into_iter-place-iterator.ensures.into_iter_gives ∙ c.range-place-items.ensures.between tt)),
  tt,
  tt,
)
