use Rattle.std.proofs.Common.{◌∙◌, subst}
use Rattle.std.specs.Prelude.{IsNone, Option}
use Rattle.stamp_post.specs.Shown.{EnvelopeData}
use Rattle.actor_schedule.proofs.Hands.{nothing_behind}
use Rattle.actor_schedule.proofs.dispatch.Dispatch.take.Goals as goal

pub returns-clause-none : goal.returns-clause-none
returns-clause-none c = λ d none.
    let took = d.take_into.ensures in
    took.hand ∙ nothing_behind d.deref_mut.result.now (subst (λ (o : Option EnvelopeData). IsNone o) took.taken none)
