use Rattle.letter_types.specs.declared.bodies.Notice.TheVariants.{Did}
use Rattle.read_step.proofs.WasRead.{read_face}
use Rattle.read_step.proofs.public.run_read.Goals as goal

pub returns-clause-row : goal.returns-clause-row
returns-clause-row c =
    let l = c.args.letter.now in
    let got = rw c.in-Some.is at c.in_ok-values.ensures.values in
    read_face c.args.script.now l.to.0 l.from.0 l.body c.args.turns.now c.args.items.now c.args.counters.now c.args.homes.now
    c.asked_version-version.result c.asked_ops.result.now (Did c.in-Some.values)
    c.step_read-step.new.node c.step_read-step.result
    c.asked_version-version.ensures c.asked_ops.ensures (rw c.in-Some.is at c.in_ok-values.ensures.can)
    (λ i. record { items = c.args.items.now; notice = Did (got i) })
    (rw (c.new.ensures, c.replace.ensures.value, c.replace-2.ensures.value) at c.step_read-step.ensures.row)
