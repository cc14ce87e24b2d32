use Rattle.std.proofs.Common.{◌∙◌, ap, ℤ, rules, get_or}
use Rattle.std.specs.Int.{w128}
use Rattle.std.specs.Prelude.{FitsSigned, pos}
use Rattle.std.proofs.lemmas.Int.{to_z-of_z}
use Rattle.commute_ops.specs.declared.kinds.Op.TheVariants.{Put}
use Rattle.commute_ops.specs.Ops.{applied}
use Rattle.worth_steps.proofs.Bagged.{filled_all, put_hidden, put_shown}
use Rattle.worth_steps.proofs.puts.bag_at.Goals as goal
use Rattle.worth_steps.proofs.puts.bag_at.Goals.{then-put-version+in_ok-bag, else-put-version}

pub loop-put-preserved : goal.loop-put-preserved
loop-put-preserved c =
    let v = c.args.version.0 in
    let ps = c.args.puts.now in
    let i = c.loop-put.put-index in
    elim c.if-put-version.branch [
      | then-put-version+in_ok-bag w ↦
          let number : ℤ = (get_or ps i (record { number = pos 0; version = record { 0 = 0 } })).number in
          let fits : FitsSigned w128 number = search rules in
          let back = ap (λ (n : ℤ). applied c.loop-put.bag (Put n)) (to_z-of_z w128 number fits) in
          put_shown v ps i _ c.loop-put.bag c.if-put-version.bag c.loop-put-test.true w.if-put-version.true c.loop-put.invariant
          (w.bag-is ∙ w.in_ok-bag.ensures.applied ∙ back)
      | else-put-version w ↦
          w.bag-is ∙ put_hidden v ps i _ c.loop-put.bag c.loop-put-test.true w.if-put-version.false c.loop-put.invariant
    ]

pub returns : goal.returns
returns c = λ up. filled_all c.args.version.0 c.args.puts.now c.loop-put.put-index c.loop-put.bag up c.loop-put-test.false c.loop-put.invariant
