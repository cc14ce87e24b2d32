use Rattle.std.proofs.Common.{arith, length, drop, ◌-◌, length-drop}
use Rattle.std.proofs.lemmas.List.{length-take}
use Rattle.tv_base.proofs.Pieces.{appends_more}
use Rattle.tv_base.proofs.moving.write_all.Goals as goal

pub loop-done-preserved : goal.loop-done-preserved
loop-done-preserved g c = record {
  within = omega (arith, c.in-Took.ensures.step.1, length-take (length c.args.text.now - c.loop-done.done) (drop c.loop-done.done c.args.text.now), length-drop c.loop-done.done c.args.text.now);
  so_far = appends_more _ _ _ _ _ _ c.loop-done.invariant.so_far c.in-Took.ensures.step.2;
  later = omega (arith, c.in-Took.ensures.later);
}
