use Rattle.std.proofs.Common.{◌+◌, ◌-◌, take, drop, arith, ◌∙◌, ap, List, ℕ}
use Rattle.tv_base.proofs.Pieces.{gave}
use Rattle.tv_base.proofs.memory.MemSourceSource.read.Goals as goal

pub returns-clause-step : goal.returns-clause-step
returns-clause-step c =
    let at = c.self.inside.at in
    let n = c.min-count.result in
    let bytes = c.self.inside.bytes.items in
    let back_is = c.copy_from_slice.ensures.after ∙ ap (λ (x : List ℕ). take (at + n - at) (drop at x)) c.deref-2.ensures.value in
    let some = c.self.invariant.some in
    let g = gave bytes c.args.buf.now c.copy_from_slice.new.self at n (omega (arith, c.min.ensures, c.min-count.ensures)) (omega (arith, c.min-count.ensures)) back_is in
    (omega (arith, c.min.ensures, c.min-count.ensures, some), g.0, rw (← c.self.view_is) g.1)
