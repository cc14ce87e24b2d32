use Rattle.std.proofs.Common.{arith}
use Rattle.std.proofs.lemmas.List.{length-take}
use Rattle.tv_base.proofs.Pieces.{has_taken}
use Rattle.tv_base.proofs.moving.read_all.Goals as goal

pub returns-then-count-room-clause-taken : goal.returns-then-count-room-clause-taken
returns-then-count-room-clause-taken g c =
    let asked = length-take c.min-asked.result c.loop-count.chunk in
    has_taken _ _ _ _ _ _ _ c.loop-count.invariant.so_far c.in-Got.ensures.step.2 (omega (arith, c.loop-count.invariant.within, c.read.auto.buf, c.min-asked.ensures, asked))

pub returns-in_err-extend_from_slice-in-Got-clause-taken : goal.returns-in_err-extend_from_slice-in-Got-clause-taken
returns-in_err-extend_from_slice-in-Got-clause-taken g c =
    let asked = length-take c.min-asked.result c.loop-count.chunk in
    has_taken _ _ _ _ _ _ _ c.loop-count.invariant.so_far c.in-Got.ensures.step.2 (omega (arith, c.loop-count.invariant.within, c.read.auto.buf, c.min-asked.ensures, asked))
