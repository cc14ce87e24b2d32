use Rattle.std.proofs.Common.{[], ◌∷◌, ◌++◌}
use Rattle.history_merge.proofs.Recordings.{next_less, records_more}
use Rattle.history_merge.proofs.recorder.Recorder.advance.Goals as goal

pub loop-smaller : goal.loop-smaller
loop-smaller g c =
    let next = c.in_ok-record_next.ensures.next c.if-branch.true in
    next_less c.loop.self c.record_next.new.self next.0 next.1

pub loop-preserved : goal.loop-preserved
loop-preserved g c =
    let next = c.in_ok-record_next.ensures.next c.if-branch.true in
    let before = c.loop.invariant in
    (before.0 ++ next.0 ∷ [], records_more before.0 c.args.self.now c.loop.self c.record_next.new.self next.0 before.1 next.1)
