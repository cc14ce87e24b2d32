use Rattle.std.proofs.Common.{length, sym, ap, ◌∙◌}
use Rattle.history_merge.specs.OwnLogs.{LogData}
use Rattle.history_merge.proofs.OneMore.{entries_count}
use Rattle.history_merge.proofs.own_log.OwnLog.count.Goals as goal

pub returns : goal.returns
returns g c =
    sym c.self.invariant.1 ∙ sym (entries_count g.K.ClusterName.script c.self.inside.number c.self.inside.seat.own)
    ∙ ap (λ (x : LogData). length x.entries) c.self.view_is
