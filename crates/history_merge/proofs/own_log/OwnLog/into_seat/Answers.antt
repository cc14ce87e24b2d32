use Rattle.std.proofs.Common.{List, None, sym, ap, ◌∙◌, subst}
use Rattle.letter_types.specs.declared.entries.Posting.{Posting}
use Rattle.stamp_post.specs.Shown.{seat_data}
use Rattle.world_model.specs.Runs.{IsRunOf}
use Rattle.world_model.specs.Tables.{actor_row, start_actor}
use Rattle.letter_types.specs.Postal.{delivery_of}
use Rattle.std.specs.Prelude.{map}
use Rattle.history_merge.specs.OwnLogs.{LogData}
use Rattle.history_merge.proofs.OneMore.{postings_of}
use Rattle.history_merge.proofs.own_log.OwnLog.into_seat.Goals as goal

pub returns-clause-seat : goal.returns-clause-seat
returns-clause-seat g c =
    let s = g.K.ClusterName.script in
    let n = c.self.inside.number in
    c.self.invariant.0
    ∙ ap (λ (ps : List Posting). seat_data g.K.PostName.post n ps None None) (sym (postings_of (actor_row s n) (start_actor s n) c.self.inside.seat.own))
    ∙ ap (λ (x : LogData). seat_data g.K.PostName.post x.number (map delivery_of x.entries) None None) c.self.view_is

pub returns-clause-run : goal.returns-clause-run
returns-clause-run g c =
    let s = g.K.ClusterName.script in
    subst (λ (x : LogData). IsRunOf (actor_row s x.number) (start_actor s x.number) x.entries) c.self.view_is c.self.invariant.2
