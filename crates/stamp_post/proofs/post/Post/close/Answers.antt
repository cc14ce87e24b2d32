use Rattle.std.proofs.Common.{ap}
use Rattle.stamp_post.proofs.Known.{last_state}
use Rattle.stamp_post.specs.Views.{here_in, seats_in, receipts_in}
use Rattle.stamp_post.proofs.post.Post.close.Goals as goal

pub returns : goal.returns
returns c =
    let v = c.first.inside.seat.me.0 in
    last_state c.self.inside.table.shared.key _ _ c.word-count.result v (here_in v) (seats_in v) c.args.first.seats
    (receipts_in v) c.args.first.receipts _ _ c.args.self.actors
    (ap (λ m. m.0) c.first.invariant) c.close_with-closed.ensures.values.2
    c.word-count.ensures (ap (λ p. p.actors) c.self.view_is) (ap (λ d. d.seats) c.first.view_is)
    (ap (λ d. d.receipts) c.first.view_is)
