use Rattle.std.proofs.Common.{◌≡◌, ◌++◌, ap, ◌∙◌, subst, List, length, map}
use Rattle.stamp_post.specs.declared.rule.JoinedSeat.{JoinedSeat}
use Rattle.stamp_post.specs.declared.rule.JoinedReceipt.{JoinedReceipt}
use Rattle.stamp_post.specs.Shown.{Gathers, seat_joined, receipt_joined}
use Rattle.stamp_post.proofs.post.Post.gather.Goals as goal

pub returns : goal.returns
returns c =
    let seats : c.join_receipts.new.first.seats ≡ map seat_joined c.args.seats =
    ap (λ d. d.seats) c.join_receipts.ensures ∙ ap (λ d. d.seats) c.join_seats.ensures
    ∙ ap (λ (ss : List JoinedSeat). ss ++ map seat_joined c.args.seats) c.gatherer.invariant in
    let receipts : c.join_receipts.new.first.receipts ≡ c.args.gatherer.known ++ map receipt_joined c.args.receipts =
    ap (λ d. d.receipts) c.join_receipts.ensures ∙ ap (λ d. d.receipts ++ map receipt_joined c.args.receipts)
    c.join_seats.ensures ∙ ap (λ d. d.known ++ map receipt_joined c.args.receipts) c.gatherer.view_is in
    let P : List JoinedSeat × List JoinedReceipt → Type 0 = λ z. (g : Gathers c.args.self.actors z.0 z.1)
    × (length g.log ≡ c.close-count.result) in
    subst P (λ k. (seats k, receipts k)) c.close-count.ensures
