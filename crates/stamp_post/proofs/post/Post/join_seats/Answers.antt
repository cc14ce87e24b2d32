use Rattle.std.proofs.Common.{◌≡◌, List, [], ◌∷◌, ◌++◌, ap, ◌∙◌}
use Rattle.stamp_post.specs.declared.rule.JoinedSeat.{JoinedSeat}
use Rattle.stamp_post.specs.Shown.{SeatData, seat_joined}
use Rattle.stamp_post.specs.Views.{FirstData, first_data}
use Rattle.stamp_post.proofs.Known.{head_of, tail_of, mapped_more}
use Rattle.stamp_post.proofs.post.Post.join_seats.Goals as goal

pub join_seat-requires : goal.join_seat-requires
join_seat-requires c =
    let inv = c.loop-seat.invariant in record {
      post = (
        ap (λ (d : FirstData). d.post) inv.joined,
        head_of (λ (x : SeatData). x.post ≡ c.args.self.now) c.in-Some.seat _ _ c.in-Some.ensures.steps.0 inv.left,
      );
    }

pub loop-seat-preserved : goal.loop-seat-preserved
loop-seat-preserved c =
    let inv = c.loop-seat.invariant in record {
      joined =
          c.join_seat.ensures
          ∙ ap (λ (d : FirstData). first_data c.args.self.now d.made d.here
          (d.seats ++ seat_joined c.in-Some.seat ∷ []) d.receipts) inv.joined
          ∙ ap (λ (ss : List JoinedSeat). first_data c.args.self.now c.args.first.now.made c.args.first.now.here ss
          c.args.first.now.receipts)
          (mapped_more seat_joined c.args.first.now.seats c.loop-seat.yielded c.in-Some.seat);
      left = tail_of (λ (x : SeatData). x.post ≡ c.args.self.now) c.in-Some.seat _ _ c.in-Some.ensures.steps.0 inv.left;
    }
