use Rattle.std.proofs.Common.{rules, ◌≡◌, ◌+◌, ◌++◌, ◌∷◌, [], ap, sym, ◌∙◌, suc, arith, ℕ, None}
use Rattle.stamp_post.specs.Shown.{new_seats, seat_data}
use Rattle.stamp_post.specs.Views.{FirstData}
use Rattle.stamp_post.proofs.Known.{new_seats_more}
use Rattle.stamp_post.proofs.post.Post.split_actors.Goals as goal

pub loop-number-preserved : goal.loop-number-preserved
loop-number-preserved c =
    let inv = c.loop-number.invariant in
    let n = c.loop-number._number in
    let number : c.loop-number.first.made ≡ 0 + n = ap (λ (d : FirstData). d.made) inv.made ∙ omega arith in
    let seat = c.split_actor-seat.ensures.actor ∙ ap (λ (k : ℕ). seat_data c.args.self.now k [] None None) number in
    let on : suc n ≡ n + 1 = omega arith in record {
      made = search rules;
      seats = c.in_ok-push.ensures.ok ∙ (λ k. inv.seats k ++ seat k ∷ []) ∙ sym (new_seats_more c.args.self.now 0 n)
          ∙ ap (new_seats c.args.self.now 0) on;
    }
