use Rattle.std.proofs.Common.{◌≡◌, List, [], ◌∷◌, ◌++◌, ap, ◌∙◌}
use Rattle.stamp_post.specs.declared.rule.JoinedReceipt.{JoinedReceipt}
use Rattle.stamp_post.specs.Shown.{ReceiptData, receipt_joined}
use Rattle.stamp_post.specs.Views.{FirstData, first_data}
use Rattle.stamp_post.proofs.Known.{head_of, tail_of, mapped_more}
use Rattle.stamp_post.proofs.post.Post.join_receipts.Goals as goal

pub join_receipt-requires : goal.join_receipt-requires
join_receipt-requires c =
    let inv = c.loop-receipt.invariant in record {
      post = (
        ap (λ (d : FirstData). d.post) inv.joined,
        head_of (λ (x : ReceiptData). x.post ≡ c.args.self.now) c.in-Some.receipt _ _ c.in-Some.ensures.steps.0
            inv.left,
      );
    }

pub loop-receipt-preserved : goal.loop-receipt-preserved
loop-receipt-preserved c =
    let inv = c.loop-receipt.invariant in record {
      joined =
          c.join_receipt.ensures
          ∙ ap (λ (d : FirstData). first_data c.args.self.now d.made d.here d.seats
          (d.receipts ++ receipt_joined c.in-Some.receipt ∷ [])) inv.joined
          ∙ ap (λ (ss : List JoinedReceipt). first_data c.args.self.now c.args.first.now.made c.args.first.now.here
          c.args.first.now.seats ss) (mapped_more receipt_joined c.args.first.now.receipts c.loop-receipt.yielded
          c.in-Some.receipt);
      left = tail_of (λ (x : ReceiptData). x.post ≡ c.args.self.now) c.in-Some.receipt _ _ c.in-Some.ensures.steps.0
          inv.left;
    }
