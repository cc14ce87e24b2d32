use Rattle.std.proofs.Common.{IsTrue, OnErr, Ok, Err}
use Rattle.item_versions.specs.Item.{has_bag}
use Rattle.item_versions.proofs.Rooms.{seen_bag}
use Rattle.item_versions.proofs.item.push_raised.Goals as goal

pub returns-in_err-apply-clause-only_bags : goal.returns-in_err-apply-clause-only_bags
returns-in_err-apply-clause-only_bags c =
    let b = seen_bag c.args.v c.seen_in-base.result.now c.args.items.now c.seen_in-base.ensures
    c.in_err-apply.ensures.only_bags in
    elim c.from_residual.result as (λ r. OnErr r (IsTrue (has_bag c.args.items.now))) [
      | Ok x ↦ tt
      | Err e ↦ b
    ]
