use Rattle.std.proofs.Common.{◌≡◌, ◌∙◌, sym, subst}
use Rattle.commute_ops.specs.Numbers.{IsAscending}
use Rattle.history_text.proofs.Bags.{ascending_stays, other_numbers, same_numbers}
use Rattle.history_text.proofs.values_read.ascending_bag.Goals as goal

pub returns-then-ne : goal.returns-then-ne
returns-then-ne c =
    λ up. other_numbers c.items.result.now c.args.numbers.now c.ne.result c.ne.ensures c.if-ne.true (c.items.ensures.items ∙ c.in_ok-bag.ensures ∙ ascending_stays c.args.numbers.now up)

pub returns : goal.returns
returns c =
    let same : c.in_ok-bag.bag ≡ c.args.numbers.now = sym c.items.ensures.items ∙ same_numbers c.items.result.now c.args.numbers.now c.ne.result c.ne.ensures c.if-ne.false in
    (same, subst IsAscending same c.items.ensures.ascending)
