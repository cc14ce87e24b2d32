use Rattle.std.proofs.Common.{◌≡◌, ◌∙◌, [], length, sym, ap, subst, arith}
use Rattle.std.proofs.lemmas.Grind.{common_steps}
use Rattle.commute_ops.specs.Numbers.{IsAscending}
use Rattle.history_text.specs.Values.{bag_text}
use Rattle.history_text.specs.Words.{IsBag}
use Rattle.history_text.proofs.Bags.{bag_read, no_numbers, not_up}
use Rattle.history_text.proofs.values_read.read_bag.Goals as goal

pub returns-in_default-2 : goal.returns-in_default-2
returns-in_default-2 c =
    let only = rw c.in_default-2.is at c.in_ok-numbers.ensures in
    let some : c.in-Some.inner.now ≡ [] → ⊥ = λ e. grind (arith, common_steps, ap length e) in
    no_numbers c.args.field.now c.in-Some.inner.now c.in-Some.ensures some (λ ns is may. only ns (c.new.ensures ∙ is) may)

pub returns-in_default-3 : goal.returns-in_default-3
returns-in_default-3 c =
    let read = rw c.in-Some-2.is at c.in_ok-numbers.ensures in
    let other = rw c.in_default-3.is at c.in_ok-bag.ensures in
    let some : c.in-Some.inner.now ≡ [] → ⊥ = λ e. grind (arith, common_steps, ap length e) in
    not_up c.args.field.now c.in-Some.inner.now c.in-Some-2.numbers c.in-Some.ensures some (sym c.new.ensures ∙ read.0) read.1 (λ up. other (subst IsAscending (sym c.items.ensures.items) up))

pub returns : goal.returns
returns c =
    let read = rw c.in-Some-2.is at c.in_ok-numbers.ensures in
    let made = rw c.in-Some-3.is at c.in_ok-bag.ensures in
    let numbers = c.in-Some-2.numbers in
    let same : c.in-Some-3.bag ≡ numbers = made.0 ∙ c.items.ensures.items in
    (bag_read c.args.field.now c.in-Some.inner.now numbers c.in-Some.ensures (sym c.new.ensures ∙ read.0) read.1 ∙ ap bag_text (sym same), subst IsBag (sym same) (subst IsAscending c.items.ensures.items made.1, read.1))
