use Rattle.std.proofs.Common.{◌≡◌, [], take}
use Rattle.std.specs.Prelude.{fold}
use Rattle.commute_ops.specs.declared.value.Value.TheVariants.{Bag}
use Rattle.commute_ops.specs.Numbers.{with_number}
use Rattle.worth_steps.specs.Puts.{shown_to}
use Rattle.worth_steps.proofs.puts.bag_at.Given as goal

abbrev pub invariant-loop-put : goal.invariant-loop-put
invariant-loop-put l =
    l.bag ≡ Bag (fold (λ ns n. with_number n ns) [] (shown_to l.version.0 (take l.put-index l.puts)))
