use Rattle.std.proofs.Common.{◌≡◌}
use Rattle.script_gen.specs.inside.Within.{with_items}
use Rattle.script_gen.proofs.items_made.add_items.Given as goal

abbrev pub invariant-loop-k : goal.invariant-loop-k
invariant-loop-k l = l.script ≡ with_items l.k
