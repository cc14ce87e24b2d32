use Rattle.std.proofs.Common.{◌≡◌, ◌++◌, take}
use Rattle.tree_home.proofs.homes.append.Given as goal

abbrev pub invariant-loop-entry : goal.invariant-loop-entry
invariant-loop-entry l = l.all ≡ l.initial.all ++ take l.entry-index l.values
