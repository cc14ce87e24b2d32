use Rattle.std.proofs.Common.{◌≡◌, ◌++◌, take}
use Rattle.tree_home.specs.Notices.{joined_gets}
use Rattle.tree_home.proofs.homes.append_lists.Given as goal

abbrev pub invariant-loop-list : goal.invariant-loop-list
invariant-loop-list l = l.all ≡ l.initial.all ++ joined_gets (take l.list-index l.lists)
