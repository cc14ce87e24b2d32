use Rattle.std.proofs.Common.{ℕ, take}
use Rattle.board_judge.specs.inside.Users.{HasMore, subs_users}
use Rattle.board_judge.proofs.users.add_subs.Given as goal

abbrev pub invariant-loop-k : goal.invariant-loop-k
invariant-loop-k l = HasMore (λ (x : ℕ). subs_users l.tree.0 0 x (take l.k l.subs)) l.fn.users.items l.users.items
