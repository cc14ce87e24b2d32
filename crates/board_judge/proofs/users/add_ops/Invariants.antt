use Rattle.std.proofs.Common.{ℕ, take}
use Rattle.board_judge.specs.inside.Users.{HasMore, ops_users}
use Rattle.board_judge.proofs.users.add_ops.Given as goal

abbrev pub invariant-loop-op : goal.invariant-loop-op
invariant-loop-op l = HasMore (λ (x : ℕ). ops_users l.tree.0 l.sub.0 x (take l.op-index l.ops)) l.fn.users.items l.users.items
