use Rattle.board_judge.specs.inside.Users.{AreUsersTo}
use Rattle.board_judge.proofs.users.users_by_item.Given as goal

abbrev pub invariant-loop-t : goal.invariant-loop-t
invariant-loop-t l = AreUsersTo l.script l.strict l.t l.users.items
