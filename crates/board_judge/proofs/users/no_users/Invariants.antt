use Rattle.board_judge.specs.inside.Users.{HaveNoUsers}
use Rattle.board_judge.proofs.users.no_users.Given as goal

abbrev pub invariant-loop : goal.invariant-loop
invariant-loop l = HaveNoUsers l.counter l.users.items
