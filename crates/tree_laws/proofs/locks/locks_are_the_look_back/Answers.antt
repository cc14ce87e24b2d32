use Rattle.board_rules.proofs.LocksStand.{locks_stand}
use Rattle.tree_laws.proofs.locks.locks_are_the_look_back.Goals as goal

pub returns : goal.returns
returns c = locks_stand
