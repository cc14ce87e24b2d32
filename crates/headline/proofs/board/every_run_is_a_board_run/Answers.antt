use Rattle.headline.proofs.BoardRuns.{board_run}
use Rattle.headline.proofs.board.every_run_is_a_board_run.Goals as goal

pub returns : goal.returns
returns c = board_run
