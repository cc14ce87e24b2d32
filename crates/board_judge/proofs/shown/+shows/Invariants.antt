use Rattle.std.proofs.Common.{length}
use Rattle.board_judge.proofs.shown.+shows.Given as goal

abbrev pub decreases-shows : goal.decreases-shows
decreases-shows l = length l.ops.now
