use Rattle.headline.proofs.Undone.{nothing_undone}
use Rattle.headline.proofs.reads.no_read_shows_what_was_undone.Goals as goal

pub returns : goal.returns
returns c = nothing_undone
