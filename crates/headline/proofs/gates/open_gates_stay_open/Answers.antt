use Rattle.headline.proofs.Stays.{open_more}
use Rattle.headline.proofs.gates.open_gates_stay_open.Goals as goal

pub returns : goal.returns
returns c = open_more
