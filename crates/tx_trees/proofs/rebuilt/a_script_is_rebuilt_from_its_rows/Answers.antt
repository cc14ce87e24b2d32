use Rattle.tx_trees.proofs.Rebuilding.{is_rebuilt}
use Rattle.tx_trees.proofs.rebuilt.a_script_is_rebuilt_from_its_rows.Goals as goal

pub returns : goal.returns
returns c = is_rebuilt
