use Rattle.tree_laws.proofs.kept.Waking.{wakes_find_letters}
use Rattle.tree_laws.proofs.letters.wakes_find_letters.Goals as goal

pub returns : goal.returns
returns c = wakes_find_letters
