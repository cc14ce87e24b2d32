use Rattle.tree_laws.proofs.kept.Waking.{wakes_bring_letters}
use Rattle.tree_laws.proofs.letters.wakes_bring_letters.Goals as goal

pub returns : goal.returns
returns c = wakes_bring_letters
