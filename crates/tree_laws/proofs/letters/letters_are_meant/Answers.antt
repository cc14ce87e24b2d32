use Rattle.world_model.proofs.Meant.{letters_are_meant}
use Rattle.tree_laws.proofs.letters.letters_are_meant.Goals as goal

pub returns : goal.returns
returns c = letters_are_meant
