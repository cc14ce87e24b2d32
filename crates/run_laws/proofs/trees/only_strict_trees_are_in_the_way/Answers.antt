use Rattle.run_laws.proofs.keeping.AtOnce.{strict_in_way}
use Rattle.run_laws.proofs.trees.only_strict_trees_are_in_the_way.Goals as goal

pub returns : goal.returns
returns c = λ s past p t k x u valid run lt home is. strict_in_way s past p t k x u valid run lt home is
