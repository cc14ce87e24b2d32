use Rattle.run_laws.proofs.keeping.AtOnce.{nothing_in_way}
use Rattle.run_laws.proofs.trees.nothing_is_in_the_way.Goals as goal

pub returns : goal.returns
returns c = λ s past n p t k valid plain run. nothing_in_way s past n p t k valid plain run
