use Rattle.std.proofs.Common.{arith}
use Rattle.tv_base.specs.NameFacts.{is_padded}
use Rattle.tv_base.proofs.name.Name.new.Goals as goal

pub invariant_of-result : goal.invariant_of-result
invariant_of-result c = is_padded c.args.bytes.now c.copy_from_slice.new.self c.copy_from_slice.ensures.after (omega arith) (omega arith)
