-- How a message is deferred, last of all.
use Rattle.tv_base.specs.declared.numbers.TreeNo.{TreeNo}
use Rattle.tv_base.specs.declared.numbers.SubNo.{SubNo}
use Rattle.letter_types.specs.declared.kept.KeepReason.{KeepReason}
use Rattle.letter_types.specs.declared.kept.KeptLetter.{KeptLetter}

-- it came now; or it is the called message of this subtransaction, and is deferred again for this reason
pub data Keep : Type 0 where
  New : KeptLetter → Keep
  Again : TreeNo → SubNo → KeepReason → Keep
