-- How a core defers a message.
use Rattle.std.specs.Prelude.{List, Option}
use Rattle.tv_base.specs.declared.numbers.TreeNo.{TreeNo}
use Rattle.tv_base.specs.declared.numbers.SubNo.{SubNo}
use Rattle.tv_base.specs.declared.numbers.Version.{Version}
use Rattle.letter_types.specs.declared.acts.Act.{Act}
use Rattle.letter_types.specs.declared.kept.KeepReason.{KeepReason}

-- the subtransaction that the message asks for, why it is deferred, the update version to which the node raises its own
-- before, if it must, and the acts
pub record CoreKept : Type 0 where
  pub tree : TreeNo
  pub sub : SubNo
  pub why : KeepReason
  pub raises : Option Version
  pub acts : List Act
