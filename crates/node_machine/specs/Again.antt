-- A deferred message that is deferred again.
use Rattle.std.specs.Prelude.{List, [], ◌∷◌, ◌++◌, Option, Some, None}
use Rattle.tv_base.specs.declared.numbers.SubNo.{SubNo}
use Rattle.tv_base.specs.declared.numbers.TreeNo.{TreeNo}
use Rattle.letter_types.specs.declared.entries.Letter.{Letter}
use Rattle.letter_types.specs.declared.kept.KeptLetter.{KeptLetter}
use Rattle.letter_types.specs.declared.kept.KeepReason.{KeepReason}
use Rattle.letter_types.specs.Kept.{first_called, without_called}

-- a message deferred last, if there is one
abbrev pub with_last : List KeptLetter → TreeNo → SubNo → KeepReason → Option Letter → List KeptLetter
with_last kept t k why None = kept
with_last kept t k why (Some l) = kept ++ record { letter = l; tree = t; sub = k; why = why } ∷ []

-- the called message of this subtransaction is deferred last, for this reason, and no longer where it was
abbrev pub kept_again : TreeNo → SubNo → KeepReason → List KeptLetter → List KeptLetter
kept_again t k why kept = with_last (without_called t k kept) t k why (first_called t k kept)
