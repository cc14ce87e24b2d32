-- An item that is changed in place. Private code alone cites these definitions.
use Rattle.std.specs.Prelude.{[], ◌∷◌}
use Rattle.tv_base.specs.declared.numbers.Version.{Version}
use Rattle.commute_ops.specs.declared.kinds.Op.{Op}
use Rattle.commute_ops.specs.Ops.{applied}
use Rattle.item_versions.specs.Item.{Held, above, applied_to_all, seen_after}

-- the versions from v up, after an update in version v
abbrev pub raised_from : Version → Op → Held → Held
raised_from v op [] = []
raised_from v op (x ∷ xs) = (v, applied (seen_after x.1 v xs) op) ∷ applied_to_all op (above v (x ∷ xs))
