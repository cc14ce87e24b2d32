-- What a deferred message waits for.
use Rattle.std.specs.Prelude.{Bool, true, false, ◌==◌}
use Rattle.letter_types.specs.declared.kept.KeepReason.{KeepReason}
use Rattle.letter_types.specs.declared.kept.KeepReason.TheVariants.{ForShow, ForHolder, Called}

-- a message that is deferred for the second reason waits for what the first one says: a version to be shown, or the
-- locks of this tree to be freed
abbrev pub waits_alike : KeepReason → KeepReason → Bool
waits_alike ForShow ForShow = true
waits_alike (ForHolder t) (ForHolder h) = h.0 == t.0
waits_alike Called why = false
waits_alike _ _ = false
