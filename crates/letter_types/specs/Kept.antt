-- The messages that a node defers, in the order in which it deferred them: a message that can't be done yet stays with
-- its addressee, until a Wake calls it.
use Rattle.std.specs.Prelude.{if◌then◌else◌, Bool, true, false, ◌==◌, ◌&&◌, List, [], ◌∷◌, Option, Some, None}
use Rattle.tv_base.specs.declared.numbers.SubNo.{SubNo}
use Rattle.tv_base.specs.declared.numbers.TreeNo.{TreeNo}
use Rattle.letter_types.specs.declared.bodies.Body.{Body}
use Rattle.letter_types.specs.declared.bodies.Body.TheVariants.{Show, Decide, Wake}
use Rattle.letter_types.specs.declared.entries.Letter.{Letter}
use Rattle.letter_types.specs.declared.entries.Outgoing.{Outgoing}
use Rattle.letter_types.specs.declared.kept.KeptLetter.{KeptLetter}
use Rattle.letter_types.specs.declared.kept.KeepReason.{KeepReason}
use Rattle.letter_types.specs.declared.kept.KeepReason.TheVariants.{ForShow, ForHolder, Called}

-- a deferred message of this subtransaction whose Wake is in flight
abbrev pub is_called : KeepReason → Bool
is_called Called = true
is_called ForShow = false
is_called (ForHolder h) = false

abbrev pub is_called_for : TreeNo → SubNo → KeptLetter → Bool
is_called_for t k x = is_called x.why && ((x.tree.0 == t.0) && (x.sub.0 == k.0))

-- the first of them, and the messages without it
abbrev pub first_called : TreeNo → SubNo → List KeptLetter → Option Letter
first_called t k [] = None
first_called t k (x ∷ xs) = if is_called_for t k x then Some x.letter else first_called t k xs

abbrev pub without_called : TreeNo → SubNo → List KeptLetter → List KeptLetter
without_called t k [] = []
without_called t k (x ∷ xs) = if is_called_for t k x then xs else x ∷ without_called t k xs

-- the message that a message of this body brings to its node: a Wake calls a deferred one, any other is itself
abbrev pub brought : List KeptLetter → Letter → Body → Option Letter
brought kept l (Wake t k) = first_called t k kept
brought kept l _ = Some l

-- what stays deferred meanwhile
abbrev pub kept_without : List KeptLetter → Body → List KeptLetter
kept_without kept (Wake t k) = without_called t k kept
kept_without kept _ = kept

-- a message of this body wakes what is deferred for this reason: a version is shown, or the holder has decided
abbrev pub wakes_by : Body → KeepReason → Bool
wakes_by (Show v) ForShow = true
wakes_by (Decide t v commit) (ForHolder h) = h.0 == t.0
wakes_by _ _ = false

-- a Wake for each message that is woken
abbrev pub wakes : (KeepReason → Bool) → List KeptLetter → List Outgoing
wakes test [] = []
wakes test (x ∷ xs) =
    if test x.why then record { to = x.letter.to; body = Wake x.tree x.sub } ∷ wakes test xs else wakes test xs

abbrev pub with_called : (KeepReason → Bool) → List KeptLetter → List KeptLetter
with_called test [] = []
with_called test (x ∷ xs) = (if test x.why then record x { why = Called } else x) ∷ with_called test xs
