-- What a message asks for, and what answers it.
use Rattle.std.specs.Prelude.{Bool, false, ◌≡◌, ◌==◌, ◌&&◌, List, Option, Some, None, IsTrue, is_none}
use Rattle.std.specs.List.{list_any}
use Rattle.tv_base.specs.declared.numbers.ItemNo.{ItemNo}
use Rattle.tv_base.specs.declared.numbers.SubNo.{SubNo}
use Rattle.tv_base.specs.declared.numbers.TreeNo.{TreeNo}
use Rattle.letter_types.specs.declared.acts.Act.{Act}
use Rattle.letter_types.specs.declared.acts.Act.TheVariants.{Parked, Finished}
use Rattle.letter_types.specs.declared.bodies.Body.{Body}
use Rattle.letter_types.specs.declared.bodies.Body.TheVariants.{Go, Root, Sub as SubLetter, Wake}
use Rattle.letter_types.specs.declared.votes.Cause.{Cause}
use Rattle.letter_types.specs.declared.votes.Cause.TheVariants.{Conflict}
use Rattle.script_parts.specs.ScriptData.{ScriptData}
use Rattle.board_rules.specs.Histories.{does}
use Rattle.board_rules.specs.Right.{commutes, parking_for, parkings}
use Rattle.board_judge.specs.declared.at_once.Asked.{Asked}
use Rattle.board_judge.specs.declared.at_once.InWay.{InWay}

-- the subtransaction that a message of this body asks for
abbrev pub asked_of : Body → Option Asked
asked_of (Root t) = Some (record { tree = t; sub = record { 0 = 0 } })
asked_of (SubLetter t k v) = Some (record { tree = t; sub = k })
asked_of (Wake t k) = Some (record { tree = t; sub = k })
asked_of Go = None
asked_of _ = None

-- the act defers subtransaction k of transaction t for this holder of the item
abbrev pub parks_this : TreeNo → SubNo → ItemNo → TreeNo → Act → Bool
parks_this t k x holder (Parked u j y other) = (u.0 == t.0) && ((j.0 == k.0) && ((y.0 == x.0) && (other.0 == holder.0)))
parks_this t k x holder Finished = false
parks_this t k x holder _ = false

-- the lock that a cause names
abbrev pub lock_in : Option Cause → Option InWay
lock_in None = None
lock_in (Some (Conflict x holder)) = Some (record { item = x; holder = holder })
lock_in (Some cause) = None

-- if transaction t is an update or a read transaction, the acts do its subtransaction k just if this says so
abbrev pub AreDoneAs : ScriptData → TreeNo → SubNo → Bool → List Act → Type 0
AreDoneAs s t k done acts = IsTrue (commutes s t.0) → list_any (does t.0 k.0) acts ≡ done

-- the acts do subtransaction k of transaction t if nothing is in its way, and else defer it for that
abbrev pub IsAnsweredFor : ScriptData → TreeNo → SubNo → Option Cause → List Act → Type 0
IsAnsweredFor s t k way acts = AreDoneAs s t k (is_none way) acts × (parkings acts ≡ parking_for t k way)
