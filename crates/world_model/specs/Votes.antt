-- How a subtransaction of a strict transaction votes: no for the first cause that is found, else yes.
use Rattle.std.specs.Prelude.{if◌then◌else◌, ℕ, nat_lt, max, List, [], ◌∷◌, fold, Option, Some, None}
use Rattle.std.specs.Option.{option_or}
use Rattle.tv_base.specs.declared.numbers.ItemNo.{ItemNo}
use Rattle.tv_base.specs.declared.numbers.TreeNo.{TreeNo}
use Rattle.tv_base.specs.declared.numbers.Version.{Version}
use Rattle.commute_ops.specs.declared.value.Value.{Value}
use Rattle.item_versions.specs.Item.{Held}
use Rattle.item_versions.specs.Table.{Table, item_in}
use Rattle.script_parts.specs.declared.parts.SubOp.{SubOp}
use Rattle.letter_types.specs.declared.votes.Cause.{Cause}
use Rattle.letter_types.specs.declared.votes.Cause.TheVariants.{Conflict, Newer}
use Rattle.letter_types.specs.declared.votes.Vote.{Vote}
use Rattle.letter_types.specs.declared.votes.Vote.TheVariants.{Yes, No}
use Rattle.world_model.specs.Reads.{gets, seen_in}
use Rattle.script_parts.specs.Deeds.{found_short, overwrites}
use Rattle.letter_types.specs.Causes.{short_cause}
use Rattle.nc_locks.specs.declared.modes.Lock.{Lock}
use Rattle.nc_locks.specs.declared.modes.Met.{Met}
use Rattle.nc_locks.specs.Locks.{met_in}
use Rattle.script_parts.specs.Wants.{wanted_by}

-- a lock that is met, as a cause
abbrev pub conflict_by : Option Met → Option Cause
conflict_by None = None
conflict_by (Some m) = Some (Conflict m.item m.holder)

-- the greatest version that is held
abbrev pub greatest_version : Held → ℕ
greatest_version h = fold (λ (v : ℕ) (x : Version × Value). max v x.0.0) 0 h

-- an item that is held in a version above v, as a cause
abbrev pub newer_by : ItemNo → Version → Option Held → Option Cause
newer_by x v None = None
newer_by x v (Some h) =
    if nat_lt v.0 (greatest_version h) then Some (Newer x (record { 0 = greatest_version h })) else None

-- the first of these operations that writes an item which is held in a version above v, as a cause
abbrev pub newer_at : Version → SubOp → Table → Option Cause
newer_at v o items = if overwrites o.deed then newer_by o.item v (item_in o.item items) else None

abbrev pub newer_in : Version → List SubOp → Table → Option Cause
newer_in v [] items = None
newer_in v (o ∷ os) items = option_or (newer_at v o items) (newer_in v os items)

-- the first of these operations that draws more than is seen of its item in version v, as a cause
abbrev pub short_at : Version → SubOp → Table → Option Cause
short_at v o items = elim (seen_in v o.item items) [ None ↦ None | Some w ↦ short_cause o.item (found_short o.deed w) ]

abbrev pub short_in : Version → List SubOp → Table → Option Cause
short_in v [] items = None
short_in v (o ∷ os) items = option_or (short_at v o items) (short_in v os items)

-- why strict transaction t votes no in version v with these operations, if it does: a lock that conflicts, else a newer
-- version, else a value that is short
abbrev pub cause_in : List Lock → Table → TreeNo → Version → List SubOp → Option Cause
cause_in locks items t v os =
    option_or (conflict_by (met_in t (wanted_by os) locks)) (option_or (newer_in v os items) (short_in v os items))

-- no for a cause, else yes with what its gets show in version v
abbrev pub voted : Option Cause → List (ItemNo × Value) → Vote
voted None values = Yes values
voted (Some cause) values = No cause

abbrev pub vote_of : List Lock → Table → TreeNo → Version → List SubOp → Vote
vote_of locks items t v os = voted (cause_in locks items t v os) (gets v os items)
