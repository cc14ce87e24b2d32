-- How a message is deferred.
use Rattle.std.specs.Prelude.{if◌then◌else◌, Bool, false, not, nat_lt, List, [], ◌∷◌, ◌++◌, map, Option, Some, None}
use Rattle.tv_base.specs.declared.numbers.SubNo.{SubNo}
use Rattle.tv_base.specs.declared.numbers.TreeNo.{TreeNo}
use Rattle.tv_base.specs.declared.numbers.Version.{Version}
use Rattle.letter_types.specs.declared.acts.Act.{Act}
use Rattle.letter_types.specs.declared.acts.Act.TheVariants as acts
use Rattle.letter_types.specs.declared.bodies.Body.{Body}
use Rattle.letter_types.specs.declared.bodies.Body.TheVariants.{Root, Sub as SubLetter}
use Rattle.letter_types.specs.declared.kept.KeepReason.TheVariants.{ForShow, ForHolder}
use Rattle.nc_locks.specs.declared.modes.Met.{Met}
use Rattle.nc_locks.specs.Locks.{Wanted, marks_on}
use Rattle.node_versions.specs.declared.turns.Turns.{Turns}
use Rattle.tx_trees.specs.declared.parts.SubOp.{SubOp}
use Rattle.world_model.specs.Asked.{asked_version}
use Rattle.world_model.specs.Node.{Node}
use Rattle.world_model.specs.Strict.{is_born_now}
use Rattle.node_machine.specs.steps.CoreKept.{CoreKept}

-- the subtransaction that a message asks for, 0 for a root
abbrev pub asked_sub : Body → SubNo
asked_sub (SubLetter t k v) = k
asked_sub _ = record { 0 = 0 }

-- the marks of these operations
abbrev pub op_marks : List SubOp → Wanted
op_marks ops = marks_on (map (λ (o : SubOp). o.item) ops)

-- the version to which a subtransaction of version v raises the update version, if it does
abbrev pub raises_to : Turns → Version → Option Version
raises_to turns v = if nat_lt turns.update.0 v.0 then Some v else None

-- the act of that
abbrev pub turned_by : Option Version → List Act
turned_by None = []
turned_by (Some v) = acts.Turned v ∷ []

-- a subtransaction of an update tree that meets a lock is parked
abbrev pub parked_kept : TreeNo → Body → Turns → Met → CoreKept
parked_kept t body turns met = record {
  tree = t;
  sub = asked_sub body;
  why = ForHolder met.holder;
  raises = raises_to turns (asked_version turns.update body);
  acts =
      turned_by (raises_to turns (asked_version turns.update body))
      ++ acts.Parked t (asked_sub body) met.item met.holder ∷ [];
}

-- the root of a strict tree that isn't born yet waits
abbrev pub waits_for_show : Node → Body → Bool
waits_for_show st (Root t) = not (is_born_now st)
waits_for_show st _ = false

abbrev pub root_kept : TreeNo → Turns → CoreKept
root_kept t turns = record {
  tree = t;
  sub = record { 0 = 0 };
  why = ForShow;
  raises = None;
  acts = acts.Waits t turns.update turns.read ∷ [];
}
