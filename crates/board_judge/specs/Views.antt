-- What is looked at to tell what stands: a script, its operations on each item, and the Board's tallies.
use Rattle.std.specs.Prelude.{false, true, ◌≡◌, ◌<◌, ◌⊎◌, List, length}
use Rattle.std.specs.List.{AllByRecursion}
use Rattle.nc_locks.specs.declared.modes.Mode.{Mode}
use Rattle.nc_locks.specs.declared.modes.Mode.TheVariants.{Mark}
use Rattle.script_parts.specs.Wants.{mode_wanted}
use Rattle.script_parts.specs.Counts.{has_strict}
use Rattle.script_parts.specs.ScriptData.{ScriptData}
use Rattle.script_parts.specs.Valid.{IsValid}
use Rattle.script_parts.specs.declared.parts.SubOp.{SubOp}
use Rattle.board_rules.specs.Histories.{Place}
use Rattle.board_tallies.specs.Board.{BoardData, IsBoardOf}
use Rattle.board_judge.specs.Settled.{IsMoveRun}
use Rattle.board_judge.specs.inside.Users.{AreUsersBy}
use Rattle.board_judge.specs.declared.users.User.{User}

-- the operations on each item: of strict transactions, and of update transactions
pub record UsersData : Type 0 where
  pub strict : List (List User)
  pub updates : List (List User)

-- they are the script's; those of update transactions are listed if there is a strict transaction
pub record AreUsersOf (s : ScriptData) (u : UsersData) : Type 0 where
  pub strict : AreUsersBy s true u.strict
  pub updates : has_strict s ≡ true → AreUsersBy s false u.updates

-- the tallies are those of these acts, which were moves, and the operations are the script's
pub record IsView (s : ScriptData) (xs : List Place) (b : BoardData) (u : UsersData) : Type 0 where
  pub valid : IsValid s
  pub run : IsMoveRun s xs
  pub board : IsBoardOf s xs b
  pub users : AreUsersOf s u

-- what holds of whatever acts this is the view after
abbrev pub OfView : ScriptData → BoardData → UsersData → (List Place → Type 0) → Type 0
OfView s b u P = (xs : List Place) → IsView s xs b u → P xs

-- an item may be needed in this mode, and by each of these operations: a mark, or any if there is a strict transaction
abbrev pub MayNeed : ScriptData → Mode → Type 0
MayNeed s mode = (mode ≡ Mark) ⊎ (has_strict s ≡ true)

abbrev pub MayLook : ScriptData → List SubOp → Type 0
MayLook s ops = AllByRecursion (λ (o : SubOp). MayNeed s (mode_wanted o.deed)) ops

-- the items of these operations are there
abbrev pub AreThere : ScriptData → List SubOp → Type 0
AreThere s ops = AllByRecursion (λ (o : SubOp). o.item.0 < length s.items) ops
