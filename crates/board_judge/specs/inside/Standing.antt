-- What is said of what stands at a node, by the Board's tallies and a script's operations, of whatever acts they are
-- after.
use Rattle.std.specs.Prelude.{ℕ, Bool, true, ◌≡◌, ◌<◌, List, length, Decides, Option}
use Rattle.tv_base.specs.declared.numbers.ItemNo.{ItemNo}
use Rattle.tv_base.specs.declared.numbers.TreeNo.{TreeNo}
use Rattle.letter_types.specs.declared.acts.Act.{Act}
use Rattle.letter_types.specs.declared.bodies.Body.{Body}
use Rattle.letter_types.specs.declared.votes.Cause.{Cause}
use Rattle.script_parts.specs.Counts.{has_strict}
use Rattle.script_parts.specs.declared.parts.SubOp.{SubOp}
use Rattle.board_rules.specs.Histories.{Place}
use Rattle.board_rules.specs.Right.{IsDoneAtOnce, in_way_of}
use Rattle.board_rules.specs.Stands.{conflict_of, holder_of, newer_of, newest_of}
use Rattle.board_tallies.specs.Board.{OfBoard, tree_number}
use Rattle.board_judge.specs.Views.{AreThere, MayLook, MayNeed, OfView}
use Rattle.board_judge.specs.declared.standing.Need.{Need}
use Rattle.board_judge.specs.declared.standing.NodeView.{NodeView}
use Rattle.board_judge.specs.declared.users.User.{User}
use Rattle.board_judge.specs.inside.Users.{first_tree, has_written, newer_item, newest_by, newest_with, stands_against}
use Rattle.board_judge.specs.declared.at_once.Asked.{Asked}

-- what holds of whatever acts this is the view after
abbrev pub OfSeen : NodeView → (List Place → Type 0) → Type 0
OfSeen v P = OfView v.script.now v.board.now v.users.now P

-- what holds of whatever acts the view's tallies are after
abbrev pub OfTallies : NodeView → (List Place → Type 0) → Type 0
OfTallies v P = OfBoard v.script.now v.board.now P

-- the operation stands at the node against what is needed
abbrev pub TellsStanding : NodeView → Need → User → Bool → Type 0
TellsStanding v need user stands =
    OfTallies v (λ xs. stands ≡ stands_against v.script.now xs v.node.0 need.tree.0 need.mode user)

-- the transaction of the first of these operations that stands there against what is needed
abbrev pub NamesFirst : NodeView → Need → List User → Option TreeNo → Type 0
NamesFirst v need users found = OfTallies v
    (λ xs. tree_number found ≡ first_tree (stands_against v.script.now xs v.node.0 need.tree.0 need.mode) users)

-- the transaction of least number that has the item there against what is needed
abbrev pub NamesHolder : NodeView → Need → ItemNo → Option TreeNo → Type 0
NamesHolder v need item found = OfSeen v (λ xs. item.0 < length v.script.now.items → MayNeed v.script.now need.mode
    → tree_number found ≡ holder_of v.script.now xs v.node.0 need.tree.0 item.0 need.mode)

-- the lock that is in the way of these operations of transaction t, as a cause
abbrev pub NamesConflict : NodeView → ℕ → List SubOp → Option Cause → Type 0
NamesConflict v t ops cause = OfSeen v (λ xs. AreThere v.script.now ops → MayLook v.script.now ops
    → cause ≡ conflict_of v.script.now xs v.node.0 t ops)

-- what is in the way of the subtransaction there
abbrev pub NamesInWay : NodeView → Asked → Option Cause → Type 0
NamesInWay v asked way = OfSeen v (λ xs. way ≡ in_way_of v.script.now xs v.node.0 asked.tree.0 asked.sub.0)

-- the operation has written its item there
abbrev pub TellsWritten : NodeView → User → Bool → Type 0
TellsWritten v user written = OfTallies v (λ xs. written ≡ has_written v.script.now xs v.node.0 user)

-- the greatest version of those of these operations that have written their item there; and that, or version m, of one
-- of them
abbrev pub IsNewestBy : NodeView → List User → ℕ → Type 0
IsNewestBy v users newest = OfTallies v (λ xs. newest ≡ newest_by v.script.now xs v.node.0 users)

abbrev pub IsNewestWith : NodeView → User → ℕ → ℕ → Type 0
IsNewestWith v user m newest = OfTallies v (λ xs. newest ≡ newest_with v.script.now xs v.node.0 user m)

-- the greatest version in which the item was written there
abbrev pub IsNewestWritten : NodeView → ItemNo → ℕ → Type 0
IsNewestWritten v item newest = OfSeen v (λ xs. item.0 < length v.script.now.items → has_strict v.script.now ≡ true
    → newest ≡ newest_of v.script.now xs v.node.0 item.0)

-- the first of these operations that writes what is written in a version above n, as a cause; and the same of one of
-- them
abbrev pub NamesNewer : NodeView → ℕ → List SubOp → Option Cause → Type 0
NamesNewer v n ops cause = OfSeen v (λ xs. AreThere v.script.now ops → has_strict v.script.now ≡ true
    → cause ≡ newer_of v.script.now xs v.node.0 n ops)

abbrev pub NamesNewerOf : NodeView → ℕ → SubOp → Option Cause → Type 0
NamesNewerOf v n op cause = OfSeen v (λ xs. op.item.0 < length v.script.now.items → has_strict v.script.now ≡ true
    → cause ≡ newer_item v.script.now xs v.node.0 n op)

-- an entry with these acts at the node does at once what the message of this body asks for
abbrev pub DecidesAtOnce : NodeView → Body → List Act → Bool → Type 0
DecidesAtOnce v body acts once = OfSeen v (λ xs. Decides once (IsDoneAtOnce v.script.now xs v.node.0 body acts))
