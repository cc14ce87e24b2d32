-- What reads show, and that steps do at once what they are asked for.
use Rattle.std.specs.Prelude.{if◌then◌else◌, ℕ, Bool, true, false, not, ◌≡◌, ◌||◌, List, [], ◌∷◌, ◌++◌, filter, take, Option, Some, None, IsTrue, is_some, slice_get}
use Rattle.std.specs.List.{list_any}
use Rattle.tv_base.specs.declared.numbers.ItemNo.{ItemNo}
use Rattle.tv_base.specs.declared.numbers.SubNo.{SubNo}
use Rattle.tv_base.specs.declared.numbers.TreeNo.{TreeNo}
use Rattle.tv_base.specs.declared.numbers.Version.{Version}
use Rattle.commute_ops.specs.declared.value.Value.{Value}
use Rattle.letter_types.specs.declared.acts.Act.{Act}
use Rattle.letter_types.specs.declared.acts.Act.TheVariants.{Did, Voted, Parked, Finished}
use Rattle.letter_types.specs.declared.bodies.Body.{Body}
use Rattle.letter_types.specs.declared.bodies.Body.TheVariants.{Root, Sub as SubLetter, Wake}
use Rattle.letter_types.specs.declared.entries.Entry.{Entry}
use Rattle.letter_types.specs.declared.votes.Cause.{Cause}
use Rattle.letter_types.specs.declared.votes.Cause.TheVariants.{Conflict}
use Rattle.letter_types.specs.declared.votes.Vote.{Vote}
use Rattle.letter_types.specs.declared.votes.Vote.TheVariants.{Yes, No}
use Rattle.script_parts.specs.ScriptData.{ScriptData, ops_of, reads, updates}
use Rattle.script_parts.specs.declared.parts.Deed.{Deed}
use Rattle.script_parts.specs.declared.parts.Deed.TheVariants.{Get}
use Rattle.script_parts.specs.declared.parts.SubOp.{SubOp}
use Rattle.board_rules.specs.Histories.{Place, does, is_strict_tree, places_of, version_in}
use Rattle.board_rules.specs.Moves.{AtEachAct}
use Rattle.board_rules.specs.Stands.{conflict_of}
use Rattle.board_rules.specs.Worth.{worth, worth_in}

-- the items of these operations with these values, in order
abbrev pub with_worths : (ℕ → Value) → List SubOp → List (ItemNo × Value)
with_worths of [] = []
with_worths of (o ∷ os) = (o.item, of o.item.0) ∷ with_worths of os

-- the items of these operations with what they are worth at version v of a history, in order
abbrev pub shown : ScriptData → List Entry → ℕ → List SubOp → List (ItemNo × Value)
shown s h v os = with_worths (λ (x : ℕ). worth s h x v) os

-- these values are what the items of these operations are worth, by item and version, at a version that is there
abbrev pub IsShown : (ℕ → ℕ → Value) → List SubOp → List (ItemNo × Value) → Option Version → Type 0
IsShown worth_at ops values None = ⊥
IsShown worth_at ops values (Some v) = values ≡ with_worths (λ (x : ℕ). worth_at x v.0) ops

-- the operation reads its item
abbrev pub is_get : Deed → Bool
is_get Get = true
is_get _ = false

abbrev pub gets_among : List SubOp → List SubOp
gets_among os = filter (λ (o : SubOp). is_get o.deed) os

-- a yes vote shows what its gets are worth at the transaction's version, in the history before its entry
abbrev pub IsRightVote : ScriptData → List Entry → List SubOp → Option Version → Vote → Type 0
IsRightVote s before ops born (Yes values) = IsShown (worth s before) (gets_among ops) values born
IsRightVote s before ops born (No cause) = Unit {0}

-- a subtransaction of a read transaction shows what its items are worth at the transaction's version after these acts,
-- of which its own is the last; a strict transaction's vote is right in the history before its entry
abbrev pub IsRightAct : ScriptData → List Entry → List Place → Act → Type 0
IsRightAct s before upto (Did t k values) =
    IsTrue (reads s t.0) → IsShown (worth_in s upto) (ops_of s t.0 k.0) values (version_in t.0 upto)
IsRightAct s before upto (Voted t k vote) =
    IsTrue (is_strict_tree s t.0) → IsRightVote s before (ops_of s t.0 k.0) (version_in t.0 upto) vote
IsRightAct s before upto _ = Unit {0}

-- Each read shows what was worth at its version up to its place: the acts of all entries before, and of its own entry
-- those up to and with its Did. Whether the Did itself is among them makes no difference, since a read transaction's
-- Did changes no worth.
abbrev pub IsRight : ScriptData → List Entry → Type 0
IsRight s h =
    AtEachAct (λ (before : List Entry) (xs : List Place) (x : Place). IsRightAct s before (xs ++ x ∷ []) x.act) h

-- transaction t is there, and is an update or a read transaction
abbrev pub commutes : ScriptData → ℕ → Bool
commutes s t = updates s t || reads s t

-- what is in the way of subtransaction k of transaction t at node p after these acts: of an update transaction's a
-- strict transaction's lock, as the look back names it; of any other's nothing
abbrev pub in_way_of : ScriptData → List Place → ℕ → ℕ → ℕ → Option Cause
in_way_of s xs p t k = if updates s t then conflict_of s xs p t (ops_of s t k) else None

-- the acts of an entry that defer
abbrev pub is_parking : Act → Bool
is_parking (Parked t k x holder) = true
is_parking _ = false

abbrev pub parkings : List Act → List Act
parkings acts = filter is_parking acts

-- the one for what is in the way
abbrev pub parking_for : TreeNo → SubNo → Option Cause → List Act
parking_for t k None = []
parking_for t k (Some (Conflict x holder)) = Parked t k x holder ∷ []
parking_for t k (Some cause) = []

-- what the acts of an entry do for subtransaction k of transaction t, if these acts came before: one of an update or
-- read transaction is done if nothing is in its way; if something is, it is deferred for that; and nothing else is
-- deferred
pub record IsDoneOrParked (s : ScriptData) (xs : List Place) (p : ℕ) (t : TreeNo) (k : SubNo) (acts : List Act) : Type 0 where
  pub done : IsTrue (commutes s t.0) → list_any (does t.0 k.0) acts ≡ not (is_some (in_way_of s xs p t.0 k.0))
  pub parked : parkings acts ≡ parking_for t k (in_way_of s xs p t.0 k.0)

-- an entry that takes the message of a subtransaction, or its Wake, does it or defers it; any other defers nothing
abbrev pub IsDoneAtOnce : ScriptData → List Place → ℕ → Body → List Act → Type 0
IsDoneAtOnce s xs p (Root t) acts = IsDoneOrParked s xs p t (record { 0 = 0 }) acts
IsDoneAtOnce s xs p (SubLetter t k v) acts = IsDoneOrParked s xs p t k acts
IsDoneAtOnce s xs p (Wake t k) acts = IsDoneOrParked s xs p t k acts
IsDoneAtOnce s xs p _ acts = parkings acts ≡ []

-- each entry does at once what it is asked for: so no subtransaction of a read transaction waits, and one of an update
-- transaction just if a strict transaction's lock is in its way
abbrev pub IsAtOnce : ScriptData → List Entry → Type 0
IsAtOnce s h =
    (n : ℕ) (e : Entry) → slice_get h n ≡ Some e → IsDoneAtOnce s (places_of (take n h)) e.actor.0 e.took.body e.acts

-- the act is the client's end
abbrev pub finishes : Act → Bool
finishes Finished = true
finishes _ = false

-- the client has finished
abbrev pub has_finished : List Place → Bool
has_finished xs = list_any (λ (x : Place). finishes x.act) xs

abbrev pub HasFinished : List Entry → Type 0
HasFinished h = IsTrue (has_finished (places_of h))
