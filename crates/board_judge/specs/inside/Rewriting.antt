-- The deeds of transactions that acts close, noted on the items' worths, and how that is taken back.
use Rattle.std.specs.Prelude.{if◌then◌else◌, ◌≡◌, ◌==◌, Bool, true, ℕ, List, [], ◌∷◌, ◌++◌, map, Decides, IsTrue, Option, Some, None, slice_get, slice_set}
use Rattle.std.specs.List.{AllByRecursion}
use Rattle.tv_base.specs.declared.numbers.TreeNo.{TreeNo}
use Rattle.commute_ops.specs.declared.kinds.Kind.{Kind}
use Rattle.letter_types.specs.declared.entries.Entry.{Entry}
use Rattle.script_parts.specs.ScriptData.{ScriptData, subs_at}
use Rattle.script_parts.specs.declared.parts.ItemRow.{ItemRow}
use Rattle.script_parts.specs.declared.parts.Deed.{Deed}
use Rattle.script_parts.specs.declared.parts.Sub.{Sub}
use Rattle.script_parts.specs.declared.parts.SubOp.{SubOp}
use Rattle.board_rules.specs.ButCause.{IsMoveButCause}
use Rattle.board_rules.specs.Histories.{Place, places_of, acts_at}
use Rattle.board_rules.specs.Moves.{OneByOne}
use Rattle.board_tallies.specs.Board.{BoardData, IsBoardOf, closes_in, OfBoard, tree_number}
use Rattle.worth_steps.specs.Kept.{WorthsData, worths_back, AreWorthsWith}
use Rattle.worth_steps.specs.Worth.{Noted, deed_suits}
use Rattle.board_judge.specs.Notes.{AreKnown, ops_noted, subs_noted, tree_noted}
use Rattle.board_judge.specs.declared.rewriting.Altered.{Altered}
use Rattle.board_judge.specs.declared.rewriting.ItemWorths.{ItemWorths}
use Rattle.board_judge.specs.inside.Votes.{IsRightRead}
use Rattle.tv_base.specs.declared.numbers.ItemNo.{ItemNo}
use Rattle.letter_types.specs.declared.acts.Act.{Act}
use Rattle.worth_steps.specs.declared.change.WorthChange.{WorthChange}
use Rattle.board_judge.specs.declared.noting.Tallies.{Tallies}
use Rattle.board_judge.specs.inside.Steps.{AreNoted}

-- the worths with one change taken back: an item that isn't there changes nothing
abbrev pub altered_back : Altered → List WorthsData → List WorthsData
altered_back a ws = elim (slice_get ws a.item.0) [ Some w ↦ slice_set ws a.item.0 (worths_back a.change w) | None ↦ ws ]

-- the worths with these changes taken back, the last one first
abbrev pub unaltered : List Altered → List WorthsData → List WorthsData
unaltered [] ws = ws
unaltered (a ∷ rest) ws = altered_back a (unaltered rest ws)

-- the worths with what was changed of them taken back
abbrev pub worths_before : ItemWorths → List WorthsData
worths_before kept = unaltered kept.trail.items kept.worths.items

-- the first worths come back from the second ones by this change of an item
abbrev pub ComesBack : ItemNo → List WorthsData → List WorthsData → WorthChange → Type 0
ComesBack item olds news change = altered_back (record { item = item; change = change }) news ≡ olds

-- what the walk over these acts of an entry after the history h has found
pub record IsRewritten (s : ScriptData) (h : List Entry) (ys : List Place) (right : Bool) (ws : List WorthsData) : Type 0 where
  pub reads : Decides right (OneByOne (λ (xs : List Place) (x : Place). IsRightRead s (xs ++ x ∷ []) x.act) (places_of h) ys)
  pub known : right ≡ true → AreKnown s (places_of h ++ ys) ws

-- the kinds of items with these worths; and they are those of the script's items
abbrev pub kinds_of : List WorthsData → List Kind
kinds_of ws = map (λ (w : WorthsData). w.kind) ws

abbrev pub AreOfKinds : ScriptData → List WorthsData → Type 0
AreOfKinds s ws = kinds_of ws ≡ map (λ (row : ItemRow). row.kind) s.items

-- an item of this kind may have the deed, if it is there; and so may each of these operations' items
abbrev pub SuitsKind : Deed → Option Kind → Type 0
SuitsKind d None = ⊥
SuitsKind d (Some kind) = IsTrue (deed_suits kind d)

abbrev pub AllSuit : List Kind → List SubOp → Type 0
AllSuit kinds ops = AllByRecursion (λ (o : SubOp). SuitsKind o.deed (slice_get kinds o.item.0)) ops

abbrev pub AllSubsSuit : List Kind → List Sub → Type 0
AllSubsSuit kinds subs = AllByRecursion (λ (sub : Sub). AllSuit kinds sub.ops) subs

-- the items are as many, each of its kind, and these deeds more were noted on each
pub record HasNoted (more : ℕ → List Noted) (olds news : List WorthsData) : Type 0 where
  pub kinds : kinds_of news ≡ kinds_of olds
  pub each : (x : ℕ) (w z : WorthsData) → slice_get olds x ≡ Some w → slice_get news x ≡ Some z
      → AreWorthsWith (more x) w z

-- one deed on item i, and on no other
abbrev pub one_noted : ℕ → Noted → ℕ → List Noted
one_noted i n x = if i == x then n ∷ [] else []

-- one deed on an item, in version v; the deed of an operation, and of several
abbrev pub HasNotedOne : ItemNo → ℕ → Deed → List WorthsData → List WorthsData → Type 0
HasNotedOne item v deed olds news = HasNoted (one_noted item.0 (record { version = v; deed = deed })) olds news

abbrev pub HasNotedOp : ℕ → SubOp → List WorthsData → List WorthsData → Type 0
HasNotedOp v op olds news = HasNotedOne op.item v op.deed olds news

abbrev pub HasNotedOps : ℕ → List SubOp → List WorthsData → List WorthsData → Type 0
HasNotedOps v ops olds news = HasNoted (λ (x : ℕ). ops_noted v x ops) olds news

-- the deeds of subtransactions, in version v, and of all those of transaction t
abbrev pub HasNotedSubs : ℕ → List Sub → List WorthsData → List WorthsData → Type 0
HasNotedSubs v subs olds news = HasNoted (λ (x : ℕ). subs_noted v x subs) olds news

abbrev pub HasNotedTree : ScriptData → ℕ → ℕ → List WorthsData → List WorthsData → Type 0
HasNotedTree s v t olds news = HasNotedSubs v (subs_at s t) olds news

-- the deeds of a transaction that is closed, if there is one
abbrev pub closed_noted : ScriptData → List Place → ℕ → Option TreeNo → List Noted
closed_noted s xs x None = []
closed_noted s xs x (Some t) = tree_noted s xs x t.0

-- those of a transaction that is closed, by whatever acts these are the tallies of
abbrev pub HasNotedClosed : ScriptData → BoardData → Option TreeNo → List WorthsData → List WorthsData → Type 0
HasNotedClosed s b closed olds news =
    OfBoard s b (λ xs. HasNoted (λ (x : ℕ). closed_noted s xs x closed) olds news)

-- the act y after the acts xs was a move, this transaction is closed by it, and these are the tallies after it and
-- later acts
pub record IsClosing (s : ScriptData) (xs later : List Place) (y : Place) (closed : Option TreeNo) (b : BoardData) : Type 0 where
  pub move : IsMoveButCause s [] xs y
  pub closes : tree_number closed ≡ closes_in s (xs ++ y ∷ []) y.act
  pub board : IsBoardOf s ((xs ++ y ∷ []) ++ later) b

-- what was found of the act y after the acts xs, and the worths with it
pub record IsCompared (s : ScriptData) (xs : List Place) (y : Place) (right : Bool) (ws : List WorthsData) : Type 0 where
  pub reads : Decides right (IsRightRead s (xs ++ y ∷ []) y.act)
  pub known : AreKnown s (xs ++ y ∷ []) ws

-- what the walk over these acts of an entry that was noted with these tallies has found, with the worths after it,
-- whatever history was before
abbrev pub IsRewrittenBy : ScriptData → Tallies → List Act → List WorthsData → List WorthsData → Bool → Type 0
IsRewrittenBy s tallies acts olds news right =
    (h : List Entry) (p : ℕ) → AreNoted s h (acts_at p acts) tallies.steps.items tallies.board
    → AreKnown s (places_of h) olds → IsRewritten s h (acts_at p acts) right news
