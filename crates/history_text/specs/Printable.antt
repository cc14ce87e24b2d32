-- What a history's lines may say: what is in the script, values of their items' kinds, and numbers in their ranges.
use Rattle.std.specs.Prelude.{ℕ, ◌≡◌, ◌<◌, ◌≤◌, ◌+◌, ◌^◌, Bool, List, [], ◌++◌, ◌⊎◌, codes, length, ℤ, unsigned_abs, Option, Some, None, slice_get, is_some, IsTrue}
use Rattle.std.specs.List.{AllByRecursion}
use Rattle.tv_base.specs.declared.numbers.ItemNo.{ItemNo}
use Rattle.commute_ops.specs.Numbers.{IsAscending}
use Rattle.commute_ops.specs.declared.kinds.Kind.{Kind}
use Rattle.commute_ops.specs.declared.kinds.Kind.TheVariants as kinds
use Rattle.commute_ops.specs.declared.kinds.TheConstants.{MOST_AMOUNT}
use Rattle.commute_ops.specs.declared.value.Value.{Value}
use Rattle.commute_ops.specs.declared.value.Value.TheVariants.{Sum, Top, Bag}
use Rattle.letter_types.specs.declared.acts.Act.{Act}
use Rattle.letter_types.specs.declared.bodies.Body.{Body}
use Rattle.letter_types.specs.declared.entries.Entry.{Entry}
use Rattle.letter_types.specs.declared.entries.Outgoing.{Outgoing}
use Rattle.letter_types.specs.declared.votes.Cause.{Cause}
use Rattle.letter_types.specs.declared.votes.Cause.TheVariants.{Conflict, Newer, Short}
use Rattle.tx_trees.specs.ScriptData.{ScriptData, is_strict, sub_at}
use Rattle.tx_trees.specs.declared.parts.ItemRow.{ItemRow}
use Rattle.tx_trees.specs.declared.parts.Tree.{Tree}
use Rattle.history_text.specs.History.{entry_lines}
use Rattle.history_text.specs.LineParts.{Count, Got, Half, ItemOf, Never, Only, Part, Row, SubOf, TreeOf, Whole, Why, Word, act_parts, body_parts}

-- versions, rounds, epochs, counters and stamps; and places and numbers of advances
abbrev pub IsWord : ℕ → Type 0
IsWord n = n < 2 ^ 64

abbrev pub IsHalfWord : ℕ → Type 0
IsHalfWord n = n < 2 ^ 32

-- an actor: a node, the coordinator or the client
abbrev pub IsActor : ScriptData → ℕ → Type 0
IsActor s a = a < s.nodes + 2

abbrev pub IsTreeOf : ScriptData → ℕ → Type 0
IsTreeOf s t = t < length s.trees

-- subtransaction k is one of transaction t
abbrev pub IsSubOf : ScriptData → ℕ → ℕ → Type 0
IsSubOf s t k = IsTrue (is_some (sub_at s t k))

abbrev pub IsItemOf : ScriptData → ℕ → Type 0
IsItemOf s x = x < length s.items

-- transaction t is there, and is a strict transaction, or isn't one
abbrev pub HasStrictness : Bool → Option Tree → Type 0
HasStrictness b None = ⊥
HasStrictness b (Some tree) = is_strict tree.kind ≡ b

-- a number that an item may hold
abbrev pub IsAmount : ℤ → Type 0
IsAmount n = unsigned_abs n ≤ MOST_AMOUNT

-- a value of an item of this kind
abbrev pub IsOfKind : Kind → Value → Type 0
IsOfKind kinds.Sum (Sum n) = IsAmount n.0
IsOfKind kinds.Top (Top n) = IsAmount n.0
IsOfKind kinds.Bag (Bag ns) = IsAscending ns × AllByRecursion IsAmount ns
IsOfKind _ _ = ⊥

-- a value of this item, which is there
abbrev pub IsOfItem : Option ItemRow → Value → Type 0
IsOfItem None w = ⊥
IsOfItem (Some row) w = IsOfKind row.kind w

-- values of items
abbrev pub IsGot : ScriptData → ItemNo × Value → Type 0
IsGot s got = IsOfItem (slice_get s.items got.0.0) got.1

abbrev pub AreGot : ScriptData → List (ItemNo × Value) → Type 0
AreGot s vs = AllByRecursion (IsGot s) vs

abbrev pub IsCause : ScriptData → Cause → Type 0
IsCause s (Conflict x t) = IsItemOf s x.0 × IsTreeOf s t.0
IsCause s (Newer x v) = IsItemOf s x.0 × IsWord v.0
IsCause s (Short x n) = IsItemOf s x.0 × IsAmount n

-- one number for each node
abbrev pub IsRow : ScriptData → List ℕ → Type 0
IsRow s row = (length row ≡ s.nodes) × AllByRecursion IsWord row

-- a part that may be printed
abbrev pub IsPart : ScriptData → Part → Type 0
IsPart s (Word word) = Unit {0}
IsPart s (Never word) = ⊥
IsPart s (Count word n) = IsWord n
IsPart s (Half n) = IsHalfWord n
IsPart s (TreeOf t) = IsTreeOf s t
IsPart s (SubOf t k) = IsSubOf s t k
IsPart s (ItemOf x) = IsItemOf s x
IsPart s (Got vs) = AreGot s vs
IsPart s (Why cause) = IsCause s cause
IsPart s (Row row) = IsRow s row
IsPart s (Whole t) = IsTreeOf s t
IsPart s (Only strict t) = HasStrictness strict (slice_get s.trees t)

abbrev pub AreParts : ScriptData → List Part → Type 0
AreParts s parts = AllByRecursion (IsPart s) parts

-- a message that is sent says this
abbrev pub IsBody : ScriptData → Body → Type 0
IsBody s b = AreParts s (body_parts b)

abbrev pub IsSent : ScriptData → Outgoing → Type 0
IsSent s o = IsActor s o.to.0 × IsBody s o.body

abbrev pub IsAct : ScriptData → Act → Type 0
IsAct s a = AreParts s (act_parts a)

-- an entry that may stand in a history's lines; of the message that it took they say the id alone
pub record IsPrintable (s : ScriptData) (e : Entry) : Type 0 where
  pub stamp : IsWord e.stamp.0
  pub actor : IsActor s e.actor.0
  pub took : IsWord e.took.id.stamp.0 × IsHalfWord e.took.id.place
  pub sent : AllByRecursion (IsSent s) e.sent
  pub acts : AllByRecursion (IsAct s) e.acts

-- an entry's lines end where the text ends, or at the next line that begins an entry
abbrev pub EndsEntry : List ℕ → Type 0
EndsEntry rest = (rest ≡ []) ⊎ ((more : List ℕ) × (rest ≡ codes "entry " ++ more))

-- the text begins with the lines of this entry, and this is the rest
pub record Begins (s : ScriptData) (text : List ℕ) (e : Entry) (rest : List ℕ) : Type 0 where
  pub lines : text ≡ entry_lines s e ++ rest
  pub may : IsPrintable s e
  pub ends : EndsEntry rest

-- the text begins with the lines of no entry
abbrev pub BeginsWithNone : ScriptData → List ℕ → Type 0
BeginsWithNone s text = (e : Entry) (rest : List ℕ) → Begins s text e rest → ⊥
