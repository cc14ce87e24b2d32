-- How transactions, items, actors and got values are printed where they stand between spaces.
use Rattle.std.specs.Prelude.{ℕ, ℤ, List, [], ◌∷◌, ◌++◌, codes, decimal, map, Option, Some, None, slice_get, ◌≡◌, MatchOption}
use Rattle.std.specs.Fmt.{signed_decimal}
use Rattle.std.specs.List.{AllByRecursion}
use Rattle.tv_base.specs.declared.numbers.ActorNo.{ActorNo}
use Rattle.tv_base.specs.declared.numbers.ItemNo.{ItemNo}
use Rattle.tv_base.specs.declared.numbers.TreeNo.{TreeNo}
use Rattle.commute_ops.specs.Numbers.{IsAscending}
use Rattle.commute_ops.specs.declared.kinds.Kind.{Kind}
use Rattle.commute_ops.specs.declared.value.Value.{Value}
use Rattle.letter_types.specs.declared.votes.Cause.{Cause}
use Rattle.letter_types.specs.declared.votes.Cause.TheVariants.{Conflict, Newer, Short}
use Rattle.tx_trees.specs.ScriptData.{ScriptData}
use Rattle.history_text.specs.TreeNames.{actor_text, item_text, tree_text}
use Rattle.history_text.specs.Values.{value_text}
use Rattle.history_text.specs.Printable.{IsActor, IsAmount, IsItemOf, IsTreeOf, IsCause}
use Rattle.history_text.specs.Exact.{IsReadBack}

abbrev pub name_of_tree : ScriptData → TreeNo → List ℕ
name_of_tree s t = tree_text s t.0

abbrev pub HasTree : ScriptData → TreeNo → Type 0
HasTree s t = IsTreeOf s t.0

abbrev pub name_of_item : ScriptData → ItemNo → List ℕ
name_of_item s x = item_text s x.0

abbrev pub HasItem : ScriptData → ItemNo → Type 0
HasItem s x = IsItemOf s x.0

abbrev pub name_of_actor : ScriptData → ActorNo → List ℕ
name_of_actor s a = actor_text s a.0

abbrev pub HasActor : ScriptData → ActorNo → Type 0
HasActor s a = IsActor s a.0

-- the kind of an item, if it is there
abbrev pub kind_at : ScriptData → ItemNo → Option Kind
kind_at s x = elim (slice_get s.items x.0) [ Some row ↦ Some row.kind | None ↦ None ]

-- an item and its value
abbrev pub got_in_words : ScriptData → ItemNo × Value → List ℕ
got_in_words s got = item_text s got.0.0 ++ (codes "=" ++ value_text got.1)

-- what a cause says, word by word
abbrev pub cause_words : ScriptData → Cause → List (List ℕ)
cause_words s (Conflict x t) = codes "conflict" ∷ item_text s x.0 ∷ tree_text s t.0 ∷ []
cause_words s (Newer x v) = codes "newer" ∷ item_text s x.0 ∷ decimal v.0 ∷ []
cause_words s (Short x n) = codes "short" ∷ item_text s x.0 ∷ signed_decimal n ∷ []

-- the numbers of a bag
abbrev pub IsBag : List ℤ → Type 0
IsBag ns = IsAscending ns × AllByRecursion IsAmount ns

-- the numbers, if they ascend, as a bag's
abbrev pub IsBagOf : List ℤ → Option (List ℤ) → Type 0
IsBagOf ns made = MatchOption made (IsAscending ns → ⊥) (λ bag. (bag ≡ ns) × IsAscending ns)

-- a text in braces (123 and 125), and one that isn't
abbrev pub braced : List ℕ → List ℕ
braced inner = 123 ∷ (inner ++ 125 ∷ [])

abbrev pub IsUnbraced : List ℕ → Type 0
IsUnbraced text = (inner : List ℕ) → text ≡ braced inner → ⊥

abbrev pub AllAmounts : List ℤ → Type 0
AllAmounts ns = AllByRecursion IsAmount ns

-- each amount as a word
abbrev pub amount_words : List ℤ → List (List ℕ)
amount_words ns = map signed_decimal ns

-- each got value as a word
abbrev pub got_words : ScriptData → List (ItemNo × Value) → List (List ℕ)
got_words s vs = map (got_in_words s) vs

-- what is read of these words as a cause
abbrev pub IsCauseRead : ScriptData → List (List ℕ) → Option Cause → Type 0
IsCauseRead s words read = IsReadBack (cause_words s) (IsCause s) words read
