-- How transactions, items and actors are named by number, and what values and causes of strict transactions say. What
-- the script doesn't have is printed by its number.
use Rattle.std.specs.Prelude.{if◌then◌else◌, ℕ, ◌==◌, List, [], ◌∷◌, ◌++◌, codes, decimal, Some, None, slice_get}
use Rattle.std.specs.Fmt.{signed_decimal}
use Rattle.tv_base.specs.declared.numbers.ItemNo.{ItemNo}
use Rattle.commute_ops.specs.declared.value.Value.{Value}
use Rattle.letter_types.specs.declared.votes.Cause.{Cause}
use Rattle.letter_types.specs.declared.votes.Cause.TheVariants.{Conflict, Newer, Short}
use Rattle.tx_trees.specs.ScriptData.{ScriptData, client_of}
use Rattle.history_text.specs.Values.{count_text, get_text}

-- the name of transaction t, or its number if it isn't there
abbrev pub tree_text : ScriptData → ℕ → List ℕ
tree_text s t = elim (slice_get s.trees t) [ Some tree ↦ tree.name | None ↦ decimal t ]

-- a word, transaction t and the number of a subtransaction
abbrev pub sub_text : List ℕ → ScriptData → ℕ → ℕ → List ℕ
sub_text word s t k = word ++ (tree_text s t ++ count_text (codes " ") k)

-- the name of item x, or its number if it isn't there
abbrev pub item_text : ScriptData → ℕ → List ℕ
item_text s x = elim (slice_get s.items x) [ Some row ↦ row.name | None ↦ decimal x ]

-- the nodes come first, then the coordinator, then the client
abbrev pub actor_text : ScriptData → ℕ → List ℕ
actor_text s a =
    if a == s.nodes then codes "coordinator" else if a == client_of s then codes "client" else count_text (codes "n") a

-- each value after the name of its item
abbrev pub got_text : ScriptData → List (ItemNo × Value) → List ℕ
got_text s [] = []
got_text s (got ∷ more) = get_text (item_text s got.0.0) got.1 ++ got_text s more

abbrev pub cause_text : ScriptData → Cause → List ℕ
cause_text s (Conflict x t) = codes "conflict " ++ (item_text s x.0 ++ (codes " " ++ tree_text s t.0))
cause_text s (Newer x v) = codes "newer " ++ (item_text s x.0 ++ count_text (codes " ") v.0)
cause_text s (Short x n) = codes "short " ++ (item_text s x.0 ++ (codes " " ++ signed_decimal n))
