-- What each row does to a script, with its conditions in the order of their numbers.
use Rattle.std.specs.Map.{lookup}
use Rattle.std.specs.Option.{option_map_or}
use Rattle.std.specs.Str.{bytes_eq}
use Rattle.std.specs.Prelude.{ℕ, ℤ, Bool, true, not, ◌==◌, ◌&&◌, ◌||◌, nat_le, List, [], ◌∷◌, length}
use Rattle.std.specs.Prelude.{get_or, Option, Some, None, is_some, Result, Ok, Err, unsigned_abs}
use Rattle.commute_ops.specs.declared.kinds.Kind.{Kind}
use Rattle.commute_ops.specs.declared.kinds.Op.TheVariants as applied
use Rattle.tv_base.specs.declared.numbers.NodeNo.{NodeNo}
use Rattle.tx_trees.specs.ScriptData.{ScriptData}
use Rattle.tx_trees.specs.Adding.{adds_advance, adds_fail, adds_item, adds_lose, adds_op}
use Rattle.tx_trees.specs.Adding.{adds_pick, adds_settle, adds_sub, adds_tree, fresh, place_of, taken_unless}
use Rattle.tx_trees.specs.Forms.{most_amount, most_nodes}
use Rattle.tx_trees.specs.Names.{has_name_len, is_name}
use Rattle.tx_trees.specs.Ranges.{is_in_range}
use Rattle.tx_trees.specs.declared.parts.Deed.{Deed}
use Rattle.tx_trees.specs.declared.parts.Deed.TheVariants as deeds
use Rattle.tx_trees.specs.declared.parts.Form.{Form}
use Rattle.tx_trees.specs.declared.parts.Form.TheVariants as forms
use Rattle.tx_trees.specs.declared.parts.TreeKind.{TreeKind}
use Rattle.tx_trees.specs.declared.why.Why.{Why}
use Rattle.tx_trees.specs.declared.why.Why.TheVariants as why
use Rattle.script_reader.specs.Numbers.{amount_value, is_amount, is_number}
use Rattle.tv_base.specs.Digits.{decimal_value}
use Rattle.script_reader.specs.Words.{kind_of, may_be_first, may_follow, row_words}
use Rattle.script_reader.specs.declared.words.OpWord.{OpWord}
use Rattle.script_reader.specs.declared.words.OpWord.TheVariants as ops
use Rattle.script_reader.specs.declared.words.RowWord.{RowWord}
use Rattle.script_reader.specs.declared.words.RowWord.TheVariants as words

-- what comes of a value, unless there is a reason against it
abbrev pub and_then : {A B E : Type 0} → Result A E → (A → Result B E) → Result B E
and_then (Ok value) next = next value
and_then (Err e) next = Err e

-- the number that a field spells, or the amount
abbrev pub as_number : List ℕ → Result ℕ Why
as_number bytes = taken_unless ((not (is_number bytes), why.BadNumber) ∷ []) (decimal_value bytes)

abbrev pub as_amount : List ℕ → Result ℤ Why
as_amount bytes = taken_unless ((not (is_amount bytes), why.BadNumber) ∷ []) (amount_value bytes)

-- a node by its number
abbrev pub node_no : ℕ → NodeNo
node_no n = record { 0 = n }

-- `threev,2`: the script is of the second form
abbrev pub form_row : List ℕ → Result (Option ScriptData) Why
form_row form = and_then (as_number form) (λ n. taken_unless ((not (n == 2), why.OutOfRange) ∷ []) None)

-- `nodes,N`
abbrev pub nodes_row : Form → List ℕ → Result ScriptData Why
nodes_row form nodes =
    and_then (as_number nodes)
    (λ n. taken_unless ((not (nat_le 1 n && nat_le n (most_nodes form)), why.OutOfRange) ∷ []) (fresh form n))

-- the item of a row whose numbers are read; of an unknown kind only the magnitude of its value is tried
abbrev pub item_of : ScriptData → List ℕ → ℕ → Option Kind → ℤ → Result ScriptData Why
item_of s name node (Some kind) initial =
    adds_item s (record { name = name; node = node_no node; kind = kind; initial = initial })
item_of s name node None initial =
    taken_unless ((nat_le s.nodes node || not (nat_le (unsigned_abs initial) (most_amount s.form)), why.OutOfRange)
    ∷ (not (is_name name), why.BadName)
    ∷ (is_some (place_of name s.items), why.NameTaken)
    ∷ (true, why.WrongKind) ∷ []) s

-- `item,NAME,NODE,KIND,INITIAL`
abbrev pub item_row : ScriptData → List ℕ → List ℕ → List ℕ → List ℕ → Result ScriptData Why
item_row s name node kind initial =
    and_then (as_number node) (λ n. and_then (as_amount initial) (item_of s name n (kind_of kind)))

-- `update,NAME,NODE`, and the same of `read` and `strict`
abbrev pub tree_row : ScriptData → TreeKind → List ℕ → List ℕ → Result ScriptData Why
tree_row s kind name node = and_then (as_number node) (λ n. adds_tree s name kind (node_no n))

-- `sub,PARENT,NODE`
abbrev pub sub_row : ScriptData → List ℕ → List ℕ → Result ScriptData Why
sub_row s parent node = and_then (as_number parent) (λ p. and_then (as_number node) (λ n. adds_sub s p (node_no n)))

-- the operation of this word and amount
abbrev pub deed_of : OpWord → ℤ → Deed
deed_of ops.Add a = deeds.Apply (applied.Add a)
deed_of ops.Top a = deeds.Apply (applied.Top a)
deed_of ops.Put a = deeds.Apply (applied.Put a)
deed_of ops.Set a = deeds.Set a
deed_of ops.Draw a = deeds.Draw a

-- an operation on the item of this name; `get,ITEM` is one
abbrev pub op_row : ScriptData → List ℕ → Deed → Result ScriptData Why
op_row s item deed =
    and_then
    (taken_unless ((not (is_in_range s.form deed), why.OutOfRange) ∷ (not (has_name_len item), why.UnknownItem) ∷ []) item)
    (λ name. adds_op s name deed)

-- `add,ITEM,AMOUNT`, and the same of the other words with an amount
abbrev pub amount_row : ScriptData → OpWord → List ℕ → List ℕ → Result ScriptData Why
amount_row s word item amount = and_then (as_amount amount) (λ a. op_row s item (deed_of word a))

-- `pick,K`
abbrev pub pick_row : ScriptData → List ℕ → Result ScriptData Why
pick_row s place =
    and_then (and_then (as_number place) (λ k. taken_unless ((nat_le 4294967296 k, why.OutOfRange) ∷ []) k)) (adds_pick s)

-- `fail,SUB`
abbrev pub fail_row : ScriptData → List ℕ → Result ScriptData Why
fail_row s sub = and_then (as_number sub) (adds_fail s)

-- a field by its place
abbrev pub field : List (List ℕ) → ℕ → List ℕ
field fields i = get_or fields i []

-- what a record is, by its first field, if such a row may stand here, and then by the number of its fields
abbrev pub row_word_of : (RowWord → Bool) → List (List ℕ) → Result RowWord Why
row_word_of may fields =
    option_map_or
    (λ e. taken_unless ((not (may e.0), why.UnknownRow) ∷ (not (length fields == e.1), why.WrongFields) ∷ []) e.0)
    (lookup (bytes_eq (field fields 0)) row_words) (Err why.UnknownRow)

-- the first record, by its word
abbrev pub first_form : List (List ℕ) → RowWord → Result (Option ScriptData) Why
first_form fields words.Form = form_row (field fields 1)
first_form fields words.Nodes = and_then (nodes_row forms.One (field fields 1)) (λ s. Ok (Some s))
first_form fields _ = Err why.NodesFirst

-- the record after one that names the second form, by its word
abbrev pub second_form : List (List ℕ) → RowWord → Result ScriptData Why
second_form fields words.Nodes = nodes_row forms.Two (field fields 1)
second_form fields _ = Err why.NodesFirst

-- a later record, by its word
abbrev pub later_form : ScriptData → List (List ℕ) → RowWord → Result ScriptData Why
later_form s fields words.Form = Err why.UnknownRow
later_form s fields words.Nodes = Err why.NodesTwice
later_form s fields words.Item = item_row s (field fields 1) (field fields 2) (field fields 3) (field fields 4)
later_form s fields (words.Tree kind) = tree_row s kind (field fields 1) (field fields 2)
later_form s fields words.Sub = sub_row s (field fields 1) (field fields 2)
later_form s fields (words.Op op) = amount_row s op (field fields 1) (field fields 2)
later_form s fields words.Get = op_row s (field fields 1) deeds.Get
later_form s fields words.Advance = adds_advance s
later_form s fields words.Settle = adds_settle s
later_form s fields words.Pick = pick_row s (field fields 1)
later_form s fields words.Lose = adds_lose s
later_form s fields words.Fail = fail_row s (field fields 1)

-- the first record
abbrev pub first_row : List (List ℕ) → Result (Option ScriptData) Why
first_row fields = and_then (row_word_of may_be_first fields) (first_form fields)

-- the record after one that names the second form
abbrev pub second_row : List (List ℕ) → Result ScriptData Why
second_row fields = and_then (row_word_of (may_follow forms.Two) fields) (second_form fields)

-- a later record
abbrev pub later_row : ScriptData → List (List ℕ) → Result ScriptData Why
later_row s fields = and_then (row_word_of (may_follow s.form) fields) (later_form s fields)
