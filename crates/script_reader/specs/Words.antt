-- The words that rows begin with, and those of transactions, operations and kinds.
use Rattle.std.specs.Prelude.{ℕ, Bool, true, false, List, [], ◌∷◌, Option, find, codes}
use Rattle.std.specs.Str.{bytes_eq}
use Rattle.commute_ops.specs.declared.kinds.Kind.{Kind}
use Rattle.commute_ops.specs.declared.kinds.Kind.TheVariants as kinds
use Rattle.tx_trees.specs.declared.parts.Form.{Form}
use Rattle.tx_trees.specs.declared.parts.Form.TheVariants as forms
use Rattle.tx_trees.specs.declared.parts.TreeKind.{TreeKind}
use Rattle.tx_trees.specs.declared.parts.TreeKind.TheVariants as trees
use Rattle.script_reader.specs.declared.words.OpWord.TheVariants as ops
use Rattle.script_reader.specs.declared.words.RowWord.{RowWord}
use Rattle.script_reader.specs.declared.words.RowWord.TheVariants as words

-- the word of a tree row
abbrev pub tree_word : TreeKind → List ℕ
tree_word trees.Update = codes "update"
tree_word trees.Read = codes "read"
tree_word trees.Strict = codes "strict"

-- the word of a kind
abbrev pub kind_word : Kind → List ℕ
kind_word kinds.Sum = codes "sum"
kind_word kinds.Top = codes "top"
kind_word kinds.Bag = codes "bag"

-- what a row is, and how many fields it has
abbrev pub RowShape : Type 0
RowShape = RowWord × ℕ

-- each row's first field with its shape
abbrev pub row_words : List (List ℕ × RowShape)
row_words =
    (codes "sub", (words.Sub, 3)) ∷ (codes "get", (words.Get, 2)) ∷ (codes "item", (words.Item, 5))
    ∷ (codes "add", (words.Op ops.Add, 3)) ∷ (codes "top", (words.Op ops.Top, 3)) ∷ (codes "put", (words.Op ops.Put, 3))
    ∷ (codes "set", (words.Op ops.Set, 3)) ∷ (codes "draw", (words.Op ops.Draw, 3))
    ∷ (tree_word trees.Update, (words.Tree trees.Update, 3)) ∷ (tree_word trees.Read, (words.Tree trees.Read, 3))
    ∷ (tree_word trees.Strict, (words.Tree trees.Strict, 3))
    ∷ (codes "threev", (words.Form, 2)) ∷ (codes "nodes", (words.Nodes, 2)) ∷ (codes "advance", (words.Advance, 1))
    ∷ (codes "settle", (words.Settle, 1)) ∷ (codes "pick", (words.Pick, 2)) ∷ (codes "lose", (words.Lose, 1))
    ∷ (codes "fail", (words.Fail, 2)) ∷ []

-- the first record may name the second form, and isn't of it
abbrev pub may_be_first : RowWord → Bool
may_be_first words.Lose = false
may_be_first words.Fail = false
may_be_first word = true

-- a script of the second form has rows that the first doesn't
abbrev pub is_second : Form → Bool
is_second forms.One = false
is_second forms.Two = true

-- a later record names no form; `lose` and `fail` are row words of the second form
abbrev pub may_follow : Form → RowWord → Bool
may_follow form words.Form = false
may_follow form words.Lose = is_second form
may_follow form words.Fail = is_second form
may_follow form word = true

-- the kind of this word
abbrev pub kind_of : List ℕ → Option Kind
kind_of word = find (λ k. bytes_eq word (kind_word k)) (kinds.Sum ∷ kinds.Top ∷ kinds.Bag ∷ [])
