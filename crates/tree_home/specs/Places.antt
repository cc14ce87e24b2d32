-- Open trees in places of a table, with the places by tree number.
use Rattle.std.specs.Prelude.{ℕ, zero, suc, ◌≡◌, ◌<◌, ◌≤◌, List, [], ◌∷◌, length, Option, Some, None, slice_get, slice_index}
use Rattle.tv_base.specs.declared.numbers.TreeNo.{TreeNo}
use Rattle.tree_home.specs.declared.homes.OpenTree.{OpenTree}
use Rattle.tree_home.specs.declared.table.TreePlace.{TreePlace}

-- a tree in its place
abbrev pub placed_tree : TreeNo → OpenTree → TreePlace
placed_tree t h = record { tree = t; opened = h }

-- what is open in a place
abbrev pub opened_in : Option TreePlace → Option OpenTree
opened_in None = None
opened_in (Some p) = Some p.opened

-- what is open in the place whose number is one more; 0 is no place's
abbrev pub opened_at : List TreePlace → ℕ → Option OpenTree
opened_at ps zero = None
opened_at ps (suc p) = opened_in (slice_get ps p)

-- what is open of a tree, with the numbers of places by tree number
abbrev pub opened_by : List ℕ → List TreePlace → ℕ → Option OpenTree
opened_by is ps t = opened_at ps (slice_index is t)

-- the number of the tree in a place
abbrev pub tree_of_place : Option TreePlace → Option ℕ
tree_of_place None = None
tree_of_place (Some p) = Some p.tree.0

abbrev pub tree_at : List TreePlace → ℕ → Option ℕ
tree_at ps p = tree_of_place (slice_get ps p)

-- an entry of a tree that is open, before others
abbrev pub with_entry : ℕ → Option OpenTree → List (TreeNo × OpenTree) → List (TreeNo × OpenTree)
with_entry t None es = es
with_entry t (Some h) es = (record { 0 = t }, h) ∷ es

-- the entries of the trees that are open, from tree t on
abbrev pub table_entries : ℕ → List ℕ → List TreePlace → List (TreeNo × OpenTree)
table_entries t [] ps = []
table_entries t (i ∷ is) ps = with_entry t (opened_at ps i) (table_entries (suc t) is ps)

-- the first n places are in use: each is the place of its tree, and no tree has another
pub record IsTreeTable (is : List ℕ) (ps : List TreePlace) (n : ℕ) : Type 0 where
  pub within : n ≤ length ps
  pub placed : (t p : ℕ) → slice_index is t ≡ suc p → (p < n) × (tree_at ps p ≡ Some t)
  pub listed : (t p : ℕ) → p < n → tree_at ps p ≡ Some t → slice_index is t ≡ suc p
