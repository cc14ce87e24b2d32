-- When a script is valid.
use Rattle.std.specs.Prelude.{ℕ, Bool, true, false, if◌then◌else◌, ◌≡◌, ◌+◌, ◌<◌, ◌≤◌, ◌*◌, ◌==◌, IsTrue, List, [], ◌∷◌, ◌++◌, length, map, nat_eq, Option, Some, None, slice_get, unsigned_abs}
use Rattle.std.specs.List.{AllByRecursion, IsDistinct}
use Rattle.std.specs.Str.{bytes_eq}
use Rattle.commute_ops.specs.declared.kinds.Kind.{Kind}
use Rattle.commute_ops.specs.declared.kinds.Kind.TheVariants.{Sum as SumKind, Top as TopKind, Bag as BagKind}
use Rattle.commute_ops.specs.declared.kinds.Op.{Op}
use Rattle.commute_ops.specs.declared.kinds.Op.TheVariants.{Add, Top, Put}
use Rattle.commute_ops.specs.declared.kinds.TheConstants.{MOST_AMOUNT}
use Rattle.tv_base.specs.Sums.{tally}
pub use Rattle.script_parts.specs.Amounts.{magnitude, op_magnitude}
use Rattle.script_parts.specs.Counts.{advances_in, all_ops, all_subs, loses_in, ops_in, strict_trees, trees_puts, update_subs}
use Rattle.script_parts.specs.Forms.{most_amount, most_nodes}
use Rattle.script_parts.specs.Names.{is_name}
use Rattle.script_parts.specs.Ranges.{is_in_range}
use Rattle.script_parts.specs.ScriptData.{ScriptData}
use Rattle.script_parts.specs.Undone.{subs_add, undone}
use Rattle.script_parts.specs.declared.parts.Form.{Form}
use Rattle.script_parts.specs.declared.parts.Form.TheVariants as forms
use Rattle.script_parts.specs.declared.parts.ItemRow.{ItemRow}
use Rattle.script_parts.specs.declared.parts.Tree.{Tree}
use Rattle.script_parts.specs.declared.parts.Sub.{Sub}
use Rattle.script_parts.specs.declared.parts.SubOp.{SubOp}
use Rattle.script_parts.specs.declared.parts.Deed.{Deed}
use Rattle.script_parts.specs.declared.parts.Deed.TheVariants.{Apply, Get, Set, Draw}
use Rattle.script_parts.specs.declared.parts.ScriptRow.{ScriptRow}
use Rattle.script_parts.specs.declared.parts.ScriptRow.TheVariants as rows
use Rattle.script_parts.specs.declared.parts.TreeKind.{TreeKind}
use Rattle.script_parts.specs.declared.parts.TreeKind.TheVariants as trees
use Rattle.script_parts.specs.declared.parts.Written.{Written}

-- a commuting operation is of the item's kind
abbrev pub op_fits : Kind → Op → Bool
op_fits SumKind (Add a) = true
op_fits TopKind (Top a) = true
op_fits BagKind (Put a) = true
op_fits _ _ = false

-- which operations a transaction may have on an item
abbrev pub deed_fits : TreeKind → Kind → Deed → Bool
deed_fits trees.Update kind (Apply op) = op_fits kind op
deed_fits trees.Read kind Get = true
deed_fits trees.Strict kind Get = true
deed_fits trees.Strict SumKind (Set a) = true
deed_fits trees.Strict TopKind (Set a) = true
deed_fits trees.Strict SumKind (Draw a) = true
deed_fits _ _ _ = false

-- the magnitudes of all amounts on item x
abbrev pub ops_load : ℕ → List SubOp → ℕ
ops_load x os = tally (λ o. if o.item.0 == x then magnitude o.deed else 0) os

abbrev pub subs_load : ℕ → List Sub → ℕ
subs_load x ss = tally (λ s. ops_load x s.ops) ss

abbrev pub trees_load : ℕ → List Tree → ℕ
trees_load x ts = tally (λ t. subs_load x t.subs) ts

-- the magnitude of the initial value
abbrev pub initial_load : Option ItemRow → ℕ
initial_load None = 0
initial_load (Some row) = unsigned_abs row.initial

abbrev pub load : ℕ → ScriptData → ℕ
load x s = initial_load (slice_get s.items x) + trees_load x s.trees

-- an operation is on an item of the script, at the subtransaction's node, of a kind that fits
abbrev pub OpAt : TreeKind → ℕ → SubOp → Option ItemRow → Type 0
OpAt kind node o None = ⊥
OpAt kind node o (Some row) = (row.node.0 ≡ node) × IsTrue (deed_fits kind row.kind o.deed)

abbrev pub IsOp : List ItemRow → TreeKind → ℕ → SubOp → Type 0
IsOp items kind node o = OpAt kind node o (slice_get items o.item.0)

-- subtransaction k: its parent comes before it, and the root's is 0; its amounts are in the wider range, and in that of
-- the script's form since an item's magnitudes are
pub record IsSub (nodes : ℕ) (items : List ItemRow) (kind : TreeKind) (k : ℕ) (s : Sub) : Type 0 where
  pub root : k ≡ 0 → s.parent.0 ≡ 0
  pub parent : 0 < k → s.parent.0 < k
  pub node : s.node.0 < nodes
  pub few : length s.ops ≤ 16
  pub ops : AllByRecursion (IsOp items kind s.node.0) s.ops
  pub amounts : AllByRecursion (λ o. IsTrue (is_in_range forms.Two o.deed)) s.ops

-- the subtransactions from number k on
abbrev pub AreSubs : ℕ → List ItemRow → TreeKind → ℕ → List Sub → Type 0
AreSubs nodes items kind k [] = Unit {0}
AreSubs nodes items kind k (s ∷ ss) = IsSub nodes items kind k s × AreSubs nodes items kind (k + 1) ss

-- the items on which the subtransactions have operations, in order
abbrev pub touched_items : List Sub → List ℕ
touched_items ss = map (λ o. o.item.0) (ops_in ss)

pub record IsTree (nodes : ℕ) (items : List ItemRow) (t : Tree) : Type 0 where
  pub root : 0 < length t.subs
  pub few : length t.subs ≤ 64
  pub subs : AreSubs nodes items t.kind 0 t.subs
  pub name : IsTrue (is_name t.name)
  -- a strict transaction has at most one operation on an item
  pub once : t.kind ≡ trees.Strict → IsDistinct nat_eq (touched_items t.subs)

-- an item is at a node of the script, and a bag starts empty; how much the form allows is said of all magnitudes
pub record IsItem (nodes : ℕ) (r : ItemRow) : Type 0 where
  pub node : r.node.0 < nodes
  pub bag : r.kind ≡ BagKind → unsigned_abs r.initial ≡ 0
  pub name : IsTrue (is_name r.name)
  pub small : unsigned_abs r.initial ≤ MOST_AMOUNT

-- the tree rows name the transactions from number k on, each once and in order
abbrev pub NamesInOrder : ℕ → ℕ → List ScriptRow → Type 0
NamesInOrder k n [] = k ≡ n
NamesInOrder k n (rows.Tree t ∷ rs) = (t.0 ≡ k) × NamesInOrder (k + 1) n rs
NamesInOrder k n (_ ∷ rs) = NamesInOrder k n rs

abbrev pub item_names : List ItemRow → List (List ℕ)
item_names items = map (λ r. r.name) items

abbrev pub tree_names : List Tree → List (List ℕ)
tree_names ts = map (λ t. t.name) ts

-- the numbers of a script's transactions, rows and operations are within their limits
pub record IsLimited (s : ScriptData) : Type 0 where
  pub subs : all_subs s.trees ≤ 100000
  pub ops : all_ops s.trees ≤ 200000
  pub puts : (x : ℕ) → x < length s.items → trees_puts x s.trees ≤ 64
  pub advances : advances_in s.rows ≤ 100
  pub loses : loses_in s.rows ≤ 100
  pub strict : strict_trees s.trees ≤ 1000
  pub pairs : strict_trees s.trees * update_subs s.trees ≤ 1000000
  pub places : s.nodes * length s.trees ≤ 320000

-- a transaction as it was before it failed
abbrev pub as_written : Tree → Written → Tree
as_written t w = record { name = t.name; kind = t.kind; subs = w.subs; written = None }

-- transactions pass no limit
pub record AreWithin (form : Form) (items : List ItemRow) (ts : List Tree) : Type 0 where
  pub subs : all_subs ts ≤ 100000
  pub ops : all_ops ts ≤ 200000
  pub puts : (x : ℕ) → x < length items → trees_puts x ts ≤ 64
  pub loads : (x : ℕ) → x < length items → initial_load (slice_get items x) + trees_load x ts ≤ most_amount form
  pub pairs : strict_trees ts * update_subs ts ≤ 1000000

-- a transaction after these that was written as w and then failed: what was written is an update transaction of `add`
-- operations, which passed no limit when it came after them, and the transaction is its compensated form
pub record HasFailed (form : Form) (nodes : ℕ) (items : List ItemRow) (front : List Tree) (t : Tree)
    (w : Written) : Type 0 where
  pub second : form ≡ forms.Two
  pub update : t.kind ≡ trees.Update
  pub adds : IsTrue (subs_add w.subs)
  pub failed : w.failed.0 < length w.subs
  pub subs : t.subs ≡ undone w.subs w.failed.0
  pub tree : IsTree nodes items (as_written t w)
  pub within : AreWithin form items (front ++ as_written t w ∷ [])

abbrev pub MayHaveFailed : Form → ℕ → List ItemRow → List Tree → Tree → Option Written → Type 0
MayHaveFailed form nodes items front t None = Unit {0}
MayHaveFailed form nodes items front t (Some w) = HasFailed form nodes items front t w

-- each transaction that was written otherwise, of those after these, has failed
abbrev pub MayAllHaveFailed : Form → ℕ → List ItemRow → List Tree → List Tree → Type 0
MayAllHaveFailed form nodes items front [] = Unit {0}
MayAllHaveFailed form nodes items front (t ∷ ts) =
    MayHaveFailed form nodes items front t t.written × MayAllHaveFailed form nodes items (front ++ t ∷ []) ts

-- the last of a list
abbrev pub last_of : {A : Type 0} → List A → Option A
last_of [] = None
last_of (x ∷ []) = Some x
last_of (x ∷ y ∷ ys) = last_of (y ∷ ys)

-- what the last transaction was written as, if it has failed
abbrev pub last_written : List Tree → Option Written
last_written ts = elim (last_of ts) [ None ↦ None | Some t ↦ t.written ]

-- what every script keeps
pub record IsValid (s : ScriptData) : Type 0 where
  pub some_nodes : 1 ≤ s.nodes
  pub few_nodes : s.nodes ≤ most_nodes s.form
  pub few_items : length s.items ≤ 10000
  pub few_trees : length s.trees ≤ 20000
  pub items : AllByRecursion (IsItem s.nodes) s.items
  pub trees : AllByRecursion (IsTree s.nodes s.items) s.trees
  pub loads : (x : ℕ) → x < length s.items → load x s ≤ most_amount s.form
  pub rows : NamesInOrder 0 (length s.trees) s.rows
  pub begun : s.begun ≡ true → 0 < length s.trees
  pub distinct_items : IsDistinct bytes_eq (item_names s.items)
  pub distinct_trees : IsDistinct bytes_eq (tree_names s.trees)
  pub limited : IsLimited s
  pub first_form : s.form ≡ forms.One → loses_in s.rows ≡ 0
  -- a transaction that is begun hasn't failed
  pub unfailed : s.begun ≡ true → last_written s.trees ≡ None
  pub failed : MayAllHaveFailed s.form s.nodes s.items [] s.trees
