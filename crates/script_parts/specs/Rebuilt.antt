-- A script that is built again from its own rows: its form, its nodes, its items, each row, a transaction's row with
-- its whole transaction, and its picks, in this order.
use Rattle.std.specs.Prelude.{ℕ, ◌≡◌, List, [], ◌∷◌, Option, Some, None, Result, Ok, Err, slice_get}
use Rattle.script_parts.specs.Adding.{adds_advance, adds_fail, adds_item, adds_lose, adds_op, adds_pick, adds_settle, adds_sub, adds_tree, fresh}
use Rattle.script_parts.specs.ScriptData.{ScriptData}
use Rattle.script_parts.specs.declared.parts.ItemRow.{ItemRow}
use Rattle.script_parts.specs.declared.parts.ScriptRow.{ScriptRow}
use Rattle.script_parts.specs.declared.parts.ScriptRow.TheVariants as rows
use Rattle.script_parts.specs.declared.parts.Sub.{Sub}
use Rattle.script_parts.specs.declared.parts.SubOp.{SubOp}
use Rattle.script_parts.specs.declared.parts.Tree.{Tree}
use Rattle.script_parts.specs.declared.parts.TreeKind.{TreeKind}
use Rattle.script_parts.specs.declared.parts.Written.{Written}
use Rattle.script_parts.specs.declared.why.Why.{Why}
use Rattle.script_parts.specs.declared.why.Why.TheVariants as why

-- what comes after a row that was taken
abbrev pub then_more : Result ScriptData Why → (ScriptData → Result ScriptData Why) → Result ScriptData Why
then_more (Ok s) more = more s
then_more (Err w) more = Err w

abbrev pub items_added : ScriptData → List ItemRow → Result ScriptData Why
items_added s [] = Ok s
items_added s (r ∷ rs) = then_more (adds_item s r) (λ t. items_added t rs)

-- the name of item k
abbrev pub name_at : ℕ → List ItemRow → List ℕ
name_at k items = elim (slice_get items k) [ None ↦ [] | Some row ↦ row.name ]

abbrev pub ops_added : ScriptData → List SubOp → Result ScriptData Why
ops_added s [] = Ok s
ops_added s (o ∷ os) = then_more (adds_op s (name_at o.item.0 s.items) o.deed) (λ t. ops_added t os)

abbrev pub subs_added : ScriptData → List Sub → Result ScriptData Why
subs_added s [] = Ok s
subs_added s (x ∷ xs) =
    then_more (adds_sub s x.parent.0 x.node) (λ t. then_more (ops_added t x.ops) (λ u. subs_added u xs))

-- a transaction by its root and the other subtransactions
abbrev pub rooted_added : ScriptData → List ℕ → TreeKind → List Sub → Result ScriptData Why
rooted_added s name kind [] = Err why.NoTree
rooted_added s name kind (x ∷ xs) =
    then_more (adds_tree s name kind x.node) (λ t. then_more (ops_added t x.ops) (λ u. subs_added u xs))

-- what a transaction is written with
abbrev pub written_subs : Tree → List Sub
written_subs t = elim t.written [ None ↦ t.subs | Some w ↦ w.subs ]

-- the transaction fails, if it was written as one that fails
abbrev pub fail_added : ScriptData → Option Written → Result ScriptData Why
fail_added s None = Ok s
fail_added s (Some w) = adds_fail s w.failed.0

abbrev pub tree_added : ScriptData → Option Tree → Result ScriptData Why
tree_added s None = Err why.NoTree
tree_added s (Some t) = then_more (rooted_added s t.name t.kind (written_subs t)) (λ u. fail_added u t.written)

-- a row of a script that has these transactions
abbrev pub row_added : List Tree → ScriptData → ScriptRow → Result ScriptData Why
row_added ts s (rows.Tree n) = tree_added s (slice_get ts n.0)
row_added ts s rows.Advance = adds_advance s
row_added ts s rows.Settle = adds_settle s
row_added ts s rows.Lose = adds_lose s

abbrev pub rows_added : List Tree → ScriptData → List ScriptRow → Result ScriptData Why
rows_added ts s [] = Ok s
rows_added ts s (r ∷ rs) = then_more (row_added ts s r) (λ t. rows_added ts t rs)

abbrev pub picks_added : ScriptData → List ℕ → Result ScriptData Why
picks_added s [] = Ok s
picks_added s (k ∷ ks) = then_more (adds_pick s k) (λ t. picks_added t ks)

abbrev pub rebuilt : ScriptData → Result ScriptData Why
rebuilt s =
    then_more (items_added (fresh s.form s.nodes) s.items)
    (λ t. then_more (rows_added s.trees t s.rows) (λ u. picks_added u s.picks))

-- two scripts that differ at most in what their last record was
pub record SameScript (s t : ScriptData) : Type 0 where
  pub form : s.form ≡ t.form
  pub nodes : s.nodes ≡ t.nodes
  pub items : s.items ≡ t.items
  pub trees : s.trees ≡ t.trees
  pub rows : s.rows ≡ t.rows
  pub picks : s.picks ≡ t.picks

-- the rows of s give s again
abbrev pub RebuiltAs : ScriptData → Type 0
RebuiltAs s = (t : ScriptData) × (rebuilt s ≡ Ok t) × SameScript t s
