-- What a record adds to a script, and the conditions under which it is refused, in the order of their numbers.
use Rattle.std.specs.Prelude.{ℕ, suc, zero, Bool, true, false, not, if◌then◌else◌, ◌≡◌, ◌+◌, ◌*◌, ◌==◌, ◌||◌, ◌&&◌, nat_le, nat_lt, List, [], ◌∷◌, ◌++◌, length, Option, Some, None, is_some, position, Result, Ok, Err, slice_get}
use Rattle.std.specs.List.{list_any}
use Rattle.std.specs.Str.{bytes_eq}
use Rattle.commute_ops.specs.declared.kinds.Kind.{Kind}
use Rattle.commute_ops.specs.declared.kinds.Kind.TheVariants.{Sum as SumKind}
use Rattle.tv_base.specs.declared.numbers.NodeNo.{NodeNo}
use Rattle.tv_base.specs.Sums.{one_if}
pub use Rattle.script_parts.specs.Counts.{advances_in, all_ops, all_subs, loses_in}
pub use Rattle.script_parts.specs.Valid.{last_of}
use Rattle.script_parts.specs.Amounts.{magnitude}
use Rattle.script_parts.specs.Counts.{if_update, one_put, ops_in, strict_trees, subs_ops, trees_puts, update_subs}
use Rattle.script_parts.specs.Forms.{most_amount}
use Rattle.script_parts.specs.Names.{is_name}
use Rattle.script_parts.specs.Ranges.{is_in_range, may_start}
use Rattle.script_parts.specs.ScriptData.{ScriptData, is_strict, is_update}
use Rattle.script_parts.specs.Undone.{subs_add, undone}
use Rattle.script_parts.specs.Valid.{deed_fits, last_of, load}
use Rattle.script_parts.specs.declared.parts.Form.{Form}
use Rattle.script_parts.specs.declared.parts.Form.TheVariants as forms
use Rattle.script_parts.specs.declared.parts.ItemRow.{ItemRow}
use Rattle.script_parts.specs.declared.parts.Tree.{Tree}
use Rattle.script_parts.specs.declared.parts.Sub.{Sub}
use Rattle.script_parts.specs.declared.parts.SubOp.{SubOp}
use Rattle.script_parts.specs.declared.parts.Deed.{Deed}
use Rattle.script_parts.specs.declared.parts.TreeKind.{TreeKind}
use Rattle.script_parts.specs.declared.parts.TreeKind.TheVariants as trees
use Rattle.script_parts.specs.declared.parts.ScriptRow.{ScriptRow}
use Rattle.script_parts.specs.declared.parts.ScriptRow.TheVariants as rows
use Rattle.script_parts.specs.declared.why.Why.{Why}
use Rattle.script_parts.specs.declared.why.Why.TheVariants as why
use Rattle.script_parts.specs.declared.why.Refusal.{Refusal}
use Rattle.script_parts.specs.declared.why.Refusal.TheVariants as refusals

-- the first condition that holds gives its reason; if none holds the record is taken
abbrev pub taken_unless : {A : Type 0} → List (Bool × Why) → A → Result A Why
taken_unless [] new = Ok new
taken_unless (c ∷ cs) new = if c.0 then Err c.1 else taken_unless cs new

-- a call that took the record, refused it or found no memory
abbrev pub Steps : {T : Type 0} → Result ScriptData Why → Result T Refusal → ScriptData → ScriptData → Type 0
Steps step (Ok u) old new = step ≡ Ok new
Steps step (Err (refusals.Why w)) old new = (step ≡ Err w) × (new ≡ old)
Steps step (Err refusals.NoMemory) old new = new ≡ old

-- a script of this form and of that many nodes, with nothing in it
abbrev pub fresh : Form → ℕ → ScriptData
fresh form n = record { form = form; nodes = n; items = []; trees = []; rows = []; picks = []; begun = false }

-- the place of the item of this name, which is its number
abbrev pub place_of : List ℕ → List ItemRow → Option ℕ
place_of name items = position (λ r. bytes_eq r.name name) items

-- whether a transaction has this name
abbrev pub names_tree : List ℕ → List Tree → Bool
names_tree name ts = list_any (λ t. bytes_eq t.name name) ts

abbrev pub with_item : ScriptData → ItemRow → ScriptData
with_item s row = record s { items = s.items ++ row ∷ []; begun = false }

abbrev pub adds_item : ScriptData → ItemRow → Result ScriptData Why
adds_item s row =
    taken_unless ((nat_le s.nodes row.node.0 || not (may_start s.form row.kind row.initial), why.OutOfRange)
    ∷ (not (is_name row.name), why.BadName)
    ∷ (is_some (place_of row.name s.items), why.NameTaken)
    ∷ (nat_le 10000 (length s.items), why.TooMany) ∷ []) (with_item s row)

-- a transaction with its root alone
abbrev pub rooted : List ℕ → TreeKind → NodeNo → Tree
rooted name kind node = record {
  name = name;
  kind = kind;
  subs = record { parent = record { 0 = 0 }; node = node; ops = [] } ∷ [];
  written = None;
}

abbrev pub with_tree : ScriptData → List ℕ → TreeKind → NodeNo → ScriptData
with_tree s name kind node = record s {
  trees = s.trees ++ rooted name kind node ∷ [];
  rows = s.rows ++ rows.Tree (record { 0 = length s.trees }) ∷ [];
  begun = true;
}

-- that many strict transactions beside that many subtransactions of update transactions are too many
abbrev pub are_many : ℕ → ℕ → Bool
are_many strict subs = nat_lt 1000000 (strict * subs)

-- that many transactions are too many for that many nodes
abbrev pub are_spread : ℕ → ℕ → Bool
are_spread nodes trees = nat_lt 320000 (nodes * trees)

-- with one more transaction of this kind a limit would be passed
abbrev pub has_no_tree_left : ℕ → TreeKind → List Tree → Bool
has_no_tree_left nodes kind ts =
    nat_le 20000 (length ts) || are_spread nodes (length ts + 1) || nat_le 100000 (all_subs ts)
    || nat_lt 1000 (strict_trees ts + one_if (is_strict kind))
    || are_many (strict_trees ts + one_if (is_strict kind)) (update_subs ts + if_update kind 1)

abbrev pub adds_tree : ScriptData → List ℕ → TreeKind → NodeNo → Result ScriptData Why
adds_tree s name kind node =
    taken_unless ((nat_le s.nodes node.0, why.OutOfRange)
    ∷ (not (is_name name), why.BadName)
    ∷ (names_tree name s.trees, why.NameTaken)
    ∷ (has_no_tree_left s.nodes kind s.trees, why.TooMany) ∷ []) (with_tree s name kind node)

-- the last of a list, changed
abbrev pub on_last : {A : Type 0} → (A → A) → List A → List A
on_last f [] = []
on_last f (x ∷ []) = f x ∷ []
on_last f (x ∷ y ∷ ys) = x ∷ on_last f (y ∷ ys)

-- how many subtransactions the last transaction has
abbrev pub last_subs : List Tree → ℕ
last_subs ts = elim (last_of ts) [ None ↦ 0 | Some t ↦ length t.subs ]

abbrev pub last_kind : List Tree → TreeKind
last_kind ts = elim (last_of ts) [ None ↦ trees.Update | Some t ↦ t.kind ]

abbrev pub push_sub : Sub → Tree → Tree
push_sub x t = record t { subs = t.subs ++ x ∷ [] }

abbrev pub with_sub : ScriptData → ℕ → NodeNo → ScriptData
with_sub s parent node = record s {
  trees = on_last (push_sub (record { parent = record { 0 = parent }; node = node; ops = [] })) s.trees;
  begun = true;
}

-- with one more subtransaction of the last transaction a limit would be passed
abbrev pub has_no_sub_left : List Tree → Bool
has_no_sub_left ts =
    nat_le 64 (last_subs ts) || nat_le 100000 (all_subs ts)
    || are_many (strict_trees ts) (update_subs ts + if_update (last_kind ts) 1)

abbrev pub adds_sub : ScriptData → ℕ → NodeNo → Result ScriptData Why
adds_sub s parent node =
    taken_unless ((nat_le s.nodes node.0, why.OutOfRange)
    ∷ (not s.begun, why.NoTree)
    ∷ (nat_le (last_subs s.trees) parent, why.BadParent)
    ∷ (has_no_sub_left s.trees, why.TooMany) ∷ []) (with_sub s parent node)

-- the last subtransaction of the last transaction: its node, and how many operations it has
abbrev pub last_sub : List Tree → Option Sub
last_sub ts = elim (last_of ts) [ None ↦ None | Some t ↦ last_of t.subs ]

abbrev pub last_node : List Tree → ℕ
last_node ts = elim (last_sub ts) [ None ↦ 0 | Some x ↦ x.node.0 ]

abbrev pub last_count : List Tree → ℕ
last_count ts = elim (last_sub ts) [ None ↦ 0 | Some x ↦ length x.ops ]

abbrev pub push_op : SubOp → Sub → Sub
push_op o x = record x { ops = x.ops ++ o ∷ [] }

abbrev pub on_last_sub : (Sub → Sub) → Tree → Tree
on_last_sub f t = record t { subs = on_last f t.subs }

abbrev pub with_op : ScriptData → ℕ → Deed → ScriptData
with_op s k deed = record s {
  trees = on_last (on_last_sub (push_op (record { item = record { 0 = k }; deed = deed }))) s.trees;
  begun = true;
}

-- the node and the kind of item k
abbrev pub node_at : ℕ → List ItemRow → ℕ
node_at k items = elim (slice_get items k) [ None ↦ 0 | Some row ↦ row.node.0 ]

abbrev pub item_kind_at : ℕ → List ItemRow → Kind
item_kind_at k items = elim (slice_get items k) [ None ↦ SumKind | Some row ↦ row.kind ]

-- with one more operation on item k a limit would be passed
abbrev pub has_no_op_left : ℕ → Deed → List Tree → Bool
has_no_op_left k deed ts =
    nat_le 16 (last_count ts) || nat_le 200000 (all_ops ts) || nat_lt 64 (trees_puts k ts + one_put deed)

-- the subtransactions have an operation on item k
abbrev pub touch : ℕ → List Sub → Bool
touch k ss = list_any (λ o. o.item.0 == k) (ops_in ss)

-- the last transaction is strict, and has an operation on item k
abbrev pub has_touched : ℕ → List Tree → Bool
has_touched k ts = elim (last_of ts) [ None ↦ false | Some t ↦ is_strict t.kind && touch k t.subs ]

abbrev pub adds_op_at : ScriptData → Option ℕ → Deed → Result ScriptData Why
adds_op_at s None deed = Err why.UnknownItem
adds_op_at s (Some k) deed =
    taken_unless ((not s.begun, why.NoTree)
    ∷ (not (node_at k s.items == last_node s.trees), why.WrongNode)
    ∷ (not (deed_fits (last_kind s.trees) (item_kind_at k s.items) deed), why.WrongKind)
    ∷ (has_no_op_left k deed s.trees, why.TooMany)
    ∷ (nat_lt (most_amount s.form) (load k s + magnitude deed), why.TooMuch)
    ∷ (has_touched k s.trees, why.ItemTwice) ∷ []) (with_op s k deed)

abbrev pub adds_op : ScriptData → List ℕ → Deed → Result ScriptData Why
adds_op s name deed = if is_in_range s.form deed then adds_op_at s (place_of name s.items) deed else Err why.OutOfRange

-- a transaction may fail: it is an update transaction, and all its operations are `add`
abbrev pub may_fail : Tree → Bool
may_fail t = is_update t.kind && subs_add t.subs

-- the last transaction may fail
abbrev pub last_may_fail : List Tree → Bool
last_may_fail ts = elim (last_of ts) [ None ↦ false | Some t ↦ may_fail t ]

-- the subtransactions of the last transaction
abbrev pub last_tree_subs : List Tree → List Sub
last_tree_subs ts = elim (last_of ts) [ None ↦ [] | Some t ↦ t.subs ]

-- how many operations the last transaction has
abbrev pub last_ops : List Tree → ℕ
last_ops ts = subs_ops (last_tree_subs ts)

-- a transaction of which subtransaction k fails: it is compensated, and what it was written with is kept
abbrev pub failed_tree : ℕ → Tree → Tree
failed_tree k t = record {
  name = t.name;
  kind = t.kind;
  subs = undone t.subs k;
  written = Some (record { failed = record { 0 = k }; subs = t.subs });
}

abbrev pub with_failed : ScriptData → ℕ → ScriptData
with_failed s k = record s { trees = on_last (failed_tree k) s.trees; begun = false }

-- transactions pass a limit, if the last one has changed
abbrev pub are_crowded : List Tree → Bool
are_crowded ts =
    nat_lt 64 (last_subs ts) || nat_lt 100000 (all_subs ts) || nat_lt 200000 (all_ops ts)
    || are_many (strict_trees ts) (update_subs ts)

-- one of n numbers from k on passes the test
abbrev pub any_from : (ℕ → Bool) → ℕ → ℕ → Bool
any_from p k zero = false
any_from p k (suc n) = p k || any_from p (suc k) n

-- an item's magnitudes are too great
abbrev pub is_heavy : ScriptData → Bool
is_heavy s = any_from (λ x. nat_lt (most_amount s.form) (load x s)) 0 (length s.items)

-- the last transaction, which may fail, is compensated, subtransaction k having failed
abbrev pub puts_undone : ScriptData → ℕ → Result ScriptData Why
puts_undone s k =
    taken_unless ((are_crowded (with_failed s k).trees, why.TooMany)
    ∷ (is_heavy (with_failed s k), why.TooMuch) ∷ []) (with_failed s k)

-- subtransaction k of the last transaction fails: the same, if there is such a one and the transaction may fail
abbrev pub adds_fail : ScriptData → ℕ → Result ScriptData Why
adds_fail s k =
    taken_unless ((not s.begun, why.NoTree)
    ∷ (nat_le (last_subs s.trees) k, why.BadParent)
    ∷ (not (last_may_fail s.trees), why.WrongKind)
    ∷ (are_crowded (with_failed s k).trees, why.TooMany)
    ∷ (is_heavy (with_failed s k), why.TooMuch) ∷ []) (with_failed s k)

-- a row that isn't a transaction's
abbrev pub with_row : ScriptData → ScriptRow → ScriptData
with_row s row = record s { rows = s.rows ++ row ∷ []; begun = false }

abbrev pub adds_advance : ScriptData → Result ScriptData Why
adds_advance s = taken_unless ((nat_le 100 (advances_in s.rows), why.TooMany) ∷ []) (with_row s rows.Advance)

abbrev pub adds_settle : ScriptData → Result ScriptData Why
adds_settle s = Ok (with_row s rows.Settle)

abbrev pub adds_lose : ScriptData → Result ScriptData Why
adds_lose s = taken_unless ((nat_le 100 (loses_in s.rows), why.TooMany) ∷ []) (with_row s rows.Lose)

abbrev pub adds_pick : ScriptData → ℕ → Result ScriptData Why
adds_pick s k = Ok (record s { picks = s.picks ++ k ∷ []; begun = false })

-- the same script in the second form
abbrev pub upgraded : ScriptData → ScriptData
upgraded s = record s { form = forms.Two }
