-- Every field that is written of a valid script is plain.
use Rattle.std.proofs.Common.{◌≡◌, ◌+◌, ◌<◌, ◌≤◌, ◌^◌, ◌&&◌, ◌∷◌, ◌++◌, [], List, Bool, true, false, ℕ, suc, zero, length, map, refl, arith}
use Rattle.std.specs.Prelude.{Option, Some, None, not, ℤ, pos, negsuc, IsTrue, decimal, nat_le, slice_get, unsigned_abs}
use Rattle.std.specs.Fmt.{signed_decimal}
use Rattle.std.specs.Char.{is_ascii_digit}
use Rattle.std.specs.List.{list_all, AllByRecursion}
use Rattle.std.proofs.lemmas.Bool.Decides.{nat_tests}
use Rattle.tv_base.proofs.Truths.{right_true}
use Rattle.commute_ops.specs.declared.kinds.Kind.{Kind}
use Rattle.commute_ops.specs.declared.kinds.Kind.TheVariants as kinds
use Rattle.commute_ops.specs.declared.kinds.Op.TheVariants as applied
use Rattle.commute_ops.specs.declared.kinds.TheConstants.{MOST_AMOUNT}
use Rattle.csv.specs.Writing.{default_writer, needs_byte}
use Rattle.tx_trees.proofs.SubsOf.{few_nodes}
use Rattle.tx_trees.specs.Amounts.{magnitude}
use Rattle.tx_trees.specs.Names.{has_name_len, is_name, is_name_byte}
use Rattle.tx_trees.specs.Ranges.{draws_negative, is_in_range}
use Rattle.tx_trees.specs.Rebuilt.{name_at, written_subs}
use Rattle.tx_trees.specs.ScriptData.{ScriptData}
use Rattle.tx_trees.specs.Valid.{AreSubs, IsItem, IsOp, IsValid, OpAt}
use Rattle.tx_trees.specs.declared.parts.Deed.{Deed}
use Rattle.tx_trees.specs.declared.parts.Deed.TheVariants as deeds
use Rattle.tx_trees.specs.declared.parts.Form.{Form}
use Rattle.tx_trees.specs.declared.parts.Form.TheVariants as forms
use Rattle.tx_trees.specs.declared.parts.ItemRow.{ItemRow}
use Rattle.tx_trees.specs.declared.parts.ScriptRow.{ScriptRow}
use Rattle.tx_trees.specs.declared.parts.ScriptRow.TheVariants as rows
use Rattle.tx_trees.specs.declared.parts.Sub.{Sub}
use Rattle.tx_trees.specs.declared.parts.SubOp.{SubOp}
use Rattle.tx_trees.specs.declared.parts.Tree.{Tree}
use Rattle.tx_trees.specs.declared.parts.TreeKind.{TreeKind}
use Rattle.tx_trees.specs.declared.parts.Written.{Written}
use Rattle.tx_trees.proofs.Undoing.{WrittenTree, written_trees}
use Rattle.tx_trees.specs.declared.parts.TreeKind.TheVariants as trees
use Rattle.script_reader.specs.inside.Numbers.{AreOf32Bits}
use Rattle.script_reader.specs.Words.{kind_word}
use Rattle.script_reader.specs.Written.{deed_fields, fail_rows, form_rows, pick_fields, rows_behind, rows_of, item_fields, nodes_fields, ops_rows, rows_of_rows, rows_of_tree, sub_fields, subs_rows, tree_fields, tree_rows}
use Rattle.script_reader.proofs.Decimals.{digits_read}
use Rattle.script_reader.proofs.Lines.{IsPlain, IsPlainRow}

-- a digit calls for no quotes
digit_plain : (b : ℕ) (rest : Bool) → (is_ascii_digit b && rest) ≡ true → needs_byte default_writer b ≡ false
digit_plain b rest h = grind (arith, nat_tests)

-- a byte of a name calls for no quotes
name_byte_plain : (b : ℕ) (rest : Bool) → (is_name_byte b && rest) ≡ true → needs_byte default_writer b ≡ false
name_byte_plain b rest h = grind (arith, nat_tests)

-- digits are plain
digits_plain : (bs : List ℕ) → list_all is_ascii_digit bs ≡ true → IsPlain bs
digits_plain [] h = refl
digits_plain (b ∷ bs) h = rw (digit_plain b (list_all is_ascii_digit bs) h) (digits_plain bs (right_true (is_ascii_digit b) (list_all is_ascii_digit bs) h))

-- bytes of a name are plain
bytes_plain : (bs : List ℕ) → list_all is_name_byte bs ≡ true → IsPlain bs
bytes_plain [] h = refl
bytes_plain (b ∷ bs) h = rw (name_byte_plain b (list_all is_name_byte bs) h) (bytes_plain bs (right_true (is_name_byte b) (list_all is_name_byte bs) h))

-- a name is plain
name_plain : (bs : List ℕ) → IsTrue (is_name bs) → IsPlain bs
name_plain bs h = bytes_plain bs (right_true (has_name_len bs) (list_all is_name_byte bs) h)

-- a number is plain
number_plain : (n : ℕ) → n < 10 ^ 64 → IsPlain (decimal n)
number_plain n h = digits_plain (decimal n) (digits_read n h)

-- the minus sign is plain too
amount_plain : (a : ℤ) → unsigned_abs a < 10 ^ 32 → IsPlain (signed_decimal a)
amount_plain (pos n) h = number_plain n (omega arith)
amount_plain (negsuc n) h = number_plain (suc n) (omega arith)

-- the word of a kind is plain
kind_plain : (k : Kind) → IsPlain (kind_word k)
kind_plain kinds.Sum = refl
kind_plain kinds.Top = refl
kind_plain kinds.Bag = refl

-- an amount of a bounded size is small
bounded : (m : ℕ) (b : Bool) → (nat_le m MOST_AMOUNT && b) ≡ true → m < 10 ^ 32
bounded m b h = grind (arith, nat_tests)

-- an amount in range is small
pub small_deed : (deed : Deed) → IsTrue (is_in_range forms.Two deed) → magnitude deed < 10 ^ 32
small_deed deed h = bounded (magnitude deed) (not (draws_negative deed)) h

-- the name of an item that an operation is on
pub op_named : (n : ℕ) (items : List ItemRow) (k : ℕ) (kind : TreeKind) (node : ℕ) (o : SubOp) → AllByRecursion (IsItem n) items → OpAt kind node o (slice_get items k) → IsTrue (is_name (name_at k items))
op_named n [] k kind node o all h = absurd h
op_named n (r ∷ rs) zero kind node o all h = all.0.name
op_named n (r ∷ rs) (suc k) kind node o all h = op_named n rs k kind node o all.1 h

-- the `nodes` row
nodes_plain : (n : ℕ) → n ≤ 64 → IsPlainRow (nodes_fields n)
nodes_plain n few = record { head = _; tail = _; is = refl; some = omega arith; first = refl; rest = (number_plain n (omega arith), tt) }

-- an item row
item_plain : (n : ℕ) (r : ItemRow) → n ≤ 64 → IsItem n r → IsPlainRow (item_fields r)
item_plain n r few h = record {
  head = _;
  tail = _;
  is = refl;
  some = omega arith;
  first = refl;
  rest = (name_plain r.name h.name, (number_plain r.node.0 (omega (arith, h.node)), (kind_plain r.kind, (amount_plain r.initial (omega (arith, h.small)), tt))));
}

-- a tree row
tree_plain : (kind : TreeKind) (name : List ℕ) (node : ℕ) → IsTrue (is_name name) → node < 64 → IsPlainRow (tree_fields kind name node)
tree_plain trees.Update name node h low = record { head = _; tail = _; is = refl; some = omega arith; first = refl; rest = (name_plain name h, (number_plain node (omega arith), tt)) }
tree_plain trees.Read name node h low = record { head = _; tail = _; is = refl; some = omega arith; first = refl; rest = (name_plain name h, (number_plain node (omega arith), tt)) }
tree_plain trees.Strict name node h low = record { head = _; tail = _; is = refl; some = omega arith; first = refl; rest = (name_plain name h, (number_plain node (omega arith), tt)) }

-- a `sub` row
sub_plain : (x : Sub) → x.parent.0 < 64 → x.node.0 < 64 → IsPlainRow (sub_fields x)
sub_plain x early low = record {
  head = _;
  tail = _;
  is = refl;
  some = omega arith;
  first = refl;
  rest = (number_plain x.parent.0 (omega arith), (number_plain x.node.0 (omega arith), tt));
}

-- a `pick` row
pick_plain : (k : ℕ) → k < 2 ^ 32 → IsPlainRow (pick_fields k)
pick_plain k small = record { head = _; tail = _; is = refl; some = omega arith; first = refl; rest = (number_plain k (omega arith), tt) }

-- a name and an amount
with_amount : (name : List ℕ) (a : ℤ) → IsTrue (is_name name) → unsigned_abs a < 10 ^ 32 → AllByRecursion IsPlain (name ∷ signed_decimal a ∷ [])
with_amount name a h small = (name_plain name h, (amount_plain a small, tt))

-- an operation row
deed_plain : (name : List ℕ) (deed : Deed) → IsTrue (is_name name) → magnitude deed < 10 ^ 32 → IsPlainRow (deed_fields name deed)
deed_plain name (deeds.Apply (applied.Add a)) h small = record { head = _; tail = _; is = refl; some = omega arith; first = refl; rest = with_amount name a h small }
deed_plain name (deeds.Apply (applied.Top a)) h small = record { head = _; tail = _; is = refl; some = omega arith; first = refl; rest = with_amount name a h small }
deed_plain name (deeds.Apply (applied.Put a)) h small = record { head = _; tail = _; is = refl; some = omega arith; first = refl; rest = with_amount name a h small }
deed_plain name (deeds.Set a) h small = record { head = _; tail = _; is = refl; some = omega arith; first = refl; rest = with_amount name a h small }
deed_plain name (deeds.Draw a) h small = record { head = _; tail = _; is = refl; some = omega arith; first = refl; rest = with_amount name a h small }
deed_plain name deeds.Get h small = record { head = _; tail = _; is = refl; some = omega arith; first = refl; rest = (name_plain name h, tt) }

-- all these rows are plain
abbrev ArePlain : List (List (List ℕ)) → Type 0
ArePlain rs = AllByRecursion IsPlainRow rs

-- rows after rows
plain-append : (xs ys : List (List (List ℕ))) → ArePlain xs → ArePlain ys → ArePlain (xs ++ ys)
plain-append [] ys h k = k
plain-append (x ∷ xs) ys h k = (h.0, plain-append xs ys h.1 k)

-- all items
items_plain : (n : ℕ) (items : List ItemRow) → n ≤ 64 → AllByRecursion (IsItem n) items → ArePlain (map item_fields items)
items_plain n [] few h = tt
items_plain n (r ∷ rs) few h = (item_plain n r few h.0, items_plain n rs few h.1)

-- all operations of a subtransaction
ops_plain : (n : ℕ) (items : List ItemRow) (kind : TreeKind) (node : ℕ) (os : List SubOp) → AllByRecursion (IsItem n) items → AllByRecursion (IsOp items kind node) os → AllByRecursion (λ (o : SubOp). IsTrue (is_in_range forms.Two o.deed)) os
    → ArePlain (ops_rows items os)
ops_plain n items kind node [] all h small = tt
ops_plain n items kind node (o ∷ os) all h small =
    (deed_plain (name_at o.item.0 items) o.deed (op_named n items o.item.0 kind node o all h.0) (small_deed o.deed small.0), ops_plain n items kind node os all h.1 small.1)

-- all subtransactions after the root
subs_plain : (n : ℕ) (items : List ItemRow) (kind : TreeKind) (k : ℕ) (xs : List Sub) → n ≤ 64 → 0 < k → k + length xs ≤ 64 → AllByRecursion (IsItem n) items → AreSubs n items kind k xs → ArePlain (subs_rows items xs)
subs_plain n items kind k [] few some room all h = tt
subs_plain n items kind k (x ∷ xs) few some room all h = (
  sub_plain x (omega (arith, h.0.parent some)) (omega (arith, h.0.node)),
  plain-append (ops_rows items x.ops) (subs_rows items xs) (ops_plain n items kind x.node.0 x.ops all h.0.ops h.0.amounts) (subs_plain n items kind (k + 1) xs few (omega arith) (omega (arith, room)) all h.1),
)

-- a tree
rooted_plain : (n : ℕ) (items : List ItemRow) (kind : TreeKind) (name : List ℕ) (xs : List Sub) → n ≤ 64 → length xs ≤ 64 → IsTrue (is_name name) → AllByRecursion (IsItem n) items → AreSubs n items kind 0 xs → ArePlain (tree_rows items kind name xs)
rooted_plain n items kind name [] few room named all h = tt
rooted_plain n items kind name (x ∷ xs) few room named all h = (
  tree_plain kind name x.node.0 named (omega (arith, h.0.node)),
  plain-append (ops_rows items x.ops) (subs_rows items xs) (ops_plain n items kind x.node.0 x.ops all h.0.ops h.0.amounts) (subs_plain n items kind 1 xs few (omega arith) (omega (arith, room)) all h.1),
)

-- the row of a subtransaction that fails
fail_plain : (f : Form) (w : Option Written) → ((v : Written) → w ≡ Some v → (f ≡ forms.Two) × (v.failed.0 < 64)) → ArePlain (fail_rows w)
fail_plain f None h = tt
fail_plain f (Some w) h =
    (record { head = _; tail = _; is = refl; some = omega arith; first = refl; rest = (number_plain w.failed.0 (omega (arith, (h w refl).1)), tt) }, tt)

-- a tree by its number
tree_at_plain : (f : Form) (n : ℕ) (items : List ItemRow) (ts : List Tree) (i : ℕ) → n ≤ 64 → AllByRecursion (IsItem n) items → AllByRecursion (WrittenTree f n items) ts → ArePlain (rows_of_tree items (slice_get ts i))
tree_at_plain f n items [] i few all h = tt
tree_at_plain f n items (t ∷ ts) zero few all h =
    plain-append (tree_rows items t.kind t.name (written_subs t)) (fail_rows t.written) (rooted_plain n items t.kind t.name (written_subs t) few h.0.few h.0.name all h.0.subs) (fail_plain f t.written h.0.fails)
tree_at_plain f n items (t ∷ ts) (suc i) few all h = tree_at_plain f n items ts i few all h.1

-- all rows with their trees
rows_plain : (f : Form) (n : ℕ) (items : List ItemRow) (ts : List Tree) (rs : List ScriptRow) → n ≤ 64 → AllByRecursion (IsItem n) items → AllByRecursion (WrittenTree f n items) ts → ArePlain (rows_of_rows items ts rs)
rows_plain f n items ts [] few all h = tt
rows_plain f n items ts (rows.Tree t ∷ rs) few all h = plain-append (rows_of_tree items (slice_get ts t.0)) (rows_of_rows items ts rs) (tree_at_plain f n items ts t.0 few all h) (rows_plain f n items ts rs few all h)
rows_plain f n items ts (rows.Advance ∷ rs) few all h = (record { head = _; tail = _; is = refl; some = omega arith; first = refl; rest = tt }, rows_plain f n items ts rs few all h)
rows_plain f n items ts (rows.Settle ∷ rs) few all h = (record { head = _; tail = _; is = refl; some = omega arith; first = refl; rest = tt }, rows_plain f n items ts rs few all h)
rows_plain f n items ts (rows.Lose ∷ rs) few all h = (record { head = _; tail = _; is = refl; some = omega arith; first = refl; rest = tt }, rows_plain f n items ts rs few all h)

-- the row of the second form
form_plain : (f : Form) → ArePlain (form_rows f)
form_plain forms.One = tt
form_plain forms.Two = (record { head = _; tail = _; is = refl; some = omega arith; first = refl; rest = (refl, tt) }, tt)

-- all picks
picks_plain : (ks : List ℕ) → AreOf32Bits ks → ArePlain (map pick_fields ks)
picks_plain [] small = tt
picks_plain (k ∷ ks) small = (pick_plain k (small 0), picks_plain ks (λ i. small (suc i)))

-- all rows of a valid script
pub all_plain : (s : ScriptData) → IsValid s → AreOf32Bits s.picks → ArePlain (rows_of s)
all_plain s h small =
    let few = few_nodes s h in
    let behind : ArePlain (rows_behind s) = (
      nodes_plain s.nodes few,
      plain-append (map item_fields s.items) (rows_of_rows s.items s.trees s.rows ++ map pick_fields s.picks) (items_plain s.nodes s.items few h.items)
          (plain-append (rows_of_rows s.items s.trees s.rows) (map pick_fields s.picks) (rows_plain s.form s.nodes s.items s.trees s.rows few h.items (written_trees s.form s.nodes s.items [] s.trees h.trees h.failed)) (picks_plain s.picks small)),
    ) in
    plain-append (form_rows s.form) (rows_behind s) (form_plain s.form) behind
