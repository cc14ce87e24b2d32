-- Each row that is written of a script is read as the call that adds it.
use Rattle.std.proofs.Common.{◌≡◌, ◌<◌, ◌≤◌, ◌^◌, ◌∙◌, ℕ, true, false, List, [], ◌∷◌, Some, Result, Ok, refl, ap, arith}
use Rattle.std.specs.Prelude.{ℤ, IsTrue, codes, decimal, nat_le, unsigned_abs}
use Rattle.std.proofs.lemmas.Bool.{le-leb, lt-leb}
use Rattle.std.specs.Fmt.{signed_decimal}
use Rattle.std.specs.List.{list_all}
use Rattle.commute_ops.specs.declared.kinds.Kind.{Kind}
use Rattle.commute_ops.specs.declared.kinds.Kind.TheVariants as kinds
use Rattle.commute_ops.specs.declared.kinds.Op.TheVariants as applied
use Rattle.tv_base.specs.declared.numbers.NodeNo.{NodeNo}
use Rattle.tv_base.proofs.Truths.{left_true}
use Rattle.tx_trees.specs.Adding.{adds_fail, adds_item, adds_lose, adds_op, adds_pick, adds_sub, adds_tree, fresh}
use Rattle.tx_trees.specs.Amounts.{magnitude}
use Rattle.tx_trees.specs.Forms.{most_nodes}
use Rattle.tx_trees.specs.Names.{has_name_len, is_name, is_name_byte}
use Rattle.tx_trees.specs.Ranges.{is_in_range}
use Rattle.tx_trees.specs.ScriptData.{ScriptData}
use Rattle.tx_trees.specs.Valid.{IsItem}
use Rattle.tx_trees.specs.declared.parts.Deed.{Deed}
use Rattle.tx_trees.specs.declared.parts.Deed.TheVariants as deeds
use Rattle.tx_trees.specs.declared.parts.Form.{Form}
use Rattle.tx_trees.specs.declared.parts.Form.TheVariants as forms
use Rattle.tx_trees.specs.declared.parts.ItemRow.{ItemRow}
use Rattle.tx_trees.specs.declared.parts.Sub.{Sub}
use Rattle.tx_trees.specs.declared.parts.TreeKind.{TreeKind}
use Rattle.tx_trees.specs.declared.parts.TreeKind.TheVariants as trees
use Rattle.tx_trees.specs.declared.why.Why.{Why}
use Rattle.script_reader.specs.inside.Numbers.{amount_of, number_spelled}
use Rattle.script_reader.specs.Rows.{amount_row, and_then, deed_of, fail_row, later_form, first_row, item_row, later_row, nodes_row, op_row, pick_row, row_word_of, second_row, sub_row, tree_row}
use Rattle.script_reader.specs.Words.{kind_of, kind_word, may_follow}
use Rattle.script_reader.specs.Written.{deed_fields, fail_fields, item_fields, nodes_fields, pick_fields, sub_fields, tree_fields}
use Rattle.script_reader.specs.declared.words.OpWord.{OpWord}
use Rattle.script_reader.specs.declared.words.OpWord.TheVariants as ops
use Rattle.script_reader.proofs.Decimals.{amount_read, number_read, value_read}
use Rattle.script_reader.proofs.Passing.{amount_row_is, item_row_is}

-- a number that is written is read as itself
number_back : (n : ℕ) → n < 10 ^ 32 → Some n ≡ number_spelled (decimal n)
number_back n h = rw (number_read n h, value_read n (omega arith)) refl

-- and an amount
amount_back : (a : ℤ) → unsigned_abs a < 10 ^ 32 → Some a ≡ amount_of (signed_decimal a)
amount_back a h = let r = amount_read a h in rw (r.0, r.1) refl

-- and a kind's word
kind_back : (k : Kind) → Some k ≡ kind_of (kind_word k)
kind_back kinds.Sum = refl
kind_back kinds.Top = refl
kind_back kinds.Bag = refl

-- the `nodes` row of a script of this form
nodes_row_back : (f : Form) (n : ℕ) → 1 ≤ n → n ≤ most_nodes f → n ≤ 64 → nodes_row f (decimal n) ≡ Ok (fresh f n)
nodes_row_back f n some few small =
    let low : nat_le 1 n ≡ true = le-leb 1 n some in
    let high : nat_le n (most_nodes f) ≡ true = le-leb n (most_nodes f) few in
    rw (number_read n (omega arith), value_read n (omega arith), low, high) refl

-- the `nodes` row, as the first record
pub nodes_back : (n : ℕ) → 1 ≤ n → n ≤ 16 → first_row (nodes_fields n) ≡ Ok (Some (fresh forms.One n))
nodes_back n some few =
    let form : first_row (nodes_fields n) ≡ and_then (nodes_row forms.One (decimal n)) (λ s. Ok (Some s)) = refl in
    form ∙ ap (λ (r : Result ScriptData Why). and_then r (λ s. Ok (Some s))) (nodes_row_back forms.One n some few (omega arith))

-- and as the second
pub second_nodes_back : (n : ℕ) → 1 ≤ n → n ≤ 64 → second_row (nodes_fields n) ≡ Ok (fresh forms.Two n)
second_nodes_back n some few =
    let form : second_row (nodes_fields n) ≡ nodes_row forms.Two (decimal n) = refl in
    form ∙ nodes_row_back forms.Two n some few few

-- an item row
pub item_back : (s : ScriptData) (n : ℕ) (r : ItemRow) → n ≤ 64 → IsItem n r → later_row s (item_fields r) ≡ adds_item s r
item_back s n r few h =
    let form : later_row s (item_fields r) ≡ item_row s r.name (decimal r.node.0) (kind_word r.kind) (signed_decimal r.initial) = refl in
    let typed = item_row_is s r.name (decimal r.node.0) (kind_word r.kind) (signed_decimal r.initial) r.node.0 (Some r.kind) r.initial (number_back r.node.0 (omega (arith, h.node))) (kind_back r.kind) (amount_back r.initial (omega (arith, h.small))) in
    form ∙ typed

-- a tree row, by its fields
tree_form : (s : ScriptData) (kind : TreeKind) (name : List ℕ) (node : NodeNo) → later_row s (tree_fields kind name node.0) ≡ tree_row s kind name (decimal node.0)
tree_form s trees.Update name node = refl
tree_form s trees.Read name node = refl
tree_form s trees.Strict name node = refl

-- a tree row, of whatever kind
pub tree_back : (s : ScriptData) (kind : TreeKind) (name : List ℕ) (node : NodeNo) → node.0 < 64 → later_row s (tree_fields kind name node.0) ≡ adds_tree s name kind node
tree_back s kind name node low =
    let form = tree_form s kind name node in
    form ∙ rw (number_read node.0 (omega (arith, low)), value_read node.0 (omega (arith, low))) refl

-- a `sub` row
pub sub_back : (s : ScriptData) (x : Sub) → x.parent.0 < 64 → x.node.0 < 64 → later_row s (sub_fields x) ≡ adds_sub s x.parent.0 x.node
sub_back s x early low =
    let form : later_row s (sub_fields x) ≡ sub_row s (decimal x.parent.0) (decimal x.node.0) = refl in
    form ∙ rw (number_read x.parent.0 (omega (arith, early)), number_read x.node.0 (omega (arith, low)), value_read x.parent.0 (omega (arith, early)), value_read x.node.0 (omega (arith, low))) refl

-- a `fail` row of a script of the second form
pub fail_back : (s : ScriptData) (k : ℕ) → s.form ≡ forms.Two → k < 64 → later_row s (fail_fields k) ≡ adds_fail s k
fail_back s k second small =
    let form : later_row s (fail_fields k) ≡ fail_row s (decimal k) = ap (λ (f : Form). and_then (row_word_of (may_follow f) (fail_fields k)) (later_form s (fail_fields k))) second in
    form ∙ rw (number_read k (omega (arith, small)), value_read k (omega (arith, small))) refl

-- a `lose` row, which a script of the second form alone has
pub lose_back : (s : ScriptData) → s.form ≡ forms.Two → later_row s (codes "lose" ∷ []) ≡ adds_lose s
lose_back s second =
    let fields = codes "lose" ∷ [] in
    ap (λ (f : Form). and_then (row_word_of (may_follow f) fields) (later_form s fields)) second

-- a `pick` row
pub pick_back : (s : ScriptData) (k : ℕ) → k < 2 ^ 32 → later_row s (pick_fields k) ≡ adds_pick s k
pick_back s k small =
    let form : later_row s (pick_fields k) ≡ pick_row s (decimal k) = refl in
    let fits : nat_le 4294967296 k ≡ false = lt-leb 4294967296 k (omega arith) in
    form ∙ rw (number_read k (omega arith), value_read k (omega arith), fits) refl

-- an operation on an item with a name
op_back : (s : ScriptData) (name : List ℕ) (deed : Deed) → IsTrue (is_name name) → IsTrue (is_in_range s.form deed) → op_row s name deed ≡ adds_op s name deed
op_back s name deed named range =
    let len : has_name_len name ≡ true = left_true (has_name_len name) (list_all is_name_byte name) named in
    rw (len, range) refl

-- an operation with an amount
amount_op_back : (s : ScriptData) (word : OpWord) (name : List ℕ) (a : ℤ) → IsTrue (is_name name) → IsTrue (is_in_range s.form (deed_of word a)) → unsigned_abs a < 10 ^ 32 → amount_row s word name (signed_decimal a) ≡ adds_op s name (deed_of word a)
amount_op_back s word name a named range small =
    amount_row_is s word name (signed_decimal a) a (deed_of word a) (amount_back a small) refl ∙ op_back s name (deed_of word a) named range

-- an operation row
pub deed_back : (s : ScriptData) (name : List ℕ) (deed : Deed) → IsTrue (is_name name) → IsTrue (is_in_range s.form deed) → magnitude deed < 10 ^ 32 → later_row s (deed_fields name deed) ≡ adds_op s name deed
deed_back s name (deeds.Apply (applied.Add a)) named range small = amount_op_back s ops.Add name a named range small
deed_back s name (deeds.Apply (applied.Top a)) named range small = amount_op_back s ops.Top name a named range small
deed_back s name (deeds.Apply (applied.Put a)) named range small = amount_op_back s ops.Put name a named range small
deed_back s name (deeds.Set a) named range small = amount_op_back s ops.Set name a named range small
deed_back s name (deeds.Draw a) named range small = amount_op_back s ops.Draw name a named range small
deed_back s name deeds.Get named range small = op_back s name deeds.Get named range
