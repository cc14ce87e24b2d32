-- A row that passes its conditions.
use Rattle.std.proofs.Common.{◌≡◌, ◌<◌, ◌≤◌, ◌^◌, ◌∙◌, ℕ, Bool, true, false, List, [], ◌∷◌, length, Option, Some, None, Result, Ok, Err, refl, sym, subst, ap, arith, inl, inr, to_z, of_z}
use Rattle.std.specs.Map.{lookup}
use Rattle.std.specs.Str.{bytes_eq}
use Rattle.std.proofs.lemmas.Slice.Eq.{bytes_eq-Decides}
use Rattle.std.specs.Prelude.{codes, nat_le, min, not, ◌&&◌, ◌==◌, ℤ, unsigned_abs, IsErrAnd, ◌⊎◌}
use Rattle.std.specs.Int.{w128}
use Rattle.std.specs.List.{AllByRecursion}
use Rattle.std.proofs.lemmas.Bool.{cases_lt, le-leb, lt-leb}
use Rattle.std.proofs.lemmas.Int.{fits_signed_from_abs, to_z-of_z}
use Rattle.std.proofs.lemmas.Option.{cond_some}
use Rattle.commute_ops.specs.declared.kinds.Kind.{Kind}
use Rattle.tv_base.specs.declared.numbers.NodeNo.{NodeNo}
use Rattle.tx_trees.specs.ScriptData.{ScriptData}
use Rattle.tx_trees.specs.Valid.{IsTree, IsValid}
use Rattle.tx_trees.specs.Adding.{last_may_fail, puts_undone, Steps, adds_op, adds_sub, adds_tree, last_subs, taken_unless}
use Rattle.tx_trees.specs.Names.{has_name_len}
use Rattle.tx_trees.specs.Ranges.{is_in_range}
use Rattle.tx_trees.specs.declared.parts.Deed.{Deed}
use Rattle.tx_trees.specs.declared.parts.Deed.TheVariants as deeds
use Rattle.tx_trees.specs.declared.parts.Form.{Form}
use Rattle.tx_trees.specs.declared.parts.Form.TheVariants as forms
use Rattle.tx_trees.specs.declared.parts.ItemRow.{ItemRow}
use Rattle.tx_trees.specs.declared.parts.Tree.{Tree}
use Rattle.tx_trees.specs.declared.parts.TreeKind.{TreeKind}
use Rattle.tx_trees.specs.declared.why.Why.{Why}
use Rattle.tx_trees.specs.declared.why.Why.TheVariants as why
use Rattle.tx_trees.specs.declared.why.Refusal.{Refusal}
use Rattle.tx_trees.specs.declared.why.Refusal.TheVariants as refusals
use Rattle.script_reader.specs.Numbers.{amount_value, is_amount, is_number}
use Rattle.tv_base.specs.Digits.{decimal_value}
use Rattle.script_reader.specs.inside.Numbers.{amount_of, number_spelled}
use Rattle.script_reader.specs.Rows.{amount_row, and_then, deed_of, fail_row, field, item_of, item_row, later_form, later_row, node_no, op_row, row_word_of, sub_row, tree_row}
use Rattle.script_reader.specs.inside.Rows.{Leaves, row_by, unnamed}
use Rattle.script_reader.specs.Words.{RowShape, is_second, kind_of, may_follow, row_words}
use Rattle.script_reader.specs.declared.words.OpWord.{OpWord}
use Rattle.script_reader.specs.declared.words.RowWord.{RowWord}
use Rattle.script_reader.specs.declared.words.RowWord.TheVariants as words

-- what a call on a script answers is what its row makes
pub leaves : {T : Type 0} (made step : Result ScriptData Why) (r : Result T Refusal) (old new : ScriptData) → made ≡ step → Steps step r old new → Leaves made r new
leaves made step (Ok done) old new is steps = is ∙ steps
leaves made step (Err (refusals.Why w)) old new is steps = is ∙ steps.0
leaves made step (Err refusals.NoMemory) old new is steps = tt

-- a refusal that is passed on
pub passed_on : {T : Type 0} (U : Type 0) (made step : Result ScriptData Why) (e : Refusal) (r : Result T Refusal) (old new : ScriptData) → IsErrAnd r (λ x. x ≡ e) → made ≡ step → Steps {T = U} step (Err e) old new
    → Leaves {T = T} made r new
passed_on U made step e (Ok t) old new h is steps = absurd h
passed_on U made step (refusals.Why w) (Err x) old new h is steps = rw (h, is) steps.0
passed_on U made step refusals.NoMemory (Err x) old new h is steps = rw h tt

-- what the code read as a number is one
number_is : (bytes : List ℕ) (n : ℕ) → number_spelled bytes ≡ Some n → (is_number bytes ≡ true) × (decimal_value bytes ≡ n)
number_is bytes n e = cond_some (is_number bytes) (decimal_value bytes) n e

-- what the code read as an amount is one
amount_is : (bytes : List ℕ) (a : ℤ) → amount_of bytes ≡ Some a → (is_amount bytes ≡ true) × (amount_value bytes ≡ a)
amount_is bytes a e = cond_some (is_amount bytes) (amount_value bytes) a e

-- an amount that is passed as a value
pub passed_as : (v : ℤ) → unsigned_abs v < 10 ^ 34 → to_z w128 (of_z w128 v) ≡ v
passed_as v h =
    let small : unsigned_abs v < 170141183460469231731687303715884105728 = omega (arith, h) in
    to_z-of_z w128 v (fits_signed_from_abs w128 v small)

-- an item row whose numbers are read
pub item_row_is : (s : ScriptData) (name node kind initial : List ℕ) (n : ℕ) (k : Option Kind) (a : ℤ) → Some n ≡ number_spelled node → k ≡ kind_of kind → Some a ≡ amount_of initial
    → item_row s name node kind initial ≡ item_of s name n k a
item_row_is s name node kind initial n k a hn hk ha =
    let b = number_is node n (sym hn) in
    let d = amount_is initial a (sym ha) in
    let passes : item_row s name node kind initial ≡ item_of s name (decimal_value node) (kind_of kind) (amount_value initial) = rw (b.0, d.0) refl in
    passes ∙ rw (b.1, d.1, hk) refl

-- a tree row whose number is read begins a tree
pub tree_row_is : (s : ScriptData) (kind : TreeKind) (name node m : List ℕ) (n : ℕ) → Some n ≡ number_spelled node → m ≡ name → tree_row s kind name node ≡ adds_tree s m kind (node_no n)
tree_row_is s kind name node m n hn same =
    let a = number_is node n (sym hn) in
    rw (same, a.0, a.1) refl

-- the last tree has few subtransactions
few_last : (n : ℕ) (items : List ItemRow) (ts : List Tree) → AllByRecursion (IsTree n items) ts → last_subs ts ≤ 64
few_last n items [] h = omega arith
few_last n items (t ∷ []) h = h.0.few
few_last n items (t ∷ u ∷ us) h = few_last n items (u ∷ us) h.1

-- a parent that is too great is refused whatever it is
too_great : (s : ScriptData) (p q : ℕ) (node : NodeNo) → IsValid s → 64 ≤ p → 64 ≤ q → adds_sub s p node ≡ adds_sub s q node
too_great s p q node valid hp hq =
    let few = few_last s.nodes s.items s.trees valid.trees in
    let a : nat_le (last_subs s.trees) p ≡ true = le-leb (last_subs s.trees) p (omega arith) in
    let b : nat_le (last_subs s.trees) q ≡ true = le-leb (last_subs s.trees) q (omega arith) in
    rw (a, b) refl

-- a number that is cut to 32 bits is itself, or both are great
pub clamped : (p q : ℕ) → q ≡ min p 4294967295 → (q ≡ p) ⊎ ((64 ≤ p) × (64 ≤ q))
clamped p q e = elim (cases_lt p 4294967296) [
  | inl below ↦ inl (omega (arith, e))
  | inr above ↦ inr (omega arith, omega (arith, e))
]

-- a `sub` row whose numbers are read adds a subtransaction
pub sub_row_is : (s : ScriptData) (parent node : List ℕ) (p n q : ℕ) → Some p ≡ number_spelled parent → Some n ≡ number_spelled node → IsValid s → (q ≡ p) ⊎ ((64 ≤ p) × (64 ≤ q))
    → sub_row s parent node ≡ adds_sub s q (node_no n)
sub_row_is s parent node p n q hp hn valid same =
    let a = number_is parent p (sym hp) in
    let b = number_is node n (sym hn) in
    let is : adds_sub s p (node_no n) ≡ adds_sub s q (node_no n) = elim same [
      | inl e ↦ ap (λ (x : ℕ). adds_sub s x (node_no n)) (sym e)
      | inr great ↦ too_great s p q (node_no n) valid great.0 great.1
    ] in
    let passes : sub_row s parent node ≡ adds_sub s p (node_no n) = rw (a.0, b.0, a.1, b.1) refl in
    passes ∙ is

-- an operation on an item that may have its name is added
pub op_row_is : (s : ScriptData) (item m : List ℕ) (deed : Deed) → m ≡ item → 0 < length item → length item ≤ 32 → op_row s item deed ≡ adds_op s m deed
op_row_is s item m deed same some few = by (is_in_range s.form deed) refl
  where
    low : nat_le 1 (length item) ≡ true
    low = le-leb 1 (length item) some

    high : nat_le (length item) 32 ≡ true
    high = le-leb (length item) 32 few

    named : has_name_len item ≡ true
    named = rw (low, high) refl

    by : (b : Bool) → is_in_range s.form deed ≡ b → op_row s item deed ≡ adds_op s m deed
    by true range = rw (same, range, named) refl
    by false range = rw (same, range) refl

-- bytes that have no name's length
never : (b : Bool) → (b && false) ≡ false
never true = refl
never false = refl

no_name_len : (item : List ℕ) → (length item ≡ 0) ⊎ (32 < length item) → has_name_len item ≡ false
no_name_len item (inl none) = rw none refl
no_name_len item (inr long) =
    let high : nat_le (length item) 32 ≡ false = lt-leb (length item) 32 long in
    ap (λ (b : Bool). nat_le 1 (length item) && b) high ∙ never (nat_le 1 (length item))

-- an operation on an item that can't have its name is refused
pub op_unnamed : (s : ScriptData) (item : List ℕ) (deed : Deed) (f : Form) (w : Why) → f ≡ s.form → w ≡ unnamed f deed → (length item ≡ 0) ⊎ (32 < length item) → op_row s item deed ≡ Err w
op_unnamed s item deed f w same is odd = by (is_in_range s.form deed) refl
  where
    here : w ≡ unnamed s.form deed
    here = is ∙ ap (λ (g : Form). unnamed g deed) same

    nameless : has_name_len item ≡ false
    nameless = no_name_len item odd

    by : (b : Bool) → is_in_range s.form deed ≡ b → op_row s item deed ≡ Err w
    by true range =
        let told : unnamed s.form deed ≡ why.UnknownItem = rw range refl in
        let row : op_row s item deed ≡ Err why.UnknownItem = rw (range, nameless) refl in
        subst (λ (x : Why). op_row s item deed ≡ Err x) (sym (here ∙ told)) row
    by false range =
        let told : unnamed s.form deed ≡ why.OutOfRange = rw range refl in
        let row : op_row s item deed ≡ Err why.OutOfRange = rw range refl in
        subst (λ (x : Why). op_row s item deed ≡ Err x) (sym (here ∙ told)) row

-- an operation row whose amount is read
pub amount_row_is : (s : ScriptData) (word : OpWord) (item bytes : List ℕ) (a : ℤ) (deed : Deed) → Some a ≡ amount_of bytes → deed ≡ deed_of word a → amount_row s word item bytes ≡ op_row s item deed
amount_row_is s word item bytes a deed ha hd =
    let b = amount_is bytes a (sym ha) in
    let passes : amount_row s word item bytes ≡ op_row s item (deed_of word a) = rw (b.0, b.1) refl in
    passes ∙ ap (op_row s item) (sym hd)

-- what a row is, by what the code read of it
pub row_is : (may : RowWord → Bool) (fields : List (List ℕ)) (word : List ℕ) (n : ℕ) (found : Option RowShape) (r : Result RowWord Why) → word ≡ field fields 0 → n ≡ length fields → found ≡ lookup (bytes_eq word) row_words → r ≡ row_by may n found
    → r ≡ row_word_of may fields
row_is may fields word n found r hw hn hf hr =
    hr ∙ ap (λ (k : ℕ). row_by may k found) hn
    ∙ ap (row_by may (length fields)) (hf ∙ ap (λ (w : List ℕ). lookup (bytes_eq w) row_words) hw)

pub later_is : (s : ScriptData) (fields : List (List ℕ)) (f : Form) (w : RowWord) → f ≡ s.form → Ok w ≡ row_word_of (may_follow f) fields → later_row s fields ≡ later_form s fields w
later_is s fields f w same is =
    ap (λ (g : Form). and_then (row_word_of (may_follow g) fields) (later_form s fields)) (sym same)
    ∙ ap (λ (r : Result RowWord Why). and_then r (later_form s fields)) (sym is)

pub later_refused : (s : ScriptData) (fields : List (List ℕ)) (f : Form) (w : Why) → f ≡ s.form → Err w ≡ row_word_of (may_follow f) fields → later_row s fields ≡ Err w
later_refused s fields f w same is =
    ap (λ (g : Form). and_then (row_word_of (may_follow g) fields) (later_form s fields)) (sym same)
    ∙ ap (λ (r : Result RowWord Why). and_then r (later_form s fields)) (sym is)

-- an item row, by its fields
pub item_form_is : (s : ScriptData) (fields : List (List ℕ)) (w : RowWord) (a b c d : List ℕ) → w ≡ words.Item → a ≡ field fields 1 → b ≡ field fields 2 → c ≡ field fields 3 → d ≡ field fields 4
    → later_form s fields w ≡ item_row s a b c d
item_form_is s fields w a b c d is ha hb hc hd = rw (is, ha, hb, hc, hd) refl

-- an operation row with an amount, by its fields
pub amount_form_is : (s : ScriptData) (fields : List (List ℕ)) (w : RowWord) (word : OpWord) (a b : List ℕ) → w ≡ words.Op word → a ≡ field fields 1 → b ≡ field fields 2 → later_form s fields w ≡ amount_row s word a b
amount_form_is s fields w word a b is ha hb = rw (is, ha, hb) refl

-- a `get` row, by its field
pub get_form_is : (s : ScriptData) (fields : List (List ℕ)) (w : RowWord) (a : List ℕ) → w ≡ words.Get → a ≡ field fields 1 → later_form s fields w ≡ op_row s a deeds.Get
get_form_is s fields w a is ha = rw (is, ha) refl

-- a row word that is read may follow
passes : (c d : Bool) (w v : RowWord) → taken_unless ((c, why.UnknownRow) ∷ (d, why.WrongFields) ∷ []) w ≡ Ok v → (c ≡ false) × (w ≡ v)
passes true d w v e = absurd (cc e)
passes false true w v e = absurd (cc e)
passes false false w v e = (refl, cc e)

may_be : (may : RowWord → Bool) (n : ℕ) (o : Option RowShape) (v : RowWord) → row_by may n o ≡ Ok v → not (may v) ≡ false
may_be may n None v e = absurd (cc e)
may_be may n (Some (w, k)) v e =
    let p = passes (not (may w)) (not (n == k)) w v e in
    subst (λ (u : RowWord). not (may u) ≡ false) p.1 p.0

may_follow_here : (fields : List (List ℕ)) (f : Form) (w : RowWord) → Ok w ≡ row_word_of (may_follow f) fields → not (may_follow f w) ≡ false
may_follow_here fields f w is = may_be (may_follow f) (length fields) (lookup (bytes_eq (field fields 0)) row_words) w (sym is)

-- a `lose` row is read of a script of the second form alone
of_second : (f : Form) → not (is_second f) ≡ false → f ≡ forms.Two
of_second forms.One e = absurd (cc e)
of_second forms.Two e = refl

pub second_loses : (s : ScriptData) (fields : List (List ℕ)) (f : Form) (w : RowWord) → f ≡ s.form → Ok w ≡ row_word_of (may_follow f) fields → w ≡ words.Lose → s.form ≡ forms.Two
second_loses s fields f w same is lose = sym same ∙ of_second f (subst (λ (v : RowWord). not (may_follow f v) ≡ false) lose (may_follow_here fields f w is))

-- nor is a `fail` row of one of the first
pub second_fails : (s : ScriptData) (fields : List (List ℕ)) (f : Form) (w : RowWord) → f ≡ s.form → Ok w ≡ row_word_of (may_follow f) fields → w ≡ words.Fail → s.form ≡ forms.Two
second_fails s fields f w same is fails = sym same ∙ of_second f (subst (λ (v : RowWord). not (may_follow f v) ≡ false) fails (may_follow_here fields f w is))

-- a `fail` row, by its field
pub fail_form_is : (s : ScriptData) (fields : List (List ℕ)) (w : RowWord) (a : List ℕ) → w ≡ words.Fail → a ≡ field fields 1 → later_form s fields w ≡ fail_row s a
fail_form_is s fields w a is ha = rw (is, ha) refl

-- a `fail` row that meets no condition but a limit undoes the tree
pub fail_row_is : (s : ScriptData) (sub : List ℕ) (k : ℕ) → Some k ≡ number_spelled sub → s.begun ≡ true → k < last_subs s.trees → last_may_fail s.trees ≡ true → fail_row s sub ≡ puts_undone s k
fail_row_is s sub k hk begun earlier adds =
    let a = number_is sub k (sym hk) in
    let low : nat_le (last_subs s.trees) k ≡ false = lt-leb (last_subs s.trees) k earlier in
    rw (a.0, a.1, begun, low, adds) refl

-- it has a number, and no tree is begun
pub fail_no_tree : (s : ScriptData) (sub : List ℕ) (k : ℕ) → Some k ≡ number_spelled sub → s.begun ≡ false → fail_row s sub ≡ Err why.NoTree
fail_no_tree s sub k hk begun =
    let a = number_is sub k (sym hk) in
    rw (a.0, begun) refl

-- the tree has no such subtransaction
pub fail_bad_parent : (s : ScriptData) (sub : List ℕ) (k : ℕ) → Some k ≡ number_spelled sub → s.begun ≡ true → last_subs s.trees ≤ k → fail_row s sub ≡ Err why.BadParent
fail_bad_parent s sub k hk begun over =
    let a = number_is sub k (sym hk) in
    let high : nat_le (last_subs s.trees) k ≡ true = le-leb (last_subs s.trees) k over in
    rw (a.0, a.1, begun, high) refl

-- the tree may not fail
pub fail_wrong_kind : (s : ScriptData) (sub : List ℕ) (k : ℕ) → Some k ≡ number_spelled sub → s.begun ≡ true → k < last_subs s.trees → last_may_fail s.trees ≡ false → fail_row s sub ≡ Err why.WrongKind
fail_wrong_kind s sub k hk begun earlier adds =
    let a = number_is sub k (sym hk) in
    let low : nat_le (last_subs s.trees) k ≡ false = lt-leb (last_subs s.trees) k earlier in
    rw (a.0, a.1, begun, low, adds) refl

-- a tree row, by its fields
pub tree_form_is : (s : ScriptData) (fields : List (List ℕ)) (w : RowWord) (kind : TreeKind) (a b : List ℕ) → w ≡ words.Tree kind → a ≡ field fields 1 → b ≡ field fields 2 → later_form s fields w ≡ tree_row s kind a b
tree_form_is s fields w kind a b is ha hb = rw (is, ha, hb) refl

-- a `sub` row, by its fields
pub sub_form_is : (s : ScriptData) (fields : List (List ℕ)) (w : RowWord) (a b : List ℕ) → w ≡ words.Sub → a ≡ field fields 1 → b ≡ field fields 2 → later_form s fields w ≡ sub_row s a b
sub_form_is s fields w a b is ha hb = rw (is, ha, hb) refl

-- a word that is told is looked up as itself
pub told : (word w : List ℕ) (v : Option RowShape) → bytes_eq word w ≡ true → v ≡ lookup (bytes_eq w) row_words → v ≡ lookup (bytes_eq word) row_words
told word w v is found = found ∙ ap (λ (x : List ℕ). lookup (bytes_eq x) row_words) (sym ((bytes_eq-Decides word w).0 is))

-- what is none of the words is no row
pub no_row_word : (p : List ℕ → Bool)
    → p (codes "sub") ≡ false
    → p (codes "get") ≡ false
    → p (codes "item") ≡ false
    → p (codes "add") ≡ false
    → p (codes "top") ≡ false
    → p (codes "put") ≡ false
    → p (codes "set") ≡ false
    → p (codes "draw") ≡ false
    → p (codes "update") ≡ false
    → p (codes "read") ≡ false
    → p (codes "strict") ≡ false
    → p (codes "threev") ≡ false
    → p (codes "nodes") ≡ false
    → p (codes "advance") ≡ false
    → p (codes "settle") ≡ false
    → p (codes "pick") ≡ false
    → p (codes "lose") ≡ false
    → p (codes "fail") ≡ false
    → None ≡ lookup p row_words
no_row_word p a b c d e f g h i j k l m n o q r s
    = sym none
  where
    none : lookup p row_words ≡ None
    none = rw (a, b, c, d, e, f, g, h, i, j, k, l, m, n, o, q, r, s) refl
