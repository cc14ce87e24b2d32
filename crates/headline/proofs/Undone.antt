-- No read shows any part of a transaction that was compensated. Such a transaction's operations are all `add`, so they
-- change a sum by what they add up to and leave every other value; and what a compensated transaction adds to an item
-- adds up to nothing. So each value stays when the compensated transactions are left out of the serial order.
use Rattle.std.proofs.Common.{◌≡◌, ℕ, zero, suc, ◌==◌, Bool, true, false, List, [], ◌∷◌, ◌++◌, reverse, refl, sym, ap, subst, ◌∙◌, arith, Option, Some, None}
use Rattle.std.specs.Prelude.{if◌then◌else◌, cond, filter, fold, not, is_some, slice_get, ℤ, pos, ◌+ℤ◌}
use Rattle.std.proofs.lemmas.Int.{ints}
use Rattle.tv_base.specs.declared.numbers.ItemNo.{ItemNo}
use Rattle.tv_base.specs.declared.numbers.Version.{Version}
use Rattle.tv_base.proofs.Truths.{left_true, right_true}
use Rattle.commute_ops.specs.declared.kinds.Op.TheVariants as ops
use Rattle.commute_ops.specs.declared.value.Value.{Value}
use Rattle.commute_ops.specs.declared.value.Value.TheVariants.{Sum, Top, Bag}
use Rattle.letter_types.specs.declared.acts.Act.{Act}
use Rattle.letter_types.specs.declared.acts.Act.TheVariants.{Did, Finished}
use Rattle.letter_types.specs.declared.entries.Entry.{Entry}
use Rattle.tx_trees.specs.ScriptData.{ScriptData, ops_of}
use Rattle.tx_trees.specs.Undone.{is_add, ops_add, subs_add, undone}
use Rattle.tx_trees.specs.Valid.{IsValid, MayAllHaveFailed, MayHaveFailed}
use Rattle.tx_trees.specs.declared.parts.Deed.{Deed}
use Rattle.tx_trees.specs.declared.parts.Deed.TheVariants as deeds
use Rattle.tx_trees.specs.declared.parts.Form.{Form}
use Rattle.tx_trees.specs.declared.parts.ItemRow.{ItemRow}
use Rattle.tx_trees.specs.declared.parts.Sub.{Sub}
use Rattle.tx_trees.specs.declared.parts.SubOp.{SubOp}
use Rattle.tx_trees.specs.declared.parts.Tree.{Tree}
use Rattle.tx_trees.specs.declared.parts.Written.{Written}
use Rattle.tx_trees.proofs.SubsOf.{found_subs}
use Rattle.tx_trees.proofs.Undoing.{undone_adds}
use Rattle.tree_undo.specs.Balance.{added, sum_of_ops, sum_of_subs}
use Rattle.tree_undo.proofs.Sums.{undone_even}
use Rattle.board_rules.specs.Histories.{Place, version_of}
use Rattle.board_rules.specs.Right.{IsShown}
use Rattle.board_rules.proofs.Places.{at_each_act_map}
use Rattle.board_rules.specs.Serial.{serial_to}
use Rattle.board_rules.specs.Worth.{after_deed, after_ops, after_subs, after_tree, first_value, worth}
use Rattle.world_model.specs.Runs.{IsStepRun}
use Rattle.run_laws.specs.Stays.{Shows}
use Rattle.headline.specs.Undone.{ShowsNothingUndone, is_undone, worth_kept}
use Rattle.run_laws.proofs.worth.ShownStays.{same_worths, shown_stays}

-- What `add` operations make of a value.

-- the value with this added, where it is a sum
abbrev raised : ℤ → Value → Value
raised n (Sum a) = Sum (record { 0 = a.0 +ℤ n })
raised n (Top a) = Top a
raised n (Bag ns) = Bag ns

raised_none : (n : ℤ) (w : Value) → n ≡ pos 0 → raised n w ≡ w
raised_none n (Sum a) is = let same : a.0 +ℤ n ≡ a.0 = omega (arith, ints, is) in ap (λ (m : ℤ). Sum (record { 0 = m })) same
raised_none n (Top a) is = refl
raised_none n (Bag ns) is = refl

raised_twice : (m n : ℤ) (w : Value) → raised n (raised m w) ≡ raised (m +ℤ n) w
raised_twice m n (Sum a) =
    let same : a.0 +ℤ m +ℤ n ≡ a.0 +ℤ (m +ℤ n) = omega (arith, ints) in ap (λ (k : ℤ). Sum (record { 0 = k })) same
raised_twice m n (Top a) = refl
raised_twice m n (Bag ns) = refl

deed_raises : (d : Deed) (w : Value) → is_add d ≡ true → after_deed d w ≡ raised (added d) w
deed_raises (deeds.Apply (ops.Add a)) (Sum n) is = refl
deed_raises (deeds.Apply (ops.Add a)) (Top n) is = refl
deed_raises (deeds.Apply (ops.Add a)) (Bag ns) is = refl
deed_raises (deeds.Apply (ops.Top a)) w is = absurd (cc is)
deed_raises (deeds.Apply (ops.Put a)) w is = absurd (cc is)
deed_raises deeds.Get w is = absurd (cc is)
deed_raises (deeds.Set a) w is = absurd (cc is)
deed_raises (deeds.Draw a) w is = absurd (cc is)

op_raises : (d : Deed) (w : Value) (here : Bool) → is_add d ≡ true
    → (if here then after_deed d w else w) ≡ raised (if here then added d else pos 0) w
op_raises d w true is = deed_raises d w is
op_raises d w false is = sym (raised_none (pos 0) w refl)

ops_raise : (x : ℕ) (os : List SubOp) (w : Value) → ops_add os ≡ true → after_ops x os w ≡ raised (sum_of_ops x os) w
ops_raise x [] w is = sym (raised_none (pos 0) w refl)
ops_raise x (o ∷ os) w is =
    let n : ℤ = if o.item.0 == x then added o.deed else pos 0 in
    ap (after_ops x os) (op_raises o.deed w (o.item.0 == x) (left_true (is_add o.deed) (ops_add os) is))
    ∙ ops_raise x os (raised n w) (right_true (is_add o.deed) (ops_add os) is)
    ∙ raised_twice n (sum_of_ops x os) w

subs_raise : (x : ℕ) (ks : List Sub) (w : Value) → subs_add ks ≡ true → after_subs x ks w ≡ raised (sum_of_subs x ks) w
subs_raise x [] w is = sym (raised_none (pos 0) w refl)
subs_raise x (k ∷ ks) w is =
    ap (after_subs x ks) (ops_raise x k.ops w (left_true (ops_add k.ops) (subs_add ks) is))
    ∙ subs_raise x ks (raised (sum_of_ops x k.ops) w) (right_true (ops_add k.ops) (subs_add ks) is)
    ∙ raised_twice (sum_of_ops x k.ops) (sum_of_subs x ks) w

-- An undone tree leaves every value as it is.

undone_leaves : (x : ℕ) (ks : List Sub) (failed : ℕ) (w : Value) → subs_add ks ≡ true
    → after_subs x (undone ks failed) w ≡ w
undone_leaves x ks failed w is =
    subs_raise x (undone ks failed) w (undone_adds ks failed is)
    ∙ raised_none (sum_of_subs x (undone ks failed)) w (undone_even ks failed x)

-- the same of a tree of a valid script
tree_leaves : (form : Form) (nodes : ℕ) (items : List ItemRow) (front : List Tree) (x : ℕ) (tree : Tree) (w : Value)
    (written : Option Written) → is_some written ≡ true → MayHaveFailed form nodes items front tree written
    → after_subs x tree.subs w ≡ w
tree_leaves form nodes items front x tree w None is failed = absurd (cc is)
tree_leaves form nodes items front x tree w (Some u) is failed =
    ap (λ (ks : List Sub). after_subs x ks w) failed.subs ∙ undone_leaves x u.subs u.failed.0 w failed.adds

trees_leave : (form : Form) (nodes : ℕ) (items : List ItemRow) (front ts : List Tree) (t x : ℕ) (tree : Tree) (w : Value)
    → MayAllHaveFailed form nodes items front ts → slice_get ts t ≡ Some tree → is_some tree.written ≡ true
    → after_subs x tree.subs w ≡ w
trees_leave form nodes items front [] t x tree w all at is = absurd (cc at)
trees_leave form nodes items front (y ∷ ts) zero x tree w all at is =
    let same : y ≡ tree = cc at in
    subst (λ (z : Tree). is_some z.written ≡ true → after_subs x z.subs w ≡ w) same
    (λ some. tree_leaves form nodes items front x y w y.written some all.0) is
trees_leave form nodes items front (y ∷ ts) (suc t) x tree w all at is =
    trees_leave form nodes items (front ++ y ∷ []) ts t x tree w all.1 at is

leaves_by : (s : ScriptData) (t x : ℕ) (w : Value) → IsValid s → (found : Option Tree) → slice_get s.trees t ≡ found
    → is_undone s t ≡ true → after_tree s x w t ≡ w
leaves_by s t x w valid None at is = absurd (let no : is_undone s t ≡ false = rw (at, is_undone) refl in cc (no, is))
leaves_by s t x w valid (Some tree) at is =
    let same : is_undone s t ≡ is_some tree.written = rw (at, is_undone) refl in
    ap (λ (ks : List Sub). after_subs x ks w) (found_subs s t tree at)
    ∙ trees_leave s.form s.nodes s.items [] s.trees t x tree w valid.failed at (sym same ∙ is)

-- an undone tree of a valid script leaves item x as it is
pub undone_tree_leaves : (s : ScriptData) (t x : ℕ) (w : Value) → IsValid s → is_undone s t ≡ true
    → after_tree s x w t ≡ w
undone_tree_leaves s t x w valid is = leaves_by s t x w valid (slice_get s.trees t) refl is

-- So nothing is worth more or less without them.

fold_by : (f : Value → ℕ → Value) (w : Value) (t : ℕ) (ts kept : List ℕ) (gone : Bool)
    → (gone ≡ true → f w t ≡ w) → ((u : Value) → fold f u ts ≡ fold f u kept)
    → fold f (f w t) ts ≡ fold f w (cond (not gone) (t ∷ kept) kept)
fold_by f w t ts kept true leaves rest = ap (λ (u : Value). fold f u ts) (leaves refl) ∙ rest w
fold_by f w t ts kept false leaves rest = rest (f w t)

fold_kept : (f : Value → ℕ → Value) (p : ℕ → Bool) (w : Value) (ts : List ℕ)
    → ((t : ℕ) (u : Value) → p t ≡ true → f u t ≡ u) → fold f w ts ≡ fold f w (filter (λ (t : ℕ). not (p t)) ts)
fold_kept f p w [] leaves = refl
fold_kept f p w (t ∷ ts) leaves =
    fold_by f w t ts (filter (λ (u : ℕ). not (p u)) ts) (p t) (leaves t w) (λ u. fold_kept f p u ts leaves)

pub worth_is_kept : (s : ScriptData) (h : List Entry) (x v : ℕ) → IsValid s → worth s h x v ≡ worth_kept s h x v
worth_is_kept s h x v valid =
    fold_kept (after_tree s x) (is_undone s) (first_value (slice_get s.items x)) (serial_to s h v)
    (λ t u is. undone_tree_leaves s t x u valid is)

shown_at : (s : ScriptData) (h : List Entry) (os : List SubOp) (values : List (ItemNo × Value)) (born : Option Version)
    → IsValid s → IsShown (worth s h) os values born → IsShown (worth_kept s h) os values born
shown_at s h os values None valid is = is
shown_at s h os values (Some v) valid is =
    is ∙ same_worths (λ x. worth s h x v.0) (λ x. worth_kept s h x v.0) os (λ x. worth_is_kept s h x v.0 valid)

act_shows : (s : ScriptData) (h : List Entry) (a : Act) → IsValid s → Shows (worth s h) s h a → Shows (worth_kept s h) s h a
act_shows s h (Did t k values) valid right = λ read. shown_at s h (ops_of s t.0 k.0) values (version_of h t.0) valid (right read)
act_shows s h Finished valid right = tt
act_shows s h _ valid right = tt

pub nothing_undone : (s : ScriptData) (past : List Entry) → IsValid s → IsStepRun s past → ShowsNothingUndone s (reverse past)
nothing_undone s past valid run =
    let h = reverse past in
    at_each_act_map (λ (b : List Entry) (xs : List Place) (x : Place). Shows (worth s h) s h x.act)
    (λ (b : List Entry) (xs : List Place) (x : Place). Shows (worth_kept s h) s h x.act) h
    (λ b xs x right. act_shows s h x.act valid right) (shown_stays s past valid run)
