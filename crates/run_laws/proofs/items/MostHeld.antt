-- Bounds of the versions that are held of an item: operations of an update or a commit, and a collection, keep to a bound
-- that is no less than the version which they write.
use Rattle.std.proofs.Common.{◌≡◌, ℕ, ◌≤◌, ◌==◌, ◌&&◌, Bool, true, false, List, [], ◌∷◌, refl, sym, ap, ◌∙◌, subst, arith, Option, Some, None}
use Rattle.std.specs.Prelude.{if◌then◌else◌, max, nat_lt, fold}
use Rattle.std.proofs.lemmas.Bool.{and_from, eq-eqb, or_left, or_right}
use Rattle.std.proofs.lemmas.Bool.Decides.{nat_tests}
use Rattle.tv_base.specs.declared.numbers.ItemNo.{ItemNo}
use Rattle.tv_base.specs.declared.numbers.Version.{Version}
use Rattle.commute_ops.specs.declared.kinds.Op.{Op}
use Rattle.commute_ops.specs.declared.value.Value.{Value}
use Rattle.item_versions.specs.Collecting.{collected_all}
use Rattle.item_versions.specs.Item.{Held, above, applied_to_all, below, collected, put_value, touched}
use Rattle.item_versions.specs.Table.{Table, item_in, replaced, updated, valued}
use Rattle.item_versions.proofs.Window.{AllUpTo, up_to-append, up_to-applied, up_to-filter}
use Rattle.script_parts.specs.Deeds.{after_deed, overwrites}
use Rattle.script_parts.specs.declared.parts.Deed.{Deed}
use Rattle.script_parts.specs.declared.parts.Deed.TheVariants.{Apply, Get, Set, Draw}
use Rattle.script_parts.specs.declared.parts.SubOp.{SubOp}
use Rattle.world_model.specs.Decisions.{applied_in, overwritten, overwritten_in}
use Rattle.world_model.specs.Reads.{seen_in}
use Rattle.world_model.specs.Updates.{table_after_deed, table_after_ops}
use Rattle.board_rules.specs.Worth.{changes, ops_change}
use Rattle.tree_laws.proofs.loads.Tables.{collected_of, item_collected, replaced_other, replaced_same}
use Rattle.run_laws.proofs.items.HeldItems.{collected_most}
use Rattle.run_laws.proofs.items.UpTo.{same_item}

-- what is held of an item, if something is, is held in versions of at most m
abbrev pub IsMost : ℕ → Option Held → Type 0
IsMost m found = (h : Held) → found ≡ Some h → AllUpTo m h

pub touched_most : (m : ℕ) (v : Version) (op : Op) (h : Held) → v.0 ≤ m → AllUpTo m h → AllUpTo m (touched v op h)
touched_most m v op [] le all = tt
touched_most m v op (x ∷ xs) le all =
    up_to-append m (below v (x ∷ xs)) (_ ∷ applied_to_all op (above v (x ∷ xs))) (up_to-filter m (λ y. nat_lt y.0.0 v.0) (x ∷ xs) all)
    (le, up_to-applied m op (above v (x ∷ xs)) (up_to-filter m (λ y. nat_lt v.0 y.0.0) (x ∷ xs) all))

pub put_most : (m : ℕ) (v : Version) (w : Value) (h : Held) → v.0 ≤ m → AllUpTo m h → AllUpTo m (put_value v w h)
put_most m v w h le all =
    up_to-append m (below v h) ((v, w) ∷ above v h) (up_to-filter m (λ x. nat_lt x.0.0 v.0) h all)
    (le, up_to-filter m (λ x. nat_lt v.0 x.0.0) h all)

-- A table in which one item is replaced.
replaced_most : (m : ℕ) (n x : ItemNo) (g h : Held) (items : Table) (test : Bool) → (n.0 == x.0) ≡ test → item_in n items ≡ Some h
    → (n.0 ≡ x.0 → AllUpTo m h → AllUpTo m g) → IsMost m (item_in x items) → IsMost m (item_in x (replaced n g items))
replaced_most m n x g h items true is at grows all = λ k there.
    let num : n.0 ≡ x.0 = grind (arith, nat_tests, is) in
    let same = same_item n x num in
    let old : item_in x items ≡ Some h = ap (λ (y : ItemNo). item_in y items) (sym same) ∙ at in
    let now : item_in x (replaced n g items) ≡ Some g = ap (λ (y : ItemNo). item_in y (replaced n g items)) (sym same) ∙ replaced_same n g h items at in
    let new : g ≡ k = cc (now, there) in
    subst (AllUpTo m) new (grows num (all h old))
replaced_most m n x g h items false is at grows all = λ k there. all k (sym (replaced_other n x g items is) ∙ there)

-- an update
updated_most : (m : ℕ) (v : Version) (op : Op) (n x : ItemNo) (items : Table) (found : Option Held) → item_in n items ≡ found
    → (n.0 ≡ x.0 → v.0 ≤ m) → IsMost m (item_in x items) → IsMost m (item_in x (updated v op found n items))
updated_most m v op n x items None at le all = all
updated_most m v op n x items (Some h) at le all =
    replaced_most m n x (touched v op h) h items (n.0 == x.0) refl at (λ same up. touched_most m v op h (le same) up) all

deed_most : (m : ℕ) (v : Version) (n x : ItemNo) (d : Deed) (items : Table) → (((n.0 == x.0) && changes d) ≡ true → v.0 ≤ m)
    → IsMost m (item_in x items) → IsMost m (item_in x (table_after_deed v n d items))
deed_most m v n x (Apply op) items le all =
    updated_most m v op n x items (item_in n items) refl (λ same. le (and_from (n.0 == x.0) true (eq-eqb n.0 x.0 same) refl)) all
deed_most m v n x Get items le all = all
deed_most m v n x (Set a) items le all = all
deed_most m v n x (Draw a) items le all = all

pub ops_most : (m : ℕ) (v : Version) (x : ItemNo) (os : List SubOp) (items : Table) → (ops_change x.0 os ≡ true → v.0 ≤ m)
    → IsMost m (item_in x items) → IsMost m (item_in x (table_after_ops v os items))
ops_most m v x [] items le all = all
ops_most m v x (o ∷ os) items le all =
    let here : Bool = (o.item.0 == x.0) && changes o.deed in
    ops_most m v x os (table_after_deed v o.item o.deed items) (λ on. le (or_right here (ops_change x.0 os) on))
    (deed_most m v o.item x o.deed items (λ on. le (or_left here (ops_change x.0 os) on)) all)

-- a commit
valued_most : (m : ℕ) (v : Version) (w : Value) (n x : ItemNo) (items : Table) (found : Option Held) → item_in n items ≡ found
    → (n.0 ≡ x.0 → v.0 ≤ m) → IsMost m (item_in x items) → IsMost m (item_in x (valued v w found n items))
valued_most m v w n x items None at le all = all
valued_most m v w n x items (Some h) at le all =
    replaced_most m n x (put_value v w h) h items (n.0 == x.0) refl at (λ same up. put_most m v w h (le same) up) all

over_most : (m : ℕ) (v : Version) (o : SubOp) (x : ItemNo) (items : Table) (seen : Option Value) → (o.item.0 ≡ x.0 → v.0 ≤ m)
    → IsMost m (item_in x items) → IsMost m (item_in x (overwritten v o seen items))
over_most m v o x items None le all = all
over_most m v o x items (Some w) le all = valued_most m v (after_deed o.deed w) o.item x items (item_in o.item items) refl le all

pub over_changes : (d : Deed) → overwrites d ≡ true → changes d ≡ true
over_changes (Apply op) is = absurd (cc is)
over_changes Get is = absurd (cc is)
over_changes (Set n) is = refl
over_changes (Draw n) is = refl

op_most : (m : ℕ) (v : Version) (o : SubOp) (x : ItemNo) (items : Table) (test : Bool) → overwrites o.deed ≡ test
    → (((o.item.0 == x.0) && changes o.deed) ≡ true → v.0 ≤ m) → IsMost m (item_in x items)
    → IsMost m (item_in x (if test then overwritten v o (seen_in v o.item items) items else items))
op_most m v o x items true is le all =
    over_most m v o x items (seen_in v o.item items)
    (λ same. le (and_from (o.item.0 == x.0) (changes o.deed) (eq-eqb o.item.0 x.0 same) (over_changes o.deed is))) all
op_most m v o x items false is le all = all

pub commit_most : (m : ℕ) (v : Version) (x : ItemNo) (os : List SubOp) (items : Table) → (ops_change x.0 os ≡ true → v.0 ≤ m)
    → IsMost m (item_in x items) → IsMost m (item_in x (applied_in v os items))
commit_most m v x [] items le all = all
commit_most m v x (o ∷ os) items le all =
    let here : Bool = (o.item.0 == x.0) && changes o.deed in
    commit_most m v x os (overwritten_in v o items) (λ on. le (or_right here (ops_change x.0 os) on))
    (op_most m v o x items (overwrites o.deed) refl (λ on. le (or_left here (ops_change x.0 os) on)) all)

-- a collection
collected_by : (m : ℕ) (f : Version) (found : Option Held) → f.0 ≤ m → IsMost m found → IsMost m (collected_of f found)
collected_by m f None le all = λ h at. absurd (cc at)
collected_by m f (Some g) le all = λ h at. let same : collected f g ≡ h = cc at in subst (AllUpTo m) same (collected_most m f g le (all g refl))

pub collection_most : (m : ℕ) (f : Version) (x : ItemNo) (items : Table) → f.0 ≤ m → IsMost m (item_in x items)
    → IsMost m (item_in x (collected_all f items))
collection_most m f x items le all = subst (IsMost m) (sym (item_collected f x items)) (collected_by m f (item_in x items) le all)

-- the greatest version keeps to the bound
pub greatest_most : (n m : ℕ) (h : Held) → n ≤ m → AllUpTo m h → fold (λ (v : ℕ) (x : Version × Value). max v x.0.0) n h ≤ m
greatest_most n m [] le all = le
greatest_most n m (x ∷ xs) le all = greatest_most (max n x.0.0) m xs (omega (arith, le, all.0)) all.1
