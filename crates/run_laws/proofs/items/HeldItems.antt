-- What is held of an item that operations leave, and after a collection; and what a vote of yes says of it.
use Rattle.std.proofs.Common.{◌≡◌, ℕ, ◌≤◌, ◌==◌, max, Bool, true, false, List, [], ◌∷◌, refl, ◌∙◌, arith, Option, Some, None}
use Rattle.std.specs.Prelude.{if◌then◌else◌, fold, nat_lt}
use Rattle.std.specs.List.{AllByRecursion}
use Rattle.std.proofs.lemmas.Bool.Decides.{nat_tests}
use Rattle.tv_base.specs.declared.numbers.ItemNo.{ItemNo}
use Rattle.tv_base.specs.declared.numbers.Version.{Version}
use Rattle.commute_ops.specs.declared.kinds.Op.{Op}
use Rattle.commute_ops.specs.declared.value.Value.{Value}
use Rattle.item_versions.specs.Item.{Held, collected, put_value, touched}
use Rattle.item_versions.specs.Table.{Table, item_in, updated, valued}
use Rattle.item_versions.proofs.Window.{AllUpTo, up_to-filter}
use Rattle.script_parts.specs.Deeds.{after_deed, overwrites}
use Rattle.script_parts.specs.declared.parts.Deed.{Deed}
use Rattle.script_parts.specs.declared.parts.Deed.TheVariants.{Apply, Get, Set, Draw}
use Rattle.script_parts.specs.declared.parts.SubOp.{SubOp}
use Rattle.world_model.specs.Decisions.{applied_in, overwritten, overwritten_in}
use Rattle.world_model.specs.Reads.{seen_in}
use Rattle.world_model.specs.Updates.{table_after_deed, table_after_ops}
use Rattle.world_model.specs.Votes.{greatest_version, newer_by}
use Rattle.tree_laws.proofs.loads.Tables.{replaced_other}

-- Operations of an update on other items.
touched_other : (v : Version) (n x : ItemNo) (op : Op) (found : Option Held) (items : Table) → (n.0 == x.0) ≡ false
    → item_in x (updated v op found n items) ≡ item_in x items
touched_other v n x op None items other = refl
touched_other v n x op (Some h) items other = replaced_other n x (touched v op h) items other

deed_other : (v : Version) (n x : ItemNo) (deed : Deed) (items : Table) → (n.0 == x.0) ≡ false
    → item_in x (table_after_deed v n deed items) ≡ item_in x items
deed_other v n x (Apply op) items other = touched_other v n x op (item_in n items) items other
deed_other v n x Get items other = refl
deed_other v n x (Set a) items other = refl
deed_other v n x (Draw a) items other = refl

pub ops_other : (v : Version) (x : ItemNo) (os : List SubOp) (items : Table) → AllByRecursion (λ (o : SubOp). (o.item.0 == x.0) ≡ false) os
    → item_in x (table_after_ops v os items) ≡ item_in x items
ops_other v x [] items all = refl
ops_other v x (o ∷ os) items all =
    ops_other v x os (table_after_deed v o.item o.deed items) all.1 ∙ deed_other v o.item x o.deed items all.0

-- A commit that overwrites other items.
valued_other : (v : Version) (w : Value) (n x : ItemNo) (found : Option Held) (items : Table) → (n.0 == x.0) ≡ false
    → item_in x (valued v w found n items) ≡ item_in x items
valued_other v w n x None items other = refl
valued_other v w n x (Some h) items other = replaced_other n x (put_value v w h) items other

pub written_other : (v : Version) (o : SubOp) (x : ItemNo) (found : Option Value) (items : Table) → (o.item.0 == x.0) ≡ false
    → item_in x (overwritten v o found items) ≡ item_in x items
written_other v o x None items other = refl
written_other v o x (Some w) items other = valued_other v (after_deed o.deed w) o.item x (item_in o.item items) items other

pub over_other : (v : Version) (o : SubOp) (x : ItemNo) (items : Table) (test : Bool) → (test ≡ true → (o.item.0 == x.0) ≡ false)
    → item_in x (if test then overwritten v o (seen_in v o.item items) items else items) ≡ item_in x items
over_other v o x items true other = written_other v o x (seen_in v o.item items) items (other refl)
over_other v o x items false other = refl

pub commit_other : (v : Version) (x : ItemNo) (os : List SubOp) (items : Table)
    → AllByRecursion (λ (o : SubOp). overwrites o.deed ≡ true → (o.item.0 == x.0) ≡ false) os
    → item_in x (applied_in v os items) ≡ item_in x items
commit_other v x [] items all = refl
commit_other v x (o ∷ os) items all =
    commit_other v x os (overwritten_in v o items) all.1 ∙ over_other v o x items (overwrites o.deed) all.0

-- A collection.
pub collected_most : (m : ℕ) (f : Version) (h : Held) → f.0 ≤ m → AllUpTo m h → AllUpTo m (collected f h)
collected_most m f [] le all = tt
collected_most m f (x ∷ xs) le all = (le, up_to-filter m (λ y. nat_lt f.0 y.0.0) (x ∷ xs) all)

-- The greatest version.
pub greatest_from : (n m : ℕ) (h : Held) → fold (λ (v : ℕ) (x : Version × Value). max v x.0.0) n h ≤ m → (n ≤ m) × AllUpTo m h
greatest_from n m [] le = (le, tt)
greatest_from n m (x ∷ xs) le =
    let rest = greatest_from (max n x.0.0) m xs le in
    let most = rest.0 in (omega (arith, most), (omega (arith, most), rest.1))

newer_test : (x : ItemNo) (v : Version) (h : Held) (test : Bool) → nat_lt v.0 (greatest_version h) ≡ test
    → newer_by x v (Some h) ≡ None → AllUpTo v.0 h
newer_test x v h true is none = let no_such : Some (_) ≡ None = rw is at none in absurd (cc no_such)
newer_test x v h false is none =
    let le : greatest_version h ≤ v.0 = grind (arith, nat_tests, is) in (greatest_from 0 v.0 h le).1

-- where no newer version is found, none is held above
pub none_newer : (x : ItemNo) (v : Version) (h : Held) → newer_by x v (Some h) ≡ None → AllUpTo v.0 h
none_newer x v h none = newer_test x v h (nat_lt v.0 (greatest_version h)) refl none
