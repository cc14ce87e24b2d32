-- Bounds of the versions that are held of an item: what bounds them after operations of an update, of a commit, or after a
-- collection bounds them before, and bounds the version that is written.
use Rattle.std.proofs.Common.{◌≡◌, ◌⊎◌, inl, inr, ℕ, ◌≤◌, ◌==◌, ◌&&◌, Bool, true, false, List, [], ◌∷◌, ◌++◌, suc, refl, sym, ap, ◌∙◌, subst, arith, Option, Some, None}
use Rattle.std.specs.Prelude.{if◌then◌else◌, nat_lt, slice_get}
use Rattle.std.specs.List.{AllByRecursion}
use Rattle.std.proofs.lemmas.Bool.{and_parts, or_cases}
use Rattle.std.proofs.lemmas.Bool.Decides.{nat_tests}
use Rattle.tv_base.specs.declared.numbers.ItemNo.{ItemNo}
use Rattle.tv_base.specs.declared.numbers.Version.{Version}
use Rattle.commute_ops.specs.declared.kinds.Op.{Op}
use Rattle.commute_ops.specs.declared.value.Value.{Value}
use Rattle.item_versions.specs.Collecting.{collected_all}
use Rattle.item_versions.specs.Item.{Held, above, applied_to_all, below, collected, put_value, seen_after, touched}
use Rattle.item_versions.specs.Table.{Table, item_in, replaced, updated, valued}
use Rattle.item_versions.proofs.Window.{AllUpTo}
use Rattle.nc_locks.specs.declared.modes.Mode.TheVariants.{Mark, Hold}
use Rattle.nc_locks.specs.Modes.{modes_conflict}
use Rattle.script_parts.specs.Wants.{mode_wanted}
use Rattle.script_parts.specs.Deeds.{after_deed, overwrites}
use Rattle.script_parts.specs.declared.parts.Deed.{Deed}
use Rattle.script_parts.specs.declared.parts.Deed.TheVariants.{Apply, Get, Set, Draw}
use Rattle.script_parts.specs.declared.parts.SubOp.{SubOp}
use Rattle.world_model.specs.Decisions.{applied_in, overwritten, overwritten_in}
use Rattle.world_model.specs.Reads.{seen_in}
use Rattle.world_model.specs.Updates.{table_after_deed, table_after_ops}
use Rattle.board_rules.specs.Worth.{changes, ops_change}
use Rattle.board_rules.proofs.Precedence.{overwritten as changes_over}
use Rattle.tree_laws.proofs.loads.Seen.{seen_of}
use Rattle.tree_laws.proofs.loads.Tables.{collected_of, item_collected, replaced_other, replaced_same}

-- something is held of an item, in versions of at most m
abbrev pub IsUpTo : ℕ → Option Held → Type 0
IsUpTo m None = ⊥
IsUpTo m (Some []) = ⊥
IsUpTo m (Some (x ∷ xs)) = AllUpTo m (x ∷ xs)

-- Parts of what is held.
left_up : (m : ℕ) (xs ys : Held) → AllUpTo m (xs ++ ys) → AllUpTo m xs
left_up m [] ys all = tt
left_up m (x ∷ xs) ys all = (all.0, left_up m xs ys all.1)

right_up : (m : ℕ) (xs ys : Held) → AllUpTo m (xs ++ ys) → AllUpTo m ys
right_up m [] ys all = all
right_up m (x ∷ xs) ys all = right_up m xs ys all.1

applied_up : (m : ℕ) (op : Op) (xs : Held) → AllUpTo m (applied_to_all op xs) → AllUpTo m xs
applied_up m op [] all = tt
applied_up m op (x ∷ xs) all = (all.0, applied_up m op xs all.1)

joined : (v : Version) (m : ℕ) (xs : Held) → v.0 ≤ m → AllUpTo m (below v xs) → AllUpTo m (above v xs) → AllUpTo m xs
joined v m [] le low high = tt
joined v m (x ∷ xs) le low high =
    by (nat_lt x.0.0 v.0) (nat_lt v.0 x.0.0) refl refl low high (λ a b. joined v m xs le a b) where
      by : (a b : Bool) → nat_lt x.0.0 v.0 ≡ a → nat_lt v.0 x.0.0 ≡ b → AllUpTo m (if a then x ∷ below v xs else below v xs)
          → AllUpTo m (if b then x ∷ above v xs else above v xs) → (AllUpTo m (below v xs) → AllUpTo m (above v xs) → AllUpTo m xs)
          → AllUpTo m (x ∷ xs)
      by true true is at lows highs rest = (lows.0, rest lows.1 highs.1)
      by true false is at lows highs rest = (lows.0, rest lows.1 highs)
      by false true is at lows highs rest = (highs.0, rest lows highs.1)
      by false false is at lows highs rest = (grind (arith, nat_tests, is, at, le), rest lows highs)

lows_up : (f : Version) (m : ℕ) (xs : Held) → f.0 ≤ m → AllUpTo m (below f xs)
lows_up f m [] le = tt
lows_up f m (x ∷ xs) le = by (nat_lt x.0.0 f.0) refl (lows_up f m xs le) where
  by : (b : Bool) → nat_lt x.0.0 f.0 ≡ b → AllUpTo m (below f xs) → AllUpTo m (if b then x ∷ below f xs else below f xs)
  by true is rest = (grind (arith, nat_tests, is, le), rest)
  by false is rest = rest

-- what is held after an operation, after a value is put, and after a collection
first_up : (m : ℕ) (xs ys : Held) (y : Version × Value) → IsUpTo m (Some (xs ++ y ∷ ys)) → AllUpTo m (xs ++ y ∷ ys)
first_up m [] ys y all = all
first_up m (x ∷ xs) ys y all = all

touched_up : (m : ℕ) (v : Version) (op : Op) (h : Held) → IsUpTo m (Some (touched v op h)) → (v.0 ≤ m) × IsUpTo m (Some h)
touched_up m v op [] all = absurd all
touched_up m v op (x ∷ xs) all =
    let low = below v (x ∷ xs) in
    let parts = first_up m low (applied_to_all op (above v (x ∷ xs))) _ all in
    let rest = right_up m low _ parts in
    (rest.0, joined v m (x ∷ xs) rest.0 (left_up m low _ parts) (applied_up m op (above v (x ∷ xs)) rest.1))

put_up : (m : ℕ) (v : Version) (w : Value) (x : Version × Value) (xs : Held) → IsUpTo m (Some (put_value v w (x ∷ xs)))
    → (v.0 ≤ m) × AllUpTo m (x ∷ xs)
put_up m v w x xs all =
    let low = below v (x ∷ xs) in
    let parts = first_up m low (above v (x ∷ xs)) (v, w) all in
    let rest = right_up m low _ parts in
    (rest.0, joined v m (x ∷ xs) rest.0 (left_up m low _ parts) rest.1)

collected_up : (m : ℕ) (f : Version) (h : Held) → IsUpTo m (Some (collected f h)) → IsUpTo m (Some h)
collected_up m f [] all = absurd all
collected_up m f (x ∷ xs) all = joined f m (x ∷ xs) all.0 (lows_up f m (x ∷ xs) all.0) all.1

-- Tables.
pub same_item : (n x : ItemNo) → n.0 ≡ x.0 → n ≡ x
same_item n x is = λ i. record { 0 = is i }

put_grows : (m : ℕ) (n x : ItemNo) (g h : Held) (items : Table) (test : Bool) → (n.0 == x.0) ≡ test → item_in n items ≡ Some h
    → (IsUpTo m (Some g) → IsUpTo m (Some h)) → IsUpTo m (item_in x (replaced n g items)) → IsUpTo m (item_in x items)
put_grows m n x g h items true is at grows all =
    let same = same_item n x (grind (arith, nat_tests, is)) in
    let here : item_in x items ≡ Some h = ap (λ (y : ItemNo). item_in y items) (sym same) ∙ at in
    let now : item_in x (replaced n g items) ≡ Some g = ap (λ (y : ItemNo). item_in y (replaced n g items)) (sym same) ∙ replaced_same n g h items at in
    subst (IsUpTo m) (sym here) (grows (subst (IsUpTo m) now all))
put_grows m n x g h items false is at grows all = subst (IsUpTo m) (replaced_other n x g items is) all

put_here : (m : ℕ) (n x : ItemNo) (g h : Held) (items : Table) → n.0 ≡ x.0 → item_in n items ≡ Some h
    → IsUpTo m (item_in x (replaced n g items)) → IsUpTo m (Some g)
put_here m n x g h items is at all =
    let same = same_item n x is in
    subst (IsUpTo m)
    (ap (λ (y : ItemNo). item_in y (replaced n g items)) (sym same) ∙ replaced_same n g h items at) all

-- an update
updated_grows : (m : ℕ) (v : Version) (op : Op) (found : Option Held) (n x : ItemNo) (items : Table) → item_in n items ≡ found
    → IsUpTo m (item_in x (updated v op found n items)) → IsUpTo m (item_in x items)
updated_grows m v op None n x items at all = all
updated_grows m v op (Some h) n x items at all =
    put_grows m n x (touched v op h) h items (n.0 == x.0) refl at (λ up. (touched_up m v op h up).1) all

deed_grows : (m : ℕ) (v : Version) (n x : ItemNo) (deed : Deed) (items : Table) → IsUpTo m (item_in x (table_after_deed v n deed items))
    → IsUpTo m (item_in x items)
deed_grows m v n x (Apply op) items all = updated_grows m v op (item_in n items) n x items refl all
deed_grows m v n x Get items all = all
deed_grows m v n x (Set a) items all = all
deed_grows m v n x (Draw a) items all = all

pub ops_grow : (m : ℕ) (v : Version) (x : ItemNo) (os : List SubOp) (items : Table) → IsUpTo m (item_in x (table_after_ops v os items))
    → IsUpTo m (item_in x items)
ops_grow m v x [] items all = all
ops_grow m v x (o ∷ os) items all =
    deed_grows m v o.item x o.deed items (ops_grow m v x os (table_after_deed v o.item o.deed items) all)

updated_writes : (m : ℕ) (v : Version) (op : Op) (found : Option Held) (n x : ItemNo) (items : Table) → item_in n items ≡ found → n.0 ≡ x.0
    → IsUpTo m (item_in x (updated v op found n items)) → v.0 ≤ m
updated_writes m v op None n x items at same all =
    let none : item_in x items ≡ None = ap (λ (y : ItemNo). item_in y items) (sym (same_item n x same)) ∙ at in
    absurd (subst (IsUpTo m) none all)
updated_writes m v op (Some h) n x items at same all = (touched_up m v op h (put_here m n x (touched v op h) h items same at all)).0

deed_writes : (m : ℕ) (v : Version) (n x : ItemNo) (deed : Deed) (items : Table) → n.0 ≡ x.0 → changes deed ≡ true → mode_wanted deed ≡ Mark
    → IsUpTo m (item_in x (table_after_deed v n deed items)) → v.0 ≤ m
deed_writes m v n x (Apply op) items same is marks all = updated_writes m v op (item_in n items) n x items refl same all
deed_writes m v n x Get items same is marks all = absurd (cc is)
deed_writes m v n x (Set a) items same is marks all = absurd (let no_such : Hold ≡ Mark = marks in cc no_such)
deed_writes m v n x (Draw a) items same is marks all = absurd (let no_such : Hold ≡ Mark = marks in cc no_such)

pub ops_write : (m : ℕ) (v : Version) (x : ItemNo) (os : List SubOp) (items : Table) → ops_change x.0 os ≡ true
    → ((i : ℕ) (o : SubOp) → slice_get os i ≡ Some o → mode_wanted o.deed ≡ Mark)
    → IsUpTo m (item_in x (table_after_ops v os items)) → v.0 ≤ m
ops_write m v x [] items on marks all = absurd (cc on)
ops_write m v x (o ∷ os) items on marks all =
    by (λ later. ops_write m v x os (table_after_deed v o.item o.deed items) later (λ i q is. marks (suc i) q is) all)
    (or_cases ((o.item.0 == x.0) && changes o.deed) (ops_change x.0 os) on) where
      by : (ops_change x.0 os ≡ true → v.0 ≤ m)
          → (((o.item.0 == x.0) && changes o.deed) ≡ true) ⊎ (ops_change x.0 os ≡ true) → v.0 ≤ m
      by rest (inl here) =
          let parts = and_parts (o.item.0 == x.0) (changes o.deed) here in
          let first = parts.0 in
          deed_writes m v o.item x o.deed items (grind (arith, nat_tests, first)) parts.1 (marks 0 o refl)
          (ops_grow m v x os (table_after_deed v o.item o.deed items) all)
      by rest (inr later) = rest later

-- a commit
wrote : (v : Version) (o : SubOp) (items : Table) (y : Version × Value) (ys : Held) → item_in o.item items ≡ Some (y ∷ ys)
    → overwritten v o (seen_in v o.item items) items
    ≡ replaced o.item (put_value v (after_deed o.deed (seen_after y.1 v ys)) (y ∷ ys)) items
wrote v o items y ys at =
    ap (λ (f : Option Held). overwritten v o (seen_of v f) items) at
    ∙ ap (λ (f : Option Held). valued v (after_deed o.deed (seen_after y.1 v ys)) f o.item items) at

left_out : (v : Version) (o : SubOp) (items : Table) (found : Option Held) → item_in o.item items ≡ found → seen_of v found ≡ None
    → overwritten v o (seen_in v o.item items) items ≡ items
left_out v o items found at none =
    ap (λ (f : Option Held). overwritten v o (seen_of v f) items) at ∙ ap (λ (w : Option Value). overwritten v o w items) none

over_grows : (m : ℕ) (v : Version) (o : SubOp) (x : ItemNo) (items : Table) (found : Option Held) → item_in o.item items ≡ found
    → IsUpTo m (item_in x (overwritten v o (seen_in v o.item items) items)) → IsUpTo m (item_in x items)
over_grows m v o x items None at all = subst (λ (t : Table). IsUpTo m (item_in x t)) (left_out v o items None at refl) all
over_grows m v o x items (Some []) at all = subst (λ (t : Table). IsUpTo m (item_in x t)) (left_out v o items (Some []) at refl) all
over_grows m v o x items (Some (y ∷ ys)) at all =
    let w : Value = after_deed o.deed (seen_after y.1 v ys) in
    put_grows m o.item x (put_value v w (y ∷ ys)) (y ∷ ys) items (o.item.0 == x.0) refl at (λ up. (put_up m v w y ys up).1)
    (subst (λ (t : Table). IsUpTo m (item_in x t)) (wrote v o items y ys at) all)

op_grows : (m : ℕ) (v : Version) (o : SubOp) (x : ItemNo) (items : Table) (test : Bool)
    → IsUpTo m (item_in x (if test then overwritten v o (seen_in v o.item items) items else items)) → IsUpTo m (item_in x items)
op_grows m v o x items true all = over_grows m v o x items (item_in o.item items) refl all
op_grows m v o x items false all = all

pub commit_grows : (m : ℕ) (v : Version) (x : ItemNo) (os : List SubOp) (items : Table) → IsUpTo m (item_in x (applied_in v os items))
    → IsUpTo m (item_in x items)
commit_grows m v x [] items all = all
commit_grows m v x (o ∷ os) items all =
    op_grows m v o x items (overwrites o.deed) (commit_grows m v x os (overwritten_in v o items) all)

over_writes : (m : ℕ) (v : Version) (o : SubOp) (x : ItemNo) (items : Table) (found : Option Held) → item_in o.item items ≡ found
    → o.item.0 ≡ x.0 → IsUpTo m (item_in x (overwritten v o (seen_in v o.item items) items)) → v.0 ≤ m
over_writes m v o x items None at same all =
    let none : item_in x items ≡ None = ap (λ (y : ItemNo). item_in y items) (sym (same_item o.item x same)) ∙ at in
    absurd (subst (IsUpTo m) none (over_grows m v o x items None at all))
over_writes m v o x items (Some []) at same all =
    let none : item_in x items ≡ Some [] = ap (λ (y : ItemNo). item_in y items) (sym (same_item o.item x same)) ∙ at in
    absurd (subst (IsUpTo m) none (over_grows m v o x items (Some []) at all))
over_writes m v o x items (Some (y ∷ ys)) at same all =
    let w : Value = after_deed o.deed (seen_after y.1 v ys) in
    (put_up m v w y ys
    (put_here m o.item x (put_value v w (y ∷ ys)) (y ∷ ys) items same at
    (subst (λ (t : Table). IsUpTo m (item_in x t)) (wrote v o items y ys at) all))).0

abbrev pub AreStrict : List SubOp → Type 0
AreStrict os = AllByRecursion (λ (o : SubOp). modes_conflict Mark (mode_wanted o.deed) ≡ true) os

pub commit_writes : (m : ℕ) (v : Version) (x : ItemNo) (os : List SubOp) (items : Table) → ops_change x.0 os ≡ true → AreStrict os
    → IsUpTo m (item_in x (applied_in v os items)) → v.0 ≤ m
commit_writes m v x [] items on strict all = absurd (cc on)
commit_writes m v x (o ∷ os) items on strict all =
    by (λ later. commit_writes m v x os (overwritten_in v o items) later strict.1 all)
    (or_cases ((o.item.0 == x.0) && changes o.deed) (ops_change x.0 os) on) where
      by : (ops_change x.0 os ≡ true → v.0 ≤ m)
          → (((o.item.0 == x.0) && changes o.deed) ≡ true) ⊎ (ops_change x.0 os ≡ true) → v.0 ≤ m
      by rest (inl here) =
          let parts = and_parts (o.item.0 == x.0) (changes o.deed) here in
          let first = parts.0 in
          let over = changes_over o.deed parts.1 strict.0 in
          over_writes m v o x items (item_in o.item items) refl (grind (arith, nat_tests, first))
          (subst (λ (b : Bool). IsUpTo m (item_in x (if b then overwritten v o (seen_in v o.item items) items else items))) over
          (commit_grows m v x os (overwritten_in v o items) all))
      by rest (inr later) = rest later

-- a collection
collects_by : (m : ℕ) (f : Version) (found : Option Held) → IsUpTo m (collected_of f found) → IsUpTo m found
collects_by m f None all = all
collects_by m f (Some h) all = collected_up m f h all

pub collected_grows : (m : ℕ) (f : Version) (x : ItemNo) (items : Table) → IsUpTo m (item_in x (collected_all f items)) → IsUpTo m (item_in x items)
collected_grows m f x items all = collects_by m f (item_in x items) (subst (IsUpTo m) (item_collected f x items) all)
