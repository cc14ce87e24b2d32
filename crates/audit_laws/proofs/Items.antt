-- Items whose values are small stay so, whatever operations of the script are made on them.
use Rattle.std.proofs.Common.{ℕ, ◌≡◌, ◌≤◌, ◌+◌, ◌==◌, Bool, true, false, List, [], ◌∷◌, ◌++◌, suc, zero, refl, subst, arith, Option, Some, None}
use Rattle.std.specs.Prelude.{if◌then◌else◌, not, nat_le, slice_get}
use Rattle.std.specs.List.{AllByRecursion}
use Rattle.std.proofs.lemmas.Bool.Decides.{nat_tests}
use Rattle.tv_base.proofs.Truths.{left_true}
use Rattle.tv_base.specs.declared.numbers.ItemNo.{ItemNo}
use Rattle.tv_base.specs.declared.numbers.Version.{Version}
use Rattle.commute_ops.specs.Ops.{value_start}
use Rattle.commute_ops.specs.declared.kinds.TheConstants.{MOST_AMOUNT}
use Rattle.commute_ops.specs.declared.kinds.Op.{Op}
use Rattle.commute_ops.specs.declared.value.Value.{Value}
use Rattle.item_versions.specs.Collecting.{collected_all}
use Rattle.item_versions.specs.Item.{Held, put_value, seen, touched}
use Rattle.item_versions.specs.Table.{Table, item_in, updated, valued}
use Rattle.item_versions.proofs.Tables.{Each as EachItem, each-item, each-replaced}
use Rattle.script_parts.proofs.SubsOf.{all_at}
use Rattle.script_parts.specs.Amounts.{magnitude, op_magnitude}
use Rattle.script_parts.specs.Deeds.{after_deed, overwrites}
use Rattle.script_parts.specs.Ranges.{draws_negative, is_in_range}
use Rattle.script_parts.specs.ScriptData.{ScriptData, ops_of, sub_at, subs_at}
use Rattle.script_parts.specs.Valid.{AreSubs, IsItem, IsTree, IsValid}
use Rattle.script_parts.specs.declared.parts.Deed.{Deed}
use Rattle.script_parts.specs.declared.parts.Deed.TheVariants.{Apply, Get, Set, Draw}
use Rattle.script_parts.specs.declared.parts.Form.TheVariants as forms
use Rattle.script_parts.specs.declared.parts.ItemRow.{ItemRow}
use Rattle.script_parts.specs.declared.parts.Sub.{Sub}
use Rattle.script_parts.specs.declared.parts.SubOp.{SubOp}
use Rattle.script_parts.specs.declared.parts.Tree.{Tree}
use Rattle.script_parts.specs.declared.parts.TreeKind.{TreeKind}
use Rattle.world_model.specs.Decisions.{applied_in, ops_at, overwritten, overwritten_in}
use Rattle.world_model.specs.Node.{items_at}
use Rattle.world_model.specs.Reads.{seen_in}
use Rattle.world_model.specs.Updates.{table_after_deed, table_after_ops}
use Rattle.tree_laws.proofs.conflicts.AtHome.{all_append}
use Rattle.audit_laws.proofs.Values.{AreSmall, IsSmall, small_collected, small_deed, small_put, small_seen, small_start, small_touched}

-- each value of each item
abbrev pub AreSmallIn : Table → Type 0
AreSmallIn items = EachItem AreSmall items

-- The amounts of a valid script.
abbrev pub IsSmallOp : SubOp → Type 0
IsSmallOp o = magnitude o.deed ≤ MOST_AMOUNT

in_range : (deed : Deed) → is_in_range forms.Two deed ≡ true → magnitude deed ≤ MOST_AMOUNT
in_range deed is =
    let le = left_true (nat_le (magnitude deed) MOST_AMOUNT) (not (draws_negative deed)) is in
    grind (arith, nat_tests)

ranged : (os : List SubOp) → AllByRecursion (λ (o : SubOp). is_in_range forms.Two o.deed ≡ true) os → AllByRecursion IsSmallOp os
ranged [] all = tt
ranged (o ∷ os) all = (in_range o.deed all.0, ranged os all.1)

-- of one subtransaction, and of all that a tree has at a node
sub_amounts : (nodes : ℕ) (items : List ItemRow) (kind : TreeKind) (i k : ℕ) (subs : List Sub) (sub : Sub)
    → AreSubs nodes items kind i subs → slice_get subs k ≡ Some sub → AllByRecursion IsSmallOp sub.ops
sub_amounts nodes items kind i k [] sub all is = absurd (cc is)
sub_amounts nodes items kind i zero (y ∷ subs) sub all is =
    let same : y ≡ sub = cc is in subst (λ (z : Sub). AllByRecursion IsSmallOp z.ops) same (ranged y.ops all.0.amounts)
sub_amounts nodes items kind i (suc k) (y ∷ subs) sub all is = sub_amounts nodes items kind (i + 1) k subs sub all.1 is

node_amounts : (nodes : ℕ) (items : List ItemRow) (kind : TreeKind) (p i : ℕ) (subs : List Sub) → AreSubs nodes items kind i subs
    → AllByRecursion IsSmallOp (ops_at p subs)
node_amounts nodes items kind p i [] all = tt
node_amounts nodes items kind p i (y ∷ subs) all =
    pick (y.node.0 == p) (node_amounts nodes items kind p (i + 1) subs all.1) where
      pick : (b : Bool) → AllByRecursion IsSmallOp (ops_at p subs)
          → AllByRecursion IsSmallOp (if b then y.ops ++ ops_at p subs else ops_at p subs)
      pick true rest = all_append IsSmallOp y.ops (ops_at p subs) (ranged y.ops all.0.amounts) rest
      pick false rest = rest

pub small_ops : (s : ScriptData) (t k : ℕ) → IsValid s → AllByRecursion IsSmallOp (ops_of s t k)
small_ops s t k valid = by (slice_get s.trees t) refl where
  in_tree : (tree : Tree) → slice_get s.trees t ≡ Some tree → (sub : Option Sub) → slice_get tree.subs k ≡ sub
      → AllByRecursion IsSmallOp (elim sub [ Some sub ↦ sub.ops | None ↦ [] ])
  in_tree tree at None here = tt
  in_tree tree at (Some sub) here =
      sub_amounts s.nodes s.items tree.kind 0 k tree.subs sub (all_at (IsTree s.nodes s.items) s.trees t tree valid.trees at).subs here

  by : (tree : Option Tree) → slice_get s.trees t ≡ tree → AllByRecursion IsSmallOp (ops_of s t k)
  by None at = rw (at, subs_at, sub_at, ops_of) tt
  by (Some tree) at = rw (at, subs_at, sub_at, ops_of) (in_tree tree at (slice_get tree.subs k) refl)

pub small_ops_at : (s : ScriptData) (t p : ℕ) → IsValid s → AllByRecursion IsSmallOp (ops_at p (subs_at s t))
small_ops_at s t p valid = by (slice_get s.trees t) refl where
  by : (tree : Option Tree) → slice_get s.trees t ≡ tree → AllByRecursion IsSmallOp (ops_at p (subs_at s t))
  by None at = rw (at, subs_at) tt
  by (Some tree) at =
      rw (at, subs_at)
      (node_amounts s.nodes s.items tree.kind p 0 tree.subs (all_at (IsTree s.nodes s.items) s.trees t tree valid.trees at).subs)

-- Updates.
small_updated : (v : Version) (n : ItemNo) (op : Op) (items : Table) (found : Option Held) → item_in n items ≡ found
    → op_magnitude op ≤ MOST_AMOUNT → AreSmallIn items → AreSmallIn (updated v op found n items)
small_updated v n op items None at le all = all
small_updated v n op items (Some h) at le all =
    each-replaced AreSmall n (touched v op h) items (small_touched v op h le (each-item AreSmall n items h at all)) all

small_after : (v : Version) (n : ItemNo) (deed : Deed) (items : Table) → magnitude deed ≤ MOST_AMOUNT → AreSmallIn items
    → AreSmallIn (table_after_deed v n deed items)
small_after v n (Apply op) items le all = small_updated v n op items (item_in n items) refl le all
small_after v n Get items le all = all
small_after v n (Set a) items le all = all
small_after v n (Draw a) items le all = all

pub small_after_ops : (v : Version) (os : List SubOp) (items : Table) → AllByRecursion IsSmallOp os → AreSmallIn items
    → AreSmallIn (table_after_ops v os items)
small_after_ops v [] items ops all = all
small_after_ops v (o ∷ os) items ops all =
    small_after_ops v os (table_after_deed v o.item o.deed items) ops.1 (small_after v o.item o.deed items ops.0 all)

-- Commits.
small_item_seen : (v : Version) (h : Held) (w : Value) → seen v h ≡ Some w → AreSmall h → IsSmall w
small_item_seen v [] w is all = absurd (cc is)
small_item_seen v (x ∷ xs) w is all = subst IsSmall (cc is) (small_seen v x.1 xs all.0 all.1)

seen_of : (v : Version) (n : ItemNo) (items : Table) (w : Value) (found : Option Held) → item_in n items ≡ found
    → elim found [ None ↦ None | Some h ↦ seen v h ] ≡ Some w → AreSmallIn items → IsSmall w
seen_of v n items w None at is all = absurd (cc is)
seen_of v n items w (Some h) at is all = small_item_seen v h w is (each-item AreSmall n items h at all)

-- what is seen of an item is small
pub small_seen_in : (v : Version) (n : ItemNo) (items : Table) (w : Value) → seen_in v n items ≡ Some w → AreSmallIn items → IsSmall w
small_seen_in v n items w is all = seen_of v n items w (item_in n items) refl is all

small_valued : (v : Version) (w : Value) (found : Option Held) (n : ItemNo) (items : Table) → item_in n items ≡ found → IsSmall w
    → AreSmallIn items → AreSmallIn (valued v w found n items)
small_valued v w None n items at one all = all
small_valued v w (Some h) n items at one all =
    each-replaced AreSmall n (put_value v w h) items (small_put v w h one (each-item AreSmall n items h at all)) all

small_overwritten : (v : Version) (o : SubOp) (found : Option Value) (items : Table) → seen_in v o.item items ≡ found → IsSmallOp o
    → AreSmallIn items → AreSmallIn (overwritten v o found items)
small_overwritten v o None items at le all = all
small_overwritten v o (Some w) items at le all =
    small_valued v (after_deed o.deed w) (item_in o.item items) o.item items refl
    (small_deed o.deed w le (small_seen_in v o.item items w at all)) all

small_over : (v : Version) (o : SubOp) (items : Table) → IsSmallOp o → AreSmallIn items → AreSmallIn (overwritten_in v o items)
small_over v o items le all = pick (overwrites o.deed) where
  pick : (b : Bool) → AreSmallIn (if b then overwritten v o (seen_in v o.item items) items else items)
  pick true = small_overwritten v o (seen_in v o.item items) items refl le all
  pick false = all

small_applied : (v : Version) (os : List SubOp) (items : Table) → AllByRecursion IsSmallOp os → AreSmallIn items
    → AreSmallIn (applied_in v os items)
small_applied v [] items ops all = all
small_applied v (o ∷ os) items ops all =
    small_applied v os (overwritten_in v o items) ops.1 (small_over v o items ops.0 all)

pub small_decided : (s : ScriptData) (p t : ℕ) (v : Version) (commit : Bool) (items : Table) → IsValid s → AreSmallIn items
    → AreSmallIn (if commit then applied_in v (ops_at p (subs_at s t)) items else items)
small_decided s p t v true items valid all = small_applied v (ops_at p (subs_at s t)) items (small_ops_at s t p valid) all
small_decided s p t v false items valid all = all

-- Collections, and the start.
pub small_collected_all : (f : Version) (items : Table) → AreSmallIn items → AreSmallIn (collected_all f items)
small_collected_all f [] all = tt
small_collected_all f (e ∷ es) all = (small_collected f e.1 all.0, small_collected_all f es all.1)

pub small_items_at : (nodes p x : ℕ) (rows : List ItemRow) → AllByRecursion (IsItem nodes) rows → AreSmallIn (items_at p x rows)
small_items_at nodes p x [] all = tt
small_items_at nodes p x (r ∷ rows) all = pick (r.node.0 == p) (small_items_at nodes p (x + 1) rows all.1) where
  pick : (b : Bool) → AreSmallIn (items_at p (x + 1) rows)
      → AreSmallIn (if b
      then (record { 0 = x }, (record { 0 = 0 }, value_start r.kind r.initial) ∷ []) ∷ items_at p (x + 1) rows
      else items_at p (x + 1) rows)
  pick true rest = ((small_start r.kind r.initial all.0.small, tt), rest)
  pick false rest = rest
