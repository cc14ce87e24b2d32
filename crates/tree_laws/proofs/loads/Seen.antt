-- What is seen of items at the start, after operations and collections, and by gets.
use Rattle.std.proofs.Common.{◌≡◌, ℕ, ◌<◌, ◌≤◌, ◌==◌, Bool, true, false, List, ◌∷◌, ◌++◌, refl, sym, ap, subst, ◌∙◌, arith, Option, Some, None, ◌≢◌, suc, zero, ◌+◌, []}
use Rattle.std.specs.Prelude.{if◌then◌else◌, is_some, nat_le, nat_lt, slice_get}
use Rattle.std.specs.List.{AllByRecursion}
use Rattle.std.proofs.lemmas.Bool.Decides.{nat_tests}
use Rattle.std.proofs.lemmas.Bool.{and_parts}
use Rattle.tv_base.specs.declared.numbers.ItemNo.{ItemNo}
use Rattle.tv_base.specs.declared.numbers.Version.{Version}
use Rattle.commute_ops.specs.Ops.{applied, value_start}
use Rattle.commute_ops.specs.declared.kinds.Op.{Op}
use Rattle.commute_ops.specs.declared.value.Value.{Value}
use Rattle.item_versions.specs.Item.{Held, CanCollect, IsHeld, below, seen, seen_after, touched}
use Rattle.item_versions.specs.Table.{Table, item_in, may_touch_in, replaced, updated}
use Rattle.item_versions.proofs.Order.{IsHeld-touched}
use Rattle.item_versions.proofs.Seen.{seen-touched_below, seen-touched_from, seen-collected}
use Rattle.item_versions.proofs.Tables.{Each, each-item, each-replaced, Each as EachItem}
use Rattle.world_model.specs.Reads.{can_get, gets, got_by_deed, seen_in, with_get}
use Rattle.tree_home.specs.Homes.{Gets}
use Rattle.tx_trees.specs.declared.parts.Deed.{Deed}
use Rattle.tx_trees.specs.declared.parts.Deed.TheVariants.{Apply, Get, Set, Draw}
use Rattle.tx_trees.specs.declared.parts.SubOp.{SubOp}
use Rattle.world_model.specs.Updates.{table_after_deed, table_after_ops, can_touch, may_make}
use Rattle.board_rules.specs.Right.{with_worths}
use Rattle.board_rules.specs.Worth.{after_deed as value_after_deed, after_ops as value_after, first_value}
use Rattle.tree_laws.proofs.loads.Tables.{replaced_other, replaced_same}
use Rattle.item_versions.specs.Collecting.{collected_all}
use Rattle.node_versions.specs.declared.turns.Turns.{Turns}
use Rattle.world_model.specs.Done.{raised_if}
use Rattle.world_model.specs.Node.{items_at}
use Rattle.tx_trees.specs.ScriptData.{ScriptData}
use Rattle.tx_trees.specs.declared.parts.ItemRow.{ItemRow}

-- the versions held ascend, and the first is at most low
pub record IsFrom (low : ℕ) (held : Held) : Type 0 where
  pub order : IsHeld held
  pub first : CanCollect (record { 0 = low }) held

-- One item.
low_by : (low : ℕ) (v : Version) (w : Value) (x : Version × Value) (xs zs : Held) → v.0 ≤ low
    → CanCollect (record { 0 = low }) (below v xs ++ (v, w) ∷ zs) → (test : Bool) → nat_lt x.0.0 v.0 ≡ test
    → CanCollect (record { 0 = low }) (below v (x ∷ xs) ++ (v, w) ∷ zs)
low_by low v w x xs zs le rest true is = let lt : x.0.0 < v.0 = grind (arith, nat_tests) in rw is (omega arith)
low_by low v w x xs zs le rest false is = rw is rest

low_first : (low : ℕ) (v : Version) (w : Value) (xs zs : Held) → v.0 ≤ low → CanCollect (record { 0 = low }) (below v xs ++ (v, w) ∷ zs)
low_first low v w [] zs le = le
low_first low v w (x ∷ xs) zs le = low_by low v w x xs zs le (low_first low v w xs zs le) (nat_lt x.0.0 v.0) refl

first_touched : (low : ℕ) (v : Version) (op : Op) (x : Version × Value) (xs : Held) → x.0.0 ≤ low → (test : Bool) → nat_lt x.0.0 v.0 ≡ test
    → CanCollect (record { 0 = low }) (touched v op (x ∷ xs))
first_touched low v op x xs le true is = rw is le
first_touched low v op x xs le false is =
    let ge : v.0 ≤ x.0.0 = grind (arith, nat_tests) in low_first low v (applied (seen_after x.1 v xs) op) (x ∷ xs) _ (omega arith)

from_touched : (low : ℕ) (v : Version) (op : Op) (held : Held) → IsFrom low held → IsFrom low (touched v op held)
from_touched low v op [] from = from
from_touched low v op (x ∷ xs) from = record {
  order = IsHeld-touched v op (x ∷ xs) from.order;
  first = first_touched low v op x xs from.first (nat_lt x.0.0 v.0) refl;
}

seen_by : (low : ℕ) (u v : Version) (op : Op) (x : Version × Value) (xs : Held) → IsFrom low (x ∷ xs) → low ≤ u.0 → (test : Bool)
    → nat_le v.0 u.0 ≡ test
    → seen u (touched v op (x ∷ xs)) ≡ Some (if test then applied (seen_after x.1 u xs) op else seen_after x.1 u xs)
seen_by low u v op x xs from le true is = seen-touched_from u v op x xs from.order (grind (arith, nat_tests))
seen_by low u v op x xs from le false is =
    let lt : u.0 < v.0 = grind (arith, nat_tests) in
    let first : x.0.0 ≤ low = from.first in
    seen-touched_below u v op x xs (omega arith) lt

-- an update is seen in its version and later ones
seen-touched : (low : ℕ) (u v : Version) (op : Op) (held : Held) (w : Value) → IsFrom low held → low ≤ u.0 → seen u held ≡ Some w
    → seen u (touched v op held) ≡ Some (if nat_le v.0 u.0 then applied w op else w)
seen-touched low u v op [] w from le is = absurd (cc is)
seen-touched low u v op (x ∷ xs) w from le is =
    let same : seen_after x.1 u xs ≡ w = cc is in
    subst (λ (y : Value). seen u (touched v op (x ∷ xs)) ≡ Some (if nat_le v.0 u.0 then applied y op else y)) same
    (seen_by low u v op x xs from le (nat_le v.0 u.0) refl)

-- A table.
-- what is seen of what is found
abbrev pub seen_of : Version → Option Held → Option Value
seen_of u found = elim found [ None ↦ None | Some h ↦ seen u h ]

pub same_item : (n x : ItemNo) (items : Table) → n.0 ≡ x.0 → item_in n items ≡ item_in x items
same_item n x items is = ap (λ (k : ℕ). item_in (record { 0 = k }) items) is

put_seen : (low : ℕ) (u v : Version) (n x : ItemNo) (op : Op) (items : Table) (held : Held) (w : Value) → Each (IsFrom low) items
    → low ≤ u.0 → item_in n items ≡ Some held → seen_in u x items ≡ Some w → (test : Bool) → (n.0 == x.0) ≡ test
    → seen_in u x (replaced n (touched v op held) items)
    ≡ Some (if test then (if nat_le v.0 u.0 then applied w op else w) else w)
put_seen low u v n x op items held w all le here is true at =
    let same : n.0 ≡ x.0 = grind (arith, nat_tests) in
    let there : item_in x items ≡ Some held = sym (same_item n x items same) ∙ here in
    let was : seen u held ≡ Some w = sym (ap (seen_of u) there) ∙ is in
    let now : item_in x (replaced n (touched v op held) items) ≡ Some (touched v op held) =
    sym (same_item n x (replaced n (touched v op held) items) same) ∙ replaced_same n (touched v op held) held items here in
    ap (seen_of u) now ∙ seen-touched low u v op held w (each-item (IsFrom low) n items held here all) le was
put_seen low u v n x op items held w all le here is false at =
    ap (seen_of u) (replaced_other n x (touched v op held) items at) ∙ is

touch_by : (low : ℕ) (u v : Version) (n x : ItemNo) (op : Op) (items : Table) (w : Value) (found : Option Held) → Each (IsFrom low) items
    → low ≤ u.0 → item_in n items ≡ found → may_touch_in v n op items ≡ true → seen_in u x items ≡ Some w
    → seen_in u x (updated v op found n items) ≡ Some (if n.0 == x.0 then (if nat_le v.0 u.0 then applied w op else w) else w)
touch_by low u v n x op items w None all le here may is = absurd (let no : false ≡ true = rw (here, may_touch_in) at may in cc no)
touch_by low u v n x op items w (Some held) all le here may is = put_seen low u v n x op items held w all le here is (n.0 == x.0) refl

turned : (a b : Bool) (y z : Value) → (if a then (if b then y else z) else z) ≡ (if b then (if a then y else z) else z)
turned true true y z = refl
turned true false y z = refl
turned false true y z = refl
turned false false y z = refl

-- an operation that may be made
made_by : (low : ℕ) (u v : Version) (n x : ItemNo) (deed : Deed) (items : Table) (w : Value) → Each (IsFrom low) items → low ≤ u.0
    → may_make v n deed items ≡ true → seen_in u x items ≡ Some w
    → seen_in u x (table_after_deed v n deed items)
    ≡ Some (if nat_le v.0 u.0 then (if n.0 == x.0 then value_after_deed deed w else w) else w)
made_by low u v n x (Apply op) items w all le may is =
    touch_by low u v n x op items w (item_in n items) all le refl may is
    ∙ ap (λ (y : Value). Some y) (turned (n.0 == x.0) (nat_le v.0 u.0) (applied w op) w)
made_by low u v n x Get items w all le may is = absurd (cc may)
made_by low u v n x (Set a) items w all le may is = absurd (cc may)
made_by low u v n x (Draw a) items w all le may is = absurd (cc may)

from_by : (low : ℕ) (v : Version) (n : ItemNo) (op : Op) (items : Table) (found : Option Held) → Each (IsFrom low) items
    → item_in n items ≡ found → Each (IsFrom low) (updated v op found n items)
from_by low v n op items None all here = all
from_by low v n op items (Some held) all here =
    each-replaced (IsFrom low) n (touched v op held) items (from_touched low v op held (each-item (IsFrom low) n items held here all)) all

from_deed : (low : ℕ) (v : Version) (n : ItemNo) (deed : Deed) (items : Table) → Each (IsFrom low) items
    → Each (IsFrom low) (table_after_deed v n deed items)
from_deed low v n (Apply op) items all = from_by low v n op items (item_in n items) all refl
from_deed low v n Get items all = all
from_deed low v n (Set a) items all = all
from_deed low v n (Draw a) items all = all

rest_by : (x : ℕ) (os : List SubOp) (y w : Value) (test : Bool)
    → (if test then value_after x os (if test then y else w) else (if test then y else w)) ≡ (if test then value_after x os y else w)
rest_by x os y w true = refl
rest_by x os y w false = refl

both_same : (w : Value) (b : Bool) → Some w ≡ Some (if b then w else w)
both_same w true = refl
both_same w false = refl

-- what is seen of an item after operations in version v: in v and later ones, with those on the item
pub seen_ops : (low : ℕ) (u v : Version) (x : ItemNo) (os : List SubOp) (items : Table) (w : Value) → Each (IsFrom low) items → low ≤ u.0
    → can_touch v os items ≡ true → seen_in u x items ≡ Some w
    → seen_in u x (table_after_ops v os items) ≡ Some (if nat_le v.0 u.0 then value_after x.0 os w else w)
seen_ops low u v x [] items w all le can is = is ∙ both_same w (nat_le v.0 u.0)
seen_ops low u v x (o ∷ os) items w all le can is =
    let parts = and_parts (may_make v o.item o.deed items) (can_touch v os (table_after_deed v o.item o.deed items)) can in
    let y = if o.item.0 == x.0 then value_after_deed o.deed w else w in
    let one = made_by low u v o.item x o.deed items w all le parts.0 is in
    let more = from_deed low v o.item o.deed items all in
    seen_ops low u v x os (table_after_deed v o.item o.deed items) (if nat_le v.0 u.0 then y else w) more le parts.1 one
    ∙ ap (λ (z : Value). Some z) (rest_by x.0 os y w (nat_le v.0 u.0))

-- Gets.
got : (v : Version) (x : ItemNo) (deed : Deed) (items : Table) (w : Value) → seen_in v x items ≡ Some w
    → is_some (got_by_deed v x deed items) ≡ true → got_by_deed v x deed items ≡ Some w
got v x Get items w is some = is
got v x (Apply op) items w is some = absurd (cc some)
got v x (Set a) items w is some = absurd (cc some)
got v x (Draw a) items w is some = absurd (cc some)

with_got : (x : ItemNo) (found : Option Value) (w : Value) (rest more : Gets) → found ≡ Some w → rest ≡ more
    → with_get x found rest ≡ (x, w) ∷ more
with_got x found w rest more is same = rw (is, same) refl

-- gets that find these values give them
pub gets_valued : (f : ℕ → Value) (v : Version) (os : List SubOp) (items : Table) → can_get v os items ≡ true
    → AllByRecursion (λ (o : SubOp). seen_in v o.item items ≡ Some (f o.item.0)) os → gets v os items ≡ with_worths f os
gets_valued f v [] items can all = refl
gets_valued f v (o ∷ os) items can all =
    let parts = and_parts (is_some (got_by_deed v o.item o.deed items)) (can_get v os items) can in
    with_got o.item (got_by_deed v o.item o.deed items) (f o.item.0) (gets v os items) (with_worths f os)
    (got v o.item o.deed items (f o.item.0) all.0 parts.0) (gets_valued f v os items parts.1 all.1)

-- What holds of each node.

-- raising the update version leaves the low one
pub raised_low : (raises : Bool) (v : ℕ) (turns : Turns) → (raised_if raises v turns).low.0 ≡ turns.low.0
raised_low true v turns = refl
raised_low false v turns = refl

-- A node that obeys.

-- what is seen of a table whose items are all collected, from the version on to which they are
pub collected_shows : (f u : Version) (x : ItemNo) (low : ℕ) (items : Table) → EachItem (IsFrom low) items → f.0 ≤ u.0
    → seen_in u x (collected_all f items) ≡ seen_in u x items
collected_shows f u x low [] from le = refl
collected_shows f u x low (e ∷ es) from le = shows_by (e.0.0 == x.0) refl (collected_shows f u x low es from.1 le) where
  shows_by : (test : Bool) → (e.0.0 == x.0) ≡ test → seen_in u x (collected_all f es) ≡ seen_in u x es
      → seen_in u x (collected_all f (e ∷ es)) ≡ seen_in u x (e ∷ es)
  shows_by true is rest = rw (is, seen_in) (seen-collected u f e.1 from.0.order le)
  shows_by false is rest = rw (is, seen_in) rest

-- At the start.
first_seen : (u : Version) (i x : ℕ) (w : Value) (rest : Table) → (i == x) ≡ true
    → seen_in u (record { 0 = x }) ((record { 0 = i }, (record { 0 = 0 }, w) ∷ []) ∷ rest) ≡ Some w
first_seen u i x w rest is = rw (is, seen_in) refl

start_at : (s : ScriptData) (p i x v n : ℕ) (r q : ItemRow) (rows : List ItemRow) → slice_get s.items x ≡ Some r → r.node.0 ≡ p
    → slice_get (q ∷ rows) n ≡ Some r → x ≡ i + n
    → ((m : ℕ) → slice_get rows m ≡ Some r → x ≡ i + 1 + m
    → seen_in (record { 0 = v }) (record { 0 = x }) (items_at p (i + 1) rows) ≡ Some (first_value (Some r)))
    → (test : Bool) → (q.node.0 == p) ≡ test
    → seen_in (record { 0 = v }) (record { 0 = x }) (items_at p i (q ∷ rows)) ≡ Some (first_value (Some r))
start_at s p i x v zero r q rows at node here is later true test =
    let same : q ≡ r = cc here in
    let first : (i == x) ≡ true = grind (arith, nat_tests) in
    rw test (
    first_seen (record { 0 = v }) i x (value_start q.kind q.initial) (items_at p (i + 1) rows) first
    ∙ ap (λ (y : ItemRow). Some (value_start y.kind y.initial)) same
    )
start_at s p i x v zero r q rows at node here is later false test =
    let same : q ≡ r = cc here in
    let there : q.node.0 ≡ p = ap (λ (y : ItemRow). y.node.0) same ∙ node in
    absurd (let ne : q.node.0 ≢ p = grind (arith, nat_tests) in ne there)
start_at s p i x v (suc n) r q rows at node here is later true test =
    let other : (i == x) ≡ false = grind (arith, nat_tests) in
    rw test (rw (other, seen_in) (later n here (omega arith)))
start_at s p i x v (suc n) r q rows at node here is later false test = rw test (later n here (omega arith))

pub start_shows : (s : ScriptData) (p i x v n : ℕ) (r : ItemRow) (rows : List ItemRow) → slice_get s.items x ≡ Some r → r.node.0 ≡ p
    → slice_get rows n ≡ Some r → x ≡ i + n
    → seen_in (record { 0 = v }) (record { 0 = x }) (items_at p i rows) ≡ Some (first_value (Some r))
start_shows s p i x v n r [] at node here is = absurd (cc here)
start_shows s p i x v n r (q ∷ rows) at node here is =
    start_at s p i x v n r q rows at node here is
    (λ m there eq. start_shows s p (i + 1) x v m r rows at node there eq) (q.node.0 == p) refl
