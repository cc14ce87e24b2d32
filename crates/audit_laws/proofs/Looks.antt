-- What a node sees of its items, and why its subtransactions vote no, is of the script.
use Rattle.std.proofs.Common.{ℕ, zero, suc, ◌≡◌, ◌<◌, ◌+◌, ◌==◌, ◌&&◌, Bool, true, false, List, [], ◌∷◌, length, reverse, refl, sym, subst, arith, Option, Some, None}
use Rattle.std.specs.Prelude.{if◌then◌else◌, ℤ, int_lt, nat_lt, not, slice_get}
use Rattle.std.specs.List.{AllByRecursion}
use Rattle.std.specs.Option.{IfSome, option_or}
use Rattle.tv_base.specs.declared.numbers.ItemNo.{ItemNo}
use Rattle.tv_base.specs.declared.numbers.SubNo.{SubNo}
use Rattle.tv_base.specs.declared.numbers.TreeNo.{TreeNo}
use Rattle.tv_base.specs.declared.numbers.Version.{Version}
use Rattle.commute_ops.specs.declared.kinds.Kind.{Kind}
use Rattle.commute_ops.specs.declared.kinds.Kind.TheVariants as kinds
use Rattle.commute_ops.specs.declared.kinds.TheConstants.{MOST_AMOUNT}
use Rattle.commute_ops.specs.declared.value.Value.{Value}
use Rattle.commute_ops.specs.declared.value.Value.TheVariants.{Sum, Top, Bag}
use Rattle.letter_types.specs.Causes.{short_cause}
use Rattle.letter_types.specs.declared.entries.Entry.{Entry}
use Rattle.letter_types.specs.declared.votes.Cause.{Cause}
use Rattle.letter_types.specs.declared.votes.Cause.TheVariants.{Newer}
use Rattle.item_versions.specs.Item.{Held, seen}
use Rattle.item_versions.specs.Table.{Table, item_in}
use Rattle.nc_locks.specs.Locks.{met_in}
use Rattle.script_parts.specs.Wants.{mode_wanted, wanted_by}
use Rattle.script_parts.specs.Counts.{has_strict}
use Rattle.script_parts.specs.Deeds.{found_short, overwrites}
use Rattle.script_parts.specs.ScriptData.{ScriptData, node_of, ops_of}
use Rattle.script_parts.specs.Valid.{IsOp, IsValid, OpAt}
use Rattle.script_parts.specs.declared.parts.Deed.{Deed}
use Rattle.script_parts.specs.declared.parts.Deed.TheVariants.{Apply, Get, Set, Draw}
use Rattle.script_parts.specs.declared.parts.ItemRow.{ItemRow}
use Rattle.script_parts.specs.declared.parts.SubOp.{SubOp}
use Rattle.script_parts.specs.declared.parts.TreeKind.{TreeKind}
use Rattle.board_rules.specs.Histories.{Place, places_of}
use Rattle.board_rules.specs.Stands.{conflict_of, conflict_with, conflicts_with, holder_of, least_from}
use Rattle.world_model.specs.Reads.{got_by_deed, gets, seen_in, with_get}
use Rattle.world_model.specs.Runs.{IsStepRun, keeping_in}
use Rattle.world_model.specs.Votes.{cause_in, conflict_by, newer_at, newer_by, newer_in, greatest_version, short_at, short_in}
use Rattle.world_model.proofs.Scripts.{get_below}
use Rattle.tree_laws.proofs.conflicts.RunConflicts.{runs_meet_conflicts}
use Rattle.tree_laws.proofs.loads.Tables.{ItemIn, TableIn}
use Rattle.tree_laws.proofs.loads.Values.{HeldIn, ValueIn, seen_in as seen_value}
use Rattle.history_text.specs.Printable.{AreGot, IsAmount, IsItemOf, IsOfItem, IsOfKind}
use Rattle.audit_laws.specs.OfScript.{IsCauseOf}
use Rattle.audit_laws.proofs.Items.{AreSmallIn, small_seen_in}
use Rattle.audit_laws.proofs.Values.{of_kind}

-- the items of node p keep to the greatest magnitude
pub record AreOfItems (s : ScriptData) (p : ℕ) (items : Table) : Type 0 where
  pub bounded : TableIn s.items p (λ x. MOST_AMOUNT) items
  pub small : AreSmallIn items

-- One item.
seen_bounded : (kind : Kind) (v : Version) (h : Held) (w : Value) → HeldIn kind MOST_AMOUNT h → seen v h ≡ Some w → ValueIn kind MOST_AMOUNT w
seen_bounded kind v [] w ok is = absurd ok
seen_bounded kind v (x ∷ xs) w ok is = subst (ValueIn kind MOST_AMOUNT) (cc is) (seen_value kind MOST_AMOUNT v x.1 xs ok.0 ok.1)

found_bounded : (kind : Kind) (v : Version) (w : Value) (found : Option Held) → ItemIn kind MOST_AMOUNT found
    → elim found [ None ↦ None | Some h ↦ seen v h ] ≡ Some w → ValueIn kind MOST_AMOUNT w
found_bounded kind v w None ok is = absurd ok
found_bounded kind v w (Some h) ok is = seen_bounded kind v h w ok is

value_seen : (s : ScriptData) (p : ℕ) (v : Version) (x : ItemNo) (items : Table) (w : Value) (r : ItemRow) → AreOfItems s p items
    → slice_get s.items x.0 ≡ Some r → r.node.0 ≡ p → seen_in v x items ≡ Some w → IsOfKind r.kind w
value_seen s p v x items w r all at node is =
    of_kind r.kind w (found_bounded r.kind v w (item_in x items) (all.bounded x.0 r at node) is) (small_seen_in v x items w is all.small)

-- an operation's item is there, and what is seen of it is a value of it
record OnItem (s : ScriptData) (p : ℕ) (o : SubOp) (items : Table) : Type 0 where
  there : IsItemOf s o.item.0
  sees : (v : Version) (w : Value) → seen_in v o.item items ≡ Some w → IsOfItem (slice_get s.items o.item.0) w

on_item : (s : ScriptData) (kind : TreeKind) (p : ℕ) (o : SubOp) (items : Table) → AreOfItems s p items → IsOp s.items kind p o
    → OnItem s p o items
on_item s kind p o items all fits = by (slice_get s.items o.item.0) refl where
  by : (found : Option ItemRow) → slice_get s.items o.item.0 ≡ found → OnItem s p o items
  by None at = absurd (subst (OpAt kind p o) at fits)
  by (Some r) at =
      let here : OpAt kind p o (Some r) = subst (OpAt kind p o) at fits in
      record {
        there = get_below s.items o.item.0 r at;
        sees = λ v w is. subst (λ (f : Option ItemRow). IsOfItem f w) (sym at) (value_seen s p v o.item items w r all at here.0 is);
      }

-- What gets give.
got_more : (s : ScriptData) (x : ItemNo) (found : Option Value) (ws : List (ItemNo × Value))
    → ((w : Value) → found ≡ Some w → IsOfItem (slice_get s.items x.0) w) → AreGot s ws → AreGot s (with_get x found ws)
got_more s x None ws one all = all
got_more s x (Some w) ws one all = (one w refl, all)

got_deed : (s : ScriptData) (p : ℕ) (v : Version) (o : SubOp) (deed : Deed) (items : Table) (w : Value) → OnItem s p o items
    → got_by_deed v o.item deed items ≡ Some w → IsOfItem (slice_get s.items o.item.0) w
got_deed s p v o Get items w on is = on.sees v w is
got_deed s p v o (Apply op) items w on is = absurd (cc is)
got_deed s p v o (Set a) items w on is = absurd (cc is)
got_deed s p v o (Draw a) items w on is = absurd (cc is)

pub gets_got : (s : ScriptData) (kind : TreeKind) (p : ℕ) (v : Version) (os : List SubOp) (items : Table) → AreOfItems s p items
    → AllByRecursion (IsOp s.items kind p) os → AreGot s (gets v os items)
gets_got s kind p v [] items all fits = tt
gets_got s kind p v (o ∷ os) items all fits =
    got_more s o.item (got_by_deed v o.item o.deed items) (gets v os items)
    (λ w is. got_deed s p v o o.deed items w (on_item s kind p o items all fits.0) is) (gets_got s kind p v os items all fits.1)

-- Causes.
abbrev pub MayCause : ScriptData → Option Cause → Type 0
MayCause s found = IfSome found (IsCauseOf s)

either_cause : (s : ScriptData) (a b : Option Cause) → MayCause s a → MayCause s b → MayCause s (option_or a b)
either_cause s None b one two = two
either_cause s (Some cause) b one two = one

newer_one : (s : ScriptData) (x : ItemNo) (v : Version) (found : Option Held) → IsItemOf s x.0 → MayCause s (newer_by x v found)
newer_one s x v None there = tt
newer_one s x v (Some h) there = pick (nat_lt v.0 (greatest_version h)) where
  pick : (b : Bool) → MayCause s (if b then Some (Newer x (record { 0 = greatest_version h })) else None)
  pick true = there
  pick false = tt

newer_here : (s : ScriptData) (v : Version) (o : SubOp) (items : Table) → IsItemOf s o.item.0 → MayCause s (newer_at v o items)
newer_here s v o items there = pick (overwrites o.deed) where
  pick : (b : Bool) → MayCause s (if b then newer_by o.item v (item_in o.item items) else None)
  pick true = newer_one s o.item v (item_in o.item items) there
  pick false = tt

newer_cause : (s : ScriptData) (kind : TreeKind) (p : ℕ) (v : Version) (os : List SubOp) (items : Table) → AreOfItems s p items
    → AllByRecursion (IsOp s.items kind p) os → MayCause s (newer_in v os items)
newer_cause s kind p v [] items all fits = tt
newer_cause s kind p v (o ∷ os) items all fits =
    either_cause s (newer_at v o items) (newer_in v os items)
    (newer_here s v o items (on_item s kind p o items all fits.0).there) (newer_cause s kind p v os items all fits.1)

sum_amount : (found : Option ItemRow) (n : ℤ) → IsOfItem found (Sum (record { 0 = n })) → IsAmount n
sum_amount None n ok = absurd ok
sum_amount (Some r) n ok = by r.kind ok where
  by : (kind : Kind) → IsOfKind kind (Sum (record { 0 = n })) → IsAmount n
  by kinds.Sum amount = amount
  by kinds.Top none = absurd none
  by kinds.Bag none = absurd none

short_deed : (s : ScriptData) (x : ItemNo) (deed : Deed) (w : Value) → IsItemOf s x.0 → IsOfItem (slice_get s.items x.0) w
    → MayCause s (short_cause x (found_short deed w))
short_deed s x (Draw n) (Sum found) there ok = pick (int_lt found.0 n) where
  pick : (b : Bool) → MayCause s (short_cause x (if b then Some found.0 else None))
  pick true = (there, sum_amount (slice_get s.items x.0) found.0 ok)
  pick false = tt
short_deed s x (Draw n) (Top found) there ok = tt
short_deed s x (Draw n) (Bag ns) there ok = tt
short_deed s x (Set n) w there ok = tt
short_deed s x Get w there ok = tt
short_deed s x (Apply op) w there ok = tt

short_here : (s : ScriptData) (p : ℕ) (v : Version) (o : SubOp) (items : Table) → OnItem s p o items → MayCause s (short_at v o items)
short_here s p v o items on = by (seen_in v o.item items) refl where
  by : (found : Option Value) → seen_in v o.item items ≡ found
      → MayCause s (elim found [ None ↦ None | Some w ↦ short_cause o.item (found_short o.deed w) ])
  by None is = tt
  by (Some w) is = short_deed s o.item o.deed w on.there (on.sees v w is)

short_cause_of : (s : ScriptData) (kind : TreeKind) (p : ℕ) (v : Version) (os : List SubOp) (items : Table) → AreOfItems s p items
    → AllByRecursion (IsOp s.items kind p) os → MayCause s (short_in v os items)
short_cause_of s kind p v [] items all fits = tt
short_cause_of s kind p v (o ∷ os) items all fits =
    either_cause s (short_at v o items) (short_in v os items)
    (short_here s p v o items (on_item s kind p o items all fits.0)) (short_cause_of s kind p v os items all fits.1)

-- A conflict names an item of the operations and a tree of the script.
least_below : (test : ℕ → Bool) (k n : ℕ) → IfSome (least_from test k n) (λ i. i < k + n)
least_below test k zero = tt
least_below test k (suc n) = pick (test k) (least_below test (suc k) n) where
  more : (found : Option ℕ) → IfSome found (λ i. i < suc k + n) → IfSome found (λ i. i < k + suc n)
  more None lt = tt
  more (Some i) lt = omega (arith, lt)

  pick : (b : Bool) → IfSome (least_from test (suc k) n) (λ i. i < suc k + n)
      → IfSome (if b then Some k else least_from test (suc k) n) (λ i. i < k + suc n)
  pick true rest = omega arith
  pick false rest = more (least_from test (suc k) n) rest

conflict_one : (s : ScriptData) (x : ItemNo) (found : Option ℕ) → IsItemOf s x.0 → IfSome found (λ i. i < 0 + length s.trees)
    → MayCause s (conflict_with x found)
conflict_one s x None there below = tt
conflict_one s x (Some i) there below = (there, omega (arith, below))

pub conflict_cause : (s : ScriptData) (xs : List Place) (kind : TreeKind) (p t : ℕ) (os : List SubOp) → AllByRecursion (IsOp s.items kind p) os
    → MayCause s (conflict_of s xs p t os)
conflict_cause s xs kind p t [] fits = tt
conflict_cause s xs kind p t (o ∷ os) fits =
    let test : ℕ → Bool = λ k. not (k == t) && conflicts_with s xs p o.item.0 (mode_wanted o.deed) k in
    either_cause s (conflict_with o.item (holder_of s xs p t o.item.0 (mode_wanted o.deed))) (conflict_of s xs p t os)
    (conflict_one s o.item (holder_of s xs p t o.item.0 (mode_wanted o.deed)) (there (slice_get s.items o.item.0) refl)
    (least_below test 0 (length s.trees)))
    (conflict_cause s xs kind p t os fits.1) where
      there : (found : Option ItemRow) → slice_get s.items o.item.0 ≡ found → IsItemOf s o.item.0
      there None at = absurd (subst (OpAt kind p o) at fits.0)
      there (Some r) at = get_below s.items o.item.0 r at

-- so does one that a vote meets
pub met_cause : (s : ScriptData) (past : List Entry) (kind : TreeKind) (p : ℕ) (t : TreeNo) (k : SubNo) → has_strict s ≡ true → IsValid s
    → IsStepRun s past → p < s.nodes → node_of s t.0 k.0 ≡ p → AllByRecursion (IsOp s.items kind p) (ops_of s t.0 k.0)
    → MayCause s (conflict_by (met_in t (wanted_by (ops_of s t.0 k.0)) (keeping_in s past p).core.locks))
met_cause s past kind p t k strict valid run lt home fits =
    let is = runs_meet_conflicts s past p t k strict valid run lt home in
    subst (MayCause s) (sym is) (conflict_cause s (places_of (reverse past)) kind p t.0 (ops_of s t.0 k.0) fits)

-- whatever the cause of a no
pub cause_named : (s : ScriptData) (past : List Entry) (kind : TreeKind) (p : ℕ) (t : TreeNo) (v : Version) (os : List SubOp) (items : Table)
    → AreOfItems s p items → AllByRecursion (IsOp s.items kind p) os
    → MayCause s (conflict_by (met_in t (wanted_by os) (keeping_in s past p).core.locks))
    → MayCause s (cause_in (keeping_in s past p).core.locks items t v os)
cause_named s past kind p t v os items all fits met =
    let locks = (keeping_in s past p).core.locks in
    either_cause s (conflict_by (met_in t (wanted_by os) locks)) (option_or (newer_in v os items) (short_in v os items)) met
    (either_cause s (newer_in v os items) (short_in v os items) (newer_cause s kind p v os items all fits)
    (short_cause_of s kind p v os items all fits))
