-- What is seen of items after a commit, if nothing newer is held of what it writes.
use Rattle.std.proofs.Common.{◌≡◌, ℕ, ◌<◌, ◌≤◌, ◌==◌, Bool, true, false, List, [], ◌∷◌, refl, sym, ap, subst, ◌∙◌, arith, Option, Some, None}
use Rattle.std.specs.Prelude.{if◌then◌else◌, nat_le, nat_lt}
use Rattle.std.specs.List.{AllByRecursion}
use Rattle.std.proofs.lemmas.Bool.Decides.{nat_tests}
use Rattle.tv_base.specs.declared.numbers.ItemNo.{ItemNo}
use Rattle.tv_base.specs.declared.numbers.Version.{Version}
use Rattle.commute_ops.specs.declared.value.Value.{Value}
use Rattle.item_versions.specs.Item.{Held, IsHeld, above, below, put_value, seen, seen_after}
use Rattle.item_versions.specs.Table.{Table, item_in, replaced, valued}
use Rattle.item_versions.specs.Window.{IsWindowed, in_window}
use Rattle.item_versions.proofs.Holding.{IsHeld-item_in}
use Rattle.item_versions.proofs.Seen.{seen-from_last, seen-put_below, seen-put_last}
use Rattle.item_versions.proofs.Window.{AllUpTo, IsWindowed-item_in, in_window-low, up_to-append, up_to-filter}
use Rattle.script_parts.specs.Deeds.{after_deed, overwrites}
use Rattle.script_parts.specs.declared.parts.Deed.{Deed}
use Rattle.script_parts.specs.declared.parts.Deed.TheVariants.{Get}
use Rattle.script_parts.specs.declared.parts.SubOp.{SubOp}
use Rattle.world_model.specs.Decisions.{applied_in, overwritten, overwritten_in}
use Rattle.world_model.specs.Reads.{seen_in}
use Rattle.board_rules.specs.Worth.{after_ops}
use Rattle.tree_laws.proofs.apt.AptWindows.{AreNear, over_near}
use Rattle.tree_laws.proofs.loads.Seen.{same_item, seen_of}
use Rattle.tree_laws.proofs.loads.Tables.{replaced_same}
use Rattle.run_laws.proofs.items.HeldItems.{written_other}

-- One item: nothing is held of it above version v, and it is given a value there.
none_above : (v : Version) (h : Held) → AllUpTo v.0 h → above v h ≡ []
none_above v [] all = refl
none_above v (x ∷ xs) all =
    let le = all.0 in
    let other : nat_lt v.0 x.0.0 ≡ false = grind (arith, nat_tests, le) in rw other (none_above v xs all.1)

put_by : (low : ℕ) (u v : Version) (deed : Deed) (y : Version × Value) (ys : Held) → IsHeld (y ∷ ys) → IsWindowed low (y ∷ ys) → low ≤ u.0
    → AllUpTo v.0 (y ∷ ys) → (test : Bool) → nat_le v.0 u.0 ≡ test
    → seen u (put_value v (after_deed deed (seen_after y.1 v ys)) (y ∷ ys))
    ≡ Some (if test then after_deed deed (seen_after y.1 u ys) else seen_after y.1 u ys)
put_by low u v deed y ys held win le all true is =
    let from : v.0 ≤ u.0 = grind (arith, nat_tests, is) in
    let none : above v (y ∷ ys) ≡ [] = none_above v (y ∷ ys) all in
    let same : seen_after y.1 u ys ≡ seen_after y.1 v ys =
    (let both : Some (seen_after y.1 u ys) ≡ Some (seen_after y.1 v ys) = seen-from_last u v y ys held none from in cc both) in
    seen-put_last u v (after_deed deed (seen_after y.1 v ys)) y ys none from ∙ ap (λ (w : Value). Some (after_deed deed w)) (sym same)
put_by low u v deed y ys held win le all false is =
    let lt : u.0 < v.0 = grind (arith, nat_tests, is) in
    let first : y.0.0 ≡ low = win.least.1 in
    seen-put_below u v (after_deed deed (seen_after y.1 v ys)) y ys (omega (arith, first, le)) lt

-- what is seen of it then: from v on what the deed makes of it, and below the same
put_seen : (low : ℕ) (u v : Version) (deed : Deed) (h : Held) (w w0 : Value) → IsHeld h → IsWindowed low h → low ≤ u.0 → AllUpTo v.0 h
    → seen u h ≡ Some w → seen v h ≡ Some w0 → seen u (put_value v (after_deed deed w0) h) ≡ Some (if nat_le v.0 u.0 then after_deed deed w else w)
put_seen low u v deed [] w w0 held win le all is now = absurd held
put_seen low u v deed (y ∷ ys) w w0 held win le all is now =
    let at_u : seen_after y.1 u ys ≡ w = cc is in
    let at_v : seen_after y.1 v ys ≡ w0 = cc now in
    ap (λ (z : Value). seen u (put_value v (after_deed deed z) (y ∷ ys))) (sym at_v)
    ∙ put_by low u v deed y ys held win le all (nat_le v.0 u.0) refl
    ∙ ap (λ (z : Value). Some (if nat_le v.0 u.0 then after_deed deed z else z)) at_u

put_top : (v : Version) (w : Value) (h : Held) → AllUpTo v.0 h → AllUpTo v.0 (put_value v w h)
put_top v w h all =
    up_to-append v.0 (below v h) ((v, w) ∷ above v h) (up_to-filter v.0 (λ x. nat_lt x.0.0 v.0) h all)
    (omega arith, up_to-filter v.0 (λ x. nat_lt v.0 x.0.0) h all)

-- A table: an operation that writes, on the item and on others.
pub seen_some : (v : Version) (h : Held) → IsHeld h → (w : Value) × (seen v h ≡ Some w)
seen_some v [] held = absurd held
seen_some v (y ∷ ys) held = (seen_after y.1 v ys, refl)

-- of the item
record Written (u v : Version) (o : SubOp) (x : ItemNo) (items : Table) (w : Value) : Type 0 where
  seen : seen_in u x (overwritten v o (seen_in v o.item items) items) ≡ Some (if nat_le v.0 u.0 then after_deed o.deed w else w)
  top : (h : Held) → item_in x (overwritten v o (seen_in v o.item items) items) ≡ Some h → AllUpTo v.0 h

written_item : (low : ℕ) (u v : Version) (o : SubOp) (items : Table) (h : Held) (w : Value) → AreNear low items → low ≤ u.0
    → item_in o.item items ≡ Some h → AllUpTo v.0 h → seen u h ≡ Some w → Written u v o o.item items w
written_item low u v o items h w near le at all is =
    let held : IsHeld h = IsHeld-item_in o.item items h at near.0 in
    let win : IsWindowed low h = IsWindowed-item_in low o.item items h at near.1 in
    let found = seen_some v h held in
    let w0 : Value = found.0 in
    let new : Held = put_value v (after_deed o.deed w0) h in
    let made : overwritten v o (seen_in v o.item items) items ≡ replaced o.item new items =
    ap (λ (f : Option Value). overwritten v o f items) (ap (seen_of v) at ∙ found.1)
    ∙ ap (λ (f : Option Held). valued v (after_deed o.deed w0) f o.item items) at in
    let now : item_in o.item (overwritten v o (seen_in v o.item items) items) ≡ Some new =
    ap (item_in o.item) made ∙ replaced_same o.item new h items at in
    record {
      seen = ap (seen_of u) now ∙ put_seen low u v o.deed h w w0 held win le all is found.1;
      top = λ g there.
          let same : new ≡ g = cc (now, there) in subst (AllUpTo v.0) same (put_top v (after_deed o.deed w0) h all);
    }

held_there : (u : Version) (x : ItemNo) (items : Table) (found : Option Held) (w : Value) → item_in x items ≡ found → seen_in u x items ≡ Some w
    → (h : Held) × ((item_in x items ≡ Some h) × (seen u h ≡ Some w))
held_there u x items None w at is = absurd (let none : None ≡ Some w = sym (ap (seen_of u) at) ∙ is in cc none)
held_there u x items (Some h) w at is = (h, (at, sym (ap (seen_of u) at) ∙ is))

written_same : (low : ℕ) (u v : Version) (o : SubOp) (x : ItemNo) (items : Table) (w : Value) → AreNear low items → low ≤ u.0
    → o.item.0 ≡ x.0 → ((h : Held) → item_in x items ≡ Some h → AllUpTo v.0 h) → seen_in u x items ≡ Some w → Written u v o x items w
written_same low u v o x items w near le same all is =
    let found = held_there u x items (item_in x items) w refl is in
    let one : o.item ≡ x = λ i. record { 0 = same i } in
    let there : item_in o.item items ≡ Some found.0 = same_item o.item x items same ∙ found.1.0 in
    subst (λ (n : ItemNo). Written u v o n items w) one
    (written_item low u v o items found.0 w near le there (all found.0 found.1.0) found.1.1)

-- What is seen of item x after an operation of a commit: of a set or a draw that writes in version v, and of a get.
abbrev OnItem : Version → Version → SubOp → ItemNo → Value → Value
OnItem u v o x w = if nat_le v.0 u.0 then (if o.item.0 == x.0 then after_deed o.deed w else w) else w

same_value : (test : Bool) (w : Value) → Some w ≡ Some (if test then w else w)
same_value true w = refl
same_value false w = refl

over_seen : (low : ℕ) (u v : Version) (o : SubOp) (x : ItemNo) (items : Table) (w : Value) (test : Bool) → AreNear low items → low ≤ u.0
    → ((h : Held) → item_in x items ≡ Some h → o.item.0 ≡ x.0 → AllUpTo v.0 h) → seen_in u x items ≡ Some w → (o.item.0 == x.0) ≡ test
    → seen_in u x (overwritten v o (seen_in v o.item items) items)
    ≡ Some (if nat_le v.0 u.0 then (if test then after_deed o.deed w else w) else w)
over_seen low u v o x items w true near le all is at =
    let same : o.item.0 ≡ x.0 = grind (arith, nat_tests, at) in
    (written_same low u v o x items w near le same (λ h there. all h there same) is).seen
over_seen low u v o x items w false near le all is at =
    ap (seen_of u) (written_other v o x (seen_in v o.item items) items at) ∙ is ∙ same_value (nat_le v.0 u.0) w

-- a strict tree's operation that doesn't write reads
abbrev pub IsOfCommit : Deed → Type 0
IsOfCommit d = overwrites d ≡ false → d ≡ Get

read_value : (a b : Bool) (d : Deed) (w : Value) → d ≡ Get → Some w ≡ Some (if a then (if b then after_deed d w else w) else w)
read_value true true d w is = ap (λ (e : Deed). Some (after_deed e w)) (sym is)
read_value true false d w is = refl
read_value false b d w is = refl

op_seen : (low : ℕ) (u v : Version) (o : SubOp) (x : ItemNo) (items : Table) (w : Value) (test : Bool) → overwrites o.deed ≡ test
    → AreNear low items → low ≤ u.0 → IsOfCommit o.deed
    → (test ≡ true → (h : Held) → item_in o.item items ≡ Some h → AllUpTo v.0 h) → seen_in u x items ≡ Some w
    → seen_in u x (if test then overwritten v o (seen_in v o.item items) items else items) ≡ Some (OnItem u v o x w)
op_seen low u v o x items w true is near le reads all seen =
    over_seen low u v o x items w (o.item.0 == x.0) near le (λ h at same. all refl h (same_item o.item x items same ∙ at)) seen refl
op_seen low u v o x items w false is near le reads all seen =
    seen ∙ read_value (nat_le v.0 u.0) (o.item.0 == x.0) o.deed w (reads is)

-- Nothing is held above version v of what these operations write.
abbrev pub AreTop : Version → List SubOp → Table → Type 0
AreTop v os items =
    AllByRecursion (λ (o : SubOp). overwrites o.deed ≡ true → (h : Held) → item_in o.item items ≡ Some h → AllUpTo v.0 h) os

top_same : (low : ℕ) (v : Version) (o : SubOp) (n : ItemNo) (items : Table) (found : Option Held) → AreNear low items → low ≤ v.0
    → o.item.0 ≡ n.0 → ((h : Held) → item_in n items ≡ Some h → AllUpTo v.0 h) → item_in n items ≡ found
    → (h : Held) → item_in n (overwritten v o (seen_in v o.item items) items) ≡ Some h → AllUpTo v.0 h
top_same low v o n items None near le same all at h there =
    let none : item_in o.item items ≡ None = same_item o.item n items same ∙ at in
    let stays : overwritten v o (seen_in v o.item items) items ≡ items =
    ap (λ (f : Option Value). overwritten v o f items) (ap (seen_of v) none) in
    all h (sym (ap (item_in n) stays) ∙ there)
top_same low v o n items (Some g) near le same all at h there =
    let found = seen_some v g (IsHeld-item_in n items g at near.0) in
    let seen_v : seen_in v n items ≡ Some found.0 = ap (seen_of v) at ∙ found.1 in
    (written_same low v v o n items found.0 near le same all seen_v).top h there

stays_top : (low : ℕ) (v : Version) (o : SubOp) (n : ItemNo) (items : Table) (test : Bool) → AreNear low items → low ≤ v.0
    → ((h : Held) → item_in n items ≡ Some h → AllUpTo v.0 h) → (o.item.0 == n.0) ≡ test → (h : Held)
    → item_in n (overwritten v o (seen_in v o.item items) items) ≡ Some h → AllUpTo v.0 h
stays_top low v o n items true near le all at h there =
    top_same low v o n items (item_in n items) near le (grind (arith, nat_tests, at)) all refl h there
stays_top low v o n items false near le all at h there =
    all h (sym (written_other v o n (seen_in v o.item items) items at) ∙ there)

op_top : (low : ℕ) (v : Version) (o : SubOp) (n : ItemNo) (items : Table) (test : Bool) → AreNear low items → low ≤ v.0
    → ((h : Held) → item_in n items ≡ Some h → AllUpTo v.0 h)
    → (h : Held) → item_in n (if test then overwritten v o (seen_in v o.item items) items else items) ≡ Some h → AllUpTo v.0 h
op_top low v o n items true near le all = stays_top low v o n items (o.item.0 == n.0) near le all refl
op_top low v o n items false near le all = all

ops_top : (low : ℕ) (v : Version) (o : SubOp) (os : List SubOp) (items : Table) → AreNear low items → low ≤ v.0 → AreTop v os items
    → AreTop v os (overwritten_in v o items)
ops_top low v o [] items near le all = tt
ops_top low v o (q ∷ os) items near le all =
    ((λ over. op_top low v o q.item items (overwrites o.deed) near le (all.0 over)), ops_top low v o os items near le all.1)

-- So after all operations of a commit.
rest_value : (test same : Bool) (x : ℕ) (os : List SubOp) (y w : Value)
    → (if test then after_ops x os (if test then (if same then y else w) else w) else (if test then (if same then y else w) else w))
    ≡ (if test then after_ops x os (if same then y else w) else w)
rest_value true same x os y w = refl
rest_value false same x os y w = refl

pub commit_seen : (low : ℕ) (u v : Version) (x : ItemNo) (os : List SubOp) (items : Table) (w : Value) → AreNear low items → low ≤ u.0
    → in_window low v.0 ≡ true → AllByRecursion (λ (o : SubOp). IsOfCommit o.deed) os → AreTop v os items → seen_in u x items ≡ Some w
    → seen_in u x (applied_in v os items) ≡ Some (if nat_le v.0 u.0 then after_ops x.0 os w else w)
commit_seen low u v x [] items w near le within reads top is = is ∙ same_value (nat_le v.0 u.0) w
commit_seen low u v x (o ∷ os) items w near le within reads top is =
    let from : low ≤ v.0 = in_window-low low v.0 within in
    let one = op_seen low u v o x items w (overwrites o.deed) refl near le reads.0 top.0 is in
    let next : AreNear low (overwritten_in v o items) = over_near low v o items (overwrites o.deed) within near in
    commit_seen low u v x os (overwritten_in v o items) (OnItem u v o x w) next le within reads.1
    (ops_top low v o os items near from top.1) one
    ∙ ap (λ (z : Value). Some z) (rest_value (nat_le v.0 u.0) (o.item.0 == x.0) x.0 os (after_deed o.deed w) w)
