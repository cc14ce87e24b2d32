-- In a valid script the operations on an item may be applied one after another, from its initial value on. So what it
-- is worth keeps to the bound.
use Rattle.std.proofs.Common.{◌≡◌, ℕ, zero, suc, ◌+◌, ◌<◌, ◌≤◌, Bool, true, false, IsTrue, List, [], ◌∷◌, refl, ℤ, ap, sym, ◌∙◌, subst, arith}
use Rattle.std.specs.Prelude.{if◌then◌else◌, cond, fold, int_lt, ◌==◌, ◌||◌, ◌+ℤ◌, ◌-ℤ◌, unsigned_abs, Option, Some, None, slice_get, pos}
use Rattle.std.specs.Int.{int_max}
use Rattle.std.specs.List.{AllByRecursion}
use Rattle.std.proofs.lemmas.Int.{ints}
use Rattle.std.proofs.lemmas.Option.{slice_get_within}
use Rattle.std.proofs.lemmas.Bool.Decides.{nat_tests}
use Rattle.std.proofs.lemmas.Bool.{and_from}
use Rattle.tv_base.proofs.Chosen.{if_most}
use Rattle.commute_ops.specs.declared.kinds.TheConstants.{MOST_AMOUNT}
use Rattle.commute_ops.specs.declared.kinds.Kind.{Kind}
use Rattle.commute_ops.specs.declared.kinds.Kind.TheVariants.{Sum as SumKind, Top as TopKind, Bag as BagKind}
use Rattle.commute_ops.specs.declared.kinds.Op.{Op}
use Rattle.commute_ops.specs.declared.kinds.Op.TheVariants.{Add, Top as Raise, Put}
use Rattle.commute_ops.specs.declared.value.Value.{Value}
use Rattle.commute_ops.specs.declared.value.Value.TheVariants.{Sum, Top, Bag}
use Rattle.commute_ops.specs.Numbers.{is_within}
use Rattle.commute_ops.specs.Ops.{applied, may_apply, value_start}
use Rattle.tx_trees.proofs.SubsOf.{small_load}
use Rattle.tx_trees.specs.ScriptData.{ScriptData, subs_at}
use Rattle.tx_trees.specs.Valid.{AreSubs, IsItem, IsOp, IsTree, IsValid, OpAt, deed_fits, initial_load, magnitude, op_fits, op_magnitude, ops_load, subs_load, trees_load}
use Rattle.tx_trees.specs.declared.parts.Deed.{Deed}
use Rattle.tx_trees.specs.declared.parts.Deed.TheVariants.{Apply, Get, Set, Draw}
use Rattle.tx_trees.specs.declared.parts.ItemRow.{ItemRow}
use Rattle.tx_trees.specs.declared.parts.Sub.{Sub}
use Rattle.tx_trees.specs.declared.parts.SubOp.{SubOp}
use Rattle.tx_trees.specs.declared.parts.Tree.{Tree}
use Rattle.tx_trees.specs.declared.parts.TreeKind.{TreeKind}
use Rattle.tx_trees.specs.declared.parts.TreeKind.TheVariants.{Update, Read, Strict}
use Rattle.board_model.specs.inside.May.{deed_may, ops_may, subs_may, trees_may}
use Rattle.board_rules.specs.Serial.{is_in}
use Rattle.board_rules.specs.Worth.{after_deed, after_ops, after_subs, after_tree, first_value}
use Rattle.board_rules.proofs.Closings.{AreApart}

-- a value of the kind, which magnitudes that add up to `left` may still be added to
abbrev pub OfKind : Kind → Value → ℕ → Type 0
OfKind SumKind (Sum n) left = unsigned_abs n.0 + left ≤ MOST_AMOUNT
OfKind TopKind (Top n) left = unsigned_abs n.0 + left ≤ MOST_AMOUNT
OfKind BagKind (Bag ns) left = Unit {0}
OfKind _ _ _ = ⊥

-- the same of the kind of an item, if it is there
abbrev pub IsHeld : Option ItemRow → Value → ℕ → Type 0
IsHeld None w left = Unit {0}
IsHeld (Some row) w left = OfKind row.kind w left

pub abs_add : (n a : ℤ) → unsigned_abs (n +ℤ a) ≤ unsigned_abs n + unsigned_abs a
abs_add n a = omega (arith, ints)

abs_either : (b : Bool) (n a : ℤ) → unsigned_abs (cond b n a) ≤ unsigned_abs n + unsigned_abs a
abs_either true n a = omega arith
abs_either false n a = omega arith

abs_max : (n a : ℤ) → unsigned_abs (int_max n a) ≤ unsigned_abs n + unsigned_abs a
abs_max n a = abs_either (int_lt a n) n a

abs_sub : (n a : ℤ) → unsigned_abs (n -ℤ a) ≤ unsigned_abs n + unsigned_abs a
abs_sub n a = omega (arith, ints)

within : (n a : ℤ) (left : ℕ) → unsigned_abs n + (unsigned_abs a + left) ≤ MOST_AMOUNT → IsTrue (is_within n a)
within n a left h = grind (arith, nat_tests)

less_of : (kind : Kind) (w : Value) (a b : ℕ) → b ≤ a → OfKind kind w a → OfKind kind w b
less_of SumKind (Sum n) a b small h = omega arith
less_of TopKind (Top n) a b small h = omega arith
less_of BagKind (Bag ns) a b small h = tt
less_of SumKind (Top n) a b small h = h
less_of SumKind (Bag n) a b small h = h
less_of TopKind (Sum n) a b small h = h
less_of TopKind (Bag n) a b small h = h
less_of BagKind (Sum n) a b small h = h
less_of BagKind (Top n) a b small h = h

less : (r : Option ItemRow) (w : Value) (a b : ℕ) → b ≤ a → IsHeld r w a → IsHeld r w b
less None w a b small h = tt
less (Some row) w a b small h = less_of row.kind w a b small h

-- after a commuting operation that fits
op_step : (kind : Kind) (op : Op) (w : Value) (left : ℕ) → IsTrue (op_fits kind op) → OfKind kind w (op_magnitude op + left)
    → IsTrue (may_apply w op) × OfKind kind (applied w op) left
op_step SumKind (Add a) (Sum n) left f h = (within n.0 a left h, omega (arith, abs_add n.0 a))
op_step SumKind (Add a) (Top n) left f h = absurd h
op_step SumKind (Add a) (Bag n) left f h = absurd h
op_step SumKind (Raise a) w left f h = absurd (cc f)
op_step SumKind (Put a) w left f h = absurd (cc f)
op_step TopKind (Add a) w left f h = absurd (cc f)
op_step TopKind (Raise a) (Sum n) left f h = absurd h
op_step TopKind (Raise a) (Top n) left f h = (refl, omega (arith, abs_max n.0 a))
op_step TopKind (Raise a) (Bag n) left f h = absurd h
op_step TopKind (Put a) w left f h = absurd (cc f)
op_step BagKind (Add a) w left f h = absurd (cc f)
op_step BagKind (Raise a) w left f h = absurd (cc f)
op_step BagKind (Put a) (Sum n) left f h = absurd h
op_step BagKind (Put a) (Top n) left f h = absurd h
op_step BagKind (Put a) (Bag n) left f h = (refl, tt)

not_applied : (kind : Kind) (op : Op) → IsTrue (deed_fits Strict kind (Apply op)) → ⊥
not_applied SumKind op f = cc f
not_applied TopKind op f = cc f
not_applied BagKind op f = cc f

h0 : (kind : Kind) (w : Value) (left : ℕ) → OfKind kind w (0 + left) → OfKind kind w left
h0 kind w left h = less_of kind w (0 + left) left (omega arith) h

-- after a deed that fits a tree of this kind
fits_step : (tree : TreeKind) (kind : Kind) (deed : Deed) (w : Value) (left : ℕ) → IsTrue (deed_fits tree kind deed)
    → OfKind kind w (magnitude deed + left) → IsTrue (deed_may deed w) × OfKind kind (after_deed deed w) left
fits_step Update kind (Apply op) w left f h = op_step kind op w left f h
fits_step Update kind Get w left f h = absurd (cc f)
fits_step Update kind (Set a) w left f h = absurd (cc f)
fits_step Update kind (Draw a) w left f h = absurd (cc f)
fits_step Read kind (Apply op) w left f h = absurd (cc f)
fits_step Read kind Get w left f h = (refl, h0 kind w left h)
fits_step Read kind (Set a) w left f h = absurd (cc f)
fits_step Read kind (Draw a) w left f h = absurd (cc f)
fits_step Strict kind (Apply op) w left f h = absurd (not_applied kind op f)
fits_step Strict kind Get w left f h = (refl, h0 kind w left h)
fits_step Strict SumKind (Set a) (Sum n) left f h = (refl, omega arith)
fits_step Strict SumKind (Set a) (Top n) left f h = absurd h
fits_step Strict SumKind (Set a) (Bag ns) left f h = absurd h
fits_step Strict TopKind (Set a) (Sum n) left f h = absurd h
fits_step Strict TopKind (Set a) (Top n) left f h = (refl, omega arith)
fits_step Strict TopKind (Set a) (Bag ns) left f h = absurd h
fits_step Strict BagKind (Set a) w left f h = absurd (cc f)
fits_step Strict SumKind (Draw a) (Sum n) left f h = (within n.0 a left h, omega (arith, abs_sub n.0 a))
fits_step Strict SumKind (Draw a) (Top n) left f h = absurd h
fits_step Strict SumKind (Draw a) (Bag ns) left f h = absurd h
fits_step Strict TopKind (Draw a) w left f h = absurd (cc f)
fits_step Strict BagKind (Draw a) w left f h = absurd (cc f)

deed_step : (tree : TreeKind) (r : Option ItemRow) (node : ℕ) (o : SubOp) (w : Value) (left : ℕ) → OpAt tree node o r → IsHeld r w (magnitude o.deed + left)
    → IsTrue (deed_may o.deed w) × IsHeld r (after_deed o.deed w) left
deed_step tree None node o w left f h = absurd f
deed_step tree (Some row) node o w left f h = fits_step tree row.kind o.deed w left f.1 h

-- after an operation that may be on the item
item_step : (tree : TreeKind) (b : Bool) (r : Option ItemRow) (node : ℕ) (o : SubOp) (w : Value) (left : ℕ) → (b ≡ true → OpAt tree node o r)
    → IsHeld r w ((if b then magnitude o.deed else 0) + left)
    → IsTrue (if b then deed_may o.deed w else true) × IsHeld r (if b then after_deed o.deed w else w) left
item_step tree true r node o w left f h = deed_step tree r node o w left (f refl) h
item_step tree false r node o w left f h = (refl, less r w (0 + left) left (omega arith) h)

on_item : (tree : TreeKind) (items : List ItemRow) (x y node : ℕ) (o : SubOp) → y ≡ x → OpAt tree node o (slice_get items y) → OpAt tree node o (slice_get items x)
on_item tree items x y node o e h = subst (λ (k : ℕ). OpAt tree node o (slice_get items k)) e h

ops_step : (tree : TreeKind) (items : List ItemRow) (x node : ℕ) (os : List SubOp) (w : Value) (left : ℕ) → AllByRecursion (IsOp items tree node) os
    → IsHeld (slice_get items x) w (ops_load x os + left)
    → IsTrue (ops_may x os w) × IsHeld (slice_get items x) (after_ops x os w) left
ops_step tree items x node [] w left all h = (refl, less (slice_get items x) w (0 + left) left (omega arith) h)
ops_step tree items x node (o ∷ os) w left all h =
    let r : Option ItemRow = slice_get items x in
    let b : Bool = o.item.0 == x in
    let one = item_step tree b r node o w (ops_load x os + left)
    (λ (e : b ≡ true). on_item tree items x o.item.0 node o (grind (arith, nat_tests)) all.0)
    (less r w (ops_load x (o ∷ os) + left) ((if b then magnitude o.deed else 0) + (ops_load x os + left)) (omega arith) h) in
    let rest = ops_step tree items x node os (if b then after_deed o.deed w else w) left all.1 one.1 in
    (and_from (if b then deed_may o.deed w else true) (ops_may x os (if b then after_deed o.deed w else w)) one.0 rest.0, rest.1)

subs_step : (tree : TreeKind) (nodes : ℕ) (items : List ItemRow) (x k : ℕ) (ss : List Sub) (w : Value) (left : ℕ) → AreSubs nodes items tree k ss
    → IsHeld (slice_get items x) w (subs_load x ss + left)
    → IsTrue (subs_may x ss w) × IsHeld (slice_get items x) (after_subs x ss w) left
subs_step tree nodes items x k [] w left all h = (refl, less (slice_get items x) w (0 + left) left (omega arith) h)
subs_step tree nodes items x k (s ∷ ss) w left all h =
    let r : Option ItemRow = slice_get items x in
    let one = ops_step tree items x s.node.0 s.ops w (subs_load x ss + left) all.0.ops
    (less r w (subs_load x (s ∷ ss) + left) (ops_load x s.ops + (subs_load x ss + left)) (omega arith) h) in
    let rest = subs_step tree nodes items x (k + 1) ss (after_ops x s.ops w) left all.1 one.1 in
    (and_from (ops_may x s.ops w) (subs_may x ss (after_ops x s.ops w)) one.0 rest.0, rest.1)

-- what the trees of a list have for item x; a tree that isn't there has nothing
abbrev pub loads_of : ScriptData → ℕ → List ℕ → ℕ
loads_of s x [] = 0
loads_of s x (t ∷ ts) = subs_load x (subs_at s t) + loads_of s x ts

abbrev pub its_subs : Option Tree → List Sub
its_subs None = []
its_subs (Some tree) = tree.subs

subs_here : (o : Option Tree) → elim o as (λ (x : Option Tree). List Sub) [ Some tree ↦ tree.subs | None ↦ [] ] ≡ its_subs o
subs_here None = refl
subs_here (Some tree) = refl

tree_step : (nodes : ℕ) (items : List ItemRow) (ts : List Tree) (t x : ℕ) (w : Value) (left : ℕ) → AllByRecursion (IsTree nodes items) ts
    → IsHeld (slice_get items x) w (subs_load x (its_subs (slice_get ts t)) + left)
    → IsTrue (subs_may x (its_subs (slice_get ts t)) w) × IsHeld (slice_get items x) (after_subs x (its_subs (slice_get ts t)) w) left
tree_step nodes items [] t x w left all h = (refl, less (slice_get items x) w (0 + left) left (omega arith) h)
tree_step nodes items (tree ∷ ts) zero x w left all h = subs_step tree.kind nodes items x 0 tree.subs w left all.0.subs h
tree_step nodes items (tree ∷ ts) (suc t) x w left all h = tree_step nodes items ts t x w left all.1 h

subs_of : (s : ScriptData) (t : ℕ) → subs_at s t ≡ its_subs (slice_get s.trees t)
subs_of s t = subs_here (slice_get s.trees t)

here_step : (s : ScriptData) (t x : ℕ) (w : Value) (left : ℕ) → IsValid s → IsHeld (slice_get s.items x) w (subs_load x (subs_at s t) + left)
    → IsTrue (subs_may x (subs_at s t) w) × IsHeld (slice_get s.items x) (after_tree s x w t) left
here_step s t x w left valid h =
    let P : List Sub → Type 0 = λ ks. IsHeld (slice_get s.items x) w (subs_load x ks + left)
    → IsTrue (subs_may x ks w) × IsHeld (slice_get s.items x) (after_subs x ks w) left in
    subst P (sym (subs_of s t)) (tree_step s.nodes s.items s.trees t x w left valid.trees) h

trees_step : (s : ScriptData) (x : ℕ) (ts : List ℕ) (w : Value) → IsValid s → IsHeld (slice_get s.items x) w (loads_of s x ts)
    → IsTrue (trees_may s x ts w) × IsHeld (slice_get s.items x) (fold (after_tree s x) w ts) 0
trees_step s x [] w valid h = (refl, h)
trees_step s x (t ∷ ts) w valid h =
    let one = here_step s t x w (loads_of s x ts) valid h in
    let rest = trees_step s x ts (after_tree s x w t) valid one.1 in
    (and_from (subs_may x (subs_at s t) w) (trees_may s x ts (after_tree s x w t)) one.0 rest.0, rest.1)

-- what the trees among these have for item x, where the list of trees begins with tree k
abbrev among : ℕ → List ℕ → ℕ → List Tree → ℕ
among x ts k [] = 0
among x ts k (tree ∷ trees) = (if is_in k ts then subs_load x tree.subs else 0) + among x ts (k + 1) trees

among_most : (x : ℕ) (ts : List ℕ) (k : ℕ) (trees : List Tree) → among x ts k trees ≤ trees_load x trees
among_most x ts k [] = omega arith
among_most x ts k (tree ∷ trees) = omega (arith, if_most (is_in k ts) (subs_load x tree.subs), among_most x ts (k + 1) trees)

-- a tree below the first isn't counted
among_past : (x t : ℕ) (ts : List ℕ) (k : ℕ) (trees : List Tree) → t < k → among x (t ∷ ts) k trees ≡ among x ts k trees
among_past x t ts k [] small = refl
among_past x t ts k (tree ∷ trees) small =
    let no : (t == k) ≡ false = grind (arith, nat_tests) in
    let rest = among_past x t ts (k + 1) trees (omega arith) in
    ap (λ (b : Bool). (if b || is_in k ts then subs_load x tree.subs else 0) + among x (t ∷ ts) (k + 1) trees) no
    ∙ ap (λ (n : ℕ). (if is_in k ts then subs_load x tree.subs else 0) + n) rest

none_else : (b : Bool) (n m : ℕ) → b ≡ false → m ≡ (if b then n else 0) + m
none_else false n m e = omega arith
none_else true n m e = absurd (cc e)

-- one tree more, which wasn't among them
among_more : (x d t : ℕ) (ts : List ℕ) (k : ℕ) (trees : List Tree) → t ≡ k + d → is_in t ts ≡ false
    → among x (t ∷ ts) k trees ≡ subs_load x (its_subs (slice_get trees d)) + among x ts k trees
among_more x d t ts k [] e out = refl
among_more x zero t ts k (tree ∷ trees) e out =
    let yes : (t == k) ≡ true = grind (arith, nat_tests) in
    let same : t ≡ k = omega arith in
    let not : is_in k ts ≡ false = sym (ap (λ (u : ℕ). is_in u ts) same) ∙ out in
    let past = among_past x t ts (k + 1) trees (omega arith) in
    ap (λ (b : Bool). (if b || is_in k ts then subs_load x tree.subs else 0) + among x (t ∷ ts) (k + 1) trees) yes
    ∙ ap (λ (n : ℕ). subs_load x tree.subs + n) past
    ∙ ap (λ (n : ℕ). subs_load x tree.subs + n) (none_else (is_in k ts) (subs_load x tree.subs) (among x ts (k + 1) trees) not)
among_more x (suc d) t ts k (tree ∷ trees) e out =
    let no : (t == k) ≡ false = grind (arith, nat_tests) in
    let rest = among_more x d t ts (k + 1) trees (omega arith) out in
    let one : ℕ = subs_load x (its_subs (slice_get trees d)) in
    ap (λ (b : Bool). (if b || is_in k ts then subs_load x tree.subs else 0) + among x (t ∷ ts) (k + 1) trees) no
    ∙ moved (if is_in k ts then subs_load x tree.subs else 0) (among x (t ∷ ts) (k + 1) trees) one (among x ts (k + 1) trees) rest where
      moved : (a b c d : ℕ) → b ≡ c + d → a + b ≡ c + (a + d)
      moved a b c d e = omega arith

loads_among : (s : ScriptData) (x : ℕ) (ts : List ℕ) → AreApart ts → loads_of s x ts ≡ among x ts 0 s.trees
loads_among s x [] apart = sym (nothing_among 0 s.trees) where
  nothing_among : (k : ℕ) (trees : List Tree) → among x [] k trees ≡ 0
  nothing_among k [] = refl
  nothing_among k (tree ∷ trees) = omega (arith, nothing_among (k + 1) trees)
loads_among s x (t ∷ ts) apart =
    ap (λ (n : ℕ). subs_load x (subs_at s t) + n) (loads_among s x ts apart.1)
    ∙ ap (λ (ks : List Sub). subs_load x ks + among x ts 0 s.trees) (subs_of s t)
    ∙ sym (among_more x t t ts 0 s.trees (omega arith) apart.0)

-- trees that are apart have at most what all trees have
pub loads_most : (s : ScriptData) (x : ℕ) (ts : List ℕ) → AreApart ts → loads_of s x ts ≤ trees_load x s.trees
loads_most s x ts apart = omega (arith, loads_among s x ts apart, among_most x ts 0 s.trees)

start_held : (kind : Kind) (n : ℤ) (left : ℕ) → unsigned_abs n + left ≤ MOST_AMOUNT → OfKind kind (value_start kind n) left
start_held SumKind n left h = h
start_held TopKind n left h = h
start_held BagKind n left h = tt

first_held : (r : Option ItemRow) (left : ℕ) → ((row : ItemRow) → r ≡ Some row → initial_load r + left ≤ MOST_AMOUNT) → IsHeld r (first_value r) left
first_held None left h = tt
first_held (Some row) left h = start_held row.kind row.initial left (h row refl)

apart_step : (s : ScriptData) (x : ℕ) (ts : List ℕ) → IsValid s → AreApart ts
    → IsTrue (trees_may s x ts (first_value (slice_get s.items x)))
    × IsHeld (slice_get s.items x) (fold (after_tree s x) (first_value (slice_get s.items x)) ts) 0
apart_step s x ts valid apart =
    trees_step s x ts (first_value (slice_get s.items x)) valid
    (first_held (slice_get s.items x) (loads_of s x ts)
    (λ (row : ItemRow) (e : slice_get s.items x ≡ Some row).
    omega (arith, small_load s x valid (slice_get_within s.items x row e), loads_most s x ts apart)))

-- the deeds of trees that are apart may be done one after the other
pub worth_may : (s : ScriptData) (x : ℕ) (ts : List ℕ) → IsValid s → AreApart ts
    → IsTrue (trees_may s x ts (first_value (slice_get s.items x)))
worth_may s x ts valid apart = (apart_step s x ts valid apart).0

-- and their value is within the bound
pub worth_held : (s : ScriptData) (x : ℕ) (ts : List ℕ) → IsValid s → AreApart ts
    → IsHeld (slice_get s.items x) (fold (after_tree s x) (first_value (slice_get s.items x)) ts) 0
worth_held s x ts valid apart = (apart_step s x ts valid apart).1

nothing : (n : ℤ) → unsigned_abs n ≡ 0 → n ≡ pos 0
nothing n h = omega (arith, ints)

-- a bag starts with the number 0
pub bag_starts : (nodes : ℕ) (items : List ItemRow) (k : ℕ) (row : ItemRow) → AllByRecursion (IsItem nodes) items → slice_get items k ≡ Some row → row.kind ≡ BagKind → row.initial ≡ pos 0
bag_starts nodes [] k row all e h = cc
bag_starts nodes (r ∷ rs) zero row all e h =
    let same : r ≡ row = cc in
    nothing row.initial (subst (λ (one : ItemRow). one.kind ≡ BagKind → unsigned_abs one.initial ≡ 0) same all.0.bag h)
bag_starts nodes (r ∷ rs) (suc k) row all e h = bag_starts nodes rs k row all.1 e h
