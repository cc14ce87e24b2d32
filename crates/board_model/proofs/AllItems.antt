-- The pass over all items gives of each item what it is worth, and whether it is written.
use Rattle.std.proofs.Common.{◌≡◌, ℕ, zero, suc, ◌+◌, ◌<◌, ◌≤◌, Bool, true, false, IsTrue, List, [], ◌∷◌, length, drop, refl, ap, sym, ◌∙◌, subst, slice_set, get_or, arith}
use Rattle.std.specs.Prelude.{if◌then◌else◌, fold, ◌==◌, ◌&&◌, ◌||◌, Option, Some, None, slice_get}
use Rattle.std.specs.Option.{option_map}
use Rattle.std.proofs.lemmas.Bool.Decides.{nat_tests}
use Rattle.std.proofs.lemmas.Option.{slice_get-get_or}
use Rattle.std.proofs.lemmas.Bool.{and_from}
use Rattle.std.proofs.Math.Bool.{or-false}
use Rattle.tv_base.proofs.Truths.{same_test, left_true, right_true}
use Rattle.commute_ops.specs.declared.value.Value.{Value}
use Rattle.letter_types.specs.declared.entries.Entry.{Entry}
use Rattle.tx_trees.specs.ScriptData.{ScriptData, subs_at}
use Rattle.tx_trees.specs.Valid.{IsValid}
use Rattle.tx_trees.specs.declared.parts.Deed.{Deed}
use Rattle.tx_trees.specs.declared.parts.ItemRow.{ItemRow}
use Rattle.tx_trees.specs.declared.parts.Sub.{Sub}
use Rattle.tx_trees.specs.declared.parts.SubOp.{SubOp}
use Rattle.tx_trees.specs.declared.parts.Tree.{Tree}
use Rattle.tx_trees.specs.declared.parts.TreeKind.{TreeKind}
use Rattle.tx_trees.specs.declared.parts.TreeKind.TheVariants.{Update, Read, Strict}
use Rattle.board_model.specs.declared.standings.Standing.{Standing}
use Rattle.board_model.specs.Balances.{all_after_op, all_after_ops, all_after_subs, all_after_tree, by_number, first_values, on_item, worths, written_items}
use Rattle.board_model.specs.inside.Balances.{mark_op, mark_ops, mark_subs, mark_trees, may_write_by, no_marks, writes_by}
use Rattle.board_model.specs.inside.May.{all_op_may, all_ops_may, all_subs_may, all_trees_may, deed_may, deed_may_at, ops_may, subs_may, trees_may}
use Rattle.board_rules.specs.Histories.{places_of, version_of, was_decided_as}
use Rattle.board_rules.specs.Serial.{is_version, serial_to}
use Rattle.board_model.specs.Standings.{standings_from, standings_of}
use Rattle.board_rules.specs.Worth.{after_deed, after_ops, after_subs, after_tree, changes, first_value, is_written, may_write, ops_change, subs_change, trees_write, worth, writes}
use Rattle.board_model.proofs.Bounds.{worth_may}
use Rattle.board_rules.proofs.Closings.{AreApart}

-- lists that agree at each place are equal
same_gets : {A : Type 0} (xs ys : List A) → ((i : ℕ) → slice_get xs i ≡ slice_get ys i) → xs ≡ ys
same_gets [] [] h = refl
same_gets [] (y ∷ ys) h = let one = h 0 in cc
same_gets (x ∷ xs) [] h = let one = h 0 in cc
same_gets {A} (x ∷ xs) (y ∷ ys) h =
    let one = h 0 in
    let head : x ≡ y = cc in
    ap (λ (z : A). z ∷ xs) head ∙ ap (λ (zs : List A). y ∷ zs) (same_gets xs ys (λ (i : ℕ). h (suc i)))

map_map : {A : Type 0} (f g : A → A) (o : Option A) → option_map g (option_map f o) ≡ option_map (λ (a : A). g (f a)) o
map_map f g None = refl
map_map f g (Some a) = refl

map_id : {A : Type 0} (o : Option A) → o ≡ option_map (λ (a : A). a) o
map_id None = refl
map_id (Some a) = refl

-- the second list is the first with a function of its place applied to each element
abbrev pub Maps : {A : Type 0} → (ℕ → A → A) → List A → List A → Type 0
Maps f xs ys = (x : ℕ) → slice_get ys x ≡ option_map (f x) (slice_get xs x)

then_maps : {A : Type 0} (f g : ℕ → A → A) (xs ys zs : List A) → Maps f xs ys → Maps g ys zs → Maps (λ (x : ℕ) (a : A). g x (f x a)) xs zs
then_maps {A} f g xs ys zs p q x = q x ∙ ap (λ (o : Option A). option_map (g x) o) (p x) ∙ map_map (f x) (g x) (slice_get xs x)

maps_same : {A : Type 0} (xs : List A) → Maps (λ (x : ℕ) (a : A). a) xs xs
maps_same xs x = map_id (slice_get xs x)

-- what an element at a place owes
abbrev pub Each : {A : Type 0} → (ℕ → A → Type 0) → List A → Type 0
Each {A} P xs = (x : ℕ) (a : A) → slice_get xs x ≡ Some a → P x a

each_step : {A : Type 0} (P : A → Type 0) (f : A → A) (o : Option A) (b : A) → ((a : A) → o ≡ Some a → P (f a)) → option_map f o ≡ Some b → P b
each_step P f None b h e = cc
each_step P f (Some a) b h e = let same : f a ≡ b = cc in subst P same (h a refl)

each_after : {A : Type 0} (P : ℕ → A → Type 0) (f : ℕ → A → A) (xs ys : List A) → Maps f xs ys → Each (λ (x : ℕ) (a : A). P x (f x a)) xs → Each P ys
each_after P f xs ys m h x b e = each_step (P x) (f x) (slice_get xs x) b (λ (a : _) (here : slice_get xs x ≡ Some a). h x a here) (sym (m x) ∙ e)

zero_suc : (x : ℕ) → false ≡ (zero == suc x)
zero_suc x = grind (arith, nat_tests)

suc_zero : (x : ℕ) → false ≡ (suc x == zero)
suc_zero x = grind (arith, nat_tests)

suc_suc : (x y : ℕ) → (x == y) ≡ (suc x == suc y)
suc_suc x y = grind (arith, nat_tests)

on_item_get : (y : ℕ) (f : Value → Value) (ws : List Value) (x : ℕ) → slice_get (on_item y f ws) x ≡ option_map (λ (w : Value). if y == x then f w else w) (slice_get ws x)
on_item_get y f [] x = refl
on_item_get zero f (w ∷ ws) zero = refl
on_item_get zero f (w ∷ ws) (suc x) =
    map_id (slice_get ws x) ∙ ap (λ (b : Bool). option_map (λ (one : Value). if b then f one else one) (slice_get ws x)) (zero_suc x)
on_item_get (suc y) f (w ∷ ws) zero = ap (λ (b : Bool). Some (if b then f w else w)) (suc_zero y)
on_item_get (suc y) f (w ∷ ws) (suc x) =
    on_item_get y f ws x ∙ ap (λ (b : Bool). option_map (λ (one : Value). if b then f one else one) (slice_get ws x)) (suc_suc y x)

op_maps : (o : SubOp) (ws : List Value) → Maps (λ (x : ℕ) (w : Value). if o.item.0 == x then after_deed o.deed w else w) ws (all_after_op o ws)
op_maps o ws x = on_item_get o.item.0 (after_deed o.deed) ws x

ops_map : (os : List SubOp) (ws : List Value) → Maps (λ (x : ℕ) (w : Value). after_ops x os w) ws (all_after_ops os ws)
ops_map [] ws = maps_same ws
ops_map (o ∷ os) ws =
    then_maps (λ (x : ℕ) (w : Value). if o.item.0 == x then after_deed o.deed w else w) (λ (x : ℕ) (w : Value). after_ops x os w)
    ws (all_after_op o ws) (all_after_ops os (all_after_op o ws)) (op_maps o ws) (ops_map os (all_after_op o ws))

subs_map : (ss : List Sub) (ws : List Value) → Maps (λ (x : ℕ) (w : Value). after_subs x ss w) ws (all_after_subs ss ws)
subs_map [] ws = maps_same ws
subs_map (s ∷ ss) ws =
    then_maps (λ (x : ℕ) (w : Value). after_ops x s.ops w) (λ (x : ℕ) (w : Value). after_subs x ss w)
    ws (all_after_ops s.ops ws) (all_after_subs ss (all_after_ops s.ops ws)) (ops_map s.ops ws) (subs_map ss (all_after_ops s.ops ws))

trees_map : (s : ScriptData) (ts : List ℕ) (ws : List Value)
    → Maps (λ (x : ℕ) (w : Value). fold (after_tree s x) w ts) ws (fold (all_after_tree s) ws ts)
trees_map s [] ws = maps_same ws
trees_map s (t ∷ ts) ws =
    let next : List Value = all_after_tree s ws t in
    then_maps (λ (x : ℕ) (w : Value). after_tree s x w t) (λ (x : ℕ) (w : Value). fold (after_tree s x) w ts)
    ws next (fold (all_after_tree s) next ts) (subs_map (subs_at s t) ws) (trees_map s ts next)

-- what each item may take, all items may take
at_place : (deed : Deed) (o : Option Value) → ((w : Value) → o ≡ Some w → IsTrue (deed_may deed w)) → IsTrue (deed_may_at deed o)
at_place deed None h = refl
at_place deed (Some w) h = h w refl

here_may : (b : Bool) (deed : Deed) (w : Value) (more : Bool) → b ≡ true → IsTrue ((if b then deed_may deed w else true) && more) → IsTrue (deed_may deed w)
here_may true deed w more e h = left_true (deed_may deed w) more h
here_may false deed w more e h = cc

ops_lift : (os : List SubOp) (ws : List Value) → Each (λ (x : ℕ) (w : Value). IsTrue (ops_may x os w)) ws → IsTrue (all_ops_may os ws)
ops_lift [] ws h = refl
ops_lift (o ∷ os) ws h =
    let now : IsTrue (all_op_may o ws)
    = at_place o.deed (slice_get ws o.item.0)
    (λ (w : Value) (e : slice_get ws o.item.0 ≡ Some w). here_may (o.item.0 == o.item.0) o.deed w
    (ops_may o.item.0 os (if o.item.0 == o.item.0 then after_deed o.deed w else w)) (same_test o.item.0) (h o.item.0 w e)) in
    let next : Each (λ (x : ℕ) (w : Value). IsTrue (ops_may x os w)) (all_after_op o ws)
    = each_after (λ (x : ℕ) (w : Value). IsTrue (ops_may x os w)) (λ (x : ℕ) (w : Value). if o.item.0 == x then after_deed o.deed w else w)
    ws (all_after_op o ws) (op_maps o ws)
    (λ (x : ℕ) (w : Value) (e : slice_get ws x ≡ Some w). right_true (if o.item.0 == x then deed_may o.deed w else true)
    (ops_may x os (if o.item.0 == x then after_deed o.deed w else w)) (h x w e)) in
    and_from (all_op_may o ws) (all_ops_may os (all_after_op o ws)) now (ops_lift os (all_after_op o ws) next)

subs_lift : (ss : List Sub) (ws : List Value) → Each (λ (x : ℕ) (w : Value). IsTrue (subs_may x ss w)) ws → IsTrue (all_subs_may ss ws)
subs_lift [] ws h = refl
subs_lift (s ∷ ss) ws h =
    let now : IsTrue (all_ops_may s.ops ws)
    = ops_lift s.ops ws (λ (x : ℕ) (w : Value) (e : slice_get ws x ≡ Some w). left_true (ops_may x s.ops w) (subs_may x ss (after_ops x s.ops w)) (h x w e)) in
    let next : Each (λ (x : ℕ) (w : Value). IsTrue (subs_may x ss w)) (all_after_ops s.ops ws)
    = each_after (λ (x : ℕ) (w : Value). IsTrue (subs_may x ss w)) (λ (x : ℕ) (w : Value). after_ops x s.ops w) ws (all_after_ops s.ops ws) (ops_map s.ops ws)
    (λ (x : ℕ) (w : Value) (e : slice_get ws x ≡ Some w). right_true (ops_may x s.ops w) (subs_may x ss (after_ops x s.ops w)) (h x w e)) in
    and_from (all_ops_may s.ops ws) (all_subs_may ss (all_after_ops s.ops ws)) now (subs_lift ss (all_after_ops s.ops ws) next)

trees_lift : (s : ScriptData) (ts : List ℕ) (ws : List Value) → Each (λ (x : ℕ) (w : Value). IsTrue (trees_may s x ts w)) ws
    → IsTrue (all_trees_may s ts ws)
trees_lift s [] ws h = refl
trees_lift s (t ∷ ts) ws h =
    let ks : List Sub = subs_at s t in
    let after : List Value = all_after_tree s ws t in
    let now : IsTrue (all_subs_may ks ws)
    = subs_lift ks ws (λ (x : ℕ) (w : Value) (e : slice_get ws x ≡ Some w). left_true (subs_may x ks w) (trees_may s x ts (after_tree s x w t)) (h x w e)) in
    let next : Each (λ (x : ℕ) (w : Value). IsTrue (trees_may s x ts w)) after
    = each_after (λ (x : ℕ) (w : Value). IsTrue (trees_may s x ts w)) (λ (x : ℕ) (w : Value). after_tree s x w t) ws after (subs_map ks ws)
    (λ (x : ℕ) (w : Value) (e : slice_get ws x ≡ Some w). right_true (subs_may x ks w) (trees_may s x ts (after_tree s x w t)) (h x w e)) in
    and_from (all_subs_may ks ws) (all_trees_may s ts after) now (trees_lift s ts after next)

first_get : (items : List ItemRow) (x : ℕ) → slice_get (first_values items) x ≡ option_map (λ (row : ItemRow). first_value (Some row)) (slice_get items x)
first_get [] x = refl
first_get (row ∷ rows) zero = refl
first_get (row ∷ rows) (suc x) = first_get rows x

number_get : {A : Type 0} (f : ℕ → A) (k : ℕ) (items : List ItemRow) (x : ℕ)
    → slice_get (by_number f k items) x ≡ option_map (λ (row : ItemRow). f (k + x)) (slice_get items x)
number_get f k [] x = refl
number_get {A} f k (row ∷ rows) zero = let e : k ≡ k + 0 = omega arith in ap (λ (n : ℕ). Some (f n)) e
number_get {A} f k (row ∷ rows) (suc x) =
    let e : k + 1 + x ≡ k + suc x = omega arith in
    number_get f (k + 1) rows x ∙ ap (λ (n : ℕ). option_map (λ (r : ItemRow). f n) (slice_get rows x)) e

at_one : {A : Type 0} (f : ℕ → A) (g : ℕ → Option ItemRow → A) (x : ℕ) (o : Option ItemRow) → g x o ≡ f x
    → option_map (λ (row : ItemRow). g x (Some row)) o ≡ option_map (λ (row : ItemRow). f (0 + x)) o
at_one f g x None e = refl
at_one {A} f g x (Some row) e = let same : x ≡ 0 + x = omega arith in ap (λ (a : A). Some a) e ∙ ap (λ (n : ℕ). Some (f n)) same

-- a list of a function of the first value is that of the numbers, where it is so at each item
numbered : {A : Type 0} (items : List ItemRow) (f : ℕ → A) (g : ℕ → Option ItemRow → A) (xs : List A)
    → ((x : ℕ) → slice_get xs x ≡ option_map (λ (row : ItemRow). g x (Some row)) (slice_get items x))
    → ((x : ℕ) → g x (slice_get items x) ≡ f x) → xs ≡ by_number f 0 items
numbered {A} items f g xs here same =
    same_gets xs (by_number f 0 items)
    (λ (x : ℕ). here x ∙ at_one f g x (slice_get items x) (same x) ∙ sym (number_get f 0 items x))

at_first : (f : Value → Value) (o : Option ItemRow)
    → option_map f (option_map (λ (row : ItemRow). first_value (Some row)) o) ≡ option_map (λ (row : ItemRow). f (first_value (Some row))) o
at_first f None = refl
at_first f (Some row) = refl

-- the values after the serial order up to a version
pub worth_all : (s : ScriptData) (h : List Entry) (v : ℕ)
    → fold (all_after_tree s) (first_values s.items) (serial_to s h v) ≡ worths s h v
worth_all s h v =
    let ts : List ℕ = serial_to s h v in
    numbered s.items (λ (x : ℕ). worth s h x v) (λ (x : ℕ) (o : Option ItemRow). fold (after_tree s x) (first_value o) ts)
    (fold (all_after_tree s) (first_values s.items) ts)
    (λ (x : ℕ). trees_map s ts (first_values s.items) x
    ∙ ap (λ (o : Option Value). option_map (λ (w : Value). fold (after_tree s x) w ts) o) (first_get s.items x)
    ∙ at_first (λ (w : Value). fold (after_tree s x) w ts) (slice_get s.items x))
    (λ (x : ℕ). refl)

first_is : (o : Option ItemRow) (w : Value) → option_map (λ (row : ItemRow). first_value (Some row)) o ≡ Some w → first_value o ≡ w
first_is None w e = cc
first_is (Some row) w e = cc

-- the deeds of trees that are apart may be done one after the other
pub all_may : (s : ScriptData) (ts : List ℕ) → IsValid s → AreApart ts → IsTrue (all_trees_may s ts (first_values s.items))
all_may s ts valid apart =
    trees_lift s ts (first_values s.items)
    (λ (x : ℕ) (w : Value) (e : slice_get (first_values s.items) x ≡ Some w).
    subst (λ (one : Value). IsTrue (trees_may s x ts one)) (first_is (slice_get s.items x) w (sym (first_get s.items x) ∙ e)) (worth_may s x ts valid apart))

or_true : (b : Bool) → true ≡ (b || true)
or_true true = refl
or_true false = refl

or_assoc : (a b c : Bool) → ((a || b) || c) ≡ (a || (b || c))
or_assoc true b c = refl
or_assoc false b c = refl

map_or_false : (o : Option Bool) → o ≡ option_map (λ (b : Bool). b || false) o
map_or_false None = refl
map_or_false (Some true) = refl
map_or_false (Some false) = refl

map_or_or : (c d : Bool) (o : Option Bool) → option_map (λ (b : Bool). b || d) (option_map (λ (b : Bool). b || c) o) ≡ option_map (λ (b : Bool). b || (c || d)) o
map_or_or c d None = refl
map_or_or c d (Some true) = refl
map_or_or c d (Some false) = refl

-- the second list of marks is the first, with those of `on`
abbrev pub Marked : (ℕ → Bool) → List Bool → List Bool → Type 0
Marked on ms ns = (x : ℕ) → slice_get ns x ≡ option_map (λ (b : Bool). b || on x) (slice_get ms x)

then_marked : (p q : ℕ → Bool) (ms ns os : List Bool) → Marked p ms ns → Marked q ns os → Marked (λ (x : ℕ). p x || q x) ms os
then_marked p q ms ns os h k x = k x ∙ ap (λ (o : Option Bool). option_map (λ (b : Bool). b || q x) o) (h x) ∙ map_or_or (p x) (q x) (slice_get ms x)

none_marked : (ms : List Bool) → Marked (λ (x : ℕ). false) ms ms
none_marked ms x = map_or_false (slice_get ms x)

choice_marked : (b : Bool) (p : ℕ → Bool) (ms ns : List Bool) → Marked p ms ns → Marked (λ (x : ℕ). b && p x) ms (if b then ns else ms)
choice_marked true p ms ns h = h
choice_marked false p ms ns h = none_marked ms

set_marks : (y : ℕ) (ms : List Bool) → Marked (λ (x : ℕ). y == x) ms (slice_set ms y true)
set_marks y [] x = refl
set_marks zero (m ∷ ms) zero = ap (λ (b : Bool). Some b) (or_true m)
set_marks zero (m ∷ ms) (suc x) =
    map_or_false (slice_get ms x) ∙ ap (λ (c : Bool). option_map (λ (b : Bool). b || c) (slice_get ms x)) (zero_suc x)
set_marks (suc y) (m ∷ ms) zero = ap (λ (b : Bool). Some b) (sym (or-false m)) ∙ ap (λ (c : Bool). Some (m || c)) (suc_zero y)
set_marks (suc y) (m ∷ ms) (suc x) = set_marks y ms x ∙ ap (λ (c : Bool). option_map (λ (b : Bool). b || c) (slice_get ms x)) (suc_suc y x)

and_comm : (a b : Bool) → (a && b) ≡ (b && a)
and_comm true true = refl
and_comm true false = refl
and_comm false true = refl
and_comm false false = refl

op_mark : (o : SubOp) (ms : List Bool) → Marked (λ (x : ℕ). (o.item.0 == x) && changes o.deed) ms (mark_op o ms)
op_mark o ms x =
    choice_marked (changes o.deed) (λ (k : ℕ). o.item.0 == k) ms (slice_set ms o.item.0 true) (set_marks o.item.0 ms) x
    ∙ ap (λ (c : Bool). option_map (λ (b : Bool). b || c) (slice_get ms x)) (and_comm (changes o.deed) (o.item.0 == x))

ops_mark : (os : List SubOp) (ms : List Bool) → Marked (λ (x : ℕ). ops_change x os) ms (mark_ops os ms)
ops_mark [] ms = none_marked ms
ops_mark (o ∷ os) ms =
    let next : List Bool = mark_op o ms in
    then_marked (λ (x : ℕ). (o.item.0 == x) && changes o.deed) (λ (x : ℕ). ops_change x os) ms next (mark_ops os next) (op_mark o ms) (ops_mark os next)

subs_mark : (ss : List Sub) (ms : List Bool) → Marked (λ (x : ℕ). subs_change x ss) ms (mark_subs ss ms)
subs_mark [] ms = none_marked ms
subs_mark (s ∷ ss) ms =
    let next : List Bool = mark_ops s.ops ms in
    then_marked (λ (x : ℕ). ops_change x s.ops) (λ (x : ℕ). subs_change x ss) ms next (mark_subs ss next) (ops_mark s.ops ms) (subs_mark ss next)

-- what the trees write, side by side with their standings
abbrev writes_at : ℕ → ℕ → Tree → Standing → Bool
writes_at x v t st = writes_by v t.kind st && subs_change x t.subs

abbrev standing_write : ℕ → ℕ → List Tree → List Standing → Bool
standing_write x v [] sts = false
standing_write x v (t ∷ ts) [] = false
standing_write x v (t ∷ ts) (st ∷ sts) = writes_at x v t st || standing_write x v ts sts

tree_marks : (v : ℕ) (t : Tree) (st : Standing) (ms : List Bool)
    → Marked (λ (x : ℕ). writes_at x v t st) ms (if writes_by v t.kind st then mark_subs t.subs ms else ms)
tree_marks v t st ms = choice_marked (writes_by v t.kind st) (λ (k : ℕ). subs_change k t.subs) ms (mark_subs t.subs ms) (subs_mark t.subs ms)

trees_mark : (v : ℕ) (ts : List Tree) (sts : List Standing) (ms : List Bool) → Marked (λ (x : ℕ). standing_write x v ts sts) ms (mark_trees v ts sts ms)
trees_mark v [] sts ms = none_marked ms
trees_mark v (t ∷ ts) [] ms = none_marked ms
trees_mark v (t ∷ ts) (st ∷ sts) ms =
    let next : List Bool = if writes_by v t.kind st then mark_subs t.subs ms else ms in
    then_marked (λ (x : ℕ). writes_at x v t st) (λ (x : ℕ). standing_write x v ts sts) ms next (mark_trees v ts sts next) (tree_marks v t st ms) (trees_mark v ts sts next)

kind_writes : (h : List Entry) (t : ℕ) (kind : TreeKind) → may_write_by kind (was_decided_as t true (places_of h)) ≡ may_write h t kind
kind_writes h t Update = refl
kind_writes h t Read = refl
kind_writes h t Strict = refl

write_from : (s : ScriptData) (h : List Entry) (x v t : ℕ) (ts : List Tree) → standing_write x v ts (standings_from s h t ts) ≡ trees_write h x v t ts
write_from s h x v t [] = refl
write_from s h x v t (tree ∷ ts) =
    ap (λ (b : Bool). ((is_version v (version_of h t) && b) && subs_change x tree.subs) || standing_write x v ts (standings_from s h (t + 1) ts))
    (kind_writes h t tree.kind)
    ∙ ap (λ (b : Bool). writes h x v t tree || b) (write_from s h x v (t + 1) ts)

pub length-standings_from : (s : ScriptData) (h : List Entry) (t : ℕ) (ts : List Tree) → length (standings_from s h t ts) ≡ length ts
length-standings_from s h t [] = refl
length-standings_from s h t (tree ∷ ts) = let rest = length-standings_from s h (t + 1) ts in grind arith

no_mark_get : (items : List ItemRow) (x : ℕ) → slice_get (no_marks items) x ≡ option_map (λ (row : ItemRow). false) (slice_get items x)
no_mark_get [] x = refl
no_mark_get (row ∷ rows) zero = refl
no_mark_get (row ∷ rows) (suc x) = no_mark_get rows x

at_false : (c : Bool) (o : Option ItemRow) → option_map (λ (b : Bool). b || c) (option_map (λ (row : ItemRow). false) o) ≡ option_map (λ (row : ItemRow). c) o
at_false c None = refl
at_false c (Some row) = refl

-- what `written_at` gives
pub written_all : (s : ScriptData) (h : List Entry) (v : ℕ) → mark_trees v s.trees (standings_of s h) (no_marks s.items) ≡ written_items s h v
written_all s h v =
    numbered s.items (λ (x : ℕ). is_written s h x v) (λ (x : ℕ) (o : Option ItemRow). standing_write x v s.trees (standings_of s h))
    (mark_trees v s.trees (standings_of s h) (no_marks s.items))
    (λ (x : ℕ). trees_mark v s.trees (standings_of s h) (no_marks s.items) x
    ∙ ap (λ (o : Option Bool). option_map (λ (b : Bool). b || standing_write x v s.trees (standings_of s h)) o) (no_mark_get s.items x)
    ∙ at_false (standing_write x v s.trees (standings_of s h)) (slice_get s.items x))
    (λ (x : ℕ). write_from s h x v 0 s.trees)

-- a deed that is done to the value of its item
on_item_there : (x : ℕ) (f : Value → Value) (ws : List Value) (d : Value) → x < length ws → slice_set ws x (f (get_or ws x d)) ≡ on_item x f ws
on_item_there x f [] d small = absurd (omega arith)
on_item_there zero f (w ∷ ws) d small = refl
on_item_there (suc x) f (w ∷ ws) d small = ap (λ (zs : List Value). w ∷ zs) (on_item_there x f ws d (omega arith))

pub done_there : (o : SubOp) (ws : List Value) (w d : Value) → o.item.0 < length ws → w ≡ after_deed o.deed (get_or ws o.item.0 d)
    → slice_set ws o.item.0 w ≡ all_after_op o ws
done_there o ws w d small e =
    ap (λ (one : Value). slice_set ws o.item.0 one) e ∙ on_item_there o.item.0 (after_deed o.deed) ws d small

pub on_item_past : (x : ℕ) (f : Value → Value) (ws : List Value) → length ws ≤ x → on_item x f ws ≡ ws
on_item_past x f [] small = refl
on_item_past zero f (w ∷ ws) small = absurd (omega arith)
on_item_past (suc x) f (w ∷ ws) small = ap (λ (zs : List Value). w ∷ zs) (on_item_past x f ws (omega arith))

on_item_kept : (x : ℕ) (f : Value → Value) (ws : List Value) (d : Value) → x < length ws → get_or ws x d ≡ f (get_or ws x d) → ws ≡ on_item x f ws
on_item_kept x f [] d small e = absurd (omega arith)
on_item_kept zero f (w ∷ ws) d small e = ap (λ (one : Value). one ∷ ws) e
on_item_kept (suc x) f (w ∷ ws) d small e = ap (λ (zs : List Value). w ∷ zs) (on_item_kept x f ws d (omega arith) e)

pub stays_there : (o : SubOp) (ws : List Value) (d : Value) → o.item.0 < length ws → get_or ws o.item.0 d ≡ after_deed o.deed (get_or ws o.item.0 d)
    → ws ≡ all_after_op o ws
stays_there o ws d small e = on_item_kept o.item.0 (after_deed o.deed) ws d small e

pub may_there : (o : SubOp) (ws : List Value) (d : Value) → o.item.0 < length ws → IsTrue (all_op_may o ws)
    → IsTrue (deed_may o.deed (get_or ws o.item.0 d))
may_there o ws d small h =
    subst (λ (one : Option Value). IsTrue (deed_may_at o.deed one)) (slice_get-get_or ws o.item.0 d small) h

-- for the initial values
pub first_step : (items : List ItemRow) (i : ℕ) → i < length items
    → first_values (drop i items) ≡ first_value (slice_get items i) ∷ first_values (drop (i + 1) items)
first_step [] i small = absurd (omega arith)
first_step (row ∷ rows) zero small = refl
first_step (row ∷ rows) (suc i) small =
    let e : suc (i + 1) ≡ suc i + 1 = omega arith in
    first_step rows i (omega arith) ∙ ap (λ (k : ℕ). first_value (slice_get rows i) ∷ first_values (drop k (row ∷ rows))) e

-- for the marks
pub ruleset marks = (written_all, length-standings_from)

pub ruleset on_items = (done_there, on_item_past, stays_there, may_there)
