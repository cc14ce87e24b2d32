-- A record more lets a script that has gone on go on further.
use Rattle.std.proofs.Common.{◌≡◌, ℕ, ◌+◌, ◌<◌, ◌∙◌, Bool, true, false, not, List, [], ◌∷◌, ◌++◌, length, refl, sym, ap, subst, arith, append_assoc, append-nil, length-append, Option, Some, None}
use Rattle.std.specs.Prelude.{if◌then◌else◌, Result, Ok, Err, nat_le, nat_lt, ◌==◌}
use Rattle.tv_base.specs.declared.numbers.NodeNo.{NodeNo}
use Rattle.script_parts.specs.Adding.{advances_in, are_crowded, has_no_op_left, has_no_sub_left, has_no_tree_left, has_touched, is_heavy, item_kind_at, last_kind, last_may_fail, last_node, last_subs, loses_in, names_tree, node_at, adds_op_at, failed_tree, on_last, on_last_sub, place_of, push_op, push_sub, rooted, taken_unless, with_failed, with_op, with_row, with_sub, with_tree}
use Rattle.script_parts.specs.Ranges.{is_in_range}
use Rattle.script_parts.specs.ScriptData.{ScriptData}
use Rattle.script_parts.specs.declared.parts.Deed.{Deed}
use Rattle.script_parts.specs.declared.parts.ScriptRow.{ScriptRow}
use Rattle.script_parts.specs.declared.parts.ScriptRow.TheVariants as rows
use Rattle.script_parts.specs.declared.parts.Tree.{Tree}
use Rattle.script_parts.specs.declared.parts.TreeKind.{TreeKind}
use Rattle.script_parts.specs.declared.why.Why.{Why}
use Rattle.script_parts.specs.declared.why.Why.TheVariants as why
use Rattle.script_parts.specs.Amounts.{magnitude}
use Rattle.script_parts.specs.Forms.{most_amount}
use Rattle.script_parts.specs.Names.{is_name}
use Rattle.script_parts.specs.Valid.{deed_fits, load}
use Rattle.growth_laws.specs.Adding.{HasGrown, HasOneMore, OfAdvance, OfFail, OfLose, OfOp, OfSettle, OfSub, OfTree, RecordsGrow}
use Rattle.growth_laws.specs.Growth.{IsFront}

-- what was taken
taken_by : {A : Type 0} (b : Bool) (w : Why) (rest : Result A Why) (new u : A) → (if b then Err w else rest) ≡ Ok u → (rest ≡ Ok u → u ≡ new)
    → u ≡ new
taken_by true w rest new u is later = absurd (cc is)
taken_by false w rest new u is later = later is

taken : {A : Type 0} (cs : List (Bool × Why)) (new u : A) → taken_unless cs new ≡ Ok u → u ≡ new
taken [] new u is = sym (cc is)
taken {A} (c ∷ cs) new u is = taken_by c.0 c.1 (taken_unless cs new) new u is (taken cs new u)

-- the first condition didn't hold, and the second
first_fails : {A : Type 0} (a : Bool) (v : Why) (cs : List (Bool × Why)) (new u : A) → taken_unless ((a, v) ∷ cs) new ≡ Ok u → a ≡ false
first_fails true v cs new u is = absurd (cc is)
first_fails false v cs new u is = refl

second_fails : {A : Type 0} (a b : Bool) (v w : Why) (cs : List (Bool × Why)) (new u : A)
    → taken_unless ((a, v) ∷ (b, w) ∷ cs) new ≡ Ok u → b ≡ false
second_fails true b v w cs new u is = absurd (cc is)
second_fails false b v w cs new u is = first_fails b w cs new u is

was_begun : (b : Bool) → not b ≡ false → b ≡ true
was_begun true is = refl
was_begun false is = absurd (cc is)

-- the last of two lists, where the second has one
last_of_more : {X : Type 0} (f : X → X) (xs more : List X) → 0 < length more → on_last f (xs ++ more) ≡ xs ++ on_last f more
last_of_more f [] more some = refl
last_of_more f (x ∷ []) [] some = absurd (omega arith)
last_of_more f (x ∷ []) (y ∷ ys) some = refl
last_of_more f (x ∷ z ∷ zs) more some = ap (λ vs. x ∷ vs) (last_of_more f (z ∷ zs) more some)

on_last_some : {X : Type 0} (f : X → X) (xs : List X) → 0 < length xs → 0 < length (on_last f xs)
on_last_some f [] some = absurd (omega arith)
on_last_some f (x ∷ []) some = omega arith
on_last_some f (x ∷ y ∷ ys) some = omega arith

-- a record that changes the last tree
on_changed : (s t u : ScriptData) (f : Tree → Tree) (b : Bool) → HasGrown s t → t.begun ≡ true
    → u ≡ record t { trees = on_last f t.trees; begun = b } → HasGrown s u
on_changed s t u f b g begun is = subst (λ (x : ScriptData). HasGrown s x) (sym is) (record {
  form = g.form;
  nodes = g.nodes;
  items = g.items;
  picks = g.picks;
  more = on_last f g.more;
  trees = ap (λ (ts : List Tree). on_last f ts) g.trees ∙ last_of_more f s.trees g.more (g.begun begun);
  rows = g.rows;
  begun = λ _. on_last_some f g.more (g.begun begun);
})

more_rows : (xs ys : List ScriptRow) (r : ScriptRow) → IsFront xs ys → IsFront xs (ys ++ r ∷ [])
more_rows xs ys r g = (g.0 ++ r ∷ [], ap (λ (zs : List ScriptRow). zs ++ r ∷ []) g.1 ∙ append_assoc xs g.0 (r ∷ []))

on_row : (s t u : ScriptData) (r : ScriptRow) → HasGrown s t → u ≡ with_row t r → HasGrown s u
on_row s t u r g is = subst (λ (x : ScriptData). HasGrown s x) (sym is) (record {
  form = g.form;
  nodes = g.nodes;
  items = g.items;
  picks = g.picks;
  more = g.more;
  trees = g.trees;
  rows = more_rows s.rows t.rows r g.rows;
  begun = λ no_tree. absurd (cc no_tree);
})

on_tree : (s t u : ScriptData) (name : List ℕ) (kind : TreeKind) (node : NodeNo) → HasGrown s t → u ≡ with_tree t name kind node → HasGrown s u
on_tree s t u name kind node g is = subst (λ (x : ScriptData). HasGrown s x) (sym is) (record {
  form = g.form;
  nodes = g.nodes;
  items = g.items;
  picks = g.picks;
  more = g.more ++ rooted name kind node ∷ [];
  trees = ap (λ (ts : List Tree). ts ++ rooted name kind node ∷ []) g.trees ∙ append_assoc s.trees g.more (rooted name kind node ∷ []);
  rows = more_rows s.rows t.rows (rows.Tree (record { 0 = length t.trees })) g.rows;
  begun = λ _. omega (arith, length-append g.more (rooted name kind node ∷ []));
})

-- Why a record is refused.
abbrev op_refused : ScriptData → ℕ → Deed → List (Bool × Why)
op_refused t k deed =
    (not (node_at k t.items == last_node t.trees), why.WrongNode)
    ∷ (not (deed_fits (last_kind t.trees) (item_kind_at k t.items) deed), why.WrongKind)
    ∷ (has_no_op_left k deed t.trees, why.TooMany)
    ∷ (nat_lt (most_amount t.form) (load k t + magnitude deed), why.TooMuch)
    ∷ (has_touched k t.trees, why.ItemTwice) ∷ []

on_op : (s t u : ScriptData) (found : Option ℕ) (deed : Deed) → HasGrown s t → adds_op_at t found deed ≡ Ok u → HasGrown s u
on_op s t u None deed g is = absurd (cc is)
on_op s t u (Some k) deed g is =
    on_changed s t u (on_last_sub (push_op (record { item = record { 0 = k }; deed = deed }))) true g
    (was_begun t.begun (first_fails (not t.begun) why.NoTree (op_refused t k deed) (with_op t k deed) u is))
    (taken ((not t.begun, why.NoTree) ∷ op_refused t k deed) (with_op t k deed) u is)

by_range : (s t u : ScriptData) (b : Bool) (found : Option ℕ) (deed : Deed) (w : Why) → HasGrown s t
    → (if b then adds_op_at t found deed else Err w) ≡ Ok u → HasGrown s u
by_range s t u true found deed w g is = on_op s t u found deed g is
by_range s t u false found deed w g is = absurd (cc is)

abbrev tree_refused : ScriptData → List ℕ → TreeKind → NodeNo → List (Bool × Why)
tree_refused t name kind node =
    (nat_le t.nodes node.0, why.OutOfRange)
    ∷ (not (is_name name), why.BadName)
    ∷ (names_tree name t.trees, why.NameTaken)
    ∷ (has_no_tree_left t.nodes kind t.trees, why.TooMany) ∷ []

abbrev sub_refused : ScriptData → ℕ → List (Bool × Why)
sub_refused t parent = (nat_le (last_subs t.trees) parent, why.BadParent) ∷ (has_no_sub_left t.trees, why.TooMany) ∷ []

abbrev fail_refused : ScriptData → ℕ → List (Bool × Why)
fail_refused t k =
    (nat_le (last_subs t.trees) k, why.BadParent)
    ∷ (not (last_may_fail t.trees), why.WrongKind)
    ∷ (are_crowded (with_failed t k).trees, why.TooMany)
    ∷ (is_heavy (with_failed t k), why.TooMuch) ∷ []

next : (s t u : ScriptData) → HasGrown s t → HasOneMore t u → HasGrown s u
next s t u g (OfTree name kind node is) =
    on_tree s t u name kind node g (taken (tree_refused t name kind node) (with_tree t name kind node) u is)
next s t u g (OfSub parent node is) =
    let near : Bool = nat_le t.nodes node.0 in
    on_changed s t u (push_sub (record { parent = record { 0 = parent }; node = node; ops = [] })) true g
    (was_begun t.begun (second_fails near (not t.begun) why.OutOfRange why.NoTree (sub_refused t parent) (with_sub t parent node) u is))
    (taken ((near, why.OutOfRange) ∷ (not t.begun, why.NoTree) ∷ sub_refused t parent) (with_sub t parent node) u is)
next s t u g (OfOp name deed is) = by_range s t u (is_in_range t.form deed) (place_of name t.items) deed why.OutOfRange g is
next s t u g (OfFail k is) =
    on_changed s t u (failed_tree k) false g
    (was_begun t.begun (first_fails (not t.begun) why.NoTree (fail_refused t k) (with_failed t k) u is))
    (taken ((not t.begun, why.NoTree) ∷ fail_refused t k) (with_failed t k) u is)
next s t u g (OfAdvance is) =
    on_row s t u rows.Advance g (taken ((nat_le 100 (advances_in t.rows), why.TooMany) ∷ []) (with_row t rows.Advance) u is)
next s t u g (OfSettle is) = on_row s t u rows.Settle g (sym (cc is))
next s t u g (OfLose is) = on_row s t u rows.Lose g (taken ((nat_le 100 (loses_in t.rows), why.TooMany) ∷ []) (with_row t rows.Lose) u is)

first : (s : ScriptData) → s.begun ≡ false → HasGrown s s
first s rests = record {
  form = refl;
  nodes = refl;
  items = refl;
  picks = refl;
  more = [];
  trees = sym (append-nil s.trees);
  rows = ([], sym (append-nil s.rows));
  begun = λ begun. absurd (let none : true ≡ false = sym begun ∙ rests in cc none);
}

pub records_grow : RecordsGrow
records_grow = record {
  first = first;
  next = next;
  extends = λ s t g strict lossy. record {
    form = g.form;
    nodes = g.nodes;
    items = g.items;
    picks = g.picks;
    trees = (g.more, g.trees);
    rows = g.rows;
    strict = strict;
    lossy = lossy;
  };
}
