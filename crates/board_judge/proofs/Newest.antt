-- The newest version in which an item was written, by the operations that have written it.
use Rattle.std.proofs.Common.{◌≡◌, ◌⊎◌, inl, inr, ◌==◌, ◌&&◌, ◌||◌, ℕ, zero, suc, ◌+◌, ◌<◌, ◌≤◌, Bool, true, false, List, [], ◌∷◌, refl, sym, ap, subst, ◌∙◌, arith, Option, Some, None, take, drop}
use Rattle.std.specs.Prelude.{if◌then◌else◌, fold, max, nat_le, slice_get}
use Rattle.std.specs.List.{list_any}
use Rattle.std.proofs.Math.Bool.{or-false}
use Rattle.std.proofs.lemmas.Bool.{and_from, and_parts, cases_lt, or_cases, or_left, or_right}
use Rattle.std.proofs.lemmas.Bool.Decides.{nat_tests}
use Rattle.std.proofs.lemmas.List.Folds.{list_any-append}
use Rattle.tv_base.proofs.Truths.{same_test}
use Rattle.letter_types.specs.declared.acts.Act.{Act}
use Rattle.letter_types.specs.declared.acts.Act.TheVariants.{Born, Did, Turned, Showed, Swept, Finished, Waits, Parked, Voted, Freed, Decided, Applied}
use Rattle.script_parts.specs.ScriptData.{ScriptData, is_strict, is_update, ops_of, sub_at, subs_at, updates}
use Rattle.script_parts.specs.declared.parts.Deed.{Deed}
use Rattle.script_parts.specs.declared.parts.Deed.TheVariants as deeds
use Rattle.script_parts.specs.declared.parts.Sub.{Sub}
use Rattle.script_parts.specs.declared.parts.SubOp.{SubOp}
use Rattle.script_parts.specs.declared.parts.Tree.{Tree}
use Rattle.script_parts.specs.declared.parts.TreeKind.{TreeKind}
use Rattle.board_rules.specs.ButCause.{IsMoveButCauseAt}
use Rattle.board_rules.specs.Histories.{Place, applies, decides_as, does, version_in, version_or, was_applied, was_decided_as, was_done}
use Rattle.board_rules.specs.Stands.{newest_of, written_by, written_in}
use Rattle.board_rules.specs.Worth.{changes, ops_change, subs_change}
use Rattle.board_rules.proofs.ActTests.{applies_as_is, applies_as_one, decides_as_is, does_is}
use Rattle.board_rules.proofs.Once.{clash, same_tests}
use Rattle.board_rules.proofs.Positions.{found_all, taken_is, there}
use Rattle.board_rules.proofs.ItemAt.{changed_in}
use Rattle.board_judge.specs.declared.users.User.{User}
use Rattle.board_judge.specs.Settled.{IsMoveRun}
use Rattle.board_judge.specs.inside.Users.{changes_in, has_written, is_tree_of, newest_by, ops_users, subs_users, tree_users, trees_users, user_of, users_of, version_by}
use Rattle.board_judge.proofs.Holding.{any_at, drop_head, drop_next}
use Rattle.script_parts.specs.Wants.{mode_wanted}

-- Numbers that pass the same thresholds are equal.
same_numbers : (a b : ℕ) → ((w : ℕ) → 0 < w → nat_le w a ≡ nat_le w b) → a ≡ b
same_numbers a b same = by (less a b (λ w lt. sym (same w lt))) (less b a same) where
  less : (m n : ℕ) → ((w : ℕ) → 0 < w → nat_le w n ≡ nat_le w m) → m ≤ n
  less zero n same = omega arith
  less (suc m) n same =
      let here : nat_le (suc m) n ≡ true = same (suc m) (omega arith) ∙ itself (suc m) in grind (arith, nat_tests) where
        itself : (k : ℕ) → nat_le k k ≡ true
        itself k = grind (arith, nat_tests)

  by : a ≤ b → b ≤ a → a ≡ b
  by up down = omega (arith, up, down)

le_max : (w a b : ℕ) → nat_le w (max a b) ≡ (nat_le w a || nat_le w b)
le_max w a b = grind (arith, nat_tests)

none_of : (w : ℕ) → 0 < w → nat_le w 0 ≡ false
none_of w lt = grind (arith, nat_tests)

-- a greatest number is at least w where the first one is, or one of the others
fold_at_least : (f : Place → ℕ) (w : ℕ) (xs : List Place) (a : ℕ)
    → nat_le w (fold (λ (v : ℕ) (y : Place). max v (f y)) a xs) ≡ (nat_le w a || list_any (λ (y : Place). nat_le w (f y)) xs)
fold_at_least f w [] a = sym (or-false (nat_le w a))
fold_at_least f w (y ∷ xs) a =
    fold_at_least f w xs (max a (f y)) ∙ ap (λ (b : Bool). b || list_any (λ (z : Place). nat_le w (f z)) xs) (le_max w a (f y))
    ∙ assoc (nat_le w a) (nat_le w (f y)) (list_any (λ (z : Place). nat_le w (f z)) xs) where
      assoc : (a b c : Bool) → ((a || b) || c) ≡ (a || (b || c))
      assoc true b c = refl
      assoc false b c = refl

-- the operation has written in a version of at least w
abbrev wrote_from : ScriptData → List Place → ℕ → ℕ → User → Bool
wrote_from s xs p w u = has_written s xs p u && nat_le w (version_by xs u)

newest_at_least : (s : ScriptData) (xs : List Place) (p w : ℕ) → 0 < w → (us : List User)
    → nat_le w (newest_by s xs p us) ≡ list_any (wrote_from s xs p w) us
newest_at_least s xs p w lt [] = none_of w lt
newest_at_least s xs p w lt (u ∷ us) = by (has_written s xs p u) (newest_at_least s xs p w lt us) where
  by : (b : Bool) → nat_le w (newest_by s xs p us) ≡ list_any (wrote_from s xs p w) us
      → nat_le w (if b then max (version_by xs u) (newest_by s xs p us) else newest_by s xs p us)
      ≡ ((b && nat_le w (version_by xs u)) || list_any (wrote_from s xs p w) us)
  by true rest = le_max w (version_by xs u) (newest_by s xs p us) ∙ ap (λ (b : Bool). nat_le w (version_by xs u) || b) rest
  by false rest = rest

-- Operations among those of an item.
mode_changes : (d : Deed) → changes_in (mode_wanted d) ≡ changes d
mode_changes (deeds.Apply op) = refl
mode_changes deeds.Get = refl
mode_changes (deeds.Set n) = refl
mode_changes (deeds.Draw n) = refl

-- where a test of an operation hangs on its subtransaction alone, and on whether it changes its item
on_ops : (test : User → Bool) (t j x : ℕ) (g : Bool) → ((o : SubOp) → test (user_of t j o) ≡ (changes o.deed && g)) → (os : List SubOp)
    → list_any test (ops_users t j x os) ≡ (ops_change x os && g)
on_ops test t j x g is [] = refl
on_ops test t j x g is (o ∷ os) = by (o.item.0 == x) (on_ops test t j x g is os) where
  join : (a b g : Bool) → ((a && g) || (b && g)) ≡ ((a || b) && g)
  join true true true = refl
  join true true false = refl
  join true false true = refl
  join true false false = refl
  join false b g = refl

  by : (here : Bool) → list_any test (ops_users t j x os) ≡ (ops_change x os && g)
      → list_any test (if here then user_of t j o ∷ ops_users t j x os else ops_users t j x os) ≡ (((here && changes o.deed) || ops_change x os) && g)
  by true rest = ap (λ (b : Bool). b || list_any test (ops_users t j x os)) (is o) ∙ ap (λ (b : Bool). (changes o.deed && g) || b) rest
      ∙ join (changes o.deed) (ops_change x os) g
  by false rest = rest

-- an operation of a subtransaction is one of its tree, and of the script
in_subs : (test : User → Bool) (t i j x : ℕ) (subs : List Sub) (sub : Sub) → slice_get subs j ≡ Some sub
    → list_any test (ops_users t (i + j) x sub.ops) ≡ true → list_any test (subs_users t i x subs) ≡ true
in_subs test t i j x [] sub at is = absurd (cc at)
in_subs test t i zero x (y ∷ subs) sub at is =
    let same : sub ≡ y = sym (cc at) in
    let none : i + 0 ≡ i = omega arith in
    list_any-append test (ops_users t i x y.ops) (subs_users t (suc i) x subs)
    ∙ or_left (list_any test (ops_users t i x y.ops)) (list_any test (subs_users t (suc i) x subs))
    (ap (λ (z : Sub). list_any test (ops_users t i x z.ops)) (sym same) ∙ ap (λ (m : ℕ). list_any test (ops_users t m x sub.ops)) (sym none) ∙ is)
in_subs test t i (suc j) x (y ∷ subs) sub at is =
    let next : i + suc j ≡ suc i + j = omega arith in
    list_any-append test (ops_users t i x y.ops) (subs_users t (suc i) x subs)
    ∙ or_right (list_any test (ops_users t i x y.ops)) (list_any test (subs_users t (suc i) x subs))
    (in_subs test t (suc i) j x subs sub at (ap (λ (m : ℕ). list_any test (ops_users t m x sub.ops)) (sym next) ∙ is))

in_trees : (of : TreeKind → Bool) (test : User → Bool) (i t x : ℕ) (trees : List Tree) (tree : Tree) → slice_get trees t ≡ Some tree
    → of tree.kind ≡ true → list_any test (subs_users (i + t) 0 x tree.subs) ≡ true → list_any test (trees_users of i x trees) ≡ true
in_trees of test i t x [] tree at kind is = absurd (cc at)
in_trees of test i zero x (y ∷ trees) tree at kind is =
    let same : tree ≡ y = sym (cc at) in
    let none : i + 0 ≡ i = omega arith in
    list_any-append test (tree_users of i x y) (trees_users of (suc i) x trees)
    ∙ or_left (list_any test (tree_users of i x y)) (list_any test (trees_users of (suc i) x trees))
    (ap (λ (z : Tree). list_any test (tree_users of i x z)) (sym same) ∙ rw kind refl ∙ ap (λ (m : ℕ). list_any test (subs_users m 0 x tree.subs)) (sym none) ∙ is)
in_trees of test i (suc t) x (y ∷ trees) tree at kind is =
    let next : i + suc t ≡ suc i + t = omega arith in
    list_any-append test (tree_users of i x y) (trees_users of (suc i) x trees)
    ∙ or_right (list_any test (tree_users of i x y)) (list_any test (trees_users of (suc i) x trees))
    (in_trees of test (suc i) t x trees tree at kind (ap (λ (m : ℕ). list_any test (subs_users m 0 x tree.subs)) (sym next) ∙ is))

of_tree : (of : TreeKind → Bool) (s : ScriptData) (test : User → Bool) (t x : ℕ) → is_tree_of of s t ≡ true
    → list_any test (subs_users t 0 x (subs_at s t)) ≡ true → list_any test (users_of of s x) ≡ true
of_tree of s test t x kind is = by (slice_get s.trees t) refl kind is where
  by : (found : Option Tree) → slice_get s.trees t ≡ found → elim found [ Some tree ↦ of tree.kind | None ↦ false ] ≡ true
      → list_any test (subs_users t 0 x (elim found [ Some tree ↦ tree.subs | None ↦ [] ])) ≡ true → list_any test (users_of of s x) ≡ true
  by None at so is_so = absurd (cc so)
  by (Some tree) at so is_so =
      let none : 0 + t ≡ t = omega arith in
      in_trees of test 0 t x s.trees tree at so (ap (λ (m : ℕ). list_any test (subs_users m 0 x tree.subs)) none ∙ is_so)

of_sub : (of : TreeKind → Bool) (s : ScriptData) (test : User → Bool) (t j x : ℕ) → is_tree_of of s t ≡ true
    → list_any test (ops_users t j x (ops_of s t j)) ≡ true → list_any test (users_of of s x) ≡ true
of_sub of s test t j x kind is = by (sub_at s t j) refl is where
  by : (found : Option Sub) → sub_at s t j ≡ found
      → list_any test (ops_users t j x (elim found [ Some sub ↦ sub.ops | None ↦ [] ])) ≡ true → list_any test (users_of of s x) ≡ true
  by None at so = absurd (cc so)
  by (Some sub) at so =
      let none : 0 + j ≡ j = omega arith in
      of_tree of s test t x kind (in_subs test t 0 j x (subs_at s t) sub at (ap (λ (m : ℕ). list_any test (ops_users t m x sub.ops)) none ∙ so))

-- Whose operation it is.
record InSubs (test : User → Bool) (t i x : ℕ) (subs : List Sub) : Type 0 where
  number : ℕ
  sub : Sub
  at : slice_get subs number ≡ Some sub
  is : list_any test (ops_users t (i + number) x sub.ops) ≡ true

which_sub : (test : User → Bool) (t i x : ℕ) (subs : List Sub) → list_any test (subs_users t i x subs) ≡ true → InSubs test t i x subs
which_sub test t i x [] is = absurd (cc is)
which_sub test t i x (y ∷ subs) is =
    by (which_sub test t (suc i) x subs)
    (or_cases (list_any test (ops_users t i x y.ops)) (list_any test (subs_users t (suc i) x subs))
    (sym (list_any-append test (ops_users t i x y.ops) (subs_users t (suc i) x subs)) ∙ is)) where
      by : (list_any test (subs_users t (suc i) x subs) ≡ true → InSubs test t (suc i) x subs)
          → (list_any test (ops_users t i x y.ops) ≡ true) ⊎ (list_any test (subs_users t (suc i) x subs) ≡ true) → InSubs test t i x (y ∷ subs)
      by rest (inl here) =
          let none : i + 0 ≡ i = omega arith in
          record { number = 0; sub = y; at = refl; is = ap (λ (m : ℕ). list_any test (ops_users t m x y.ops)) none ∙ here }
      by rest (inr later) =
          let r = rest later in
          let next : i + suc r.number ≡ suc i + r.number = omega arith in
          record { number = suc r.number; sub = r.sub; at = r.at; is = ap (λ (m : ℕ). list_any test (ops_users t m x r.sub.ops)) next ∙ r.is }

record InTree (s : ScriptData) (test : User → Bool) (x : ℕ) : Type 0 where
  tree : ℕ
  number : ℕ
  is : list_any test (ops_users tree number x (ops_of s tree number)) ≡ true

which_tree : (of : TreeKind → Bool) (s : ScriptData) (test : User → Bool) (x k : ℕ) (trees : List Tree) → drop k s.trees ≡ trees
    → list_any test (trees_users of k x trees) ≡ true → InTree s test x
which_tree of s test x k [] from is = absurd (cc is)
which_tree of s test x k (tree ∷ trees) from is =
    by (which_tree of s test x (suc k) trees (drop_next k s.trees tree trees from))
    (or_cases (list_any test (tree_users of k x tree)) (list_any test (trees_users of (suc k) x trees))
    (sym (list_any-append test (tree_users of k x tree) (trees_users of (suc k) x trees)) ∙ is)) where
      kept : (b : Bool) → list_any test (if b then subs_users k 0 x tree.subs else []) ≡ true → list_any test (subs_users k 0 x tree.subs) ≡ true
      kept true so = so
      kept false so = absurd (cc so)

      by : (list_any test (trees_users of (suc k) x trees) ≡ true → InTree s test x)
          → (list_any test (tree_users of k x tree) ≡ true) ⊎ (list_any test (trees_users of (suc k) x trees) ≡ true) → InTree s test x
      by rest (inr later) = rest later
      by rest (inl here) =
          let w = which_sub test k 0 x tree.subs (kept (of tree.kind) here) in
          let none : 0 + w.number ≡ w.number = omega arith in
          let found : sub_at s k w.number ≡ Some w.sub
          = ap (λ (o : Option Tree). slice_get (elim o [ Some one ↦ one.subs | None ↦ [] ]) w.number) (drop_head k s.trees tree trees from) ∙ w.at in
          record {
            tree = k;
            number = w.number;
            is = ap (λ (o : Option Sub). list_any test (ops_users k w.number x (elim o [ Some sub ↦ sub.ops | None ↦ [] ]))) found
                ∙ ap (λ (m : ℕ). list_any test (ops_users k m x w.sub.ops)) (sym none) ∙ w.is;
          }

-- What has written.
abbrev writing : ScriptData → List Place → ℕ → ℕ → ℕ → ℕ → Bool
writing s xs p w t j =
    ((updates s t && was_done t j xs) || (was_decided_as t true xs && was_applied t p xs)) && nat_le w (version_or 0 (version_in t xs))

wrote_op : (s : ScriptData) (xs : List Place) (p w t j : ℕ) (o : SubOp)
    → wrote_from s xs p w (user_of t j o) ≡ (changes o.deed && writing s xs p w t j)
wrote_op s xs p w t j o =
    ap (λ (b : Bool). (b && ((updates s t && was_done t j xs) || (was_decided_as t true xs && was_applied t p xs))) && nat_le w (version_or 0 (version_in t xs))) (mode_changes o.deed)
    ∙ assoc (changes o.deed) ((updates s t && was_done t j xs) || (was_decided_as t true xs && was_applied t p xs)) (nat_le w (version_or 0 (version_in t xs))) where
      assoc : (a b c : Bool) → ((a && b) && c) ≡ (a && (b && c))
      assoc true b c = refl
      assoc false b c = refl

wrote_ops : (s : ScriptData) (xs : List Place) (p w t j x : ℕ) (os : List SubOp)
    → list_any (wrote_from s xs p w) (ops_users t j x os) ≡ (ops_change x os && writing s xs p w t j)
wrote_ops s xs p w t j x os = on_ops (wrote_from s xs p w) t j x (writing s xs p w t j) (wrote_op s xs p w t j) os

-- a tree that changes the item has a subtransaction that does
record Changer (x i : ℕ) (subs : List Sub) : Type 0 where
  number : ℕ
  sub : Sub
  at : slice_get subs number ≡ Some sub
  changed : ops_change x sub.ops ≡ true

changer : (x i : ℕ) (subs : List Sub) → subs_change x subs ≡ true → Changer x i subs
changer x i [] is = absurd (cc is)
changer x i (y ∷ subs) is = by (changer x (suc i) subs) (or_cases (ops_change x y.ops) (subs_change x subs) is) where
  by : (subs_change x subs ≡ true → Changer x (suc i) subs) → (ops_change x y.ops ≡ true) ⊎ (subs_change x subs ≡ true) → Changer x i (y ∷ subs)
  by rest (inl here) = record { number = 0; sub = y; at = refl; changed = here }
  by rest (inr later) = let r = rest later in record { number = suc r.number; sub = r.sub; at = r.at; changed = r.changed }

if_some : (b : Bool) (w n : ℕ) → 0 < w → nat_le w (if b then n else 0) ≡ true → (b ≡ true) × (nat_le w n ≡ true)
if_some true w n lt is = (refl, is)
if_some false w n lt is = absurd (let no_one = none_of w lt in cc (is, no_one))

-- what an act has written, an operation has
by_place : (s : ScriptData) (xs : List Place) (p w x i q : ℕ) (a : Act) → 0 < w → IsMoveRun s xs → slice_get xs i ≡ Some (record { node = q; act = a })
    → nat_le w (written_by s xs x (q == p) a) ≡ true
    → (list_any (wrote_from s xs p w) (users_of is_update s x) || list_any (wrote_from s xs p w) (users_of is_strict s x)) ≡ true
by_place s xs p w x i q (Did t j values) lt run at is =
    let c = if_some (updates s t.0 && ops_change x (ops_of s t.0 j.0)) w (version_or 0 (version_in t.0 xs)) lt is in
    let parts = and_parts (updates s t.0) (ops_change x (ops_of s t.0 j.0)) c.0 in
    let done : was_done t.0 j.0 xs ≡ true
    = any_at (λ (y : Place). does t.0 j.0 y.act) xs i (record { node = q; act = Did t j values }) at
    (and_from (t.0 == t.0) (j.0 == j.0) (same_test t.0) (same_test j.0)) in
    or_left (list_any (wrote_from s xs p w) (users_of is_update s x)) (list_any (wrote_from s xs p w) (users_of is_strict s x))
    (of_sub is_update s (wrote_from s xs p w) t.0 j.0 x parts.0
    (wrote_ops s xs p w t.0 j.0 x (ops_of s t.0 j.0)
    ∙ and_from (ops_change x (ops_of s t.0 j.0)) (writing s xs p w t.0 j.0) parts.1
    (and_from ((updates s t.0 && was_done t.0 j.0 xs) || (was_decided_as t.0 true xs && was_applied t.0 p xs)) (nat_le w (version_or 0 (version_in t.0 xs)))
    (or_left (updates s t.0 && was_done t.0 j.0 xs) (was_decided_as t.0 true xs && was_applied t.0 p xs) (and_from (updates s t.0) (was_done t.0 j.0 xs) parts.0 done)) c.1)))
by_place s xs p w x i q (Applied t commit) lt run at is =
    let c = if_some ((q == p) && (commit && subs_change x (subs_at s t.0))) w (version_or 0 (version_in t.0 xs)) lt is in
    let parts = and_parts (q == p) (commit && subs_change x (subs_at s t.0)) c.0 in
    let more = and_parts commit (subs_change x (subs_at s t.0)) parts.1 in
    let move = run i (record { node = q; act = Applied t commit }) at in
    let decided : was_decided_as t.0 true (take i xs) ≡ true = subst (λ (b : Bool). was_decided_as t.0 b (take i xs) ≡ true) more.0 move.decided in
    let committed : was_decided_as t.0 true xs ≡ true
    = (let f = found_all (λ (y : Place). decides_as t.0 true y.act) (take i xs) decided in
    let old = taken_is xs i f.place f.item f.is in
    any_at (λ (y : Place). decides_as t.0 true y.act) xs f.place f.item old.1 f.passes) in
    let applied : was_applied t.0 p xs ≡ true
    = any_at (λ (y : Place). (y.node == p) && applies t.0 y.act) xs i (record { node = q; act = Applied t commit }) at
    (and_from (q == p) (t.0 == t.0) parts.0 (same_test t.0)) in
    let k = changer x 0 (subs_at s t.0) more.1 in
    let ops : ops_change x (ops_of s t.0 k.number) ≡ true
    = ap (λ (o : Option Sub). ops_change x (elim o [ Some sub ↦ sub.ops | None ↦ [] ])) k.at ∙ k.changed in
    or_right (list_any (wrote_from s xs p w) (users_of is_update s x)) (list_any (wrote_from s xs p w) (users_of is_strict s x))
    (of_sub is_strict s (wrote_from s xs p w) t.0 k.number x move.strict
    (wrote_ops s xs p w t.0 k.number x (ops_of s t.0 k.number)
    ∙ and_from (ops_change x (ops_of s t.0 k.number)) (writing s xs p w t.0 k.number) ops
    (and_from ((updates s t.0 && was_done t.0 k.number xs) || (was_decided_as t.0 true xs && was_applied t.0 p xs)) (nat_le w (version_or 0 (version_in t.0 xs)))
    (or_right (updates s t.0 && was_done t.0 k.number xs) (was_decided_as t.0 true xs && was_applied t.0 p xs) (and_from (was_decided_as t.0 true xs) (was_applied t.0 p xs) committed applied)) c.1)))
by_place s xs p w x i q (Born u v) lt run at is = absurd (let no_one = none_of w lt in cc (is, no_one))
by_place s xs p w x i q (Turned v) lt run at is = absurd (let no_one = none_of w lt in cc (is, no_one))
by_place s xs p w x i q (Showed v) lt run at is = absurd (let no_one = none_of w lt in cc (is, no_one))
by_place s xs p w x i q (Swept v) lt run at is = absurd (let no_one = none_of w lt in cc (is, no_one))
by_place s xs p w x i q Finished lt run at is = absurd (let no_one = none_of w lt in cc (is, no_one))
by_place s xs p w x i q (Waits u b c) lt run at is = absurd (let no_one = none_of w lt in cc (is, no_one))
by_place s xs p w x i q (Parked u b c h) lt run at is = absurd (let no_one = none_of w lt in cc (is, no_one))
by_place s xs p w x i q (Voted u b c) lt run at is = absurd (let no_one = none_of w lt in cc (is, no_one))
by_place s xs p w x i q (Freed u) lt run at is = absurd (let no_one = none_of w lt in cc (is, no_one))
by_place s xs p w x i q (Decided u d) lt run at is = absurd (let no_one = none_of w lt in cc (is, no_one))

-- and the other way round
if_all : (b : Bool) (w n : ℕ) → b ≡ true → nat_le w n ≡ true → nat_le w (if b then n else 0) ≡ true
if_all true w n so is = is
if_all false w n so is = absurd (cc so)

one_decision : (s : ScriptData) (xs : List Place) (t : ℕ) (i : ℕ) (commit : Bool) → IsMoveRun s xs → was_decided_as t true xs ≡ true
    → was_decided_as t commit (take i xs) ≡ true → commit ≡ true
one_decision s xs t i true run committed decided = refl
one_decision s xs t i false run committed decided =
    let f = found_all (λ (y : Place). decides_as t true y.act) xs committed in
    let yes_act = decides_as_is t true f.item.act f.passes in
    let yes_move = subst (IsMoveButCauseAt s [] (take f.place xs) f.item.node) yes_act (run f.place f.item f.is) in
    let g = found_all (λ (y : Place). decides_as t false y.act) (take i xs) decided in
    let old = taken_is xs i g.place g.item g.is in
    let no_act = decides_as_is t false g.item.act g.passes in
    let no_move = subst (IsMoveButCauseAt s [] (take g.place xs) g.item.node) no_act (run g.place g.item old.1) in
    elim (cases_lt f.place g.place) [
      | inl early ↦
          clash (was_decided_as t true (take g.place xs))
          (there (λ (y : Place). decides_as t true y.act) xs f.place g.place f.item f.is f.passes early) (no_move.once true)
      | inr late ↦ later f.place g.place f.item g.item f.is old.1 yes_act no_act yes_move.once late
    ] where
      later : (a b : ℕ) (y z : Place) → slice_get xs a ≡ Some y → slice_get xs b ≡ Some z → y.act ≡ Decided (record { 0 = t }) true
          → z.act ≡ Decided (record { 0 = t }) false → ((c : Bool) → was_decided_as t c (take a xs) ≡ false) → b ≤ a → false ≡ true
      later a b y z at bt is so once le = by (cases_lt b a) where
        by : (b < a) ⊎ (a ≤ b) → false ≡ true
        by (inl lt) =
            clash (was_decided_as t false (take a xs))
            (there (λ (w : Place). decides_as t false w.act) xs b a z bt (rw (so, same_test t) refl) lt) (once false)
        by (inr ge) =
            let same : a ≡ b = omega (arith, le, ge) in
            let one : y ≡ z = (let two : Some y ≡ Some z = sym at ∙ ap (slice_get xs) same ∙ bt in cc two) in
            let acts : Decided (record { 0 = t }) true ≡ Decided (record { 0 = t }) false = sym is ∙ ap (λ (w : Place). w.act) one ∙ so in
            absurd (cc acts)

by_user : (of : TreeKind → Bool) (s : ScriptData) (xs : List Place) (p w x : ℕ) → 0 < w → IsMoveRun s xs
    → list_any (wrote_from s xs p w) (users_of of s x) ≡ true
    → list_any (λ (y : Place). nat_le w (written_in s xs p x y)) xs ≡ true
by_user of s xs p w x lt run is =
    let u = which_tree of s (wrote_from s xs p w) x 0 s.trees refl is in
    let all = sym (wrote_ops s xs p w u.tree u.number x (ops_of s u.tree u.number)) ∙ u.is in
    let parts = and_parts (ops_change x (ops_of s u.tree u.number)) (writing s xs p w u.tree u.number) all in
    let how = and_parts ((updates s u.tree && was_done u.tree u.number xs) || (was_decided_as u.tree true xs && was_applied u.tree p xs)) (nat_le w (version_or 0 (version_in u.tree xs))) parts.1 in
    elim (or_cases (updates s u.tree && was_done u.tree u.number xs) (was_decided_as u.tree true xs && was_applied u.tree p xs) how.0) [
      | inl d ↦
          let two = and_parts (updates s u.tree) (was_done u.tree u.number xs) d in
          let f = found_all (λ (y : Place). does u.tree u.number y.act) xs two.1 in
          let act = does_is u.tree u.number f.item.act f.passes in
          any_at (λ (y : Place). nat_le w (written_in s xs p x y)) xs f.place f.item f.is
          (ap (λ (a : Act). nat_le w (written_by s xs x (f.item.node == p) a)) act.1
          ∙ if_all (updates s u.tree && ops_change x (ops_of s u.tree u.number)) w (version_or 0 (version_in u.tree xs))
          (and_from (updates s u.tree) (ops_change x (ops_of s u.tree u.number)) two.0 parts.0) how.1)
      | inr c ↦
          let two = and_parts (was_decided_as u.tree true xs) (was_applied u.tree p xs) c in
          let f = found_all (λ (y : Place). (y.node == p) && applies u.tree y.act) xs two.1 in
          let here = and_parts (f.item.node == p) (applies u.tree f.item.act) f.passes in
          let one = applies_as_one u.tree f.item.act here.1 in
          let act = applies_as_is u.tree one.0 f.item.act one.1 in
          let move = subst (IsMoveButCauseAt s [] (take f.place xs) f.item.node) act (run f.place f.item f.is) in
          let commit = one_decision s xs u.tree f.place one.0 run two.0 move.decided in
          let changed = of_ops u.tree u.number (sub_at s u.tree u.number) refl parts.0 in
          any_at (λ (y : Place). nat_le w (written_in s xs p x y)) xs f.place f.item f.is
          (ap (λ (a : Act). nat_le w (written_by s xs x (f.item.node == p) a)) act
          ∙ if_all ((f.item.node == p) && (one.0 && subs_change x (subs_at s u.tree))) w (version_or 0 (version_in u.tree xs))
          (and_from (f.item.node == p) (one.0 && subs_change x (subs_at s u.tree)) here.0 (and_from one.0 (subs_change x (subs_at s u.tree)) commit changed)) how.1)
    ] where
      of_ops : (t j : ℕ) (found : Option Sub) → sub_at s t j ≡ found → ops_change x (elim found [ Some sub ↦ sub.ops | None ↦ [] ]) ≡ true
          → subs_change x (subs_at s t) ≡ true
      of_ops t j None at so = absurd (cc so)
      of_ops t j (Some sub) at so = changed_in x j (subs_at s t) sub at so

pub newest_is : (s : ScriptData) (xs : List Place) (p x : ℕ) → IsMoveRun s xs
    → max (newest_by s xs p (users_of is_update s x)) (newest_by s xs p (users_of is_strict s x)) ≡ newest_of s xs p x
newest_is s xs p x run =
    same_numbers (max (newest_by s xs p (users_of is_update s x)) (newest_by s xs p (users_of is_strict s x))) (newest_of s xs p x)
    (λ w lt.
    le_max w (newest_by s xs p (users_of is_update s x)) (newest_by s xs p (users_of is_strict s x))
    ∙ ap (λ (b : Bool). b || nat_le w (newest_by s xs p (users_of is_strict s x))) (newest_at_least s xs p w lt (users_of is_update s x))
    ∙ ap (λ (b : Bool). list_any (wrote_from s xs p w) (users_of is_update s x) || b) (newest_at_least s xs p w lt (users_of is_strict s x))
    ∙ same_tests (list_any (wrote_from s xs p w) (users_of is_update s x) || list_any (wrote_from s xs p w) (users_of is_strict s x))
    (list_any (λ (y : Place). nat_le w (written_in s xs p x y)) xs)
    (λ is. elim (or_cases (list_any (wrote_from s xs p w) (users_of is_update s x)) (list_any (wrote_from s xs p w) (users_of is_strict s x)) is) [
      | inl up ↦ by_user is_update s xs p w x lt run up
      | inr strict ↦ by_user is_strict s xs p w x lt run strict
    ])
    (λ is. let f = found_all (λ (y : Place). nat_le w (written_in s xs p x y)) xs is in by_place s xs p w x f.place f.item.node f.item.act lt run f.is f.passes)
    ∙ sym (fold_at_least (written_in s xs p x) w xs 0 ∙ ap (λ (b : Bool). b || list_any (λ (y : Place). nat_le w (written_in s xs p x y)) xs) (none_of w lt)))
