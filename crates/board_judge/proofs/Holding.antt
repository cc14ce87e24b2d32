-- The holder that the look back names is the transaction of the first operation on the item that stands against the
-- need.
use Rattle.std.proofs.Common.{◌≡◌, ◌⊎◌, inl, inr, ◌==◌, ◌&&◌, ◌||◌, ℕ, zero, suc, ◌+◌, ◌≤◌, Bool, true, false, List, [], ◌∷◌, ◌++◌, length, refl, sym, ap, subst, ◌∙◌, arith, Option, Some, None, take, drop, append_assoc}
use Rattle.std.specs.Prelude.{if◌then◌else◌, cond, filter, map, min, not, slice_get}
use Rattle.std.specs.List.{list_any}
use Rattle.std.proofs.lemmas.Bool.{and_from, and_parts, eqb-true, false_from_ne_true, or_cases, or_left, or_right}
use Rattle.std.proofs.lemmas.List.{take_all}
use Rattle.std.proofs.lemmas.List.Folds.{list_any-append}
use Rattle.std.proofs.lemmas.Option.{slice_get_within}
use Rattle.tv_base.proofs.Truths.{left_true, right_true, same_test}
use Rattle.letter_types.specs.declared.acts.Act.{Act}
use Rattle.letter_types.specs.declared.acts.Act.TheVariants.{Born, Did, Turned, Showed, Swept, Finished, Waits, Parked, Voted, Freed, Decided, Applied}
use Rattle.letter_types.specs.declared.votes.Vote.TheVariants.{Yes, No}
use Rattle.nc_locks.specs.Modes.{modes_conflict}
use Rattle.nc_locks.specs.declared.modes.Mode.{Mode}
use Rattle.nc_locks.specs.declared.modes.Mode.TheVariants.{Mark}
use Rattle.script_parts.specs.Wants.{mode_wanted}
use Rattle.script_parts.specs.ScriptData.{ScriptData, is_strict, is_update, ops_of, sub_at, subs_at, updates}
use Rattle.script_parts.specs.Valid.{IsValid}
use Rattle.script_parts.specs.declared.parts.Sub.{Sub}
use Rattle.script_parts.specs.declared.parts.SubOp.{SubOp}
use Rattle.script_parts.specs.declared.parts.Tree.{Tree}
use Rattle.script_parts.specs.declared.parts.TreeKind.{TreeKind}
use Rattle.board_rules.specs.ButCause.{IsMoveButCauseAt}
use Rattle.board_rules.specs.Histories.{Place, does, is_strict_tree, was_done}
use Rattle.board_rules.specs.Stands.{conflicts_with, holder_of, least_from, locked_by, modes_on, votes_yes, voted_yes}
use Rattle.board_rules.proofs.ActTests.{does_is, votes_yes_is}
use Rattle.board_rules.proofs.Holders.{least_of_none}
use Rattle.board_rules.proofs.NoVotes.{AreMarking, updates_mark}
use Rattle.board_rules.proofs.Once.{clash, same_tests}
use Rattle.board_rules.proofs.Positions.{found_all, there}
use Rattle.board_judge.specs.declared.users.User.{User}
use Rattle.board_judge.specs.Settled.{IsMoveRun}
use Rattle.board_judge.specs.inside.Users.{any_taken, first_tree, has_taken, is_tree_of, lesser_number, ops_users, stands_against, subs_users, trees_users, user_of, users_of, was_let_go}
use Rattle.board_judge.proofs.StandingNow.{locks_on, stands_where}

-- a list from a place on
pub drop_head : {A : Type 0} (k : ℕ) (xs : List A) (y : A) (ys : List A) → drop k xs ≡ y ∷ ys → slice_get xs k ≡ Some y
drop_head zero [] y ys is = absurd (cc is)
drop_head (suc k) [] y ys is = absurd (cc is)
drop_head {A} zero (x ∷ xs) y ys is = let same : x ≡ y = cc is in ap (λ (z : A). Some z) same
drop_head (suc k) (x ∷ xs) y ys is = drop_head k xs y ys is

pub drop_next : {A : Type 0} (k : ℕ) (xs : List A) (y : A) (ys : List A) → drop k xs ≡ y ∷ ys → drop (suc k) xs ≡ ys
drop_next zero [] y ys is = absurd (cc is)
drop_next (suc k) [] y ys is = absurd (cc is)
drop_next zero (x ∷ xs) y ys is = cc is
drop_next (suc k) (x ∷ xs) y ys is = drop_next k xs y ys is

pub any_at : (test : Place → Bool) (xs : List Place) (i : ℕ) (y : Place) → slice_get xs i ≡ Some y → test y ≡ true → list_any test xs ≡ true
any_at test xs i y is passes =
    ap (list_any test) (sym (take_all (length xs) xs (omega arith)))
    ∙ there test xs i (length xs) y is passes (slice_get_within xs i y is)

-- What acts have locked is what subtransactions have taken.
-- a subtransaction of which an item is locked is there
abbrev ops_in : Option Sub → List SubOp
ops_in found = elim found [ Some sub ↦ sub.ops | None ↦ [] ]

taken_at : (s : ScriptData) (xs : List Place) (x k : ℕ) (test : Mode → Bool) (i j : ℕ) (subs : List Sub) (sub : Sub) → slice_get subs j ≡ Some sub
    → has_taken s xs k (i + j) ≡ true → list_any test (modes_on x sub.ops) ≡ true → any_taken s xs x k test i subs ≡ true
taken_at s xs x k test i j [] sub at has passes = absurd (cc at)
taken_at s xs x k test i zero (y ∷ subs) sub at has passes =
    let same : y ≡ sub = cc at in
    let zero_more : i + 0 ≡ i = omega arith in
    or_left (has_taken s xs k i && list_any test (modes_on x y.ops)) (any_taken s xs x k test (suc i) subs)
    (and_from (has_taken s xs k i) (list_any test (modes_on x y.ops)) (ap (has_taken s xs k) (sym zero_more) ∙ has)
    (ap (λ (z : Sub). list_any test (modes_on x z.ops)) same ∙ passes))
taken_at s xs x k test i (suc j) (y ∷ subs) sub at has passes =
    let next : i + suc j ≡ suc i + j = omega arith in
    or_right (has_taken s xs k i && list_any test (modes_on x y.ops)) (any_taken s xs x k test (suc i) subs)
    (taken_at s xs x k test (suc i) j subs sub at (ap (has_taken s xs k) (sym next) ∙ has) passes)

from_zero : (j : ℕ) → 0 + j ≡ j
from_zero j = omega arith

by_ops : (s : ScriptData) (xs : List Place) (x k j : ℕ) (test : Mode → Bool) → has_taken s xs k j ≡ true
    → list_any test (modes_on x (ops_of s k j)) ≡ true → any_taken s xs x k test 0 (subs_at s k) ≡ true
by_ops s xs x k j test has passes = by (sub_at s k j) refl passes where
  by : (found : Option Sub) → sub_at s k j ≡ found → list_any test (modes_on x (ops_in found)) ≡ true → any_taken s xs x k test 0 (subs_at s k) ≡ true
  by None at so = absurd (cc so)
  by (Some sub) at so = taken_at s xs x k test 0 j (subs_at s k) sub at (ap (has_taken s xs k) (from_zero j) ∙ has) so

done_here : (s : ScriptData) (xs : List Place) (x k t j : ℕ) (test : Mode → Bool) (b : Bool) → ((t == k) && updates s k) ≡ b
    → was_done t j xs ≡ true → list_any test (modes_on x (if b then ops_of s k j else [])) ≡ true → any_taken s xs x k test 0 (subs_at s k) ≡ true
done_here s xs x k t j test false is done passes = absurd (cc passes)
done_here s xs x k t j test true is done passes =
    let parts = and_parts (t == k) (updates s k) is in
    by_ops s xs x k j test
    (or_left (updates s k && was_done k j xs) (voted_yes k j xs)
    (and_from (updates s k) (was_done k j xs) parts.1 (subst (λ (m : ℕ). was_done m j xs ≡ true) (eqb-true t k parts.0) done))) passes

voted_here : (s : ScriptData) (xs : List Place) (x k t j : ℕ) (test : Mode → Bool) (b : Bool) → (t == k) ≡ b
    → voted_yes t j xs ≡ true → list_any test (modes_on x (if b then ops_of s k j else [])) ≡ true → any_taken s xs x k test 0 (subs_at s k) ≡ true
voted_here s xs x k t j test false is voted passes = absurd (cc passes)
voted_here s xs x k t j test true is voted passes =
    by_ops s xs x k j test
    (or_right (updates s k && was_done k j xs) (voted_yes k j xs) (subst (λ (m : ℕ). voted_yes m j xs ≡ true) (eqb-true t k is) voted)) passes

taken_by_act : (s : ScriptData) (xs : List Place) (x k : ℕ) (test : Mode → Bool) (i p : ℕ) (a : Act)
    → slice_get xs i ≡ Some (record { node = p; act = a }) → list_any test (modes_on x (locked_by s k a)) ≡ true
    → any_taken s xs x k test 0 (subs_at s k) ≡ true
taken_by_act s xs x k test i p (Did t j values) at passes =
    done_here s xs x k t.0 j.0 test ((t.0 == k) && updates s k) refl
    (any_at (λ (y : Place). does t.0 j.0 y.act) xs i (record { node = p; act = Did t j values }) at
    (and_from (t.0 == t.0) (j.0 == j.0) (same_test t.0) (same_test j.0))) passes
taken_by_act s xs x k test i p (Voted t j (Yes values)) at passes =
    voted_here s xs x k t.0 j.0 test (t.0 == k) refl
    (any_at (λ (y : Place). votes_yes t.0 j.0 y.act) xs i (record { node = p; act = Voted t j (Yes values) }) at
    (and_from (t.0 == t.0) (j.0 == j.0) (same_test t.0) (same_test j.0))) passes
taken_by_act s xs x k test i p (Voted t j (No cause)) at passes = absurd (cc passes)
taken_by_act s xs x k test i p (Born u v) at passes = absurd (cc passes)
taken_by_act s xs x k test i p (Turned v) at passes = absurd (cc passes)
taken_by_act s xs x k test i p (Showed v) at passes = absurd (cc passes)
taken_by_act s xs x k test i p (Swept v) at passes = absurd (cc passes)
taken_by_act s xs x k test i p Finished at passes = absurd (cc passes)
taken_by_act s xs x k test i p (Waits u b c) at passes = absurd (cc passes)
taken_by_act s xs x k test i p (Parked u b c h) at passes = absurd (cc passes)
taken_by_act s xs x k test i p (Freed u) at passes = absurd (cc passes)
taken_by_act s xs x k test i p (Decided u d) at passes = absurd (cc passes)
taken_by_act s xs x k test i p (Applied u d) at passes = absurd (cc passes)

-- one that has taken an item
record Taker (s : ScriptData) (xs : List Place) (x k : ℕ) (test : Mode → Bool) (i : ℕ) (subs : List Sub) : Type 0 where
  number : ℕ
  sub : Sub
  at : slice_get subs number ≡ Some sub
  has : has_taken s xs k (i + number) ≡ true
  passes : list_any test (modes_on x sub.ops) ≡ true

taker : (s : ScriptData) (xs : List Place) (x k : ℕ) (test : Mode → Bool) (i : ℕ) (subs : List Sub) → any_taken s xs x k test i subs ≡ true
    → Taker s xs x k test i subs
taker s xs x k test i [] is = absurd (cc is)
taker s xs x k test i (sub ∷ subs) is =
    by (taker s xs x k test (suc i) subs) (or_cases (has_taken s xs k i && list_any test (modes_on x sub.ops)) (any_taken s xs x k test (suc i) subs) is) where
      by : (any_taken s xs x k test (suc i) subs ≡ true → Taker s xs x k test (suc i) subs)
          → ((has_taken s xs k i && list_any test (modes_on x sub.ops)) ≡ true) ⊎ (any_taken s xs x k test (suc i) subs ≡ true)
          → Taker s xs x k test i (sub ∷ subs)
      by rest (inl here) =
          let parts = and_parts (has_taken s xs k i) (list_any test (modes_on x sub.ops)) here in
          let zero_more : i + 0 ≡ i = omega arith in
          record { number = 0; sub = sub; at = refl; has = ap (has_taken s xs k) zero_more ∙ parts.0; passes = parts.1 }
      by rest (inr later) =
          let r = rest later in
          let next : i + suc r.number ≡ suc i + r.number = omega arith in
          record { number = suc r.number; sub = r.sub; at = r.at; has = ap (has_taken s xs k) next ∙ r.has; passes = r.passes }

lock_by : (s : ScriptData) (xs : List Place) (x k j : ℕ) (test : Mode → Bool) (sub : Sub) → sub_at s k j ≡ Some sub
    → has_taken s xs k j ≡ true → list_any test (modes_on x sub.ops) ≡ true → list_any (locks_on s x k test) xs ≡ true
lock_by s xs x k j test sub at has passes =
    elim (or_cases (updates s k && was_done k j xs) (voted_yes k j xs) has) [
      | inl d ↦
          let parts = and_parts (updates s k) (was_done k j xs) d in
          let f = found_all (λ (y : Place). does k j y.act) xs parts.1 in
          let act = does_is k j f.item.act f.passes in
          any_at (locks_on s x k test) xs f.place f.item f.is (rw (act.1, same_test k, parts.0) here)
      | inr v ↦
          let f = found_all (λ (y : Place). votes_yes k j y.act) xs v in
          let act = votes_yes_is k j f.item.act f.passes in
          any_at (locks_on s x k test) xs f.place f.item f.is (rw (act.1, same_test k) here)
    ] where
      here : list_any test (modes_on x (ops_of s k j)) ≡ true
      here = ap (λ (found : Option Sub). list_any test (modes_on x (ops_in found))) at ∙ passes

pub locked_is_taken : (s : ScriptData) (xs : List Place) (x k : ℕ) (test : Mode → Bool)
    → list_any (locks_on s x k test) xs ≡ any_taken s xs x k test 0 (subs_at s k)
locked_is_taken s xs x k test =
    same_tests (list_any (locks_on s x k test) xs) (any_taken s xs x k test 0 (subs_at s k))
    (λ is. let f = found_all (locks_on s x k test) xs is in taken_by_act s xs x k test f.place f.item.node f.item.act f.is f.passes)
    (λ is. let t = taker s xs x k test 0 (subs_at s k) is in lock_by s xs x k t.number test t.sub t.at (ap (has_taken s xs k) (sym (from_zero t.number)) ∙ t.has) t.passes)

-- Of the operations on the item, those of a tree that stand.
against_ops : (s : ScriptData) (xs : List Place) (p t x k j : ℕ) (mode : Mode) (os : List SubOp)
    → list_any (stands_against s xs p t mode) (ops_users k j x os)
    ≡ (not (k == t) && (not (was_let_go k p xs) && (has_taken s xs k j && list_any (modes_conflict mode) (modes_on x os))))
against_ops s xs p t x k j mode [] = sym (no_more (not (k == t)) (not (was_let_go k p xs)) (has_taken s xs k j)) where
  no_more : (a b c : Bool) → (a && (b && (c && false))) ≡ false
  no_more true true true = refl
  no_more true true false = refl
  no_more true false c = refl
  no_more false b c = refl
against_ops s xs p t x k j mode (o ∷ os) = by (o.item.0 == x) (against_ops s xs p t x k j mode os) where
  join : (a b c d e : Bool) → ((a && (b && (c && d))) || (a && (b && (c && e)))) ≡ (a && (b && (c && (d || e))))
  join true true true d e = refl
  join true true false d e = refl
  join true false c d e = refl
  join false b c d e = refl

  by : (here : Bool)
      → list_any (stands_against s xs p t mode) (ops_users k j x os)
      ≡ (not (k == t) && (not (was_let_go k p xs) && (has_taken s xs k j && list_any (modes_conflict mode) (modes_on x os))))
      → list_any (stands_against s xs p t mode) (if here then user_of k j o ∷ ops_users k j x os else ops_users k j x os)
      ≡ (not (k == t) && (not (was_let_go k p xs) && (has_taken s xs k j
      && list_any (modes_conflict mode) (map (λ (q : SubOp). mode_wanted q.deed) (cond here (o ∷ filter (λ (q : SubOp). q.item.0 == x) os) (filter (λ (q : SubOp). q.item.0 == x) os))))))
  by true rest =
      ap (λ (b : Bool). (not (k == t) && (not (was_let_go k p xs) && (has_taken s xs k j && modes_conflict mode (mode_wanted o.deed)))) || b) rest
      ∙ join (not (k == t)) (not (was_let_go k p xs)) (has_taken s xs k j) (modes_conflict mode (mode_wanted o.deed)) (list_any (modes_conflict mode) (modes_on x os))
  by false rest = rest

against_subs : (s : ScriptData) (xs : List Place) (p t x k j : ℕ) (mode : Mode) (subs : List Sub)
    → list_any (stands_against s xs p t mode) (subs_users k j x subs)
    ≡ (not (k == t) && (not (was_let_go k p xs) && any_taken s xs x k (modes_conflict mode) j subs))
against_subs s xs p t x k j mode [] = sym (no_more (not (k == t)) (not (was_let_go k p xs))) where
  no_more : (a b : Bool) → (a && (b && false)) ≡ false
  no_more true true = refl
  no_more true false = refl
  no_more false b = refl
against_subs s xs p t x k j mode (sub ∷ subs) =
    list_any-append (stands_against s xs p t mode) (ops_users k j x sub.ops) (subs_users k (suc j) x subs)
    ∙ ap (λ (b : Bool). b || list_any (stands_against s xs p t mode) (subs_users k (suc j) x subs)) (against_ops s xs p t x k j mode sub.ops)
    ∙ ap (λ (b : Bool). (not (k == t) && (not (was_let_go k p xs) && (has_taken s xs k j && list_any (modes_conflict mode) (modes_on x sub.ops)))) || b)
    (against_subs s xs p t x k (suc j) mode subs)
    ∙ join (not (k == t)) (not (was_let_go k p xs)) (has_taken s xs k j && list_any (modes_conflict mode) (modes_on x sub.ops)) (any_taken s xs x k (modes_conflict mode) (suc j) subs) where
      join : (a b d e : Bool) → ((a && (b && d)) || (a && (b && e))) ≡ (a && (b && (d || e)))
      join true true d e = refl
      join true false d e = refl
      join false b d e = refl

-- so a tree is in the way where one of them does
against_tree : (s : ScriptData) (xs : List Place) (p t x k : ℕ) (mode : Mode) → IsMoveRun s xs
    → list_any (stands_against s xs p t mode) (subs_users k 0 x (subs_at s k)) ≡ (not (k == t) && conflicts_with s xs p x mode k)
against_tree s xs p t x k mode run =
    against_subs s xs p t x k 0 mode (subs_at s k)
    ∙ ap (λ (b : Bool). not (k == t) && (not (was_let_go k p xs) && b)) (sym (locked_is_taken s xs x k (modes_conflict mode)))
    ∙ ap (λ (b : Bool). not (k == t) && b) (sym (stands_where s p x k (modes_conflict mode) xs run))

-- The first.
first_same : (test : User → Bool) (k j x : ℕ) (os : List SubOp) (rest : List User)
    → first_tree test (ops_users k j x os ++ rest) ≡ (if list_any test (ops_users k j x os) then Some k else first_tree test rest)
first_same test k j x [] rest = refl
first_same test k j x (o ∷ os) rest = by (o.item.0 == x) (first_same test k j x os rest) where
  by : (here : Bool)
      → first_tree test (ops_users k j x os ++ rest) ≡ (if list_any test (ops_users k j x os) then Some k else first_tree test rest)
      → first_tree test ((if here then user_of k j o ∷ ops_users k j x os else ops_users k j x os) ++ rest)
      ≡ (if list_any test (if here then user_of k j o ∷ ops_users k j x os else ops_users k j x os) then Some k else first_tree test rest)
  by false same = same
  by true same = passed (test (user_of k j o)) where
    passed : (b : Bool)
        → (if b then Some k else first_tree test (ops_users k j x os ++ rest))
        ≡ (if b || list_any test (ops_users k j x os) then Some k else first_tree test rest)
    passed true = refl
    passed false = same

if_or : (a b : Bool) (k : ℕ) (o : Option ℕ) → (if a then Some k else (if b then Some k else o)) ≡ (if a || b then Some k else o)
if_or true b k o = refl
if_or false b k o = refl

first_of_tree : (test : User → Bool) (k j x : ℕ) (subs : List Sub) (rest : List User)
    → first_tree test (subs_users k j x subs ++ rest) ≡ (if list_any test (subs_users k j x subs) then Some k else first_tree test rest)
first_of_tree test k j x [] rest = refl
first_of_tree test k j x (sub ∷ subs) rest =
    ap (first_tree test) (append_assoc (ops_users k j x sub.ops) (subs_users k (suc j) x subs) rest)
    ∙ first_same test k j x sub.ops (subs_users k (suc j) x subs ++ rest)
    ∙ ap (λ (o : Option ℕ). if list_any test (ops_users k j x sub.ops) then Some k else o) (first_of_tree test k (suc j) x subs rest)
    ∙ if_or (list_any test (ops_users k j x sub.ops)) (list_any test (subs_users k (suc j) x subs)) k (first_tree test rest)
    ∙ ap (λ (b : Bool). if b then Some k else first_tree test rest) (sym (list_any-append test (ops_users k j x sub.ops) (subs_users k (suc j) x subs)))

-- trees of a kind that are in the way
abbrev in_way : (TreeKind → Bool) → ScriptData → List Place → ℕ → ℕ → ℕ → Mode → ℕ → Bool
in_way of s xs p t x mode k = is_tree_of of s k && (not (k == t) && conflicts_with s xs p x mode k)

holder_from : (of : TreeKind → Bool) (s : ScriptData) (xs : List Place) (p t x : ℕ) (mode : Mode) → IsMoveRun s xs → (k : ℕ) (trees : List Tree)
    → drop k s.trees ≡ trees
    → first_tree (stands_against s xs p t mode) (trees_users of k x trees) ≡ least_from (in_way of s xs p t x mode) k (length trees)
holder_from of s xs p t x mode run k [] is = refl
holder_from of s xs p t x mode run k (tree ∷ trees) is =
    by (of tree.kind) refl (holder_from of s xs p t x mode run (suc k) trees (drop_next k s.trees tree trees is)) where
      test : User → Bool
      test = stands_against s xs p t mode

      found : slice_get s.trees k ≡ Some tree
      found = drop_head k s.trees tree trees is

      here : subs_at s k ≡ tree.subs
      here = ap (λ (o : Option Tree). elim o [ Some one ↦ one.subs | None ↦ [] ]) found

      kind : is_tree_of of s k ≡ of tree.kind
      kind = ap (λ (o : Option Tree). elim o [ Some one ↦ of one.kind | None ↦ false ]) found

      by : (b : Bool) → of tree.kind ≡ b
          → first_tree (stands_against s xs p t mode) (trees_users of (suc k) x trees) ≡ least_from (in_way of s xs p t x mode) (suc k) (length trees)
          → first_tree (stands_against s xs p t mode) ((if b then subs_users k 0 x tree.subs else []) ++ trees_users of (suc k) x trees)
          ≡ (if in_way of s xs p t x mode k then Some k else least_from (in_way of s xs p t x mode) (suc k) (length trees))
      by true is_so rest =
          first_of_tree (stands_against s xs p t mode) k 0 x tree.subs (trees_users of (suc k) x trees)
          ∙ ap (λ (subs : List Sub). if list_any (stands_against s xs p t mode) (subs_users k 0 x subs) then Some k else first_tree (stands_against s xs p t mode) (trees_users of (suc k) x trees)) (sym here)
          ∙ ap (λ (b : Bool). if b then Some k else first_tree (stands_against s xs p t mode) (trees_users of (suc k) x trees))
          (against_tree s xs p t x k mode run ∙ ap (λ (b : Bool). b && (not (k == t) && conflicts_with s xs p x mode k)) (sym (kind ∙ is_so)))
          ∙ ap (λ (o : Option ℕ). if in_way of s xs p t x mode k then Some k else o) rest
      by false is_so rest =
          rest
          ∙ ap (λ (b : Bool). if (b && (not (k == t) && conflicts_with s xs p x mode k)) then Some k else least_from (in_way of s xs p t x mode) (suc k) (length trees)) (sym (kind ∙ is_so))

-- The least of two lists.
least_above : (f : ℕ → Bool) (k n j : ℕ) → least_from f k n ≡ Some j → k ≤ j
least_above f k zero j is = absurd (cc is)
least_above f k (suc n) j is = by (f k) (least_above f (suc k) n j) is where
  by : (b : Bool) → (least_from f (suc k) n ≡ Some j → suc k ≤ j) → (if b then Some k else least_from f (suc k) n) ≡ Some j → k ≤ j
  by true later same = (let one : k ≡ j = cc same in omega (arith, one))
  by false later rest = (let above = later rest in omega (arith, above))

lesser_first : (k : ℕ) (o : Option ℕ) → ((j : ℕ) → o ≡ Some j → k ≤ j) → lesser_number (Some k) o ≡ Some k
lesser_first k None above = refl
lesser_first k (Some j) above = (let le = above j refl in ap (λ (m : ℕ). Some m) (let one : min k j ≡ k = omega (arith, le) in one))

lesser_second : (k : ℕ) (o : Option ℕ) → ((j : ℕ) → o ≡ Some j → k ≤ j) → lesser_number o (Some k) ≡ Some k
lesser_second k None above = refl
lesser_second k (Some j) above = (let le = above j refl in ap (λ (m : ℕ). Some m) (let one : min j k ≡ k = omega (arith, le) in one))

least_of_two : (f g : ℕ → Bool) (n k : ℕ) → least_from (λ (i : ℕ). f i || g i) k n ≡ lesser_number (least_from f k n) (least_from g k n)
least_of_two f g zero k = refl
least_of_two f g (suc n) k = by (f k) (g k) (least_of_two f g n (suc k)) where
  next : (h : ℕ → Bool) (j : ℕ) → least_from h (suc k) n ≡ Some j → k ≤ j
  next h j is = (let above = least_above h (suc k) n j is in omega (arith, above))

  by : (a b : Bool) → least_from (λ (i : ℕ). f i || g i) (suc k) n ≡ lesser_number (least_from f (suc k) n) (least_from g (suc k) n)
      → (if a || b then Some k else least_from (λ (i : ℕ). f i || g i) (suc k) n)
      ≡ lesser_number (if a then Some k else least_from f (suc k) n) (if b then Some k else least_from g (suc k) n)
  by true true rest = sym (lesser_first k (Some k) (λ j is. let one : k ≡ j = cc is in omega (arith, one)))
  by true false rest = sym (lesser_first k (least_from g (suc k) n) (next g))
  by false true rest = sym (lesser_second k (least_from f (suc k) n) (next f))
  by false false rest = rest

least_alike : (f g : ℕ → Bool) (n k : ℕ) → ((i : ℕ) → f i ≡ g i) → least_from f k n ≡ least_from g k n
least_alike f g n k same = ap (λ (h : ℕ → Bool). least_from h k n) (λ i j. same j i)

-- Only update and strict trees take items.
yes_strict : (s : ScriptData) (xs : List Place) (k j : ℕ) → IsMoveRun s xs → voted_yes k j xs ≡ true → is_strict_tree s k ≡ true
yes_strict s xs k j run is =
    let f = found_all (λ (y : Place). votes_yes k j y.act) xs is in
    let act = votes_yes_is k j f.item.act f.passes in
    let move = subst (IsMoveButCauseAt s [] (take f.place xs) f.item.node) act.1 (run f.place f.item f.is) in move.strict

conflict_kind : (s : ScriptData) (xs : List Place) (p x k : ℕ) (mode : Mode) → IsMoveRun s xs → conflicts_with s xs p x mode k ≡ true
    → (updates s k || is_strict_tree s k) ≡ true
conflict_kind s xs p x k mode run is =
    let stands = sym (stands_where s p x k (modes_conflict mode) xs run) ∙ is in
    let locked = right_true (not (was_let_go k p xs)) (list_any (locks_on s x k (modes_conflict mode)) xs) stands in
    let t = taker s xs x k (modes_conflict mode) 0 (subs_at s k) (sym (locked_is_taken s xs x k (modes_conflict mode)) ∙ locked) in
    elim (or_cases (updates s k && was_done k (0 + t.number) xs) (voted_yes k (0 + t.number) xs) t.has) [
      | inl d ↦ or_left (updates s k) (is_strict_tree s k) (left_true (updates s k) (was_done k (0 + t.number) xs) d)
      | inr v ↦ or_right (updates s k) (is_strict_tree s k) (yes_strict s xs k (0 + t.number) run v)
    ]

split_kinds : (u r b : Bool) → (b ≡ true → (u || r) ≡ true) → b ≡ ((u && b) || (r && b))
split_kinds true r true of = refl
split_kinds false true true of = refl
split_kinds false false true of = absurd (cc (of refl))
split_kinds true true false of = refl
split_kinds true false false of = refl
split_kinds false true false of = refl
split_kinds false false false of = refl

-- the holder is the lesser_number of the first update tree and the first strict tree in the way
pub holder_is_first : (s : ScriptData) (xs : List Place) (p t x : ℕ) (mode : Mode) → IsMoveRun s xs
    → lesser_number (first_tree (stands_against s xs p t mode) (users_of is_update s x)) (first_tree (stands_against s xs p t mode) (users_of is_strict s x))
    ≡ holder_of s xs p t x mode
holder_is_first s xs p t x mode run =
    ap (λ (o : Option ℕ). lesser_number o (first_tree (stands_against s xs p t mode) (users_of is_strict s x))) (holder_from is_update s xs p t x mode run 0 s.trees refl)
    ∙ ap (lesser_number (least_from (in_way is_update s xs p t x mode) 0 (length s.trees))) (holder_from is_strict s xs p t x mode run 0 s.trees refl)
    ∙ sym (least_of_two (in_way is_update s xs p t x mode) (in_way is_strict s xs p t x mode) (length s.trees) 0)
    ∙ sym (least_alike (λ (k : ℕ). not (k == t) && conflicts_with s xs p x mode k) (λ (k : ℕ). in_way is_update s xs p t x mode k || in_way is_strict s xs p t x mode k) (length s.trees) 0
    (λ k. split_kinds (updates s k) (is_strict_tree s k) (not (k == t) && conflicts_with s xs p x mode k)
    (λ both. conflict_kind s xs p x k mode run (right_true (not (k == t)) (conflicts_with s xs p x mode k) both))))

-- Marks go with marks.
marks_pass : (os : List SubOp) (x : ℕ) → AreMarking os → list_any (modes_conflict Mark) (modes_on x os) ≡ false
marks_pass [] x all = refl
marks_pass (o ∷ os) x all = by (o.item.0 == x) (marks_pass os x all.1) where
  by : (here : Bool) → list_any (modes_conflict Mark) (modes_on x os) ≡ false
      → list_any (modes_conflict Mark) (map (λ (q : SubOp). mode_wanted q.deed) (cond here (o ∷ filter (λ (q : SubOp). q.item.0 == x) os) (filter (λ (q : SubOp). q.item.0 == x) os))) ≡ false
  by true rest = rw (all.0) rest
  by false rest = rest

pub marks_meet_no_marks : (s : ScriptData) (xs : List Place) (p t x : ℕ) → IsValid s → IsMoveRun s xs
    → first_tree (stands_against s xs p t Mark) (users_of is_update s x) ≡ None
marks_meet_no_marks s xs p t x valid run =
    holder_from is_update s xs p t x Mark run 0 s.trees refl
    ∙ least_of_none (in_way is_update s xs p t x Mark) 0 (length s.trees) (λ k. false_from_ne_true (in_way is_update s xs p t x Mark k) (none k)) where
      none : (k : ℕ) → in_way is_update s xs p t x Mark k ≡ true → ⊥
      none k is =
          let parts = and_parts (updates s k) (not (k == t) && conflicts_with s xs p x Mark k) is in
          let against = right_true (not (k == t)) (conflicts_with s xs p x Mark k) parts.1 in
          let stands = sym (stands_where s p x k (modes_conflict Mark) xs run) ∙ against in
          let locked = right_true (not (was_let_go k p xs)) (list_any (locks_on s x k (modes_conflict Mark)) xs) stands in
          let u = taker s xs x k (modes_conflict Mark) 0 (subs_at s k) (sym (locked_is_taken s xs x k (modes_conflict Mark)) ∙ locked) in
          let ops : ops_of s k u.number ≡ u.sub.ops = ap ops_in u.at in
          clash (list_any (modes_conflict Mark) (modes_on x u.sub.ops)) u.passes
          (marks_pass u.sub.ops x (subst AreMarking ops (updates_mark s k u.number valid parts.0)))
