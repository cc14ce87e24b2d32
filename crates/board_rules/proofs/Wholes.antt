-- Versions, births and complete transactions after a part of the acts and after all of them.
use Rattle.std.proofs.Common.{◌≡◌, ◌==◌, ◌&&◌, ℕ, zero, suc, ◌<◌, ◌≤◌, Bool, true, false, List, [], ◌∷◌, ◌++◌, length, refl, sym, ap, ◌∙◌, arith, Option, Some, None, take, drop, take-append-drop, take-take}
use Rattle.std.specs.Prelude.{if◌then◌else◌, slice_get, is_some}
use Rattle.std.specs.List.{list_any}
use Rattle.std.specs.Option.{option_or}
use Rattle.std.proofs.lemmas.Bool.{and_from, and_parts, or_left}
use Rattle.std.proofs.lemmas.List.Folds.{list_any-append}
use Rattle.std.proofs.lemmas.Option.{slice_get_within}
use Rattle.tv_base.specs.declared.numbers.Version.{Version}
use Rattle.tv_base.proofs.Truths.{left_true, right_true}
use Rattle.script_parts.specs.ScriptData.{ScriptData, is_strict, is_update, node_of, sub_at, subs_at, updates}
use Rattle.script_parts.specs.declared.parts.Sub.{Sub}
use Rattle.script_parts.specs.declared.parts.Tree.{Tree}
use Rattle.script_parts.specs.declared.parts.TreeKind.{TreeKind}
use Rattle.script_parts.specs.declared.parts.TreeKind.TheVariants.{Update, Read, Strict}
use Rattle.board_rules.specs.Histories.{Place, all_applied, all_done, applies, born_as, does, is_strict_tree, is_complete, is_whole_in, version_in, was_applied, was_born, was_done}
use Rattle.board_rules.proofs.Places.{version_stays}
use Rattle.board_rules.proofs.SerialOrder.{done_of}

-- Kinds: a tree of a kind is there, and an update tree isn't strict.
pub kind_there : (test : TreeKind → Bool) (s : ScriptData) (t : ℕ) (found : Option Tree) → slice_get s.trees t ≡ found
    → elim found [ Some tree ↦ test tree.kind | None ↦ false ] ≡ true → t < length s.trees
kind_there test s t None is up = absurd (cc up)
kind_there test s t (Some tree) is up = slice_get_within s.trees t tree is

pub updates_there : (s : ScriptData) (t : ℕ) → updates s t ≡ true → t < length s.trees
updates_there s t up = kind_there is_update s t (slice_get s.trees t) refl up

pub strict_there : (s : ScriptData) (t : ℕ) → is_strict_tree s t ≡ true → t < length s.trees
strict_there s t strict = kind_there is_strict s t (slice_get s.trees t) refl strict

kinds_apart : (k : TreeKind) → is_update k ≡ true → is_strict k ≡ false
kinds_apart Update up = refl
kinds_apart Read up = absurd (cc up)
kinds_apart Strict up = absurd (cc up)

apart_by : (found : Option Tree) → elim found [ Some tree ↦ is_update tree.kind | None ↦ false ] ≡ true
    → elim found [ Some tree ↦ is_strict tree.kind | None ↦ false ] ≡ false
apart_by None up = absurd (cc up)
apart_by (Some tree) up = kinds_apart tree.kind up

pub update_not_strict : (s : ScriptData) (t : ℕ) → updates s t ≡ true → is_strict_tree s t ≡ false
update_not_strict s t up = apart_by (slice_get s.trees t) up

-- Versions: what is known after the first acts is known after more of them.
pub version_more : (t n : ℕ) (w : Version) (zs : List Place) → version_in t (take n zs) ≡ Some w → version_in t zs ≡ Some w
version_more t n w zs is =
    sym (ap (version_in t) (take-append-drop n zs)) ∙ version_stays t (take n zs) (drop n zs) (ap is_some is) ∙ is

pub version_later : (t i n : ℕ) (w : Version) (zs : List Place) → i ≤ n → version_in t (take i zs) ≡ Some w
    → version_in t (take n zs) ≡ Some w
version_later t i n w zs le is = version_more t i w (take n zs) (ap (version_in t) (take-take i n zs le) ∙ is)

pub born_version : (o : Option Version) → is_some o ≡ true → (w : Version) × (o ≡ Some w)
born_version None is = absurd (cc is)
born_version (Some w) is = (w, refl)

-- what is born after the first acts is born after more of them
pub born_later : (t i n : ℕ) (zs : List Place) → i ≤ n → is_some (version_in t (take i zs)) ≡ true
    → is_some (version_in t (take n zs)) ≡ true
born_later t i n zs le born =
    let b = born_version (version_in t (take i zs)) born in ap is_some (version_later t i n b.0 zs le b.1)

-- what is known of a version after the first acts is what is known after all
pub version_alike : (t i n : ℕ) (zs : List Place) → i ≤ n → is_some (version_in t (take i zs)) ≡ true
    → version_in t (take n zs) ≡ version_in t zs
version_alike t i n zs le born =
    let b = born_version (version_in t (take i zs)) born in
    version_later t i n b.0 zs le b.1 ∙ sym (version_more t i b.0 zs b.1)

-- the place of a birth below n
pub record Birth (t : ℕ) (w : Version) (zs : List Place) (n : ℕ) : Type 0 where
  pub place : ℕ
  pub below : place < n
  pub item : Place
  pub is : slice_get zs place ≡ Some item
  pub born : born_as t item.act ≡ Some w

birth_by : (t : ℕ) (w : Version) (n : ℕ) (z : Place) (zs : List Place) (o rest : Option Version) → born_as t z.act ≡ o
    → option_or o rest ≡ Some w → (rest ≡ Some w → Birth t w zs n) → Birth t w (z ∷ zs) (suc n)
birth_by t w n z zs None rest is all later =
    let b = later all in
    record { place = suc b.place; below = omega (arith, b.below); item = b.item; is = b.is; born = b.born }
birth_by t w n z zs (Some v) rest is all later =
    record { place = 0; below = omega arith; item = z; is = refl; born = is ∙ all }

-- a tree with a version was born before
pub birth : (t : ℕ) (w : Version) (n : ℕ) (zs : List Place) → version_in t (take n zs) ≡ Some w → Birth t w zs n
birth t w zero [] is = absurd (cc is)
birth t w (suc n) [] is = absurd (cc is)
birth t w zero (z ∷ zs) is = absurd (cc is)
birth t w (suc n) (z ∷ zs) is =
    birth_by t w n z zs (born_as t z.act) (version_in t (take n zs)) refl is (birth t w n zs)

-- Whole trees: each subtransaction of an update tree was done, and a strict tree was applied where it goes.
through_if : (b c d : Bool) → (if b then c else d) ≡ true → b ≡ false → d ≡ true
through_if true c d h e = absurd (cc e)
through_if false c d h e = h

through_then : (b c d : Bool) → (if b then c else d) ≡ true → b ≡ true → c ≡ true
through_then true c d h e = h
through_then false c d h e = absurd (cc e)

pub whole_done : (s : ScriptData) (xs : List Place) (t k : ℕ) → updates s t ≡ true → is_whole_in s xs t ≡ true
    → k < length (subs_at s t) → was_done t k xs ≡ true
whole_done s xs t k up whole lt =
    done_of t (length (subs_at s t)) k xs lt
    (through_if (is_strict_tree s t) (all_applied t (subs_at s t) xs) (all_done t (length (subs_at s t)) xs)
    (right_true (was_born xs t) (is_complete s xs t) whole) (update_not_strict s t up))

applied_of : (t j : ℕ) (k : Sub) (ks : List Sub) (xs : List Place) → slice_get ks j ≡ Some k → all_applied t ks xs ≡ true
    → was_applied t k.node.0 xs ≡ true
applied_of t j k [] xs is all = absurd (cc is)
applied_of t zero k (y ∷ ks) xs is all =
    let same : y ≡ k = cc is in
    sym (ap (λ (z : Sub). was_applied t z.node.0 xs) same) ∙ left_true (was_applied t y.node.0 xs) (all_applied t ks xs) all
applied_of t (suc j) k (y ∷ ks) xs is all =
    applied_of t j k ks xs is (right_true (was_applied t y.node.0 xs) (all_applied t ks xs) all)

none_within : {X : Type 0} (xs : List X) (i : ℕ) → i < length xs → slice_get xs i ≡ None → ⊥
none_within [] i lt is = absurd (omega (arith, lt))
none_within (x ∷ xs) zero lt is = absurd (cc is)
none_within (x ∷ xs) (suc i) lt is = none_within xs i (omega (arith, lt)) is

pub whole_applied : (s : ScriptData) (xs : List Place) (t j p : ℕ) → is_strict_tree s t ≡ true → is_whole_in s xs t ≡ true
    → j < length (subs_at s t) → node_of s t j ≡ p → was_applied t p xs ≡ true
whole_applied s xs t j p strict whole lt node = by (sub_at s t j) refl node where
  by : (found : Option Sub) → sub_at s t j ≡ found → elim found [ Some sub ↦ sub.node.0 | None ↦ s.nodes ] ≡ p → was_applied t p xs ≡ true
  by (Some k) is at =
      sym (ap (λ q. was_applied t q xs) at)
      ∙ applied_of t j k (subs_at s t) xs is
      (through_then (is_strict_tree s t) (all_applied t (subs_at s t) xs) (all_done t (length (subs_at s t)) xs)
      (right_true (was_born xs t) (is_complete s xs t) whole) strict)
  by None is at = absurd (none_within (subs_at s t) j lt is)

-- what is among the first acts is among all
pub any_more : (test : Place → Bool) (xs ys : List Place) → list_any test xs ≡ true → list_any test (xs ++ ys) ≡ true
any_more test xs ys is = list_any-append test xs ys ∙ or_left (list_any test xs) (list_any test ys) is

pub any_first : (test : Place → Bool) (n : ℕ) (xs : List Place) → list_any test (take n xs) ≡ true → list_any test xs ≡ true
any_first test n xs is = ap (list_any test) (sym (take-append-drop n xs)) ∙ any_more test (take n xs) (drop n xs) is

done_more : (t n : ℕ) (xs ys : List Place) → all_done t n xs ≡ true → all_done t n (xs ++ ys) ≡ true
done_more t zero xs ys is = refl
done_more t (suc n) xs ys is =
    let parts = and_parts (all_done t n xs) (was_done t n xs) is in
    and_from (all_done t n (xs ++ ys)) (was_done t n (xs ++ ys)) (done_more t n xs ys parts.0)
    (any_more (λ (x : Place). does t n x.act) xs ys parts.1)

applied_more : (t : ℕ) (ks : List Sub) (xs ys : List Place) → all_applied t ks xs ≡ true → all_applied t ks (xs ++ ys) ≡ true
applied_more t [] xs ys is = refl
applied_more t (k ∷ ks) xs ys is =
    let parts = and_parts (was_applied t k.node.0 xs) (all_applied t ks xs) is in
    and_from (was_applied t k.node.0 (xs ++ ys)) (all_applied t ks (xs ++ ys))
    (any_more (λ (x : Place). (x.node == k.node.0) && applies t x.act) xs ys parts.0) (applied_more t ks xs ys parts.1)

through_by : (test a b c d : Bool) → (a ≡ true → c ≡ true) → (b ≡ true → d ≡ true) → (if test then a else b) ≡ true
    → (if test then c else d) ≡ true
through_by true a b c d one two is = one is
through_by false a b c d one two is = two is

through_more : (s : ScriptData) (xs ys : List Place) (t : ℕ) → is_complete s xs t ≡ true → is_complete s (xs ++ ys) t ≡ true
through_more s xs ys t is =
    through_by (is_strict_tree s t) (all_applied t (subs_at s t) xs) (all_done t (length (subs_at s t)) xs)
    (all_applied t (subs_at s t) (xs ++ ys)) (all_done t (length (subs_at s t)) (xs ++ ys))
    (applied_more t (subs_at s t) xs ys) (done_more t (length (subs_at s t)) xs ys) is

-- a whole tree stays whole
pub whole_more : (s : ScriptData) (xs ys : List Place) (t : ℕ) → is_whole_in s xs t ≡ true → is_whole_in s (xs ++ ys) t ≡ true
whole_more s xs ys t is =
    let parts = and_parts (was_born xs t) (is_complete s xs t) is in
    and_from (was_born (xs ++ ys) t) (is_complete s (xs ++ ys) t) (ap is_some (version_stays t xs ys parts.0) ∙ parts.0)
    (through_more s xs ys t parts.1)

pub whole_all : (s : ScriptData) (i : ℕ) (zs : List Place) (t : ℕ) → is_whole_in s (take i zs) t ≡ true → is_whole_in s zs t ≡ true
whole_all s i zs t is =
    sym (ap (λ xs. is_whole_in s xs t) (take-append-drop i zs)) ∙ whole_more s (take i zs) (drop i zs) t is

pub whole_later : (s : ScriptData) (i n : ℕ) (zs : List Place) (t : ℕ) → i ≤ n → is_whole_in s (take i zs) t ≡ true
    → is_whole_in s (take n zs) t ≡ true
whole_later s i n zs t le is = whole_all s i (take n zs) t (ap (λ xs. is_whole_in s xs t) (take-take i n zs le) ∙ is)
