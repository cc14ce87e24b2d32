-- Operations listed by item, one after the other.
use Rattle.std.proofs.Common.{subst, ◌≡◌, ◌==◌, ℕ, zero, suc, ◌+◌, ◌<◌, ◌≤◌, Bool, true, false, List, [], ◌∷◌, ◌++◌, length, refl, sym, ap, ◌∙◌, arith, add-one, append_assoc, append-nil, take, get_or, slice_set, Some}
use Rattle.std.specs.Prelude.{if◌then◌else◌, slice_get}
use Rattle.std.proofs.lemmas.Bool.Decides.{nat_tests}
use Rattle.std.proofs.lemmas.List.{length-append, take_all}
use Rattle.std.proofs.lemmas.Option.{slice_get-get_or}
use Rattle.nc_locks.specs.declared.modes.Mode.{Mode}
use Rattle.script_parts.specs.Wants.{mode_wanted}
use Rattle.script_parts.specs.ScriptData.{ScriptData}
use Rattle.script_parts.specs.declared.parts.Sub.{Sub}
use Rattle.script_parts.specs.declared.parts.SubOp.{SubOp}
use Rattle.script_parts.specs.declared.parts.Tree.{Tree}
use Rattle.script_parts.specs.declared.parts.TreeKind.{TreeKind}
use Rattle.board_judge.specs.declared.users.User.{User}
use Rattle.board_judge.specs.inside.Users.{AreUsersBy, AreUsersTo, HasMore, HaveNoUsers, is_meant, ops_users, subs_users, tree_users, trees_users, user_of}

-- A list of lists.
none_beside : (ls : List (List User)) (x : ℕ) → ((y : ℕ) → get_or ls y [] ≡ []) → get_or (ls ++ [] ∷ []) x [] ≡ []
none_beside [] zero all = refl
none_beside [] (suc x) all = refl
none_beside (l ∷ ls) zero all = all 0
none_beside (l ∷ ls) (suc x) all = none_beside ls x (λ y. all (suc y))

pub none_more : (n m : ℕ) (ls : List (List User)) → m ≡ suc n → HaveNoUsers n ls → HaveNoUsers m (ls ++ [] ∷ [])
none_more n m ls is none = record {
  count = (let one = length-append ls ([] ∷ []) in omega (arith, one, is, none.count));
  each = λ x. none_beside ls x none.each;
}

pub none_first : HaveNoUsers 0 []
none_first = record { count = refl; each = λ x. refl }

pub more_first : (ls : List (List User)) → HasMore (λ x. []) ls ls
more_first ls = record { count = refl; each = λ x lt. sym (append-nil (get_or ls x [])) }

pub more_alike : (f g : ℕ → List User) (olds news : List (List User)) → ((x : ℕ) → f x ≡ g x) → HasMore f olds news → HasMore g olds news
more_alike f g olds news same more = record {
  count = more.count;
  each = λ x lt. more.each x lt ∙ ap (λ (us : List User). get_or olds x [] ++ us) (same x);
}

pub more_then : (f g : ℕ → List User) (olds mids news : List (List User)) → HasMore f olds mids → HasMore g mids news
    → HasMore (λ x. f x ++ g x) olds news
more_then f g olds mids news one two = record {
  count = two.count ∙ one.count;
  each = λ x lt.
      two.each x (omega (arith, lt, one.count)) ∙ ap (λ (us : List User). us ++ g x) (one.each x lt) ∙ append_assoc (get_or olds x []) (f x) (g x);
}

-- One operation more.
set_same : (ls : List (List User)) (x : ℕ) (us : List User) → x < length ls → get_or (slice_set ls x us) x [] ≡ us
set_same [] x us lt = absurd (omega (arith, lt))
set_same (l ∷ ls) zero us lt = refl
set_same (l ∷ ls) (suc x) us lt = set_same ls x us (omega (arith, lt))

set_other : (ls : List (List User)) (p x : ℕ) (us : List User) → (p == x) ≡ false → get_or (slice_set ls p us) x [] ≡ get_or ls x []
set_other [] p x us ne = refl
set_other (l ∷ ls) zero zero us ne = absurd (cc ne)
set_other (l ∷ ls) zero (suc x) us ne = refl
set_other (l ∷ ls) (suc p) zero us ne = refl
set_other (l ∷ ls) (suc p) (suc x) us ne = set_other ls p x us (grind (arith, nat_tests, ne))

set_count : (ls : List (List User)) (p : ℕ) (us : List User) → length (slice_set ls p us) ≡ length ls
set_count [] p us = refl
set_count (l ∷ ls) zero us = refl
set_count (l ∷ ls) (suc p) us = ap suc (set_count ls p us)

pub put_more : (olds : List (List User)) (p : ℕ) (us : List User) (u : User) → p < length olds → us ≡ get_or olds p []
    → HasMore (λ x. if p == x then u ∷ [] else []) olds (slice_set olds p (us ++ u ∷ []))
put_more olds p us u lt is = record {
  count = set_count olds p (us ++ u ∷ []);
  each = λ x below. by x (p == x) refl;
} where
  by : (x : ℕ) (same : Bool) → (p == x) ≡ same → get_or (slice_set olds p (us ++ u ∷ [])) x [] ≡ get_or olds x [] ++ (if same then u ∷ [] else [])
  by x true same =
      let one : p ≡ x = grind (arith, nat_tests, same) in
      ap (λ (y : ℕ). get_or (slice_set olds p (us ++ u ∷ [])) y []) (sym one)
      ∙ set_same olds p (us ++ u ∷ []) lt
      ∙ ap (λ (vs : List User). vs ++ u ∷ []) (is ∙ ap (λ (y : ℕ). get_or olds y []) one)
  by x false other = set_other olds p x (us ++ u ∷ []) other ∙ sym (append-nil (get_or olds x []))

pub beyond_more : (olds : List (List User)) (p : ℕ) (u : User) → length olds ≤ p → HasMore (λ x. if p == x then u ∷ [] else []) olds olds
beyond_more olds p u le = record {
  count = refl;
  each = λ x lt. by x lt (p == x) refl;
} where
  by : (x : ℕ) → x < length olds → (same : Bool) → (p == x) ≡ same → get_or olds x [] ≡ get_or olds x [] ++ (if same then u ∷ [] else [])
  by x lt true same = absurd (let one : p ≡ x = grind (arith, nat_tests, same) in omega (arith, one, le, lt))
  by x lt false other = sym (append-nil (get_or olds x []))

-- with one operation, or one subtransaction, more
pub ops_next : (t j x i : ℕ) (os : List SubOp) (o : SubOp) → slice_get os i ≡ Some o
    → ops_users t j x (take i os) ++ (if o.item.0 == x then user_of t j o ∷ [] else []) ≡ ops_users t j x (take (suc i) os)
ops_next t j x i [] o at = absurd (cc at)
ops_next t j x zero (y ∷ os) o at =
    let same : o ≡ y = sym (cc at) in
    ap (λ (z : SubOp). if z.item.0 == x then user_of t j z ∷ [] else []) same ∙ by (y.item.0 == x) where
      by : (b : Bool) → (if b then user_of t j y ∷ [] else []) ≡ (if b then user_of t j y ∷ [] else [])
      by b = refl
ops_next t j x (suc i) (y ∷ os) o at = by (y.item.0 == x) (ops_next t j x i os o at) where
  by : (b : Bool) → ops_users t j x (take i os) ++ (if o.item.0 == x then user_of t j o ∷ [] else []) ≡ ops_users t j x (take (suc i) os)
      → (if b then user_of t j y ∷ ops_users t j x (take i os) else ops_users t j x (take i os)) ++ (if o.item.0 == x then user_of t j o ∷ [] else [])
      ≡ (if b then user_of t j y ∷ ops_users t j x (take (suc i) os) else ops_users t j x (take (suc i) os))
  by true rest = ap (λ (us : List User). user_of t j y ∷ us) rest
  by false rest = rest

pub subs_next : (t j x i : ℕ) (subs : List Sub) (sub : Sub) → slice_get subs i ≡ Some sub
    → subs_users t j x (take i subs) ++ ops_users t (j + i) x sub.ops ≡ subs_users t j x (take (suc i) subs)
subs_next t j x i [] sub at = absurd (cc at)
subs_next t j x zero (y ∷ subs) sub at =
    let same : sub ≡ y = sym (cc at) in
    let none : j + 0 ≡ j = omega arith in
    ap (λ (z : Sub). ops_users t (j + 0) x z.ops) same ∙ ap (λ (m : ℕ). ops_users t m x y.ops) none ∙ sym (append-nil (ops_users t j x y.ops))
subs_next t j x (suc i) (y ∷ subs) sub at =
    let next : j + suc i ≡ suc j + i = omega arith in
    append_assoc (ops_users t j x y.ops) (subs_users t (suc j) x (take i subs)) (ops_users t (j + suc i) x sub.ops)
    ∙ ap (λ (us : List User). ops_users t j x y.ops ++ us)
    (ap (λ (m : ℕ). subs_users t (suc j) x (take i subs) ++ ops_users t m x sub.ops) next ∙ subs_next t (suc j) x i subs sub at)

-- The same, as the code's loops have it.
pub put_more_at : (olds : List (List User)) (p : ℕ) (us vs : List User) (u : User) → p < length olds → us ≡ get_or olds p [] → vs ≡ us ++ u ∷ []
    → HasMore (λ x. if p == x then u ∷ [] else []) olds (slice_set olds p vs)
put_more_at olds p us vs u lt is put =
    subst (λ (ws : List User). HasMore (λ x. if p == x then u ∷ [] else []) olds (slice_set olds p ws)) (sym put) (put_more olds p us u lt is)

pub ops_on : (t j : ℕ) (m : Mode) (i : ℕ) (os : List SubOp) (d : SubOp) (olds mids news : List (List User)) → i < length os
    → m ≡ mode_wanted (get_or os i d).deed
    → HasMore (λ x. ops_users t j x (take i os)) olds mids
    → HasMore (λ x. if (get_or os i d).item.0 == x then record { tree = record { 0 = t }; sub = record { 0 = j }; mode = m } ∷ [] else []) mids news
    → HasMore (λ x. ops_users t j x (take (i + 1) os)) olds news
ops_on t j m i os d olds mids news lt is before more =
    let o = get_or os i d in
    more_alike (λ x. ops_users t j x (take i os) ++ (if o.item.0 == x then record { tree = record { 0 = t }; sub = record { 0 = j }; mode = m } ∷ [] else []))
    (λ x. ops_users t j x (take (i + 1) os)) olds news
    (λ x. ap (λ (n : Mode). ops_users t j x (take i os) ++ (if o.item.0 == x then record { tree = record { 0 = t }; sub = record { 0 = j }; mode = n } ∷ [] else [])) is
    ∙ ops_next t j x i os o (slice_get-get_or os i d lt) ∙ ap (λ (n : ℕ). ops_users t j x (take n os)) (sym (add-one i)))
    (more_then (λ x. ops_users t j x (take i os)) (λ x. if o.item.0 == x then record { tree = record { 0 = t }; sub = record { 0 = j }; mode = m } ∷ [] else []) olds mids news before more)

pub subs_on : (t i : ℕ) (subs : List Sub) (sub : Sub) (olds mids news : List (List User)) → i < length subs → sub ≡ get_or subs i sub
    → HasMore (λ x. subs_users t 0 x (take i subs)) olds mids
    → HasMore (λ x. ops_users t i x sub.ops) mids news
    → HasMore (λ x. subs_users t 0 x (take (i + 1) subs)) olds news
subs_on t i subs sub olds mids news lt at before more =
    let there : slice_get subs i ≡ Some sub = slice_get-get_or subs i sub lt ∙ ap (λ (z : Sub). Some z) (sym at) in
    more_alike (λ x. subs_users t 0 x (take i subs) ++ ops_users t i x sub.ops) (λ x. subs_users t 0 x (take (i + 1) subs)) olds news
    (λ x. ap (λ (n : ℕ). subs_users t 0 x (take i subs) ++ ops_users t n x sub.ops) (sym (zero_plus i))
    ∙ subs_next t 0 x i subs sub there ∙ ap (λ (n : ℕ). subs_users t 0 x (take n subs)) (sym (add-one i)))
    (more_then (λ x. subs_users t 0 x (take i subs)) (λ x. ops_users t i x sub.ops) olds mids news before more) where
      zero_plus : (n : ℕ) → 0 + n ≡ n
      zero_plus n = omega arith

trees_next : (of : TreeKind → Bool) (t x i : ℕ) (trees : List Tree) (tree : Tree) → slice_get trees i ≡ Some tree
    → trees_users of t x (take i trees) ++ tree_users of (t + i) x tree ≡ trees_users of t x (take (suc i) trees)
trees_next of t x i [] tree at = absurd (cc at)
trees_next of t x zero (y ∷ trees) tree at =
    let same : tree ≡ y = sym (cc at) in
    let none : t + 0 ≡ t = omega arith in
    ap (λ (z : Tree). tree_users of (t + 0) x z) same ∙ ap (λ (m : ℕ). tree_users of m x y) none ∙ sym (append-nil (tree_users of t x y))
trees_next of t x (suc i) (y ∷ trees) tree at =
    let next : t + suc i ≡ suc t + i = omega arith in
    append_assoc (tree_users of t x y) (trees_users of (suc t) x (take i trees)) (tree_users of (t + suc i) x tree)
    ∙ ap (λ (us : List User). tree_users of t x y ++ us)
    (ap (λ (m : ℕ). trees_users of (suc t) x (take i trees) ++ tree_users of m x tree) next ∙ trees_next of (suc t) x i trees tree at)

pub trees_on : (s : ScriptData) (strict : Bool) (i : ℕ) (trees : List Tree) (tree : Tree) (mids news : List (List User)) → trees ≡ s.trees → i < length trees
    → tree ≡ get_or trees i tree
    → AreUsersTo s strict i mids
    → HasMore (λ x. tree_users (is_meant strict) i x tree) mids news
    → AreUsersTo s strict (i + 1) news
trees_on s strict i trees tree mids news same lt at before more =
    let there : slice_get s.trees i ≡ Some tree =
    sym (ap (λ (ts : List Tree). slice_get ts i) same) ∙ slice_get-get_or trees i tree lt ∙ ap (λ (z : Tree). Some z) (sym at) in
    record {
      count = more.count ∙ before.count;
      each = λ x below.
          let here : x < length mids = omega (arith, below, more.count) in
          more.each x here ∙ ap (λ (us : List User). us ++ tree_users (is_meant strict) i x tree) (before.each x here)
          ∙ ap (λ (n : ℕ). trees_users (is_meant strict) 0 x (take i s.trees) ++ tree_users (is_meant strict) n x tree) (sym (zero_plus i))
          ∙ trees_next (is_meant strict) 0 x i s.trees tree there ∙ ap (λ (n : ℕ). trees_users (is_meant strict) 0 x (take n s.trees)) (sym (add-one i));
    } where
      zero_plus : (n : ℕ) → 0 + n ≡ n
      zero_plus n = omega arith

pub trees_none : (s : ScriptData) (strict : Bool) (items : ℕ) (lists : List (List User)) → items ≡ length s.items → HaveNoUsers items lists → AreUsersTo s strict 0 lists
trees_none s strict items lists is none = record { count = none.count ∙ is; each = λ x lt. none.each x }

pub trees_all : (s : ScriptData) (strict : Bool) (trees : List Tree) (n : ℕ) (lists : List (List User)) → trees ≡ s.trees → length trees ≤ n → AreUsersTo s strict n lists → AreUsersBy s strict lists
trees_all s strict trees n lists same le to = record {
  count = to.count;
  each = λ x lt. to.each x lt ∙ ap (trees_users (is_meant strict) 0 x) (take_all n s.trees (omega (arith, le, ap length same)));
}
