-- If the locks of a node are those of the look back, the lock that a transaction meets is the one that the look back
-- names. And the least number that passes a test.
use Rattle.std.proofs.Common.{◌≡◌, ◌≢◌, ◌⊎◌, inl, inr, ◌==◌, ◌&&◌, ◌||◌, ℕ, zero, suc, ◌+◌, ◌<◌, ◌≤◌, Bool, true, false, List, [], ◌∷◌, length, refl, sym, ap, ◌∙◌, arith, Option, Some, None}
use Rattle.std.specs.Prelude.{if◌then◌else◌, not, nat_lt}
use Rattle.std.specs.List.{list_any}
use Rattle.std.proofs.lemmas.Bool.{cases_lt, or_left, or_right}
use Rattle.std.proofs.lemmas.Bool.Decides.{nat_tests}
use Rattle.tv_base.specs.declared.numbers.ItemNo.{ItemNo}
use Rattle.tv_base.specs.declared.numbers.TreeNo.{TreeNo}
use Rattle.nc_locks.specs.declared.modes.Lock.{Lock}
use Rattle.nc_locks.specs.declared.modes.Mode.{Mode}
use Rattle.nc_locks.specs.declared.modes.Mode.TheVariants.{Mark, Look, Hold}
use Rattle.nc_locks.specs.Modes.{modes_conflict}
use Rattle.nc_locks.specs.Locks.{first_where, has_lock, is_in_way}
use Rattle.nc_locks.proofs.Always.{met_is_first, none_in_way}
use Rattle.script_parts.specs.ScriptData.{ScriptData}
use Rattle.board_rules.specs.Histories.{Place}
use Rattle.board_rules.specs.Stands.{holder_of, least_from, modes_standing, conflicts_with}
use Rattle.board_rules.specs.Locked.{AreStanding, is_same_mode, lock_at, tree_of_lock}

-- The least number that passes a test.
pub least_is : (test : ℕ → Bool) (k n i : ℕ) → k ≤ i → i < k + n → test i ≡ true
    → ((j : ℕ) → k ≤ j → j < i → test j ≡ false) → least_from test k n ≡ Some i
least_is test k zero i le lt is none = absurd (omega (arith, le, lt))
least_is test k (suc n) i le lt is none =
    by (test k) refl (λ other. least_is test (suc k) n i (grind (arith, le, other)) (omega (arith, lt)) is
    (λ j more below. none j (omega (arith, more)) below)) where
      below : (a b : ℕ) → a ≤ b → (a ≡ b) ⊎ (a < b)
      below a b le = cases (cases_lt a b) where
        cases : (a < b) ⊎ (b ≤ a) → (a ≡ b) ⊎ (a < b)
        cases (inl less) = inr less
        cases (inr ge) = inl (omega (arith, le, ge))

      here_at : test k ≡ true → (k ≡ i) ⊎ (k < i) → Some k ≡ Some i
      here_at here (inl same) = ap (λ (j : ℕ). Some j) same
      here_at here (inr more) = absurd (let no_such : true ≡ false = sym here ∙ none k (omega arith) more in cc no_such)

      by : (b : Bool) → test k ≡ b → (k ≢ i → least_from test (suc k) n ≡ Some i)
          → (if b then Some k else least_from test (suc k) n) ≡ Some i
      by true here rest = here_at here (below k i le)
      by false there rest =
          rest (λ same. let no_such : true ≡ false = sym is ∙ sym (ap test same) ∙ there in absurd (cc no_such))

pub least_of_none : (test : ℕ → Bool) (k n : ℕ) → ((j : ℕ) → test j ≡ false) → least_from test k n ≡ None
least_of_none test k zero none = refl
least_of_none test k (suc n) none = rw (none k) (least_of_none test (suc k) n none)

-- Modes among others.
same_mode : (m n : Mode) → is_same_mode m n ≡ true → m ≡ n
same_mode Mark Mark is = refl
same_mode Look Look is = refl
same_mode Hold Hold is = refl
same_mode Mark Look is = absurd (let no_such : false ≡ true = is in cc no_such)
same_mode Mark Hold is = absurd (let no_such : false ≡ true = is in cc no_such)
same_mode Look Mark is = absurd (let no_such : false ≡ true = is in cc no_such)
same_mode Look Hold is = absurd (let no_such : false ≡ true = is in cc no_such)
same_mode Hold Mark is = absurd (let no_such : false ≡ true = is in cc no_such)
same_mode Hold Look is = absurd (let no_such : false ≡ true = is in cc no_such)

same_self : (m : Mode) → is_same_mode m m ≡ true
same_self Mark = refl
same_self Look = refl
same_self Hold = refl

-- a mode that is among these and conflicts
conflicting : (m n : Mode) (modes : List Mode) → modes_conflict m n ≡ true → list_any (is_same_mode n) modes ≡ true
    → list_any (modes_conflict m) modes ≡ true
conflicting m n [] against is = is
conflicting m n (x ∷ xs) against is = by (is_same_mode n x) refl is (λ later. conflicting m n xs against later) where
  by : (b : Bool) → is_same_mode n x ≡ b → (is_same_mode n x || list_any (is_same_mode n) xs) ≡ true
      → (list_any (is_same_mode n) xs ≡ true → list_any (modes_conflict m) xs ≡ true)
      → (modes_conflict m x || list_any (modes_conflict m) xs) ≡ true
  by true here is rest =
      let now : modes_conflict m x ≡ true = sym (ap (modes_conflict m) (same_mode n x here)) ∙ against in
      or_left (modes_conflict m x) (list_any (modes_conflict m) xs) now
  by false here is rest =
      let later : list_any (is_same_mode n) xs ≡ true = sym (ap (λ (b : Bool). b || list_any (is_same_mode n) xs) here) ∙ is in
      or_right (modes_conflict m x) (list_any (modes_conflict m) xs) (rest later)

-- and one that does so, where some does
pub record Against (m : Mode) (modes : List Mode) : Type 0 where
  pub mode : Mode
  pub against : modes_conflict m mode ≡ true
  pub among : list_any (is_same_mode mode) modes ≡ true

against_of : (m : Mode) (modes : List Mode) → list_any (modes_conflict m) modes ≡ true → Against m modes
against_of m [] is = absurd (let no_such : false ≡ true = is in cc no_such)
against_of m (x ∷ xs) is = by (modes_conflict m x) refl is (λ later. against_of m xs later) where
  by : (b : Bool) → modes_conflict m x ≡ b → (modes_conflict m x || list_any (modes_conflict m) xs) ≡ true
      → (list_any (modes_conflict m) xs ≡ true → Against m xs) → Against m (x ∷ xs)
  by true here is rest = record { mode = x; against = here; among = or_left (is_same_mode x x) (list_any (is_same_mode x) xs) (same_self x) }
  by false here is rest =
      let later : list_any (modes_conflict m) xs ≡ true = sym (ap (λ (b : Bool). b || list_any (modes_conflict m) xs) here) ∙ is in
      let a = rest later in
      record {
        mode = a.mode;
        against = a.against;
        among = or_right (is_same_mode a.mode x) (list_any (is_same_mode a.mode) xs) a.among;
      }

all_three : (a b c : Bool) → a ≡ true → b ≡ true → c ≡ true → (a && (b && c)) ≡ true
all_three a b c first second third = rw first (rw second third)

-- a tree that stands against a need has a lock in its way
in_way : (s : ScriptData) (xs : List Place) (p : ℕ) (ls : List Lock) (t : TreeNo) (x : ItemNo) (m : Mode) (k : ℕ)
    → AreStanding s xs p ls x.0 → (not (k == t.0) && conflicts_with s xs p x.0 m k) ≡ true
    → (n : Mode) × (has_lock (lock_at k x.0 n) ls ≡ true) × (is_in_way t x m (lock_at k x.0 n) ≡ true)
in_way s xs p ls t x m k are test =
    let parts = both (not (k == t.0)) (conflicts_with s xs p x.0 m k) test in
    let a = against_of m (modes_standing s xs p x.0 k) parts.1 in
    let there : has_lock (lock_at k x.0 a.mode) ls ≡ true = are.modes k a.mode ∙ a.among in
    let same : (x.0 == x.0) ≡ true = grind (arith, nat_tests) in
    (a.mode, there, all_three (x.0 == x.0) (not (k == t.0)) (modes_conflict m a.mode) same parts.0 a.against) where
      both : (a b : Bool) → (a && b) ≡ true → (a ≡ true) × (b ≡ true)
      both true b is = (refl, is)
      both false b is = absurd (let no_such : false ≡ true = is in cc no_such)

-- so it stands against it where its lock is in the way
stands : (s : ScriptData) (xs : List Place) (p : ℕ) (ls : List Lock) (t : TreeNo) (x : ItemNo) (m : Mode) (l : Lock)
    → AreStanding s xs p ls x.0 → has_lock l ls ≡ true → is_in_way t x m l ≡ true
    → (not (l.tree.0 == t.0) && conflicts_with s xs p x.0 m l.tree.0) ≡ true
stands s xs p ls t x m l are here way =
    let parts = three (l.item.0 == x.0) (not (l.tree.0 == t.0)) (modes_conflict m l.mode) way in
    let item : l.item.0 ≡ x.0 = grind (arith, nat_tests, parts.0) in
    let same : l ≡ lock_at l.tree.0 x.0 l.mode = λ i. record { item = record { 0 = item i }; mode = l.mode; tree = l.tree } in
    let among : list_any (is_same_mode l.mode) (modes_standing s xs p x.0 l.tree.0) ≡ true =
    sym (are.modes l.tree.0 l.mode) ∙ sym (ap (λ (q : Lock). has_lock q ls) same) ∙ here in
    rw parts.1 (conflicting m l.mode (modes_standing s xs p x.0 l.tree.0) parts.2 among) where
      three : (a b c : Bool) → (a && (b && c)) ≡ true → (a ≡ true) × (b ≡ true) × (c ≡ true)
      three true true c is = (refl, refl, is)
      three true false c is = absurd (let no_such : false ≡ true = is in cc no_such)
      three false b c is = absurd (let no_such : false ≡ true = is in cc no_such)

no_truth : (b : Bool) → (b ≡ true → ⊥) → b ≡ false
no_truth true none = absurd (none refl)
no_truth false none = refl

-- the first lock in the way is of the tree that the look back names
pub holder_is : (s : ScriptData) (xs : List Place) (p : ℕ) (ls : List Lock) (t : TreeNo) (x : ItemNo) (m : Mode) → AreStanding s xs p ls x.0
    → holder_of s xs p t.0 x.0 m ≡ tree_of_lock (first_where (is_in_way t x m) ls)
holder_is s xs p ls t x m are = by (first_where (is_in_way t x m) ls) refl where
  test : ℕ → Bool
  test k = not (k == t.0) && conflicts_with s xs p x.0 m k

  by : (r : Option Lock) → first_where (is_in_way t x m) ls ≡ r → least_from test 0 (length s.trees) ≡ tree_of_lock r
  by None is =
      least_of_none test 0 (length s.trees) (λ j. no_truth (test j) (λ held.
      (let found = in_way s xs p ls t x m j are held in
      let clear = none_in_way t x m ls is (lock_at j x.0 found.0) found.1 in
      let no_such : true ≡ false = sym found.2 ∙ clear in cc no_such)))
  by (Some l) is =
      let first = met_is_first t x m ls l is in
      least_is test 0 (length s.trees) l.tree.0 (omega arith) (omega (arith, are.trees l first.0))
      (stands s xs p ls t x m l are first.0 first.1)
      (λ j from below. no_truth (test j) (λ held.
      (let found = in_way s xs p ls t x m j are held in
      let order = first.2 (lock_at j x.0 found.0) found.1 found.2 in
      let no_less : nat_lt l.tree.0 j ≡ false = grind (arith, nat_tests, below) in
      let no_same : (l.tree.0 == j) ≡ false = grind (arith, nat_tests, below) in
      let no_such : true ≡ false = sym order ∙ rw no_less (rw no_same refl) in cc no_such)))
