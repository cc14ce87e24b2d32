-- The locks that a node has by its acts are those that stand by the look back over all acts.
use Rattle.std.proofs.Common.{◌≡◌, ◌==◌, ◌&&◌, ◌||◌, ℕ, Bool, true, false, List, [], ◌∷◌, ◌++◌, refl, sym, ap, ◌∙◌, subst, arith}
use Rattle.std.proofs.Math.Bool.{or-false}
use Rattle.std.specs.Prelude.{if◌then◌else◌, cond, not, fold, map}
use Rattle.std.specs.List.{AllByRecursion, list_any}
use Rattle.std.proofs.lemmas.Bool.Decides.{nat_tests}
use Rattle.std.proofs.lemmas.List.Folds.{list_any-append}
use Rattle.tv_base.specs.declared.numbers.TreeNo.{TreeNo}
use Rattle.letter_types.specs.declared.acts.Act.{Act}
use Rattle.letter_types.specs.declared.acts.Act.TheVariants.{Did, Voted, Freed, Applied, Finished}
use Rattle.letter_types.specs.declared.votes.Vote.TheVariants.{Yes, No}
use Rattle.nc_locks.specs.declared.modes.Lock.{Lock}
use Rattle.nc_locks.specs.declared.modes.Mode.{Mode}
use Rattle.nc_locks.specs.Locks.{has_lock, lock_of, modes_in, wanted_locks, with_locks, without}
use Rattle.nc_locks.proofs.Always.{freed_are_gone, modes_are_locks, taken_stand}
use Rattle.script_parts.specs.Wants.{mode_wanted, wanted_by}
use Rattle.script_parts.specs.ScriptData.{ScriptData, ops_of, updates}
use Rattle.script_parts.specs.declared.parts.SubOp.{SubOp}
use Rattle.board_rules.specs.Histories.{Place}
use Rattle.board_rules.specs.Locked.{AreModesOf, IsApartFrom, is_same_mode, lock_at, locks_after_act, locks_after_place, locks_at}
use Rattle.board_rules.specs.Stands.{locked_by, modes_after, modes_on, modes_standing}
use Rattle.board_rules.proofs.ActTests.{releases}

-- The locks that operations need.
needed_modes : (t : TreeNo) (k x : ℕ) (os : List SubOp) → t.0 ≡ k → modes_in x k (wanted_locks t (wanted_by os)) ≡ modes_on x os
needed_modes t k x [] is = refl
needed_modes t k x (o ∷ os) is =
    by (o.item.0 == x) (t.0 == k) (grind (arith, nat_tests, is)) _ _ (needed_modes t k x os is) where
      by : (a b : Bool) → b ≡ true → (rest : List Lock) (more : List SubOp) → map (λ (l : Lock). l.mode) rest ≡ map (λ (q : SubOp). mode_wanted q.deed) more
          → map (λ (l : Lock). l.mode) (cond (a && b) (lock_of t o.item (mode_wanted o.deed) ∷ rest) rest)
          ≡ map (λ (q : SubOp). mode_wanted q.deed) (cond a (o ∷ more) more)
      by true true here rest more same = ap (λ (ms : List Mode). mode_wanted o.deed ∷ ms) same
      by false true here rest more same = same
      by a false here rest more same = absurd (let no_such : false ≡ true = here in cc no_such)

other_modes : (t : TreeNo) (k x : ℕ) (os : List SubOp) → (t.0 == k) ≡ false → modes_in x k (wanted_locks t (wanted_by os)) ≡ []
other_modes t k x [] other = refl
other_modes t k x (o ∷ os) other = by (o.item.0 == x) (t.0 == k) other _ (other_modes t k x os other) where
  by : (a b : Bool) → b ≡ false → (rest : List Lock) → map (λ (l : Lock). l.mode) rest ≡ []
      → map (λ (l : Lock). l.mode) (cond (a && b) (lock_of t o.item (mode_wanted o.deed) ∷ rest) rest) ≡ []
  by true false there rest none = none
  by false false there rest none = none
  by a true there rest none = absurd (let no_such : true ≡ false = there in cc no_such)

-- with those of tree t more
more_at : (t : TreeNo) (k x : ℕ) (os : List SubOp) (ls : List Lock) (modes more : List Mode)
    → modes_in x k (wanted_locks t (wanted_by os)) ≡ more → AreModesOf k x ls modes
    → AreModesOf k x (with_locks t (wanted_by os) ls) (modes ++ more)
more_at t k x os ls modes more needed are m =
    let l = lock_at k x m in
    let wanted = wanted_locks t (wanted_by os) in
    let first : has_lock l wanted ≡ list_any (is_same_mode m) more =
    modes_are_locks l wanted ∙ ap (λ (ms : List Mode). list_any (is_same_mode m) ms) needed in
    taken_stand l t (wanted_by os) ls
    ∙ ap (λ (b : Bool). b || has_lock l ls) first
    ∙ ap (λ (b : Bool). list_any (is_same_mode m) more || b) (are m)
    ∙ swapped (list_any (is_same_mode m) more) (list_any (is_same_mode m) modes)
    ∙ sym (list_any-append (is_same_mode m) modes more) where
      swapped : (a b : Bool) → (a || b) ≡ (b || a)
      swapped true true = refl
      swapped true false = refl
      swapped false true = refl
      swapped false false = refl

taken_by : (t : TreeNo) (k x : ℕ) (os : List SubOp) (ls : List Lock) (modes : List Mode) (b : Bool) → (t.0 == k) ≡ b
    → AreModesOf k x ls modes
    → AreModesOf k x (with_locks t (wanted_by os) ls) (modes ++ modes_on x (if b then os else []))
taken_by t k x os ls modes true is are = more_at t k x os ls modes (modes_on x os) (needed_modes t k x os (grind (arith, nat_tests, is))) are
taken_by t k x os ls modes false is are = more_at t k x os ls modes [] (other_modes t k x os is) are

-- without those of tree t
freed_by : (t : TreeNo) (k x : ℕ) (ls : List Lock) (modes : List Mode) (b : Bool) → (t.0 == k) ≡ b → AreModesOf k x ls modes
    → AreModesOf k x (without t ls) (if b then [] else modes ++ [])
freed_by t k x ls modes true is are m =
    let l = lock_at k x m in
    freed_are_gone l t ls ∙ by (k == t.0) (has_lock l ls) (grind (arith, nat_tests, is)) where
      by : (a b : Bool) → a ≡ true → (not a && b) ≡ false
      by true b here = refl
      by false b here = absurd (let no_such : false ≡ true = here in cc no_such)
freed_by t k x ls modes false is are m =
    let l = lock_at k x m in
    freed_are_gone l t ls ∙ by (k == t.0) (has_lock l ls) (grind (arith, nat_tests, is)) ∙ are m
    ∙ sym (list_any-append (is_same_mode m) modes [] ∙ none (list_any (is_same_mode m) modes)) where
      by : (a b : Bool) → a ≡ false → (not a && b) ≡ b
      by false b there = refl
      by true b there = absurd (let no_such : true ≡ false = there in cc no_such)

      none : (b : Bool) → (b || false) ≡ b
      none true = refl
      none false = refl

-- an act that neither takes nor frees a lock
left_by : (k x : ℕ) (ls : List Lock) (modes : List Mode) → AreModesOf k x ls modes → AreModesOf k x ls (modes ++ [])
left_by k x ls modes are m =
    are m ∙ sym (list_any-append (is_same_mode m) modes [] ∙ none (list_any (is_same_mode m) modes)) where
      none : (b : Bool) → (b || false) ≡ b
      none true = refl
      none false = refl

-- An act at the node.
abbrev modes_with : ScriptData → ℕ → ℕ → Act → List Mode → List Mode
modes_with s k x a modes = if releases k a then [] else modes ++ modes_on x (locked_by s k a)

done_by : (s : ScriptData) (k x : ℕ) (t : TreeNo) (os : List SubOp) (ls : List Lock) (modes : List Mode) (a b : Bool)
    → (t.0 == k) ≡ a → updates s t.0 ≡ b → AreModesOf k x ls modes
    → AreModesOf k x (if b then with_locks t (wanted_by os) ls else ls) (modes ++ modes_on x (if a && updates s k then os else []))
done_by s k x t os ls modes true true is up are =
    let here : updates s k ≡ true = sym (ap (updates s) (same t.0 k is)) ∙ up in
    rw here (taken_by t k x os ls modes true is are) where
      same : (n j : ℕ) → (n == j) ≡ true → n ≡ j
      same n j is = grind (arith, nat_tests)
done_by s k x t os ls modes true false is up are =
    let here : updates s k ≡ false = sym (ap (updates s) (same t.0 k is)) ∙ up in
    rw here (left_by k x ls modes are) where
      same : (n j : ℕ) → (n == j) ≡ true → n ≡ j
      same n j is = grind (arith, nat_tests)
done_by s k x t os ls modes false true is up are = taken_by t k x os ls modes false is are
done_by s k x t os ls modes false false is up are = left_by k x ls modes are

one_act : (s : ScriptData) (k x : ℕ) (a : Act) (ls : List Lock) (modes : List Mode) → AreModesOf k x ls modes
    → AreModesOf k x (locks_after_act s a ls) (modes_with s k x a modes)
one_act s k x (Did t j values) ls modes are =
    did (t.0 == k) (updates s t.0) refl refl where
      did : (a b : Bool) → (t.0 == k) ≡ a → updates s t.0 ≡ b
          → AreModesOf k x (if updates s t.0 then with_locks t (wanted_by (ops_of s t.0 j.0)) ls else ls)
          (modes ++ modes_on x (if (t.0 == k) && updates s k then ops_of s k j.0 else []))
      did true b is up =
          let same : t.0 ≡ k = grind (arith, nat_tests, is) in
          rw is (subst (λ (n : ℕ). AreModesOf k x (if updates s t.0 then with_locks t (wanted_by (ops_of s t.0 j.0)) ls else ls)
          (modes ++ modes_on x (if updates s k then ops_of s n j.0 else []))) same
          (rw up (done_by s k x t (ops_of s t.0 j.0) ls modes true b is up are)))
      did false b is up = rw (is, up) (done_by s k x t (ops_of s t.0 j.0) ls modes false b is up are)
one_act s k x (Voted t j (Yes values)) ls modes are =
    voted (t.0 == k) refl where
      voted : (a : Bool) → (t.0 == k) ≡ a
          → AreModesOf k x (with_locks t (wanted_by (ops_of s t.0 j.0)) ls)
          (modes ++ modes_on x (if t.0 == k then ops_of s k j.0 else []))
      voted true is =
          let same : t.0 ≡ k = grind (arith, nat_tests, is) in
          rw is (subst (λ (n : ℕ). AreModesOf k x (with_locks t (wanted_by (ops_of s t.0 j.0)) ls) (modes ++ modes_on x (ops_of s n j.0)))
          same (taken_by t k x (ops_of s t.0 j.0) ls modes true is are))
      voted false is = rw is (taken_by t k x (ops_of s t.0 j.0) ls modes false is are)
one_act s k x (Voted t j (No cause)) ls modes are = left_by k x ls modes are
one_act s k x (Freed t) ls modes are = rw (or-false (t.0 == k)) (freed_by t k x ls modes (t.0 == k) refl are)
one_act s k x (Applied t commit) ls modes are = freed_by t k x ls modes (t.0 == k) refl are
one_act s k x Finished ls modes are = left_by k x ls modes are
one_act s k x _ ls modes are = left_by k x ls modes are

one_place : (s : ScriptData) (p k x : ℕ) (y : Place) (ls : List Lock) (modes : List Mode) (here : Bool) → (y.node == p) ≡ here
    → IsApartFrom s p x k y → AreModesOf k x ls modes
    → AreModesOf k x (locks_after_place s p ls y) (modes_after s p x k modes y)
one_place s p k x y ls modes true is apart are = rw is (one_act s k x y.act ls modes are)
one_place s p k x y ls modes false is apart are =
    rw is (subst (λ (ms : List Mode). AreModesOf k x ls (modes ++ ms)) (sym (apart is)) (left_by k x ls modes are))

stand_from : (s : ScriptData) (p k x : ℕ) (ys : List Place) (ls : List Lock) (modes : List Mode)
    → AllByRecursion (IsApartFrom s p x k) ys → AreModesOf k x ls modes
    → AreModesOf k x (fold (locks_after_place s p) ls ys) (fold (modes_after s p x k) modes ys)
stand_from s p k x [] ls modes apart are = are
stand_from s p k x (y ∷ ys) ls modes apart are =
    stand_from s p k x ys (locks_after_place s p ls y) (modes_after s p x k modes y) apart.1
    (one_place s p k x y ls modes (y.node == p) refl apart.0 are)

-- after all acts a lock of tree k on item x is there just where the look back finds its mode
pub locks_stand : (s : ScriptData) (xs : List Place) (p x k : ℕ) → AllByRecursion (IsApartFrom s p x k) xs
    → AreModesOf k x (locks_at s xs p) (modes_standing s xs p x k)
locks_stand s xs p x k apart = stand_from s p k x xs [] [] apart (λ m. refl)
