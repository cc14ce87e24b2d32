-- A list by version, cut at a version.
use Rattle.std.proofs.Common.{◌≡◌, ℕ, zero, suc, ◌<◌, ◌≤◌, Bool, true, false, cond, List, [], ◌∷◌, ◌++◌, length, take, get_or, refl, ap, sym, ◌∙◌, arith, nat_cmp, is_lt}
use Rattle.std.specs.Prelude.{filter, not, ◌&&◌, ◌==◌, nat_le}
use Rattle.std.specs.List.Sorted.{IsNonDecreasingBy, IsStableByKey, ties}
use Rattle.std.proofs.lemmas.Bool.Decides.{nat_tests}
use Rattle.std.proofs.lemmas.List.{map-append}
use Rattle.letter_types.specs.declared.entries.Entry.{Entry}
use Rattle.tx_trees.specs.ScriptData.{ScriptData}
use Rattle.board_model.specs.declared.serial.Member.{Member}
use Rattle.board_rules.specs.Serial.{members, serial_to}
use Rattle.board_model.specs.SerialList.{IsByVersion, IsSerial, is_below, is_of_version, trees_of_members}

-- the version as a number
abbrev pub version_no : Member → ℕ
version_no m = m.version.0

-- tests that agree filter alike
filter_alike : {X : Type 0} (p q : X → Bool) (xs : List X) → ((x : X) → p x ≡ q x) → filter p xs ≡ filter q xs
filter_alike p q [] h = refl
filter_alike {X} p q (x ∷ xs) h =
    ap (λ (b : Bool). cond b (x ∷ filter p xs) (filter p xs)) (h x)
    ∙ ap (λ (ys : List X). cond (q x) (x ∷ ys) ys) (filter_alike p q xs h)

abbrev at_version : ℕ → Member
at_version v = record { version = record { 0 = v }; tree = record { 0 = 0 } }

tie_is : (m n : ℕ) → (not (is_lt (nat_cmp m n)) && not (is_lt (nat_cmp n m))) ≡ (n == m)
tie_is m n = grind (arith, nat_tests)

-- what a stable sort by version leaves in place
pub stable_of : (xs ys : List Member) → IsStableByKey version_no nat_cmp xs ys
    → (v : ℕ) → filter (is_of_version v) ys ≡ filter (is_of_version v) xs
stable_of xs ys stable v =
    let t : Member → Bool = ties (λ (a b : Member). is_lt (nat_cmp (version_no a) (version_no b))) (at_version v) in
    let same : (m : Member) → t m ≡ is_of_version v m = λ (m : Member). tie_is v m.version.0 in
    sym (filter_alike t (is_of_version v) ys same) ∙ stable (at_version v) ∙ filter_alike t (is_of_version v) xs same

tail_ascends : (m : Member) (ms : List Member) → IsNonDecreasingBy version_no (m ∷ ms) → IsNonDecreasingBy version_no ms
tail_ascends m ms asc i j d le lt = asc (suc i) (suc j) d (omega arith) (omega arith)

-- after a version above v there are none of at most v
none_below : (v : ℕ) (m : Member) (ms : List Member) → IsNonDecreasingBy version_no (m ∷ ms) → v < m.version.0
    → filter (is_below v) (m ∷ ms) ≡ []
none_below v m [] asc above =
    let no : nat_le m.version.0 v ≡ false = grind (arith, nat_tests) in
    ap (λ (b : Bool). cond b (m ∷ []) []) no
none_below v m (n ∷ ms) asc above =
    let no : nat_le m.version.0 v ≡ false = grind (arith, nat_tests) in
    let next : m.version.0 ≤ n.version.0 = asc 0 1 m (omega arith) (omega arith) in
    ap (λ (b : Bool). cond b (m ∷ filter (is_below v) (n ∷ ms)) (filter (is_below v) (n ∷ ms))) no
    ∙ none_below v n ms (tail_ascends m (n ∷ ms) asc) (omega arith)

none_next : (v : ℕ) (m : Member) (ms : List Member) → IsNonDecreasingBy version_no (m ∷ ms) → v < m.version.0
    → filter (is_below v) ms ≡ []
none_next v m [] asc above = refl
none_next v m (n ∷ ms) asc above =
    let next : m.version.0 ≤ n.version.0 = asc 0 1 m (omega arith) (omega arith) in
    none_below v n ms (tail_ascends m (n ∷ ms) asc) (omega arith)

-- the next version comes after
below_next : (v : ℕ) (ms : List Member) → IsNonDecreasingBy version_no ms
    → filter (is_below (suc v)) ms ≡ filter (is_below v) ms ++ filter (is_of_version (suc v)) ms
below_next v [] asc = refl
below_next v (m ∷ ms) asc =
    let rest = below_next v ms (tail_ascends m ms asc) in
    by (nat_le m.version.0 v) (m.version.0 == suc v) refl refl rest where
      by : (low next : Bool) → nat_le m.version.0 v ≡ low → (m.version.0 == suc v) ≡ next
          → filter (is_below (suc v)) ms ≡ filter (is_below v) ms ++ filter (is_of_version (suc v)) ms
          → filter (is_below (suc v)) (m ∷ ms)
          ≡ cond low (m ∷ filter (is_below v) ms) (filter (is_below v) ms) ++ cond next (m ∷ filter (is_of_version (suc v)) ms) (filter (is_of_version (suc v)) ms)
      by true true e f rest = absurd (grind (arith, nat_tests))
      by true false e f rest =
          let yes : nat_le m.version.0 (suc v) ≡ true = grind (arith, nat_tests) in
          ap (λ (b : Bool). cond b (m ∷ filter (is_below (suc v)) ms) (filter (is_below (suc v)) ms)) yes
          ∙ ap (λ (z : List Member). m ∷ z) rest
      by false true e f rest =
          let yes : nat_le m.version.0 (suc v) ≡ true = grind (arith, nat_tests) in
          let above : v < m.version.0 = grind (arith, nat_tests) in
          let none = none_next v m ms asc above in
          ap (λ (b : Bool). cond b (m ∷ filter (is_below (suc v)) ms) (filter (is_below (suc v)) ms)) yes
          ∙ ap (λ (z : List Member). m ∷ z) (rest ∙ ap (λ (z : List Member). z ++ filter (is_of_version (suc v)) ms) none)
          ∙ sym (ap (λ (z : List Member). z ++ m ∷ filter (is_of_version (suc v)) ms) none)
      by false false e f rest =
          let no : nat_le m.version.0 (suc v) ≡ false = grind (arith, nat_tests) in
          ap (λ (b : Bool). cond b (m ∷ filter (is_below (suc v)) ms) (filter (is_below (suc v)) ms)) no ∙ rest

zero_of : (m : Member) → is_below zero m ≡ is_of_version zero m
zero_of m = zero_case m.version.0 where
  zero_case : (n : ℕ) → nat_le n zero ≡ (n == zero)
  zero_case n = grind (arith, nat_tests)

-- where each version's trees are its members, the list is the serial order
pub is_serial : (s : ScriptData) (h : List Entry) (xs ys : List Member) → IsByVersion xs ys
    → ((v : ℕ) → trees_of_members (filter (is_of_version v) xs) ≡ members s h v) → IsSerial s h ys
is_serial s h xs ys by each = record { ascending = by.ascending; each = upto } where
  one : (v : ℕ) → trees_of_members (filter (is_of_version v) ys) ≡ members s h v
  one v = ap trees_of_members (by.stable v) ∙ each v

  upto : (v : ℕ) → trees_of_members (filter (is_below v) ys) ≡ serial_to s h v
  upto zero = ap trees_of_members (filter_alike (is_below zero) (is_of_version zero) ys zero_of) ∙ one zero
  upto (suc v) =
      ap trees_of_members (below_next v ys by.ascending)
      ∙ map-append (λ (m : Member). m.tree.0) (filter (is_below v) ys) (filter (is_of_version (suc v)) ys)
      ∙ ap (λ (z : List ℕ). z ++ trees_of_members (filter (is_of_version (suc v)) ys)) (upto v)
      ∙ ap (λ (z : List ℕ). serial_to s h v ++ z) (one (suc v))

-- a list cut where the versions pass v
pub cut : (v p : ℕ) (ms : List Member) → IsNonDecreasingBy version_no ms
    → ((i : ℕ) (d : Member) → i < p → i < length ms → (get_or ms i d).version.0 ≤ v)
    → ((d : Member) → p < length ms → v < (get_or ms p d).version.0) → take p ms ≡ filter (is_below v) ms
cut v zero [] asc low high = refl
cut v (suc p) [] asc low high = refl
cut v zero (m ∷ ms) asc low high = sym (none_below v m ms asc (high m (omega arith)))
cut v (suc p) (m ∷ ms) asc low high =
    let one : m.version.0 ≤ v = low 0 m (omega arith) (omega arith) in
    let yes : nat_le m.version.0 v ≡ true = grind (arith, nat_tests) in
    let rest = cut v p ms (tail_ascends m ms asc)
    (λ (i : ℕ) (d : Member) a b. low (suc i) d (omega arith) (omega arith)) (λ (d : Member) a. high d (omega arith)) in
    ap (λ (z : List Member). m ∷ z) rest
    ∙ sym (ap (λ (b : Bool). cond b (m ∷ filter (is_below v) ms) (filter (is_below v) ms)) yes)
