-- A search for the oldest message that passes a test.
use Rattle.std.proofs.Common.{◌≡◌, ℕ, zero, suc, ◌+◌, ◌<◌, Bool, true, false, List, [], ◌∷◌, drop, length, Some, refl, ap, ◌∙◌, arith}
use Rattle.std.specs.Prelude.{slice_get}
use Rattle.std.specs.List.{position_or_len}
use Rattle.std.proofs.lemmas.Bool.{lt-ltb, le-ltb}
use Rattle.letter_types.specs.declared.entries.Letter.{Letter}
use Rattle.sim_runner.specs.Pickers.{oldest_where}

-- none of the first k letters passes
abbrev pub NoneBefore : (Letter → Bool) → List Letter → ℕ → Type 0
NoneBefore test ls k = position_or_len test ls ≡ k + position_or_len test (drop k ls)

front : (ls : List Letter) (k : ℕ) (l : Letter) → slice_get ls k ≡ Some l → drop k ls ≡ l ∷ drop (suc k) ls
front [] k l at = absurd (cc at)
front (x ∷ xs) zero l at = let same : x ≡ l = cc at in ap (λ (y : Letter). y ∷ xs) same
front (x ∷ xs) (suc k) l at = front xs k l at

within : (ls : List Letter) (k : ℕ) (l : Letter) → slice_get ls k ≡ Some l → k < length ls
within [] k l at = absurd (cc at)
within (x ∷ xs) zero l at = omega arith
within (x ∷ xs) (suc k) l at = omega (arith, within xs k l at)

past : (ls : List Letter) → drop (length ls) ls ≡ []
past [] = refl
past (x ∷ xs) = past xs

passed_over : (test : Letter → Bool) (l : Letter) (ls : List Letter) → test l ≡ false
    → position_or_len test (l ∷ ls) ≡ 1 + position_or_len test ls
passed_over test l ls is = rw is refl

stopped_at : (test : Letter → Bool) (l : Letter) (ls : List Letter) → test l ≡ true → position_or_len test (l ∷ ls) ≡ 0
stopped_at test l ls is = rw is refl

pub none_yet : (test : Letter → Bool) (ls : List Letter) → NoneBefore test ls 0
none_yet test ls = omega arith

pub none_more : (test : Letter → Bool) (ls : List Letter) (k next : ℕ) (l : Letter) → NoneBefore test ls k
    → slice_get ls k ≡ Some l → test l ≡ false → next ≡ k + 1 → NoneBefore test ls next
none_more test ls k next l none at is one =
    let one' : suc k ≡ next = omega (arith, one) in
    omega (
      arith,
      none,
      one,
      ap (position_or_len test) (front ls k l at),
      passed_over test l (drop (suc k) ls) is,
      ap (λ (n : ℕ). position_or_len test (drop n ls)) one',
    )

by_place : (test : Letter → Bool) (ls : List Letter) (n : ℕ) → position_or_len test ls ≡ n → n < length ls → oldest_where test ls ≡ n
by_place test ls n is lt = let here = lt-ltb n (length ls) lt in rw (is, here) refl

pub found_there : (test : Letter → Bool) (ls : List Letter) (k : ℕ) (l : Letter) → NoneBefore test ls k
    → slice_get ls k ≡ Some l → test l ≡ true → oldest_where test ls ≡ k
found_there test ls k l none at is =
    by_place test ls k
    (omega (arith, none, ap (position_or_len test) (front ls k l at), stopped_at test l (drop (suc k) ls) is))
    (within ls k l at)

pub found_none : (test : Letter → Bool) (ls : List Letter) (k : ℕ) → NoneBefore test ls k → k ≡ length ls → oldest_where test ls ≡ 0
found_none test ls k none all =
    let rest : position_or_len test (drop k ls) ≡ 0 =
    ap (λ (n : ℕ). position_or_len test (drop n ls)) all ∙ ap (position_or_len test) (past ls) in
    let len : position_or_len test ls ≡ length ls = omega (arith, none, rest, all) in
    let over = le-ltb (length ls) (length ls) (omega arith) in
    rw (len, over) refl
