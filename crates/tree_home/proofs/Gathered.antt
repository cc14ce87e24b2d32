-- What is gathered of notices, how many are missing, and a tree that has one more. The version of an answer, and that
-- it names its tree.
use Rattle.std.proofs.Common.{◌≡◌, ℕ, zero, suc, ◌+◌, ◌<◌, ◌≤◌, List, [], ◌∷◌, ◌++◌, length, set, refl, ap, subst, ◌∙◌, arith, append_assoc, append-nil, Bool, true, false, Option, Some, None, sym, inl, inr}
use Rattle.std.specs.Prelude.{if◌then◌else◌, IsSome, IsNone, IsTrue, nat_le, slice_get, ◌↔◌, slice_set}
use Rattle.std.proofs.lemmas.Bool.{cases_lt, leb-false, leb-true}
use Rattle.tv_base.specs.declared.numbers.TreeNo.{TreeNo}
use Rattle.tv_base.specs.declared.numbers.SubNo.{SubNo}
use Rattle.tv_base.specs.declared.numbers.Version.{Version}
use Rattle.tree_home.specs.declared.homes.OpenTree.{OpenTree}
use Rattle.tree_home.specs.declared.homes.Answered.{Answered}
use Rattle.tree_home.specs.declared.homes.Noted.TheVariants.{Missing}
use Rattle.tree_home.specs.declared.homes.Prospect.TheVariants.{NotMissing, Noted as WouldBeNoted, Answered as WouldBeAnswered}
use Rattle.tree_home.specs.Homes.{Gets, OpenTrees, home_in, with_notice, noted, noted_of, prepended, gathered, missing_count, missing_of, missing_in, misses, misses_of, is_missing, told, answer_of, answer_with, last_version, answered_version, prospect_of, IsNotedAmong}
use Rattle.tree_home.proofs.Maps.{put_at-same}

pub prepended-append : (vs ws : Gets) (o : Option Gets) → prepended (vs ++ ws) o ≡ prepended vs (prepended ws o)
prepended-append vs ws None = refl
prepended-append vs ws (Some us) = ap Some (append_assoc vs ws us)

pub prepended-nil : (o : Option Gets) → prepended [] o ≡ o
prepended-nil None = refl
prepended-nil (Some us) = refl

-- all values that are there
abbrev all_of : List (Option Gets) → Gets
all_of [] = []
all_of (None ∷ ns) = all_of ns
all_of (Some vs ∷ ns) = vs ++ all_of ns

pub gathered-none : (ns : List (Option Gets)) → 0 < missing_count ns → gathered ns ≡ None
gathered-none [] some = absurd (omega arith)
gathered-none (None ∷ ns) some = refl
gathered-none (Some vs ∷ ns) some = ap (prepended vs) (gathered-none ns some)

pub gathered-all : (ns : List (Option Gets)) → missing_count ns ≡ 0 → gathered ns ≡ Some (all_of ns)
gathered-all [] none = refl
gathered-all (None ∷ ns) none = absurd (omega (arith, none))
gathered-all (Some vs ∷ ns) none = ap (prepended vs) (gathered-all ns none)

-- one more notice makes one fewer missing
pub missing_count-set : (ns : List (Option Gets)) (p : ℕ) (vs : Gets) → IsTrue (is_missing (slice_get ns p))
    → missing_count (set ns p (Some vs)) + 1 ≡ missing_count ns
missing_count-set [] p vs is = cc
missing_count-set (None ∷ ns) zero vs is = refl
missing_count-set (Some us ∷ ns) zero vs is = cc
missing_count-set (None ∷ ns) (suc p) vs is = let rest = missing_count-set ns p vs is in omega arith
missing_count-set (Some us ∷ ns) (suc p) vs is = missing_count-set ns p vs is

pub gathered-others : (ns : List (Option Gets)) (p : ℕ) (vs : Gets) → IsTrue (is_missing (slice_get ns p))
    → 1 < missing_count ns → gathered (set ns p (Some vs)) ≡ None
gathered-others ns p vs is more =
    let one = missing_count-set ns p vs is in
    gathered-none (set ns p (Some vs)) (omega arith)

pub gathered-last : (ns : List (Option Gets)) (p : ℕ) (vs : Gets) → IsTrue (is_missing (slice_get ns p))
    → missing_count ns ≤ 1 → gathered (set ns p (Some vs)) ≡ Some (all_of (set ns p (Some vs)))
gathered-last ns p vs is few =
    let one = missing_count-set ns p vs is in
    gathered-all (set ns p (Some vs)) (omega arith)

-- what misses a notice is there, and has a place for it
pub misses-some : (s : SubNo) (o : Option OpenTree) → IsTrue (misses_of s o) → IsSome o
misses-some s None is = is
misses-some s (Some h) is = refl

pub misses-at : (s : SubNo) (o : Option OpenTree) (h : OpenTree) → IsTrue (misses_of s o) → o ≡ Some h
    → IsTrue (is_missing (slice_get h.notices s.0))
misses-at s None h is eq = cc
misses-at s (Some k) h is eq = let P : Option OpenTree → Type 0 = λ o. IsTrue (misses_of s o) in subst P eq is

pub missing-lt : (ns : List (Option Gets)) (p : ℕ) → IsTrue (is_missing (slice_get ns p)) → p < length ns
missing-lt [] p is = cc
missing-lt (n ∷ ns) zero is = omega arith
missing-lt (n ∷ ns) (suc p) is = let rest = missing-lt ns p is in omega arith

-- the tree has the notice
pub home_in-noted : (t : TreeNo) (s : SubNo) (vs : Gets) (hs : OpenTrees) (h : OpenTree) → home_in t hs ≡ Some h
    → home_in t (noted t s vs hs) ≡ Some (with_notice s vs h)
home_in-noted t s vs hs h is = put_at-same t.0 (noted_of s vs (hs t.0)) hs ∙ ap (noted_of s vs) is

missing-noted_of : (s : SubNo) (vs : Gets) (o : Option OpenTree) → IsTrue (misses_of s o)
    → missing_of (noted_of s vs o) + 1 ≡ missing_of o
missing-noted_of s vs None miss = cc
missing-noted_of s vs (Some h) miss = missing_count-set h.notices s.0 vs miss

pub missing_in-noted : (t : TreeNo) (s : SubNo) (vs : Gets) (hs : OpenTrees) → IsTrue (misses t s hs)
    → missing_in t (noted t s vs hs) + 1 ≡ missing_in t hs
missing_in-noted t s vs hs miss =
    ap (λ (o : Option OpenTree). missing_of o + 1) (put_at-same t.0 (noted_of s vs (hs t.0)) hs)
    ∙ missing-noted_of s vs (hs t.0) miss

pub misses-there : (t : TreeNo) (s : SubNo) (hs : OpenTrees) → IsTrue (misses t s hs) → IsSome (home_in t hs)
misses-there t s hs is = misses-some s (home_in t hs) is

pub misses-here : (t : TreeNo) (s : SubNo) (hs : OpenTrees) (h : OpenTree) → IsTrue (misses t s hs)
    → home_in t hs ≡ Some h → IsTrue (is_missing (slice_get h.notices s.0))
misses-here t s hs h is eq = misses-at s (home_in t hs) h is eq

-- the version of the answer that a notice completes
pub version-last : (t : TreeNo) (s : SubNo) (vs : Gets) (h : OpenTree) → IsTrue (is_missing (slice_get h.notices s.0))
    → last_version h ≡ answered_version (answer_of t s vs (Some h))
version-last t s vs h is = by (nat_le (missing_count h.notices) 1) refl where
  by : (few : Bool) → nat_le (missing_count h.notices) 1 ≡ few
      → (if few then Some h.version else None) ≡ answered_version (answer_of t s vs (Some h))
  by true one =
      sym (ap (λ (o : Option Gets). answered_version (answer_with t h o))
      (gathered-last h.notices s.0 vs is (leb-true (missing_count h.notices) 1 one)))
  by false more =
      sym (ap (λ (o : Option Gets). answered_version (answer_with t h o))
      (gathered-others h.notices s.0 vs is (leb-false (missing_count h.notices) 1 more)))

pub version-told : (t : TreeNo) (s : SubNo) (vs : Gets) (o : Option OpenTree) (v : Option Version)
    → (if misses_of s o then elim o [ Some h ↦ last_version h | None ↦ None ] else None) ≡ v
    → v ≡ (if misses_of s o then answered_version (answer_of t s vs o) else None)
version-told t s vs None v is = sym is
version-told t s vs (Some h) v is = sym is ∙ by (is_missing (slice_get h.notices s.0)) refl where
  by : (b : Bool) → is_missing (slice_get h.notices s.0) ≡ b
      → (if b then last_version h else None) ≡ (if b then answered_version (answer_of t s vs (Some h)) else None)
  by true at = version-last t s vs h at
  by false at = refl

-- what is told where a notice is missing
pub told-missing : (k m : ℕ) (o : Option Answered) → k ≡ m → None ≡ o → Missing k ≡ told m o
told-missing k m o left none = rw (← left, ← none) refl

-- what would come of a notice that is missing
pub prospect-missing : (b : Bool) (o : Option Answered) → IsTrue b → (if b then prospect_of o else NotMissing) ≡ prospect_of o
prospect-missing b o is = rw is refl

pub prospect-among : (o : Option Answered) (k : ℕ) → (IsNone o ↔ (1 < k)) → IsNotedAmong k (prospect_of o)
prospect-among None k when = when.0 refl
prospect-among (Some a) k when = elim (cases_lt 1 k) [
  | inl more ↦ absurd (let none = when.1 more in cc)
  | inr few ↦ omega (arith, few)
]

-- by what would come of it, there is an answer or none
pub noted-none : (o : Option Answered) → WouldBeNoted ≡ prospect_of o → o ≡ None
noted-none None is = refl
noted-none (Some a) is = cc

pub answered-some : (o : Option Answered) (a : Answered) → WouldBeAnswered a ≡ prospect_of o → o ≡ Some a
answered-some None a is = cc
answered-some (Some b) a is = let same : a ≡ b = cc is in ap Some (sym same)

pub never-stray : (o : Option Answered) → NotMissing ≡ prospect_of o → ⊥
never-stray None is = cc
never-stray (Some a) is = cc

pub ruleset gathering = (prepended-append, prepended-nil, append-nil)

pub ruleset completing = (gathered-others, gathered-last)

pub ruleset answering = (misses-there, misses-here, prospect-missing, prospect-among)

pub ruleset telling_version = (version-told)

pub ruleset telling = (missing_in-noted, misses-there, prospect-missing, noted-none, answered-some, never-stray)

-- an answer names its tree
pub answer_with_tree : (t : TreeNo) (h : OpenTree) (o : Option Gets) (a : Answered) → answer_with t h o ≡ Some a → a.tree ≡ t
answer_with_tree t h None a is = cc
answer_with_tree t h (Some vs) a is =
    let same : record { tree = t; version = h.version; values = vs } ≡ a = cc in
    sym (ap (λ (x : Answered). x.tree) same)

pub answer_of_tree : (t : TreeNo) (k : SubNo) (values : Gets) (o : Option OpenTree) (a : Answered)
    → answer_of t k values o ≡ Some a → a.tree ≡ t
answer_of_tree t k values None a is = cc
answer_of_tree t k values (Some h) a is = answer_with_tree t h (gathered (slice_set h.notices k.0 (Some values))) a is
