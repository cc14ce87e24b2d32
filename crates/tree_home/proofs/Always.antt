-- What holds of the open trees whatever comes.
use Rattle.std.proofs.Common.{◌≡◌, ℕ, true, List, [], ◌∷◌, refl, ap, sym, ◌∙◌, arith, Option, Some, None, inl, inr, set, zero, suc, false, cond, eqb, ltb, replicate}
use Rattle.std.specs.Prelude.{IsSome, IsTrue, slice_get}
use Rattle.std.proofs.lemmas.Bool.Decides.{nat_tests}
use Rattle.std.proofs.lemmas.Bool.{cases_lt, ne_eqb, lt-ltb, le-ltb}
use Rattle.std.proofs.lemmas.List.Concat.{flat_map-cons}
use Rattle.tv_base.specs.declared.numbers.TreeNo.{TreeNo}
use Rattle.tv_base.specs.declared.numbers.SubNo.{SubNo}
use Rattle.tree_home.specs.declared.homes.OpenTree.{OpenTree}
use Rattle.tree_home.specs.declared.homes.Answered.{Answered}
use Rattle.tree_home.specs.Homes.{Gets, OpenTrees, home_in, new_tree, noted, noted_of, gathered, missing_count, missing_in, misses_of, is_missing, answer_with, answer_of}
use Rattle.tree_home.specs.Laws.{BegunKeepsOthers, NotedKeepsOthers, ForgottenKeepsOthers, BegunIsThere, ForgottenIsGone, ForgottenTakesBack, MissesWhenBegun, AllMissing, MissesOthers, AnsweredExactly, AnswerIsTheTrees, GatheredInOrder}
use Rattle.tree_home.proofs.Maps.{put_at-same, put_at-other, put_back}
use Rattle.tree_home.proofs.Gathered.{home_in-noted, gathered-none, gathered-all}

pub begun-others : BegunKeepsOthers
begun-others t u n v hs ne = put_at-other t.0 u.0 (Some (new_tree n v)) hs ne

pub noted-others : NotedKeepsOthers
noted-others t u s vs hs ne = put_at-other t.0 u.0 (noted_of s vs (hs t.0)) hs ne

pub forgotten-others : ForgottenKeepsOthers
forgotten-others t u hs ne = put_at-other t.0 u.0 None hs ne

pub begun-there : BegunIsThere
begun-there t n v hs = put_at-same t.0 (Some (new_tree n v)) hs

pub forgotten-gone : ForgottenIsGone
forgotten-gone t hs = put_at-same t.0 None hs

pub forgotten-begun : ForgottenTakesBack
forgotten-begun t n v hs none = put_back t.0 (Some (new_tree n v)) None hs none

-- whether it is answered, by how many notices are missing after this one
answered-when : (t : TreeNo) (h : OpenTree) (o : Option Gets) (ns : List (Option Gets)) → gathered ns ≡ o
    → IsSome (answer_with t h o) → missing_count ns ≡ 0
answered-when t h None ns is some = cc
answered-when t h (Some vs) ns is some =
    elim (cases_lt 0 (missing_count ns)) [
      | inl more ↦ absurd (let none = gathered-none ns more in let no : Some vs ≡ None = sym is ∙ none in cc)
      | inr few ↦ omega arith
    ]

answered-of : (t : TreeNo) (s : SubNo) (vs : Gets) (hs : OpenTrees) (o : Option OpenTree) → home_in t hs ≡ o
    → IsTrue (misses_of s o) → IsSome (answer_of t s vs o) → missing_in t (noted t s vs hs) ≡ 0
answered-of t s vs hs None is miss some = cc
answered-of t s vs hs (Some h) is miss some =
    let ns = set h.notices s.0 (Some vs) in
    rw (home_in-noted t s vs hs h is) (answered-when t h (gathered ns) ns refl some)

none-missing-of : (t : TreeNo) (s : SubNo) (vs : Gets) (hs : OpenTrees) (o : Option OpenTree) → home_in t hs ≡ o
    → IsTrue (misses_of s o) → missing_in t (noted t s vs hs) ≡ 0 → IsSome (answer_of t s vs o)
none-missing-of t s vs hs None is miss none = cc
none-missing-of t s vs hs (Some h) is miss none =
    let none' : missing_count (set h.notices s.0 (Some vs)) ≡ 0 = rw (home_in-noted t s vs hs h is) at none in
    rw (gathered-all (set h.notices s.0 (Some vs)) none') refl

pub answered-exactly : AnsweredExactly
answered-exactly t s vs hs miss =
    let o = home_in t hs in
    (λ some. answered-of t s vs hs o refl miss some, λ none. none-missing-of t s vs hs o refl miss none)

answer-of : (t : TreeNo) (h : OpenTree) (o : Option Gets) (a : Answered) → answer_with t h o ≡ Some a
    → (a.tree ≡ t) × (a.version ≡ h.version) × (o ≡ Some a.values)
answer-of t h None a is = cc
answer-of t h (Some vs) a is = grind arith

pub answer-is : AnswerIsTheTrees
answer-is t s vs hs h a here is =
    let is' : answer_with t h (gathered (set h.notices s.0 (Some vs))) ≡ Some a = rw here at is in
    answer-of t h (gathered (set h.notices s.0 (Some vs))) a is'

pub gathered-in_order : GatheredInOrder
gathered-in_order [] = refl
gathered-in_order (vs ∷ vss) = rw (gathered-in_order vss, flat_map-cons (λ (ws : Gets). ws) vs vss) refl

-- which notices are missing
replicate-missing : (n k : ℕ) → is_missing (slice_get (replicate n None) k) ≡ ltb k n
replicate-missing zero k = rw (le-ltb k 0 (omega arith)) refl
replicate-missing (suc n) zero = rw (lt-ltb 0 (suc n) (omega arith)) refl
replicate-missing (suc n) (suc k) = let rest = replicate-missing n k in grind (arith, nat_tests)

pub misses-begun : MissesWhenBegun
misses-begun t s n v hs = rw (begun-there t n v hs) (replicate-missing n s.0)

replicate-count : (n : ℕ) → missing_count (replicate n None) ≡ n
replicate-count zero = refl
replicate-count (suc n) = let rest = replicate-count n in omega arith

pub all-missing : AllMissing
all-missing t n v hs = rw (begun-there t n v hs) (replicate-count n)

set-missing : (ns : List (Option Gets)) (p q : ℕ) (vs : Gets)
    → is_missing (slice_get (set ns p (Some vs)) q) ≡ cond (eqb q p) false (is_missing (slice_get ns q))
set-missing [] p q vs = elim (eqb q p) as (λ b. false ≡ cond b false false) [ true ↦ refl | false ↦ refl ]
set-missing (n ∷ ns) zero zero vs = refl
set-missing (n ∷ ns) zero (suc q) vs = rw (ne_eqb (suc q) 0 (λ e. omega arith)) refl
set-missing (n ∷ ns) (suc p) zero vs = rw (ne_eqb 0 (suc p) (λ e. omega arith)) refl
set-missing (n ∷ ns) (suc p) (suc q) vs = let rest = set-missing ns p q vs in grind (arith, nat_tests)

misses-noted_of : (r s : SubNo) (vs : Gets) (o : Option OpenTree)
    → misses_of r (noted_of s vs o) ≡ cond (eqb r.0 s.0) false (misses_of r o)
misses-noted_of r s vs None = elim (eqb r.0 s.0) as (λ b. false ≡ cond b false false) [ true ↦ refl | false ↦ refl ]
misses-noted_of r s vs (Some h) = set-missing h.notices s.0 r.0 vs

pub misses-others : MissesOthers
misses-others t r s vs hs =
    ap (λ (o : Option OpenTree). misses_of r o) (put_at-same t.0 (noted_of s vs (hs t.0)) hs)
    ∙ misses-noted_of r s vs (hs t.0)
