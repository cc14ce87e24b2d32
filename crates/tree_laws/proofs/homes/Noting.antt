-- What one notice more makes of the homes.
use Rattle.std.proofs.Common.{◌≡◌, ◌≢◌, ◌⊎◌, inl, inr, ℕ, zero, suc, ◌<◌, ◌≤◌, Bool, true, false, List, [], ◌∷◌, length, set, replicate, refl, ap, ◌∙◌, arith, Option, Some, None}
use Rattle.std.specs.Prelude.{IsSome, nat_lt, slice_get}
use Rattle.std.proofs.lemmas.Bool.Decides.{nat_tests}
use Rattle.tv_base.specs.declared.numbers.TreeNo.{TreeNo}
use Rattle.tv_base.specs.declared.numbers.SubNo.{SubNo}
use Rattle.tv_base.specs.declared.numbers.Version.{Version}
use Rattle.tree_home.specs.declared.homes.Answered.{Answered}
use Rattle.tree_home.specs.Homes.{answer_in, begun, forgotten, Gets, home_in, misses, missing_count, missing_in, noted, OpenTrees}
use Rattle.tree_home.proofs.Always.{begun-others, noted-others, forgotten-others, misses-begun, answered-exactly}
use Rattle.world_model.specs.Notices.{homes_noted, answer_noted}
use Rattle.tree_laws.proofs.loads.Counts.{zero_or}
use Rattle.tree_laws.specs.Stages.{is_noted}

-- a notice that was missing: others are still missing, or the tree is answered and gone
pub data Noting (t : TreeNo) (k : SubNo) (values : Gets) (hs : OpenTrees) : Type 0 where
  More : homes_noted t k values hs ≡ noted t k values hs → answer_noted t k values hs ≡ None → 1 ≤ missing_in t (noted t k values hs)
      → Noting t k values hs
  Last : (a : Answered) → homes_noted t k values hs ≡ forgotten t hs → answer_noted t k values hs ≡ Some a
      → answer_in t k values hs ≡ Some a → missing_in t (noted t k values hs) ≡ 0 → Noting t k values hs

some_missing : (t : TreeNo) (k : SubNo) (values : Gets) (hs : OpenTrees) → misses t k hs ≡ true → answer_in t k values hs ≡ None
    → (missing_in t (noted t k values hs) ≡ 0) ⊎ (0 < missing_in t (noted t k values hs)) → 1 ≤ missing_in t (noted t k values hs)
some_missing t k values hs miss is (inl none) =
    let some : IsSome (answer_in t k values hs) = (answered-exactly t k values hs miss).1 none in
    absurd (let no = rw is at some in cc)
some_missing t k values hs miss is (inr some) = some

noting_by : (t : TreeNo) (k : SubNo) (values : Gets) (hs : OpenTrees) → misses t k hs ≡ true → (o : Option Answered)
    → answer_in t k values hs ≡ o → Noting t k values hs
noting_by t k values hs miss None is =
    More (rw miss (rw is refl)) (rw miss is) (some_missing t k values hs miss is (zero_or (missing_in t (noted t k values hs))))
noting_by t k values hs miss (Some a) is =
    let some : IsSome (answer_in t k values hs) = rw is refl in
    Last a (rw miss (rw is refl)) (rw miss is) is ((answered-exactly t k values hs miss).0 some)

-- every notice that was missing is one of these
pub noting : (t : TreeNo) (k : SubNo) (values : Gets) (hs : OpenTrees) → misses t k hs ≡ true → Noting t k values hs
noting t k values hs miss = noting_by t k values hs miss (answer_in t k values hs) refl

-- The homes of other trees stay.
others_by : (t u : TreeNo) (k : SubNo) (values : Gets) (hs : OpenTrees) → u.0 ≢ t.0 → Noting t k values hs
    → home_in u (homes_noted t k values hs) ≡ home_in u hs
others_by t u k values hs ne (More is answer some) = ap (home_in u) is ∙ noted-others t u k values hs ne
others_by t u k values hs ne (Last a is answer here none) = ap (home_in u) is ∙ forgotten-others t u hs ne

others_test : (t u : TreeNo) (k : SubNo) (values : Gets) (hs : OpenTrees) → u.0 ≢ t.0 → (test : Bool) → misses t k hs ≡ test
    → home_in u (homes_noted t k values hs) ≡ home_in u hs
others_test t u k values hs ne true is = others_by t u k values hs ne (noting t k values hs is)
others_test t u k values hs ne false is = rw is refl

-- a notice leaves the homes of other trees
pub noted_keeps_others : (t u : TreeNo) (k : SubNo) (values : Gets) (hs : OpenTrees) → u.0 ≢ t.0
    → home_in u (homes_noted t k values hs) ≡ home_in u hs
noted_keeps_others t u k values hs ne = others_test t u k values hs ne (misses t k hs) refl

-- so does a root
pub root_keeps_others : (t u : TreeNo) (k : SubNo) (values : Gets) (n : ℕ) (v : Version) (hs : OpenTrees) → u.0 ≢ t.0
    → home_in u (homes_noted t k values (begun t n v hs)) ≡ home_in u hs
root_keeps_others t u k values n v hs ne = noted_keeps_others t u k values (begun t n v hs) ne ∙ begun-others t u n v hs ne

-- Which notices were taken down.
pub noted_same : (ns : List (Option Gets)) (k : ℕ) (values : Gets) → k < length ns → is_noted (slice_get (set ns k (Some values)) k) ≡ 1
noted_same [] k values lt = absurd (omega arith)
noted_same (n ∷ ns) zero values lt = refl
noted_same (n ∷ ns) (suc k) values lt = noted_same ns k values (omega arith)

-- and at no other
pub noted_other : (ns : List (Option Gets)) (k i : ℕ) (values : Gets) → i ≢ k
    → is_noted (slice_get (set ns k (Some values)) i) ≡ is_noted (slice_get ns i)
noted_other [] k i values ne = refl
noted_other (n ∷ ns) zero zero values ne = absurd (ne refl)
noted_other (n ∷ ns) zero (suc i) values ne = refl
noted_other (n ∷ ns) (suc k) zero values ne = refl
noted_other (n ∷ ns) (suc k) (suc i) values ne = noted_other ns k i values (λ is. ne (ap suc is))

-- where all are missing none was taken down
pub none_noted : (n k : ℕ) → is_noted (slice_get (replicate n None) k) ≡ 0
none_noted zero k = refl
none_noted (suc n) zero = refl
none_noted (suc n) (suc k) = none_noted n k

-- where none is missing each was taken down
pub all_noted : (ns : List (Option Gets)) (k : ℕ) → missing_count ns ≡ 0 → k < length ns → is_noted (slice_get ns k) ≡ 1
all_noted [] k none lt = absurd (omega arith)
all_noted (None ∷ ns) k none lt = absurd (omega (arith, none))
all_noted (Some values ∷ ns) zero none lt = refl
all_noted (Some values ∷ ns) (suc k) none lt = all_noted ns k none (omega arith)

-- A tree that begins misses its root's notice.
pub misses_root : (t : TreeNo) (k : SubNo) (n : ℕ) (v : Version) (hs : OpenTrees) → k.0 < n → misses t k (begun t n v hs) ≡ true
misses_root t k n v hs lt = let below : nat_lt k.0 n ≡ true = grind (arith, nat_tests) in misses-begun t k n v hs ∙ below
