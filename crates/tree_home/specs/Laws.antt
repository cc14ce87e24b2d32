-- What holds of the open trees whatever comes.
use Rattle.std.specs.Prelude.{ℕ, false, ◌==◌, if◌then◌else◌, nat_lt, ◌≡◌, ◌≢◌, ◌+◌, ◌↔◌, List, Some, None, IsSome, IsTrue, map, flat_map}
use Rattle.tv_base.specs.declared.numbers.TreeNo.{TreeNo}
use Rattle.tv_base.specs.declared.numbers.SubNo.{SubNo}
use Rattle.tv_base.specs.declared.numbers.Version.{Version}
use Rattle.tree_home.specs.declared.homes.OpenTree.{OpenTree}
use Rattle.tree_home.specs.declared.homes.Answered.{Answered}
use Rattle.tree_home.specs.Maps.{AreAscending, by_tree}
use Rattle.tree_home.specs.Homes.{Gets, OpenTrees, home_in, new_tree, begun, with_notice, noted, forgotten, gathered, misses, missing_in, answer_in}

-- any other tree stays when a tree begins
abbrev pub BegunKeepsOthers : Type 0
BegunKeepsOthers = (t u : TreeNo) (n : ℕ) (v : Version) (hs : OpenTrees) → u.0 ≢ t.0
    → home_in u (begun t n v hs) ≡ home_in u hs

-- it stays when a tree has one more notice
abbrev pub NotedKeepsOthers : Type 0
NotedKeepsOthers = (t u : TreeNo) (s : SubNo) (vs : Gets) (hs : OpenTrees) → u.0 ≢ t.0
    → home_in u (noted t s vs hs) ≡ home_in u hs

-- it stays when a tree goes
abbrev pub ForgottenKeepsOthers : Type 0
ForgottenKeepsOthers = (t u : TreeNo) (hs : OpenTrees) → u.0 ≢ t.0 → home_in u (forgotten t hs) ≡ home_in u hs

-- a tree that has begun is there with its notices missing
abbrev pub BegunIsThere : Type 0
BegunIsThere = (t : TreeNo) (n : ℕ) (v : Version) (hs : OpenTrees) → home_in t (begun t n v hs) ≡ Some (new_tree n v)

-- a tree that has a notice is there with it
abbrev pub NotedIsThere : Type 0
NotedIsThere = (t : TreeNo) (s : SubNo) (vs : Gets) (hs : OpenTrees) (h : OpenTree) → home_in t hs ≡ Some h
    → home_in t (noted t s vs hs) ≡ Some (with_notice s vs h)

-- a tree that is forgotten isn't there
abbrev pub ForgottenIsGone : Type 0
ForgottenIsGone = (t : TreeNo) (hs : OpenTrees) → home_in t (forgotten t hs) ≡ None

-- where a tree begins that wasn't there, and is forgotten, the trees are as before
abbrev pub ForgottenTakesBack : Type 0
ForgottenTakesBack = (t : TreeNo) (n : ℕ) (v : Version) (hs : OpenTrees) → home_in t hs ≡ None
    → forgotten t (begun t n v hs) ≡ hs

-- entries of ascending numbers that have the same for each tree are the same
abbrev pub EntriesAreTheirTrees : Type 0 → Type 0
EntriesAreTheirTrees X = (es fs : List (TreeNo × X)) → AreAscending es → AreAscending fs → by_tree es ≡ by_tree fs
    → es ≡ fs

-- of a tree that has begun, the notices up to the number given are missing
abbrev pub MissesWhenBegun : Type 0
MissesWhenBegun = (t : TreeNo) (s : SubNo) (n : ℕ) (v : Version) (hs : OpenTrees)
    → misses t s (begun t n v hs) ≡ nat_lt s.0 n

-- as many are missing as there are subtransactions
abbrev pub AllMissing : Type 0
AllMissing = (t : TreeNo) (n : ℕ) (v : Version) (hs : OpenTrees) → missing_in t (begun t n v hs) ≡ n

-- a notice that is taken down is missing no more, and each other one is missing as before
abbrev pub MissesOthers : Type 0
MissesOthers = (t : TreeNo) (r s : SubNo) (vs : Gets) (hs : OpenTrees)
    → misses t r (noted t s vs hs) ≡ (if r.0 == s.0 then false else misses t r hs)

-- a notice makes one fewer missing
abbrev pub OneFewer : Type 0
OneFewer = (t : TreeNo) (s : SubNo) (vs : Gets) (hs : OpenTrees) → IsTrue (misses t s hs)
    → missing_in t (noted t s vs hs) + 1 ≡ missing_in t hs

-- a tree is answered exactly where no notice is missing after this one
abbrev pub AnsweredExactly : Type 0
AnsweredExactly = (t : TreeNo) (s : SubNo) (vs : Gets) (hs : OpenTrees) → IsTrue (misses t s hs)
    → (IsSome (answer_in t s vs hs) ↔ (missing_in t (noted t s vs hs) ≡ 0))

-- the answer names the tree, has its version, and the values of all notices one after another
abbrev pub AnswerIsTheTrees : Type 0
AnswerIsTheTrees = (t : TreeNo) (s : SubNo) (vs : Gets) (hs : OpenTrees) (h : OpenTree) (a : Answered)
    → home_in t hs ≡ Some h → answer_in t s vs hs ≡ Some a
    → (a.tree ≡ t) × (a.version ≡ h.version) × (gathered (with_notice s vs h).notices ≡ Some a.values)

-- the values of all notices are gathered in their order
abbrev pub GatheredInOrder : Type 0
GatheredInOrder = (vss : List Gets) → gathered (map Some vss) ≡ Some (flat_map (λ vs. vs) vss)
