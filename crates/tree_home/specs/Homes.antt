-- What a home keeps, and the notices of trees that are open there.
use Rattle.std.specs.Prelude.{if◌then◌else◌, ℕ, ◌+◌, ◌<◌, ◌≤◌, nat_le, Bool, true, false, List, [], ◌∷◌, ◌++◌, replicate, slice_set, slice_get, ⊤, Option, Some, None}
use Rattle.tv_base.specs.declared.numbers.TreeNo.{TreeNo}
use Rattle.tv_base.specs.declared.numbers.SubNo.{SubNo}
use Rattle.tv_base.specs.declared.numbers.Version.{Version}
use Rattle.tree_home.specs.declared.homes.OpenTree.{OpenTree}
use Rattle.tree_home.specs.declared.homes.Answered.{Answered}
use Rattle.tree_home.specs.declared.homes.Held.{Held}
use Rattle.tree_home.specs.declared.homes.Noted.{Noted}
use Rattle.tree_home.specs.declared.homes.Noted.TheVariants.{Missing, Answered as WasAnswered}
use Rattle.tree_home.specs.declared.homes.Prospect.{Prospect}
use Rattle.tree_home.specs.declared.homes.Prospect.TheVariants.{NotMissing, Noted as WouldBeNoted, Answered as WouldBeAnswered}
use Rattle.tree_home.specs.Maps.{AreAscending, by_tree, put_at}
pub use Rattle.tree_home.specs.Notices.{Gets}

-- the trees that are open here, by number
abbrev pub OpenTrees : Type 0
OpenTrees = ℕ → Option OpenTree

abbrev pub no_trees : OpenTrees
no_trees t = None

-- what a home keeps: the open trees and the held answers, each as the entries of a map
pub record HomesData : Type 0 where
  pub opened : List (TreeNo × OpenTree)
  pub held : List (TreeNo × Held)

-- the numbers of both maps ascend
pub record AreMaps (h : HomesData) : Type 0 where
  pub opened : AreAscending h.opened
  pub held : AreAscending h.held

-- a home that keeps nothing
abbrev pub no_homes : HomesData
no_homes = record { opened = []; held = [] }

-- the trees that are open at a home
abbrev pub open_trees : HomesData → OpenTrees
open_trees h = by_tree h.opened

-- what is open of a tree
abbrev pub home_in : TreeNo → OpenTrees → Option OpenTree
home_in t hs = hs t.0

-- a tree that misses each of its notices
abbrev pub new_tree : ℕ → Version → OpenTree
new_tree n v = record { version = v; notices = replicate n None }

-- the trees with a new one
abbrev pub begun : TreeNo → ℕ → Version → OpenTrees → OpenTrees
begun t n v hs = put_at t.0 (Some (new_tree n v)) hs

-- the tree with one more notice
abbrev pub with_notice : SubNo → Gets → OpenTree → OpenTree
with_notice s vs h = record h { notices = slice_set h.notices s.0 (Some vs) }

-- it has one more notice where it is there
abbrev pub noted_of : SubNo → Gets → Option OpenTree → Option OpenTree
noted_of s vs None = None
noted_of s vs (Some h) = Some (with_notice s vs h)

-- the trees, where one has one more notice
abbrev pub noted : TreeNo → SubNo → Gets → OpenTrees → OpenTrees
noted t s vs hs = put_at t.0 (noted_of s vs (home_in t hs)) hs

-- the trees without one
abbrev pub forgotten : TreeNo → OpenTrees → OpenTrees
forgotten t hs = put_at t.0 None hs

-- values before others that may be missing
abbrev pub prepended : Gets → Option Gets → Option Gets
prepended vs None = None
prepended vs (Some ws) = Some (vs ++ ws)

-- all values one after another, where no notice is missing
abbrev pub gathered : List (Option Gets) → Option Gets
gathered [] = Some []
gathered (None ∷ ns) = None
gathered (Some vs ∷ ns) = prepended vs (gathered ns)

-- how many notices are missing
abbrev pub missing_count : List (Option Gets) → ℕ
missing_count [] = 0
missing_count (None ∷ ns) = missing_count ns + 1
missing_count (Some vs ∷ ns) = missing_count ns

-- how many notices a tree misses, 0 where there is none
abbrev pub missing_of : Option OpenTree → ℕ
missing_of None = 0
missing_of (Some h) = missing_count h.notices

-- how many notices of the tree are missing
abbrev pub missing_in : TreeNo → OpenTrees → ℕ
missing_in t hs = missing_of (home_in t hs)

-- at the place of a notice, one is missing
abbrev pub is_missing : Option (Option Gets) → Bool
is_missing None = false
is_missing (Some None) = true
is_missing (Some (Some vs)) = false

-- there is a tree that has a place for the notice, and misses it
abbrev pub misses_of : SubNo → Option OpenTree → Bool
misses_of s None = false
misses_of s (Some h) = is_missing (slice_get h.notices s.0)

-- the tree is there, the subtransaction is one of it, and its notice is missing
abbrev pub misses : TreeNo → SubNo → OpenTrees → Bool
misses t s hs = misses_of s (home_in t hs)

-- what a tree has gathered with one more notice, where none is missing then
abbrev pub gathered_with : SubNo → Gets → OpenTree → Option Gets
gathered_with s vs h = gathered (slice_set h.notices s.0 (Some vs))

-- the answer of a tree with these values
abbrev pub answer_with : TreeNo → OpenTree → Option Gets → Option Answered
answer_with t h None = None
answer_with t h (Some vs) = Some (record { tree = t; version = h.version; values = vs })

-- the answer of a tree that has one more notice, where none is missing then
abbrev pub answer_of : TreeNo → SubNo → Gets → Option OpenTree → Option Answered
answer_of t s vs None = None
answer_of t s vs (Some h) = answer_with t h (gathered_with s vs h)

-- its answer where it is open
abbrev pub answer_in : TreeNo → SubNo → Gets → OpenTrees → Option Answered
answer_in t s vs hs = answer_of t s vs (home_in t hs)

-- the trees after one more notice, by the answer that it gives: a tree that is answered is gone; and the same with the
-- answer that it does give
abbrev pub after_notice : TreeNo → SubNo → Gets → OpenTrees → Option Answered → OpenTrees
after_notice t s vs hs None = noted t s vs hs
after_notice t s vs hs (Some a) = forgotten t hs

abbrev pub homes_after_notice : TreeNo → SubNo → Gets → OpenTrees → OpenTrees
homes_after_notice t s vs hs = after_notice t s vs hs (answer_in t s vs hs)

-- the version of an answer, where there is one
abbrev pub answered_version : Option Answered → Option Version
answered_version None = None
answered_version (Some a) = Some a.version

-- the version of the answer that a notice completes, if it completes one
abbrev pub completed_version : TreeNo → SubNo → Gets → OpenTrees → Option Version
completed_version t s vs hs = if misses t s hs then answered_version (answer_in t s vs hs) else None

-- the version of a tree that misses one notice at most
abbrev pub last_version : OpenTree → Option Version
last_version h = if nat_le (missing_count h.notices) 1 then Some h.version else None

-- the answer where there is one, else how many notices are missing
abbrev pub told : ℕ → Option Answered → Noted
told k None = Missing k
told k (Some a) = WasAnswered a

-- what is told of one more notice
abbrev pub outcome : TreeNo → SubNo → Gets → OpenTrees → Noted
outcome t s vs hs = told (missing_in t (noted t s vs hs)) (answer_in t s vs hs)

-- where notices are still missing, at least one is
abbrev pub MissesSome : Noted → Type 0
MissesSome (Missing k) = 0 < k
MissesSome (WasAnswered a) = ⊤

-- what would come of a notice that is missing, by the answer that it gives
abbrev pub prospect_of : Option Answered → Prospect
prospect_of None = WouldBeNoted
prospect_of (Some a) = WouldBeAnswered a

-- what would come of a notice
abbrev pub prospect : TreeNo → SubNo → Gets → OpenTrees → Prospect
prospect t s vs hs = if misses t s hs then prospect_of (answer_in t s vs hs) else NotMissing

-- a notice that is missing, among so many, would be noted exactly where another is missing too
abbrev pub IsNotedAmong : ℕ → Prospect → Type 0
IsNotedAmong k NotMissing = ⊤
IsNotedAmong k WouldBeNoted = 1 < k
IsNotedAmong k (WouldBeAnswered a) = k ≤ 1
