-- Homes that miss a notice, and the answers that they give.
use Rattle.std.proofs.Common.{◌≡◌, ℕ, ◌==◌, true, refl, arith, Option, Some, None}
use Rattle.std.proofs.lemmas.Bool.Decides.{nat_tests}
use Rattle.tv_base.specs.declared.numbers.TreeNo.{TreeNo}
use Rattle.tv_base.specs.declared.numbers.SubNo.{SubNo}
use Rattle.tree_home.specs.declared.homes.OpenTree.{OpenTree}
use Rattle.tree_home.specs.declared.homes.Answered.{Answered}
use Rattle.tree_home.specs.Homes.{answer_in, Gets, home_in, misses, OpenTrees}
use Rattle.tree_home.proofs.Always.{answer-is}
use Rattle.world_model.specs.Counts.{one_if}

-- a home that misses a notice is there
home_by : (t : TreeNo) (k : SubNo) (hs : OpenTrees) (o : Option OpenTree) → home_in t hs ≡ o → misses t k hs ≡ true
    → (h : OpenTree) × (home_in t hs ≡ Some h)
home_by t k hs None is miss = absurd (let no = rw is at miss in cc no)
home_by t k hs (Some h) is miss = (h, is)

-- where a notice is missing there is a home
pub home_there : (t : TreeNo) (k : SubNo) (hs : OpenTrees) → misses t k hs ≡ true → (h : OpenTree) × (home_in t hs ≡ Some h)
home_there t k hs miss = home_by t k hs (home_in t hs) refl miss

-- an answer names its tree
pub answers_tree : (t : TreeNo) (k : SubNo) (values : Gets) (hs : OpenTrees) (a : Answered) → misses t k hs ≡ true
    → answer_in t k values hs ≡ Some a → a.tree ≡ t
answers_tree t k values hs a miss is =
    let there = home_there t k hs miss in
    (answer-is t k values hs there.0 a there.1 is).0

pub one_here : (t u : ℕ) → t ≡ u → one_if (t == u) ≡ 1
one_here t u is = grind (arith, nat_tests)
