-- Answers that a notice brings about: each names the transaction that was noted.
use Rattle.std.proofs.Common.{Bool, None, Option, Some, false, true, ◌≡◌}
use Rattle.std.specs.Prelude.{if◌then◌else◌}
use Rattle.tv_base.specs.declared.numbers.SubNo.{SubNo}
use Rattle.tv_base.specs.declared.numbers.TreeNo.{TreeNo}
use Rattle.tree_home.specs.Homes.{Gets, OpenTrees, answer_in, home_in, misses}
use Rattle.tree_home.specs.declared.homes.Answered.{Answered}
use Rattle.tree_home.proofs.Gathered.{answer_of_tree}
use Rattle.world_model.specs.Notices.{answer_noted}

if_tree : (t : TreeNo) (b : Bool) (o : Option Answered) (a : Answered) → ((x : Answered) → o ≡ Some x → x.tree ≡ t)
    → (if b then o else None) ≡ Some a → a.tree ≡ t
if_tree t true o a its is = its a is
if_tree t false o a its is = absurd (cc is)

-- an answer names the tree that was noted
pub answer_noted_tree : (t : TreeNo) (k : SubNo) (vs : Gets) (hs : OpenTrees) (a : Answered) → answer_noted t k vs hs ≡ Some a → a.tree ≡ t
answer_noted_tree t k vs hs a is =
    if_tree t (misses t k hs) (answer_in t k vs hs) a (λ x at. answer_of_tree t k vs (home_in t hs) x at) is
