-- What becomes of the answers that are held.
use Rattle.std.specs.Prelude.{List}
use Rattle.tv_base.specs.declared.numbers.TreeNo.{TreeNo}
use Rattle.tv_base.specs.declared.numbers.NodeNo.{NodeNo}
use Rattle.tree_home.specs.declared.homes.Answered.{Answered}

-- all stay; an answer is held until each of these nodes has acknowledged the decision, and a request of the answer's
-- version to each is counted; or an acknowledgement of a tree whose answer is held is taken
pub data HoldChange : Type 0 where
  Stay : HoldChange
  Hold : Answered → List NodeNo → HoldChange
  Ack : TreeNo → HoldChange
