-- What the home of a tree does in a step.
use Rattle.std.specs.Prelude.{ℕ}
use Rattle.tv_base.specs.declared.numbers.TreeNo.{TreeNo}
use Rattle.tv_base.specs.declared.numbers.SubNo.{SubNo}
use Rattle.tv_base.specs.declared.numbers.Version.{Version}
use Rattle.tree_home.specs.Homes.{Gets}

-- the open trees stay; a tree of so many subtransactions, more than one, is opened, and its root's notice noted with
-- these values; a notice that is missing is noted, while another is missing too; or a tree is answered, and goes
pub data HomeChange : Type 0 where
  Stay : HomeChange
  Open : TreeNo → ℕ → Version → Gets → HomeChange
  Note : TreeNo → SubNo → Gets → HomeChange
  Forget : TreeNo → HomeChange
