-- What a node's parts do in a step.
use Rattle.tv_base.specs.declared.numbers.Version.{Version}
use Rattle.tree_step.specs.steps.TreeChange.{TreeChange}

-- nothing; a subtransaction is done, or a notice is brought; the update version is raised, if it is less; a version is
-- shown to reads; or every item is collected to a version, which is the low version then
pub data Change : Type 0 where
  Still : Change
  Tree : TreeChange → Change
  Turn : Version → Change
  Show : Version → Change
  Sweep : Version → Change
