-- What the laws of phases and of counting need of the transactions of a script.
use Rattle.std.proofs.Common.{◌≡◌, ℕ, ◌<◌, ◌≤◌, List, length, Some, false}
use Rattle.tv_base.specs.declared.numbers.SubNo.{SubNo}
use Rattle.tv_base.specs.declared.numbers.TreeNo.{TreeNo}
use Rattle.tv_base.specs.declared.numbers.Version.{Version}
use Rattle.letter_types.specs.declared.bodies.Body.TheVariants.{Done}
use Rattle.letter_types.specs.declared.bodies.Notice.{Notice}
use Rattle.letter_types.specs.declared.entries.Entry.{Entry}
use Rattle.letter_types.specs.declared.entries.Letter.{Letter}
use Rattle.tree_home.specs.declared.homes.Answered.{Answered}
use Rattle.tx_trees.specs.ScriptData.{ScriptData}
use Rattle.tx_trees.specs.Valid.{IsValid}
use Rattle.world_model.specs.AllApt.{AllApt}
use Rattle.tx_trees.specs.Counts.{is_lossy}
use Rattle.world_model.specs.Notices.{answer_noted, values_of}
use Rattle.world_model.specs.Runs.{IsStepRun, node_in}
use Rattle.world_model.proofs.Lawful.{nudged}
use Rattle.world_model.proofs.Outstanding.{IsOutstanding}

-- the script is valid; and in every run of it in which each letter was apt, nudges are at most as many as trees, and a notice
-- that has still to be done answers its tree in the version that it carries
pub record IsTreeLawful (s : ScriptData) : Type 0 where
  pub valid : IsValid s
  pub nudges : (past : List Entry) → IsStepRun s past → AllApt s past → nudged past ≤ length s.trees
  pub answered_in : (past : List Entry) (r : Letter) (t : TreeNo) (k : SubNo) (v : Version) (notice : Notice) (a : Answered) (p : ℕ)
      → AllApt s past → IsStepRun s past → IsOutstanding s past r → r.body ≡ Done t k v notice → r.to.0 ≡ p → p < s.nodes
      → answer_noted t k (values_of notice) (node_in s past p).homes ≡ Some a → a.version ≡ v

-- and its coordinator doesn't forget
pub record IsLawful (s : ScriptData) : Type 0 where
  pub trees : IsTreeLawful s
  pub keeps : is_lossy s ≡ false
