-- The version of a message that is due is near.
use Rattle.std.proofs.Common.{◌≡◌, ℕ, ◌==◌, ◌&&◌, true}
use Rattle.std.specs.Prelude.{nat_lt}
use Rattle.tv_base.specs.declared.numbers.Version.{Version}
use Rattle.tv_base.proofs.Truths.{right_true}
use Rattle.item_versions.specs.Window.{in_window}
use Rattle.letter_types.specs.declared.bodies.Body.{Body}
use Rattle.letter_types.specs.declared.bodies.Body.TheVariants.{Sub as SubLetter}
use Rattle.tx_trees.specs.ScriptData.{ScriptData, node_of}
use Rattle.tree_step.specs.Node.{Node}
use Rattle.world_model.specs.Asked.{asked_version}
use Rattle.tree_step.specs.Due.{is_due}

-- if the version that a root takes is near, so is the one that the message asks for
pub asked_near : (s : ScriptData) (p from : ℕ) (st : Node) (body : Body) (root : Version)
    → in_window st.turns.low.0 root.0 ≡ true
    → is_due s p st from body ≡ true → in_window st.turns.low.0 (asked_version root body).0 ≡ true
asked_near s p from st (SubLetter t k v) root near due =
    right_true ((node_of s t.0 k.0 == p) && nat_lt from s.nodes) (in_window st.turns.low.0 v.0) due
asked_near s p from st _ root near due = near
