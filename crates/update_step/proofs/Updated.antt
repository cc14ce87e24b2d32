-- The row of a message whose operations may be made.
use Rattle.std.proofs.Common.{◌≡◌, ℕ, true, ap, sym}
use Rattle.letter_types.specs.declared.bodies.Body.{Body}
use Rattle.tx_trees.specs.ScriptData.{ScriptData}
use Rattle.tree_step.specs.Changes.{IsTreePartOf, part_row, replied}
use Rattle.tree_step.specs.Node.{data_of}
use Rattle.tree_step.specs.Updates.{update_part}
use Rattle.tree_step.specs.steps.TreeStep.{TreeStep}
use Rattle.tree_step.specs.declared.node.NodeParts.{NodeParts}
use Rattle.world_model.specs.Done.{TreeOut}
use Rattle.world_model.specs.Updates.{can_update}
use Rattle.update_step.specs.Rows.{update_if_made}

-- with the answer it is the row
pub update_made : (s : ScriptData) (p from : ℕ) (body : Body) (n : NodeParts) (part : TreeStep)
    → true ≡ can_update s (data_of n) body → IsTreePartOf (update_part s p (data_of n) from body) n part
    → replied s (part_row part (data_of n)) ≡ update_if_made s p (data_of n) from body
update_made s p from body n part can is =
    let may : can_update s (data_of n) body ≡ true = sym can in
    rw may (ap (λ (x : TreeOut). replied s x) is.row)
