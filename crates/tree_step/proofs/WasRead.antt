-- The part of a message whose operations may be made. A read leaves the items.
use Rattle.std.proofs.Common.{◌≡◌, ℕ, false, List, ap, ◌∙◌}
use Rattle.tv_base.specs.declared.numbers.Version.{Version}
use Rattle.letter_types.specs.declared.bodies.Body.{Body}
use Rattle.tx_trees.specs.ScriptData.{ScriptData}
use Rattle.tx_trees.specs.declared.parts.SubOp.{SubOp}
use Rattle.world_model.specs.Asked.{asked_ops, asked_version, tree_part}
use Rattle.world_model.specs.Done.{TreeOut}
use Rattle.world_model.specs.Reads.{can_get, can_read, getting}
use Rattle.tree_step.specs.Node.{Effect, Node}
use Rattle.tree_step.specs.Reads.{read_part}

-- whether the operations may be made, by the version and the operations
pub gettable : (s : ScriptData) (body : Body) (st : Node) (v : Version) (ops : List SubOp)
    → v ≡ asked_version st.turns.read body → ops ≡ asked_ops s body
    → can_get v ops st.items ≡ can_read s st body
gettable s body st v ops at asked =
    ap (λ (os : List SubOp). can_get v os st.items) asked
    ∙ ap (λ (w : Version). can_get w (asked_ops s body) st.items) at

-- the part, by the version, the operations and their effect
pub part_read : (s : ScriptData) (p from : ℕ) (body : Body) (st : Node) (v : Version) (ops : List SubOp) (e : Effect)
    (out : TreeOut)
    → v ≡ asked_version st.turns.read body → ops ≡ asked_ops s body
    → e ≡ getting v ops st.items → out ≡ tree_part s p from v false e body st
    → out ≡ read_part s p st from body
part_read s p from body st v ops e out at asked got done =
    done
    ∙ ap (λ (x : Effect). tree_part s p from v false x body st) got
    ∙ ap (λ (os : List SubOp). tree_part s p from v false (getting v os st.items) body st) asked
    ∙ ap (λ (w : Version). tree_part s p from w false (getting w (asked_ops s body) st.items) body st) at
