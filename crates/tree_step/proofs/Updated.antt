-- The part of a message whose operations may be made.
use Rattle.std.proofs.Common.{◌≡◌, ℕ, Bool, true, List, ap, sym, ◌∙◌, subst}
use Rattle.std.specs.Prelude.{nat_lt}
use Rattle.tv_base.specs.declared.numbers.Version.{Version}
use Rattle.item_versions.specs.Window.{in_window}
use Rattle.item_versions.proofs.Window.{in_window-is}
use Rattle.letter_types.specs.declared.bodies.Body.{Body}
use Rattle.tx_trees.specs.ScriptData.{ScriptData}
use Rattle.tx_trees.specs.declared.parts.SubOp.{SubOp}
use Rattle.tree_step.specs.Due.{is_due}
use Rattle.tree_step.specs.Node.{Effect, IsReady, Node, data_of}
use Rattle.tree_step.specs.declared.node.NodeParts.{NodeParts}
use Rattle.tree_step.proofs.Dues.{asked_near}
use Rattle.world_model.specs.Asked.{asked_ops, asked_version, tree_part}
use Rattle.world_model.specs.Done.{TreeOut}
use Rattle.world_model.specs.Updates.{can_touch, can_update, touching}
use Rattle.tree_step.specs.Updates.{update_part}

-- the version that is asked for is one of those in which the node counts
pub asked_within : (s : ScriptData) (p from : ℕ) (n : NodeParts) (body : Body) (v : Version) → IsReady s p n
    → is_due s p (data_of n) from body ≡ true → v ≡ asked_version n.turns.update body
    → in_window n.turns.low.0 v.0 ≡ true
asked_within s p from n body v ready due at =
    let low = n.turns.low.0 in
    let root = in_window-is low n.turns.update.0 ready.window.low_update ready.window.update in
    subst (λ (w : Version). in_window low w.0 ≡ true) (sym at)
    (asked_near s p from (data_of n) body n.turns.update root due)

-- whether the operations may be made, by the version and the operations
pub touchable : (s : ScriptData) (body : Body) (st : Node) (v : Version) (ops : List SubOp)
    → v ≡ asked_version st.turns.update body → ops ≡ asked_ops s body
    → can_touch v ops st.items ≡ can_update s st body
touchable s body st v ops at asked =
    ap (λ (os : List SubOp). can_touch v os st.items) asked
    ∙ ap (λ (w : Version). can_touch w (asked_ops s body) st.items) at

-- the part, by the version, the operations and their effect
pub updated : (s : ScriptData) (p from : ℕ) (body : Body) (st : Node) (v : Version) (ops : List SubOp) (raises : Bool)
    (e : Effect) (out : TreeOut)
    → v ≡ asked_version st.turns.update body → ops ≡ asked_ops s body
    → raises ≡ nat_lt st.turns.update.0 v.0 → e ≡ touching v ops st.items → out ≡ tree_part s p from v raises e body st
    → out ≡ update_part s p st from body
updated s p from body st v ops raises e out at asked test made done =
    done
    ∙ ap (λ (b : Bool). tree_part s p from v b e body st) test
    ∙ ap (λ (x : Effect). tree_part s p from v (nat_lt st.turns.update.0 v.0) x body st) made
    ∙ ap (λ (os : List SubOp). tree_part s p from v (nat_lt st.turns.update.0 v.0) (touching v os st.items) body st)
    asked
    ∙ ap (λ (w : Version). tree_part s p from w (nat_lt st.turns.update.0 w.0)
    (touching w (asked_ops s body) st.items) body st) at
