-- What a message asks of a node: which operations in which version, and the row once their effect is known.
use Rattle.std.specs.Prelude.{ℕ, Bool, List, [], length, None}
use Rattle.tv_base.specs.declared.numbers.Version.{Version}
use Rattle.letter_types.specs.declared.bodies.Body.{Body}
use Rattle.letter_types.specs.declared.bodies.Body.TheVariants.{Root, Sub as SubLetter}
use Rattle.letter_types.specs.Steps.{still}
use Rattle.script_parts.specs.ScriptData.{ScriptData, ops_of, subs_at}
use Rattle.script_parts.specs.declared.parts.SubOp.{SubOp}
use Rattle.world_model.specs.Node.{Effect, Node}
use Rattle.world_model.specs.Done.{TreeOut, root_part, sub_done, with_open_tree}

-- the version that a message asks for, if a root takes version v
abbrev pub asked_version : Version → Body → Version
asked_version v (SubLetter t k w) = w
asked_version v _ = v

-- the operations that a message asks for
abbrev pub asked_ops : ScriptData → Body → List SubOp
asked_ops s (Root t) = ops_of s t.0 0
asked_ops s (SubLetter t k v) = ops_of s t.0 k.0
asked_ops s _ = []

-- the row of a subtransaction in version v with this effect, which may raise the node's update version to v, before the
-- transaction is answered: a root's transaction is born at its home
abbrev pub tree_part : ScriptData → ℕ → ℕ → Version → Bool → Effect → Body → Node → TreeOut
tree_part s p from v raises e (Root t) st =
    root_part s p t.0 v.0 e (with_open_tree t.0 (length (subs_at s t.0)) v.0 st)
tree_part s p from v raises e (SubLetter t k w) st =
    record { out = sub_done s from t.0 k.0 v.0 raises e st; answered = None }
tree_part s p from v raises e _ st = record { out = still st; answered = None }
