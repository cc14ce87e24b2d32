-- The row of a message whose operations may be made. A read leaves the items.
use Rattle.std.proofs.Common.{◌≡◌, ℕ, true, List, [], refl, ap, sym, ◌∙◌, Result, Ok, Err}
use Rattle.std.specs.Prelude.{IfOk}
use Rattle.tv_base.specs.declared.numbers.NoMemory.{NoMemory}
use Rattle.letter_types.specs.declared.entries.Step.{Step}
use Rattle.tv_base.specs.declared.numbers.Version.{Version}
use Rattle.letter_types.specs.declared.bodies.Body.{Body}
use Rattle.letter_types.specs.declared.bodies.Body.TheVariants.{Root, Sub as SubLetter}
use Rattle.letter_types.specs.declared.bodies.Notice.{Notice}
use Rattle.letter_types.specs.declared.entries.StepOut.{StepOut}
use Rattle.letter_types.specs.Steps.{Out, made}
use Rattle.item_versions.specs.Table.{Table}
use Rattle.node_versions.specs.declared.turns.Turns.{Turns}
use Rattle.pair_counters.specs.Rows.{CounterRows}
use Rattle.tree_home.specs.Homes.{HomesData}
use Rattle.tree_step.specs.declared.node.NodeParts.{NodeParts}
use Rattle.tx_trees.specs.ScriptData.{ScriptData}
use Rattle.tx_trees.specs.declared.parts.SubOp.{SubOp}
use Rattle.tree_step.specs.Node.{Effect, Node, data_of, state_of}
use Rattle.world_model.specs.Asked.{asked_ops, asked_version}
use Rattle.world_model.specs.Reads.{can_get, can_read, getting}
use Rattle.read_step.specs.Rows.{read_done, read_if_made}

-- the row, by the version, the operations and their effect
pub was_read : (s : ScriptData) (p from : ℕ) (body : Body) (st : Node) (v : Version) (ops : List SubOp) (e : Effect)
    (out : Out Node)
    → v ≡ asked_version st.turns.read body → ops ≡ asked_ops s body → true ≡ can_get v ops st.items
    → e ≡ getting v ops st.items → out ≡ read_done s p from v e body st
    → out ≡ read_if_made s p st from body
was_read s p from body st v ops e out at asked can got done =
    let may : can_read s st body ≡ true =
    sym (can ∙ ap (λ (os : List SubOp). can_get v os st.items) asked
    ∙ ap (λ (w : Version). can_get w (asked_ops s body) st.items) at) in
    rw may (done
    ∙ ap (λ (x : Effect). read_done s p from v x body st) got
    ∙ ap (λ (os : List SubOp). read_done s p from v (getting v os st.items) body st) asked
    ∙ ap (λ (w : Version). read_done s p from w (getting w (asked_ops s body) st.items) body st) at)

-- a row with other items
abbrev with_items : Table → Out Node → Out Node
with_items items out = record { state = record out.state { items = items }; sent = out.sent; acts = out.acts }

abbrev with_table : Table → Node → Node
with_table items st = record st { items = items }

-- the row doesn't look at the items, it only passes on those of its effect
passes_on : (s : ScriptData) (p from : ℕ) (v : Version) (notice : Notice) (body : Body) (none items : Table) (st : Node)
    → with_items items (read_done s p from v (record { items = none; notice = notice }) body (with_table none st))
    ≡ read_done s p from v (record { items = items; notice = notice }) body (with_table items st)
passes_on s p from v notice (Root t) none items st = refl
passes_on s p from v notice (SubLetter t k w) none items st = refl
passes_on s p from v notice _ none items st = refl

turns_stay : (s : ScriptData) (p from : ℕ) (v : Version) (e : Effect) (body : Body) (st : Node)
    → (read_done s p from v e body st).state.turns ≡ st.turns
turns_stay s p from v e (Root t) st = refl
turns_stay s p from v e (SubLetter t k w) st = refl
turns_stay s p from v e _ st = refl

-- a row that was made of a node without items is that of the node with its items
pub read_apart : (s : ScriptData) (p from : ℕ) (v : Version) (body : Body) (turns : Turns) (items : Table)
    (counters : CounterRows) (homes : HomesData) (notice : Notice) (after : NodeParts) (out : StepOut)
    → made (data_of after) out ≡ read_done s p from v (record { items = []; notice = notice }) body
    (data_of (state_of turns [] counters homes))
    → made (data_of (state_of turns items after.counters after.homes)) out
    ≡ read_done s p from v (record { items = items; notice = notice }) body
    (data_of (state_of turns items counters homes))
read_apart s p from v body turns items counters homes notice after out row =
    let same : after.turns ≡ turns = ap (λ (o : Out Node). o.state.turns) row
    ∙ turns_stay s p from v (record { items = []; notice = notice }) body
    (data_of (state_of turns [] counters homes)) in
    ap (λ (t : Turns). made (data_of (state_of t items after.counters after.homes)) out) (sym same)
    ∙ ap (with_items items) row
    ∙ passes_on s p from v notice body [] items (data_of (state_of turns items counters homes))

-- the same of a step that may need memory
pub read_face : (s : ScriptData) (p from : ℕ) (body : Body) (turns : Turns) (items : Table) (counters : CounterRows)
    (homes : HomesData) (v : Version) (ops : List SubOp) (notice : Notice) (after : NodeParts)
    (r : Result Step NoMemory)
    → v ≡ asked_version turns.read body → ops ≡ asked_ops s body → true ≡ can_get v ops items
    → record { items = items; notice = notice } ≡ getting v ops items
    → IfOk r (λ step. made (data_of after) step.given ≡ read_done s p from v
    (record { items = []; notice = notice }) body (data_of (state_of turns [] counters homes)))
    → IfOk r (λ step. made (data_of (state_of turns items after.counters after.homes)) step.given ≡ read_if_made s p
    (data_of (state_of turns items counters homes)) from body)
read_face s p from body turns items counters homes v ops notice after (Ok step) at asked can got row =
    was_read s p from body (data_of (state_of turns items counters homes)) v ops
    (record { items = items; notice = notice }) (made (data_of (state_of turns items after.counters after.homes))
    step.given)
    at asked can got
    (read_apart s p from v body turns items counters homes notice after step.given row)
read_face s p from body turns items counters homes v ops notice after (Err e) at asked can got row = tt
