-- The plan of an order is its row.
use Rattle.std.proofs.Common.{◌≡◌, true, sym, subst}
use Rattle.tv_base.specs.declared.numbers.Version.{Version}
use Rattle.letter_types.specs.declared.bodies.Body.{Body}
use Rattle.letter_types.specs.declared.bodies.What.{What}
use Rattle.letter_types.specs.declared.bodies.What.TheVariants as whats
use Rattle.tx_trees.specs.ScriptData.{ScriptData}
use Rattle.tree_step.specs.Changes.{IsNodeStepOf, MayChange, MayDo, after_change}
use Rattle.tree_step.specs.Due.{can_obey}
use Rattle.tree_step.specs.Meant.{doing_meant, parts_meant}
use Rattle.tree_step.specs.Node.{CanStep, data_of}
use Rattle.tree_step.specs.declared.node.NodeParts.{NodeParts}
use Rattle.tree_step.specs.declared.plan.Doing.{Doing}
use Rattle.tree_step.specs.declared.plan.Scratch.{Scratch}
use Rattle.world_model.specs.Advancing.{to_coordinator}
use Rattle.node_machine.specs.Orders.{ordered_row}
use Rattle.node_machine.specs.inside.Advancing.{order_acts, order_doing}

-- an order that a node can obey fits it
may_change : (what : What) (v : Version) (x : Scratch) (n : NodeParts) → can_obey what v n.turns ≡ true
    → MayChange (doing_meant (order_doing what v) x) x.sent n
may_change whats.Turn v x n can = can
may_change whats.Show v x n can = can
may_change whats.Sweep v x n can = can

may_obey : (s : ScriptData) (what : What) (v : Version) (n : NodeParts) (d : Doing) (x : Scratch) → CanStep s n
    → can_obey what v n.turns ≡ true → d ≡ order_doing what v → MayDo (doing_meant d x) x.sent n
may_obey s what v n d x ready can is = record {
  fits = subst (λ (e : Doing). MayChange (doing_meant e x) x.sent n) (sym is) (may_change what v x n can);
  small = ready.small;
  window = ready.window;
}

pub ordered : (s : ScriptData) (what : What) (v : Version) (answer : Body) (n : NodeParts) (d : Doing) (x : Scratch)
    → CanStep s n → can_obey what v n.turns ≡ true → d ≡ order_doing what v → x.sent ≡ to_coordinator s answer
    → x.acts ≡ order_acts what v n.turns
    → IsNodeStepOf (ordered_row s what v answer (data_of n)) n (parts_meant d x)
ordered s whats.Turn v answer n d x ready can is sent acts = record {
  row = λ i. record { state = after_change (doing_meant (is i) x) x.sent (data_of n); sent = sent i; acts = acts i };
  may = may_obey s whats.Turn v n d x ready can is;
}
ordered s whats.Show v answer n d x ready can is sent acts = record {
  row = λ i. record { state = after_change (doing_meant (is i) x) x.sent (data_of n); sent = sent i; acts = acts i };
  may = may_obey s whats.Show v n d x ready can is;
}
ordered s whats.Sweep v answer n d x ready can is sent acts = record {
  row = λ i. record { state = after_change (doing_meant (is i) x) x.sent (data_of n); sent = sent i; acts = acts i };
  may = may_obey s whats.Sweep v n d x ready can is;
}
