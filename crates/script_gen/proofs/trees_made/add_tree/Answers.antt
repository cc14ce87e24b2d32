use Rattle.std.proofs.Common.{◌≡◌, ◌+◌, ◌<◌, ◌≤◌, ◌∙◌, ℕ, suc, ap, arith}
use Rattle.script_gen.specs.Draws.{after_draws}
use Rattle.tv_base.specs.Draws.{next_draw, upper_bits}
use Rattle.script_gen.specs.Generated.{home_by, kind_by, tree_with}
use Rattle.script_gen.specs.inside.Within.{with_begun}
use Rattle.script_gen.proofs.Stages.{begin_may, begun, op_made, op_may_now, op_named, sub_made, sub_may_now}
use Rattle.script_gen.proofs.Trees.{node_is}
use Rattle.script_gen.proofs.trees_made.add_tree.Goals as goal

-- what is drawn first
drawn_first : (d own x : ℕ) → d ≡ upper_bits own → own ≡ next_draw x → d ≡ upper_bits (next_draw x)
drawn_first d own x is e = is ∙ ap upper_bits e

pub begin_tree-requires-clause-may : goal.begin_tree-requires-clause-may
begin_tree-requires-clause-may c =
    let d = drawn_first c.upper_bits-drawn.result c.next_draw-own.result c.args.first c.upper_bits-drawn.ensures c.next_draw-own.ensures in
    begin_may c.args.script.now c.args.j c.args.first c.home_by-home.result c.kind_by-kind.result c.requires (c.kind_by-kind.ensures ∙ ap kind_by d)
    (c.home_by-home.ensures ∙ ap home_by d)

pub add_op-requires-clause-named : goal.add_op-requires-clause-named
add_op-requires-clause-named c =
    let d = drawn_first c.upper_bits-drawn.result c.next_draw-own.result c.args.first c.upper_bits-drawn.ensures c.next_draw-own.ensures in
    let kind = c.kind_by-kind.ensures ∙ ap kind_by d in
    let home = c.home_by-home.ensures ∙ ap home_by d in
    op_named c.args.script.now c.begin_tree.new.script c.args.j c.args.first 0 c.home_by-home.result c.upper_bits.result c.requires
    (begun c.args.script.now c.begin_tree.new.script c.args.j c.args.first c.home_by-home.result c.kind_by-kind.result c.requires kind home c.in_ok-begin_tree.ensures)
    home

pub add_op-requires-clause-may : goal.add_op-requires-clause-may
add_op-requires-clause-may c =
    let d = drawn_first c.upper_bits-drawn.result c.next_draw-own.result c.args.first c.upper_bits-drawn.ensures c.next_draw-own.ensures in
    let kind = c.kind_by-kind.ensures ∙ ap kind_by d in
    let home = c.home_by-home.ensures ∙ ap home_by d in
    let few : 0 ≤ 3 = omega arith in
    op_may_now c.args.script.now c.begin_tree.new.script c.args.j c.args.first 0 c.home_by-home.result c.upper_bits.result c.kind_by-kind.result c.requires few
    (begun c.args.script.now c.begin_tree.new.script c.args.j c.args.first c.home_by-home.result c.kind_by-kind.result c.requires kind home c.in_ok-begin_tree.ensures)
    kind home (c.upper_bits.ensures ∙ ap upper_bits (c.next_draw-number.ensures ∙ ap next_draw c.next_draw-own.ensures))

pub loop-k-init : goal.loop-k-init
loop-k-init c =
    let d = drawn_first c.upper_bits-drawn.result c.next_draw-own.result c.args.first c.upper_bits-drawn.ensures c.next_draw-own.ensures in
    let kind = c.kind_by-kind.ensures ∙ ap kind_by d in
    let home = c.home_by-home.ensures ∙ ap home_by d in
    let number = c.next_draw-number.ensures ∙ ap next_draw c.next_draw-own.ensures in
    record {
      made = op_made c.args.script.now c.begin_tree.new.script c.add_op.new.script c.args.j c.args.first 0 c.home_by-home.result c.upper_bits.result c.kind_by-kind.result
          (begun c.args.script.now c.begin_tree.new.script c.args.j c.args.first c.home_by-home.result c.kind_by-kind.result c.requires kind home c.in_ok-begin_tree.ensures)
          kind home (c.upper_bits.ensures ∙ ap upper_bits number) c.in_ok-add_op.ensures;
      number = number;
    }

pub take_sub-requires : goal.take_sub-requires
take_sub-requires c =
    sub_may_now c.args.script.now c.loop-k.script c.args.j c.args.first c.loop-k.k c.node_by-node.result c.upper_bits-e.result c.requires (omega arith)
    (omega (arith, c.more_by-k-end.ensures)) c.loop-k.invariant.made c.node_by-node.ensures

pub add_op-requires-in-loop-k-clause-named : goal.add_op-requires-in-loop-k-clause-named
add_op-requires-in-loop-k-clause-named c =
    let some : 0 < c.loop-k.k = omega arith in
    let drawn = c.upper_bits-e.ensures ∙ ap upper_bits (c.next_draw-number-in-loop-k.ensures ∙ ap next_draw c.loop-k.invariant.number) in
    op_named c.args.script.now c.take_sub.new.script c.args.j c.args.first c.loop-k.k c.node_by-node.result c.upper_bits-e.result c.requires
    (sub_made c.args.script.now c.loop-k.script c.take_sub.new.script c.args.j c.args.first c.loop-k.k c.node_by-node.result c.upper_bits-e.result some
    c.loop-k.invariant.made c.node_by-node.ensures drawn c.in_ok-take_sub.ensures)
    (c.node_by-node.ensures ∙ node_is (home_by (upper_bits (next_draw c.args.first))) c.loop-k.k c.upper_bits-e.result some)

pub add_op-requires-in-loop-k-clause-may : goal.add_op-requires-in-loop-k-clause-may
add_op-requires-in-loop-k-clause-may c =
    let d = drawn_first c.upper_bits-drawn.result c.next_draw-own.result c.args.first c.upper_bits-drawn.ensures c.next_draw-own.ensures in
    let kind = c.kind_by-kind.ensures ∙ ap kind_by d in
    let some : 0 < c.loop-k.k = omega arith in
    let few : c.loop-k.k ≤ 3 = omega (arith, c.more_by-k-end.ensures) in
    let drawn = c.upper_bits-e.ensures ∙ ap upper_bits (c.next_draw-number-in-loop-k.ensures ∙ ap next_draw c.loop-k.invariant.number) in
    op_may_now c.args.script.now c.take_sub.new.script c.args.j c.args.first c.loop-k.k c.node_by-node.result c.upper_bits-e.result c.kind_by-kind.result c.requires few
    (sub_made c.args.script.now c.loop-k.script c.take_sub.new.script c.args.j c.args.first c.loop-k.k c.node_by-node.result c.upper_bits-e.result some
    c.loop-k.invariant.made c.node_by-node.ensures drawn c.in_ok-take_sub.ensures)
    kind (c.node_by-node.ensures ∙ node_is (home_by (upper_bits (next_draw c.args.first))) c.loop-k.k c.upper_bits-e.result some) drawn

pub loop-k-preserved : goal.loop-k-preserved
loop-k-preserved c =
    let d = drawn_first c.upper_bits-drawn.result c.next_draw-own.result c.args.first c.upper_bits-drawn.ensures c.next_draw-own.ensures in
    let kind = c.kind_by-kind.ensures ∙ ap kind_by d in
    let some : 0 < c.loop-k.k = omega arith in
    let number = c.next_draw-number-in-loop-k.ensures ∙ ap next_draw c.loop-k.invariant.number in
    let drawn = c.upper_bits-e.ensures ∙ ap upper_bits number in
    let up : suc c.loop-k.k ≡ c.loop-k.k + 1 = omega arith in
    record {
      made = op_made c.args.script.now c.take_sub.new.script c.add_op-in-loop-k.new.script c.args.j c.args.first c.loop-k.k c.node_by-node.result c.upper_bits-e.result c.kind_by-kind.result
          (sub_made c.args.script.now c.loop-k.script c.take_sub.new.script c.args.j c.args.first c.loop-k.k c.node_by-node.result c.upper_bits-e.result some
          c.loop-k.invariant.made c.node_by-node.ensures drawn c.in_ok-take_sub.ensures)
          kind (c.node_by-node.ensures ∙ node_is (home_by (upper_bits (next_draw c.args.first))) c.loop-k.k c.upper_bits-e.result some) drawn c.in_ok-add_op-2.ensures
          ∙ ap (λ (n : ℕ). with_begun c.args.script.now c.args.j (tree_with c.args.j c.args.first n)) up;
      number = number ∙ ap (λ (n : ℕ). after_draws n (next_draw c.args.first)) up;
    }
