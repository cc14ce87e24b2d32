use Rattle.std.specs.Prelude.{IfOk, IsTrue}
use Rattle.std.specs.Bool.{OnTrue}
use Rattle.std.proofs.Common.{◌≡◌, ◌++◌, ◌∷◌, [], false, arith, subst, sym}
use Rattle.item_versions.specs.Item.{Held, has_room, may_touch, touched}
use Rattle.item_versions.specs.inside.StagedOps.{has_op}
use Rattle.item_versions.proofs.WhereHeld.{none-after_staged}
use Rattle.item_versions.proofs.table.push_touched.Goals as goal

pub push_if_may-requires : goal.push_if_may-requires
push_if_may-requires c =
    let none : has_op c.args.item c.args.ops.now ≡ false = grind arith in
    subst (λ (h : Held). IsTrue (may_touch c.args.v c.args.op.now h) → IsTrue (has_room c.args.v h))
    (none-after_staged c.args.item c.args.ops.now c.args.held.now none) c.requires

pub returns-then-not-has_op-clause-may : goal.returns-then-not-has_op-clause-may
returns-then-not-has_op-clause-may c =
    let none : has_op c.args.item c.args.ops.now ≡ false = grind arith in
    subst (λ (h : Held). IfOk c.push_if_may.result (λ made. made ≡ may_touch c.args.v c.args.op.now h))
    (sym (none-after_staged c.args.item c.args.ops.now c.args.held.now none)) c.push_if_may.ensures.may

pub returns-then-not-has_op-clause-made : goal.returns-then-not-has_op-clause-made
returns-then-not-has_op-clause-made c =
    let none : has_op c.args.item c.args.ops.now ≡ false = grind arith in
    subst (λ (h : Held). IfOk c.push_if_may.result (λ made. OnTrue made (c.push_if_may.new.entries.items
    ≡ c.args.entries.now.items ++ (c.args.item, touched c.args.v c.args.op.now h) ∷ [])))
    (sym (none-after_staged c.args.item c.args.ops.now c.args.held.now none)) c.push_if_may.ensures.made
