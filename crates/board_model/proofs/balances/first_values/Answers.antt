use Rattle.std.proofs.Common.{◌≡◌, ◌+◌, List, [], ◌∷◌, ◌++◌, length, drop, ap, sym, ◌∙◌, append_assoc, arith}
use Rattle.commute_ops.specs.declared.value.Value.{Value}
use Rattle.tx_trees.specs.declared.parts.ItemRow.{ItemRow}
use Rattle.board_model.specs.Balances.{first_values}
use Rattle.board_model.proofs.AllItems.{first_step}
use Rattle.board_model.proofs.balances.first_values.Goals as goal

pub loop-item-preserved : goal.loop-item-preserved
loop-item-preserved c =
    let values : List Value = c.loop-item.values in
    let rest : List Value = first_values (drop (c.loop-item.item + 1) c.args.script.now.items) in
    let len = ap (λ (z : List ItemRow). length z) c.items-item-end.ensures.items in
    let new : c.push.new.self ≡ values ++ c.first_value.result ∷ [] = c.in_ok-push.ensures.ok in
    ap (λ (z : List Value). z ++ rest) new ∙ append_assoc values (c.first_value.result ∷ []) rest
    ∙ ap (λ (w : Value). values ++ w ∷ rest) c.first_value.ensures
    ∙ ap (λ (z : List Value). values ++ z) (sym (first_step c.args.script.now.items c.loop-item.item (omega (arith, len)))) ∙ c.loop-item.invariant
