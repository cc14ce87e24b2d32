use Rattle.std.proofs.Common.{◌≡◌, ◌∙◌, ap, arith, length}
use Rattle.std.proofs.Common.{Vec, Global}
use Rattle.script_parts.specs.declared.parts.ScriptRow.TheVariants as rows
use Rattle.board_tallies.specs.declared.gates.RowGate.{RowGate}
use Rattle.board_tallies.proofs.Gating.{gated_advance, gated_lose, gated_settle, gated_tree, regated}
use Rattle.board_tallies.proofs.gates.Gates.new.Goals as goal
use Rattle.board_tallies.proofs.gates.Gates.new.Goals.{in-Tree+in_ok-push-in-Tree, in-Advance+in_ok-push-in-Advance, in-Settle, in-Lose}

pub loop-row-preserved : goal.loop-row-preserved
loop-row-preserved c =
    elim c.match-row.branch [
      | in-Tree+in_ok-push-in-Tree w ↦
          regated c.rows-row-items.result.now c.loop-row.row-index (rows.Tree w.in-Tree.field-0) _ _ _ _ _ _ _ (omega arith)
          w.in-Tree.is
          (ap (λ (v : Vec RowGate Global). v.items) w.trees-is ∙ w.in_ok-push-in-Tree.ensures.items)
          (ap (λ (v : Vec RowGate Global). v.items) w.advances-is) w.gate-is
          (gated_tree _ _ _ _ w.in-Tree.field-0 c.loop-row.invariant)
      | in-Advance+in_ok-push-in-Advance w ↦
          regated c.rows-row-items.result.now c.loop-row.row-index rows.Advance _ _ _ _ _ _ _ (omega arith) w.in-Advance.is
          (ap (λ (v : Vec RowGate Global). v.items) w.trees-is)
          (ap (λ (v : Vec RowGate Global). v.items) w.advances-is ∙ w.in_ok-push-in-Advance.ensures.items) w.gate-is
          (gated_advance _ _ _ _ c.loop-row.invariant)
      | in-Settle w ↦
          let trees : w.len.result ≡ length c.loop-row.trees.items = omega arith in
          let advances : w.len-in-Settle.result ≡ length c.loop-row.advances.items = omega arith in
          regated c.rows-row-items.result.now c.loop-row.row-index rows.Settle _ _ _ _ _ _ _ (omega arith) w.in-Settle.is
          (ap (λ (v : Vec RowGate Global). v.items) w.trees-is) (ap (λ (v : Vec RowGate Global). v.items) w.advances-is)
          (w.gate-is ∙ (λ i. record { trees = trees i; advances = advances i }))
          (gated_settle _ _ _ _ c.loop-row.invariant)
      | in-Lose w ↦
          regated c.rows-row-items.result.now c.loop-row.row-index rows.Lose _ _ _ _ _ _ _ (omega arith) w.in-Lose.is
          (ap (λ (v : Vec RowGate Global). v.items) w.trees-is) (ap (λ (v : Vec RowGate Global). v.items) w.advances-is) w.gate-is
          (gated_lose _ _ _ _ c.loop-row.invariant)
    ]
