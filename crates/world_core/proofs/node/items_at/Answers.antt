use Rattle.std.proofs.Common.{◌≡◌, ◌∙◌, sym, ap, subst, ◌+◌, ◌++◌, ◌∷◌, []}
use Rattle.commute_ops.specs.declared.value.Value.{Value}
use Rattle.commute_ops.specs.Ops.{value_start}
use Rattle.item_versions.specs.Table.{Table, IsAfter}
use Rattle.item_versions.specs.Window.{IsWindowedTable}
use Rattle.item_versions.proofs.Window.{IsWindowedTable-added}
use Rattle.world_core.proofs.Items.{first_entry, item_here, item_elsewhere, after_more, after_pushed}
use Rattle.world_core.proofs.node.items_at.Goals as goal
use Rattle.world_core.proofs.node.items_at.Goals.{then-eq+in_ok-add, else-eq}

pub loop-x-preserved : goal.loop-x-preserved
loop-x-preserved c = elim c.if-eq.branch [
  | then-eq+in_ok-add w ↦
      let row = c.index-items-x.result in
      let new : c.if-eq.table ≡ c.loop-x.table ++ first_entry c.loop-x.x row ∷ [] =
      w.table-is ∙ w.in_ok-add.ensures.ok ∙ ap (λ (v : Value). c.loop-x.table ++ (record { 0 = c.loop-x.x }, (record { 0 = 0 }, v) ∷ []) ∷ []) w.first_value.ensures in
      record {
        so_far = item_here _ _ row c.args.items.now c.loop-x.table c.if-eq.table _ c.loop-x-test.true c.index-items-x.is
            (sym c.eq.ensures ∙ w.if-eq.true) new c.loop-x.invariant.so_far;
        after = subst (λ (t : Table). IsAfter (record { 0 = c.loop-x.x + 1 }) t) (sym new) (after_pushed c.loop-x.x _ c.loop-x.table c.loop-x.invariant.after);
        window = subst (λ (t : Table). IsWindowedTable 0 t) (sym new)
            (IsWindowedTable-added (record { 0 = c.loop-x.x }) (value_start row.kind row.initial) c.loop-x.table c.loop-x.invariant.window);
      }
  | else-eq w ↦
      let kept : c.if-eq.table ≡ c.loop-x.table = w.table-is in
      record {
        so_far = rw kept (item_elsewhere _ _ c.index-items-x.result c.args.items.now c.loop-x.table _ c.loop-x-test.true c.index-items-x.is
            (sym c.eq.ensures ∙ w.if-eq.false) c.loop-x.invariant.so_far);
        after = subst (λ (t : Table). IsAfter (record { 0 = c.loop-x.x + 1 }) t) (sym kept) (after_more c.loop-x.x c.loop-x.table c.loop-x.invariant.after);
        window = subst (λ (t : Table). IsWindowedTable 0 t) (sym kept) c.loop-x.invariant.window;
      }
]
