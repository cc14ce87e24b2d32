use Rattle.std.specs.Prelude.{IfOk, IsTrue}
use Rattle.std.proofs.Common.{◌≡◌, ◌+◌, ◌<◌, ◌≤◌, ◌∙◌, List, true, ap, arith, length, refl, subst, sym, Bool, [], ◌∷◌, ◌++◌}
use Rattle.std.proofs.lemmas.Bool.{OnFalse_at, OnTrue_at}
use Rattle.commute_ops.specs.declared.kinds.TheConstants.{MOST_AMOUNT}
use Rattle.item_versions.specs.declared.table.StagedOp.{StagedOp}
use Rattle.item_versions.specs.Item.{has_room, may_touch, touched}
use Rattle.item_versions.specs.Table.{StagedItems, Table, has_room_in, may_touch_in, pending, touched_in}
use Rattle.item_versions.specs.inside.Places.{item_place}
use Rattle.item_versions.specs.inside.StagedOps.{amounts_of, copied_over, held_after_staged, staged_items, table_after_staged}
use Rattle.item_versions.proofs.Staging.{if_made, touch-room, touch-may, touch-made}
use Rattle.item_versions.proofs.StagedTables.{copied-touched, item_in-after, may-is, none-may, noted-may, noted-touched, pending-parts, room-is}
use Rattle.item_versions.proofs.table.ItemTable.stage_if_may.Goals as goal

pub returns-in_default-clause-may : goal.returns-in_default-clause-may
returns-in_default-clause-may c =
    none-may c.args.v c.args.op.now c.args.item c.args.staged.now c.args.self.now (sym c.in_default.ensures)

pub touch_entry-requires-clause-room : goal.touch_entry-requires-clause-room
touch_entry-requires-clause-room c =
    let s = c.staged.inside.entries.items in
    let os = c.staged.inside.ops.items in
    let t = c.args.self.now in
    let before : pending c.args.staged.now t ≡ copied_over s (table_after_staged os t) =
    ap (λ (u : StagedItems). pending u t) (sym c.staged.view_is) ∙ pending-parts s os t in
    let at = c.staged_place-place.ensures ∙ ap (λ (z : Table). item_place c.args.item z) c.deref.ensures.value in
    let lt : c.staged_place-place.result < length s = omega arith in
    let room = subst (λ (z : Table). IsTrue (may_touch_in c.args.v c.args.item c.args.op.now z) → IsTrue (has_room_in c.args.v c.args.item z)) before c.requires in
    touch-room c.args.v c.args.item s s (table_after_staged os t) c.staged_place-place.result refl at lt c.args.op.now
    (held_after_staged c.args.item os c.in-Some.held.now)
    (item_in-after c.args.item os t c.in-Some.held.now (sym c.in-Some.ensures)) room

pub returns-then-place-len-clause-may : goal.returns-then-place-len-clause-may
returns-then-place-len-clause-may c =
    let s = c.staged.inside.entries.items in
    let os = c.staged.inside.ops.items in
    let t = c.args.self.now in
    let before : pending c.args.staged.now t ≡ copied_over s (table_after_staged os t) =
    ap (λ (u : StagedItems). pending u t) (sym c.staged.view_is) ∙ pending-parts s os t in
    let at = c.staged_place-place.ensures ∙ ap (λ (z : Table). item_place c.args.item z) c.deref.ensures.value in
    let lt : c.staged_place-place.result < length s = omega arith in
    subst (λ (z : Table). IfOk c.touch_entry.result (λ made. made ≡ may_touch_in c.args.v c.args.item c.args.op.now z)) (sym before)
    (touch-may c.args.v c.args.item s s (table_after_staged os t) c.staged_place-place.result refl at lt c.args.op.now
    (held_after_staged c.args.item os c.in-Some.held.now)
    (item_in-after c.args.item os t c.in-Some.held.now (sym c.in-Some.ensures)) c.touch_entry.result c.touch_entry.ensures.may)

pub returns-then-place-len-clause-made : goal.returns-then-place-len-clause-made
returns-then-place-len-clause-made c =
    let s = c.staged.inside.entries.items in
    let os = c.staged.inside.ops.items in
    let t = c.args.self.now in
    let before : pending c.args.staged.now t ≡ copied_over s (table_after_staged os t) =
    ap (λ (u : StagedItems). pending u t) (sym c.staged.view_is) ∙ pending-parts s os t in
    let at = c.staged_place-place.ensures ∙ ap (λ (z : Table). item_place c.args.item z) c.deref.ensures.value in
    let lt : c.staged_place-place.result < length s = omega arith in
    let s' = c.touch_entry.new.entries.items in
    if_made c.touch_entry.result
    (λ (e : copied_over s' (table_after_staged os t) ≡ touched_in c.args.v c.args.item c.args.op.now (copied_over s (table_after_staged os t))).
    pending-parts s' os t ∙ e ∙ ap (λ (z : Table). touched_in c.args.v c.args.item c.args.op.now z) (sym before))
    (touch-made c.args.v c.args.item s s (table_after_staged os t) c.staged_place-place.result refl at lt c.args.op.now
    (held_after_staged c.args.item os c.in-Some.held.now)
    (item_in-after c.args.item os t c.in-Some.held.now (sym c.in-Some.ensures)) c.touch_entry.result s' c.touch_entry.ensures.made)

pub returns-then-branch-clause-may : goal.returns-then-branch-clause-may
returns-then-branch-clause-may c =
    let s = c.staged.inside.entries.items in
    let os = c.staged.inside.ops.items in
    let t = c.args.self.now in
    let at = c.staged_place-place.ensures ∙ ap (λ (z : Table). item_place c.args.item z) c.deref.ensures.value in
    let le : length s ≤ item_place c.args.item s = omega arith in
    let made = OnTrue_at c.if-branch.true c.in_ok-note_op.ensures.noted in
    let most = subst (λ (ps : List StagedOp). c.note_op.new.left + amounts_of ps ≤ MOST_AMOUNT) made
    c.in_ok-note_op.ensures.left in
    subst (λ (u : StagedItems). true ≡ may_touch_in c.args.v c.args.item c.args.op.now (pending u t)) c.staged.view_is
    (noted-may c.args.v c.args.item s os t c.in-Some.held.now (sym c.in-Some.ensures) le c.args.op.now c.note_op.new.left
    (OnTrue_at c.if-branch.true c.in_ok-note_op.ensures.held) (OnTrue_at c.if-branch.true c.in_ok-note_op.ensures.takes) most)

pub returns-then-branch-clause-made : goal.returns-then-branch-clause-made
returns-then-branch-clause-made c =
    let s = c.staged.inside.entries.items in
    let os = c.staged.inside.ops.items in
    let t = c.args.self.now in
    let at = c.staged_place-place.ensures ∙ ap (λ (z : Table). item_place c.args.item z) c.deref.ensures.value in
    let le : length s ≤ item_place c.args.item s = omega arith in
    let made = OnTrue_at c.if-branch.true c.in_ok-note_op.ensures.noted in
    let most = subst (λ (ps : List StagedOp). c.note_op.new.left + amounts_of ps ≤ MOST_AMOUNT) made
    c.in_ok-note_op.ensures.left in
    ap (λ (ps : List StagedOp). pending (staged_items s ps) t) made
    ∙ noted-touched c.args.v c.args.item s os t c.in-Some.held.now (sym c.in-Some.ensures) le c.args.op.now c.note_op.new.left
    (OnTrue_at c.if-branch.true c.in_ok-note_op.ensures.held) (OnTrue_at c.if-branch.true c.in_ok-note_op.ensures.takes) most
    ∙ ap (λ (u : StagedItems). touched_in c.args.v c.args.item c.args.op.now (pending u t)) c.staged.view_is

pub push_touched-requires : goal.push_touched-requires
push_touched-requires c =
    let s = c.staged.inside.entries.items in
    let os = c.staged.inside.ops.items in
    let t = c.args.self.now in
    let h = c.in-Some.held.now in
    let at = c.staged_place-place.ensures ∙ ap (λ (z : Table). item_place c.args.item z) c.deref.ensures.value in
    let le : length s ≤ item_place c.args.item s = omega arith in
    let same = c.deref-2.ensures.value ∙ OnFalse_at c.if-branch.false c.in_ok-note_op.ensures.not_noted in
    let may = may-is c.args.v c.args.item s os t h (sym c.in-Some.ensures) le c.args.op.now in
    let room = room-is c.args.v c.args.item s os t h (sym c.in-Some.ensures) le in
    λ can.
    let can' : may_touch c.args.v c.args.op.now (held_after_staged c.args.item os h) ≡ true =
    ap (λ (ps : List StagedOp). may_touch c.args.v c.args.op.now (held_after_staged c.args.item ps h)) (sym same) ∙ can in
    let view = c.staged.view_is in
    let now = ap (λ (u : StagedItems). may_touch_in c.args.v c.args.item c.args.op.now (pending u t)) (sym view) ∙ may ∙ can' in
    ap (λ (ps : List StagedOp). has_room c.args.v (held_after_staged c.args.item ps h)) same ∙ sym room
    ∙ ap (λ (u : StagedItems). has_room_in c.args.v c.args.item (pending u t)) view ∙ c.requires now

pub returns-clause-may : goal.returns-clause-may
returns-clause-may c =
    let s = c.staged.inside.entries.items in
    let os = c.staged.inside.ops.items in
    let t = c.args.self.now in
    let h = c.in-Some.held.now in
    let at = c.staged_place-place.ensures ∙ ap (λ (z : Table). item_place c.args.item z) c.deref.ensures.value in
    let le : length s ≤ item_place c.args.item s = omega arith in
    let same = c.deref-2.ensures.value ∙ OnFalse_at c.if-branch.false c.in_ok-note_op.ensures.not_noted in
    let told = ap (λ (ps : List StagedOp). may_touch c.args.v c.args.op.now (held_after_staged c.args.item ps h)) same
    ∙ sym (may-is c.args.v c.args.item s os t h (sym c.in-Some.ensures) le c.args.op.now)
    ∙ ap (λ (u : StagedItems). may_touch_in c.args.v c.args.item c.args.op.now (pending u t)) c.staged.view_is in
    subst (λ (b : Bool). IfOk c.push_touched.result (λ made. made ≡ b)) told c.push_touched.ensures.may

pub returns-clause-made : goal.returns-clause-made
returns-clause-made c =
    let s = c.staged.inside.entries.items in
    let os = c.staged.inside.ops.items in
    let t = c.args.self.now in
    let h = c.in-Some.held.now in
    let at = c.staged_place-place.ensures ∙ ap (λ (z : Table). item_place c.args.item z) c.deref.ensures.value in
    let le : length s ≤ item_place c.args.item s = omega arith in
    let none = OnFalse_at c.if-branch.false c.in_ok-note_op.ensures.not_noted in
    let k = touched c.args.v c.args.op.now (held_after_staged c.args.item c.deref-2.result.now h) in
    let is = ap (λ (ps : List StagedOp). touched c.args.v c.args.op.now (held_after_staged c.args.item ps h))
    (c.deref-2.ensures.value ∙ none) in
    if_made c.push_touched.result
    (λ (e : c.push_touched.new.entries.items ≡ s ++ (c.args.item, k) ∷ []).
    ap (λ (ps : List StagedOp). pending (staged_items c.push_touched.new.entries.items ps) t) none
    ∙ ap (λ (z : Table). pending (staged_items z os) t) e
    ∙ copied-touched c.args.v c.args.item s os t h (sym c.in-Some.ensures) le c.args.op.now k is
    ∙ ap (λ (u : StagedItems). touched_in c.args.v c.args.item c.args.op.now (pending u t)) c.staged.view_is)
    c.push_touched.ensures.made
