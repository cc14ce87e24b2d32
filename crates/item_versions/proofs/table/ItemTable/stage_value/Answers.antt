use Rattle.std.specs.Option.{IsSome, option_copied}
use Rattle.std.proofs.Common.{◌≡◌, ◌<◌, ◌≤◌, ◌∙◌, List, Some, None, true, ap, arith, length, refl, subst, sym}
use Rattle.item_versions.specs.declared.table.StagedOp.{StagedOp}
use Rattle.item_versions.specs.Item.{Held, has_room, put_value}
use Rattle.item_versions.specs.Table.{StagedItems, Table, has_room_in, item_in, pending, put_value_in}
use Rattle.item_versions.specs.inside.Places.{item_place}
use Rattle.item_versions.specs.inside.StagedOps.{copied_over, held_after_staged, staged_items, table_after_staged}
use Rattle.item_versions.proofs.Staging.{stage-room, stage-put}
use Rattle.item_versions.proofs.StagedTables.{copied-valued, none-room, pending-parts, room-is}
use Rattle.item_versions.proofs.table.ItemTable.stage_value.Goals as goal

pub put_in_entry-requires-clause-room : goal.put_in_entry-requires-clause-room
put_in_entry-requires-clause-room c =
    let s = c.staged.inside.entries.items in
    let os = c.staged.inside.ops.items in
    let t = c.args.self.now in
    let before : pending c.args.staged.now t ≡ copied_over s (table_after_staged os t) =
    ap (λ (u : StagedItems). pending u t) (sym c.staged.view_is) ∙ pending-parts s os t in
    let room = subst (λ (z : Table). has_room_in c.args.v c.args.item z ≡ true) before c.requires in
    let at = c.staged_place-place.ensures ∙ ap (λ (z : Table). item_place c.args.item z) c.deref.ensures.value in
    let lt : c.staged_place-place.result < length s = omega arith in
    stage-room c.args.v c.args.item s s (table_after_staged os t) c.staged_place-place.result refl at lt room

pub returns-then-place-len-clause-ok : goal.returns-then-place-len-clause-ok
returns-then-place-len-clause-ok c =
    let s = c.staged.inside.entries.items in
    let os = c.staged.inside.ops.items in
    let t = c.args.self.now in
    let before : pending c.args.staged.now t ≡ copied_over s (table_after_staged os t) =
    ap (λ (u : StagedItems). pending u t) (sym c.staged.view_is) ∙ pending-parts s os t in
    let room = subst (λ (z : Table). has_room_in c.args.v c.args.item z ≡ true) before c.requires in
    let at = c.staged_place-place.ensures ∙ ap (λ (z : Table). item_place c.args.item z) c.deref.ensures.value in
    let lt : c.staged_place-place.result < length s = omega arith in
    pending-parts c.put_in_entry.new.entries.items os t
    ∙ stage-put c.args.v c.args.item s s (table_after_staged os t) c.staged_place-place.result refl at lt c.args.value
    c.put_in_entry.new.entries.items room c.put_in_entry.ensures
    ∙ ap (λ (z : Table). put_value_in c.args.v c.args.item c.args.value z) (sym before)

pub unwrap-requires : goal.unwrap-requires
unwrap-requires c =
    elim c.item.result as (λ r. option_copied r ≡ item_in c.args.item c.args.self.now → IsSome r) [
      | Some x ↦ λ _. refl
      | None ↦ λ is.
          let none = none-room c.args.v c.args.item c.args.staged.now c.args.self.now (sym is) in
          absurd (let both = none ∙ c.requires in cc both)
    ]
    c.item.ensures

pub put_value-requires : goal.put_value-requires
put_value-requires c =
    let s = c.staged.inside.entries.items in
    let os = c.staged.inside.ops.items in
    let t = c.args.self.now in
    let h = c.unwrap.result.now in
    let there : item_in c.args.item t ≡ Some h = sym c.item.ensures ∙ ap option_copied c.unwrap.ensures in
    let at = c.staged_place-place.ensures ∙ ap (λ (z : Table). item_place c.args.item z) c.deref.ensures.value in
    let le : length s ≤ item_place c.args.item s = omega arith in
    let made : c.make_ops.new.next ≡ held_after_staged c.args.item os h =
    c.make_ops.ensures ∙ ap (λ (ps : List StagedOp). held_after_staged c.args.item ps c.in_ok-next.next) c.deref-2.ensures.value
    ∙ ap (λ (k : Held). held_after_staged c.args.item os k) c.in_ok-next.ensures in
    let room = ap (λ (u : StagedItems). has_room_in c.args.v c.args.item (pending u t)) c.staged.view_is ∙ c.requires in
    ap (λ (k : Held). has_room c.args.v k) made ∙ sym (room-is c.args.v c.args.item s os t h there le) ∙ room

pub returns-clause-ok : goal.returns-clause-ok
returns-clause-ok c =
    let s = c.staged.inside.entries.items in
    let os = c.staged.inside.ops.items in
    let t = c.args.self.now in
    let h = c.unwrap.result.now in
    let there : item_in c.args.item t ≡ Some h = sym c.item.ensures ∙ ap option_copied c.unwrap.ensures in
    let at = c.staged_place-place.ensures ∙ ap (λ (z : Table). item_place c.args.item z) c.deref.ensures.value in
    let le : length s ≤ item_place c.args.item s = omega arith in
    let made : c.make_ops.new.next ≡ held_after_staged c.args.item os h =
    c.make_ops.ensures ∙ ap (λ (ps : List StagedOp). held_after_staged c.args.item ps c.in_ok-next.next) c.deref-2.ensures.value
    ∙ ap (λ (k : Held). held_after_staged c.args.item os k) c.in_ok-next.ensures in
    let put : c.put_value.new.self ≡ put_value c.args.v c.args.value (held_after_staged c.args.item os h) =
    c.put_value.ensures ∙ ap (λ (k : Held). put_value c.args.v c.args.value k) made in
    ap (λ (z : Table). pending (staged_items z os) t) c.in_ok-push.ensures.items
    ∙ copied-valued c.args.v c.args.item s os t h there le c.args.value c.put_value.new.self put
    ∙ ap (λ (u : StagedItems). put_value_in c.args.v c.args.item c.args.value (pending u t)) c.staged.view_is
