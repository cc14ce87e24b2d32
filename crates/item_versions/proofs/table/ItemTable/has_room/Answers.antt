use Rattle.std.proofs.Common.{◌∙◌, ap, sym}
use Rattle.item_versions.specs.Table.{StagedItems, Table, has_room_in, item_in, pending}
use Rattle.item_versions.proofs.StagedTables.{found-room, held-room, none-room}
use Rattle.item_versions.proofs.table.ItemTable.has_room.Goals as goal

pub returns-in_default : goal.returns-in_default
returns-in_default c =
    none-room c.args.v c.args.item c.args.staged.now c.args.self.now (sym c.in_default.ensures)

pub returns-in-Some-find : goal.returns-in-Some-find
returns-in-Some-find c =
    let is = sym (ap (λ (z : Table). item_in c.args.item z) c.deref.ensures.value) ∙ sym c.in-Some-find.ensures in
    c.has_room.ensures
    ∙ found-room c.args.v c.args.item c.staged.inside.entries.items c.staged.inside.ops.items c.args.self.now
    c.in-Some.held.now c.in-Some-find.found.now (sym c.in-Some.ensures) is
    ∙ ap (λ (u : StagedItems). has_room_in c.args.v c.args.item (pending u c.args.self.now)) c.staged.view_is

pub returns-in-None : goal.returns-in-None
returns-in-None c =
    let is = sym (ap (λ (z : Table). item_in c.args.item z) c.deref.ensures.value) ∙ sym c.in-None.ensures in
    c.has_room-in-None.ensures
    ∙ held-room c.args.v c.args.item c.staged.inside.entries.items c.staged.inside.ops.items c.args.self.now
    c.in-Some.held.now (sym c.in-Some.ensures) is
    ∙ ap (λ (u : StagedItems). has_room_in c.args.v c.args.item (pending u c.args.self.now)) c.staged.view_is
