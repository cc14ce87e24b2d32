use Rattle.std.proofs.Common.{ap, arith}
use Rattle.item_versions.specs.inside.StagedOps.{amounts_of}
use Rattle.item_versions.proofs.WhereHeld.{amounts-last}
use Rattle.item_versions.proofs.table.note_op.Goals as goal

pub returns-clause-left : goal.returns-clause-left
returns-clause-left c =
    let last = amounts-last c.room_for_one.new.ops.items (record { item = c.args.item; version = c.args.v; op = c.args.op.now }) in
    let more = ap amounts_of c.push_reserved.ensures.items in
    let same = ap amounts_of c.in_ok-room_for_one.ensures.items in
    omega (arith, last, more, same, c.in-Some.ensures, c.requires)
