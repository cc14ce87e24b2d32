use Rattle.std.proofs.Common.{length, ap, arith}
use Rattle.run_history.specs.declared.record.Slot.{Slot}
use Rattle.run_history.specs.inside.Slots.{lists_of}
use Rattle.run_history.proofs.Kept.{entries_count}
use Rattle.run_history.proofs.record.Record.make_room.Goals as goal

pub returns-clause-ok : goal.returns-clause-ok
returns-clause-ok c =
    let count = entries_count 0 0 0 (lists_of c.reserve-3.new.self.items c.reserve-2.new.self.items c.reserve-4.new.self.items) c.reserve.new.self.items in
    record {
      few = omega (arith, c.len.ensures, c.if-len-ge-MOST_ENTRIES.false, count, ap (length {A = Slot}) c.in_ok-reserve.ensures.items);
      slots = omega (arith, c.in_ok-reserve.ensures.ok);
      came = omega (arith, c.in_ok-reserve-2.ensures.ok);
      sent = omega (arith, c.in_ok-reserve-3.ensures.ok);
      acts = omega (arith, c.in_ok-reserve-4.ensures.ok);
    }
