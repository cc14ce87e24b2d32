use Rattle.std.proofs.Common.{length, ap, arith}
use Rattle.letter_types.specs.declared.entries.Entry.{Entry}
use Rattle.run_history.specs.Records.{RecordData}
use Rattle.run_history.specs.inside.Slots.{lists_of}
use Rattle.run_history.proofs.Kept.{entries_count}
use Rattle.run_history.proofs.record.Record.len.Goals as goal

pub returns-clause-len : goal.returns-clause-len
returns-clause-len c =
    let i = c.self.inside in
    omega (
      arith,
      c.len.ensures,
      ap (length {A = Entry}) (ap (λ (r : RecordData). r.entries) c.self.view_is),
      entries_count 0 0 0 (lists_of i.letters.items i.came.items i.acts.items) i.slots.items,
    )

pub returns-clause-few : goal.returns-clause-few
returns-clause-few c =
    let i = c.self.inside in
    omega (
      arith,
      c.self.invariant.few,
      ap (length {A = Entry}) (ap (λ (r : RecordData). r.entries) c.self.view_is),
      entries_count 0 0 0 (lists_of i.letters.items i.came.items i.acts.items) i.slots.items,
    )
