use Rattle.std.proofs.Common.{◌≡◌, ◌+◌, ◌≤◌, ◌∙◌, List, Some, length, map, sym, ap, arith}
use Rattle.std.specs.Prelude.{slice_get}
use Rattle.std.specs.List.{slice_range}
use Rattle.letter_types.specs.declared.acts.Act.{Act}
use Rattle.letter_types.specs.declared.entries.Entry.{Entry}
use Rattle.letter_types.specs.declared.entries.Letter.{Letter}
use Rattle.letter_types.specs.Letters.{sealed}
use Rattle.run_history.specs.Records.{RecordData}
use Rattle.run_history.specs.Messages.{entry_behind, outgoing_of}
use Rattle.run_history.specs.inside.Slots.{acts_begin, lists_of, sent_begins, taken_of_slot}
use Rattle.run_history.proofs.Kept.{entries_count, found_in}
use Rattle.run_history.proofs.record.Record.entry.Goals as goal

pub index-slot-requires : goal.index-slot-requires
index-slot-requires c =
    let i = c.self.inside in
    omega (
      arith,
      c.requires,
      ap (length {A = Entry}) (ap (λ (r : RecordData). r.entries) c.self.view_is),
      entries_count 0 0 0 (lists_of i.letters.items i.came.items i.acts.items) i.slots.items,
    )

pub sent_begins-sent-requires : goal.sent_begins-sent-requires
sent_begins-sent-requires c =
    let i = c.self.inside in
    omega (
      arith,
      c.requires,
      ap (length {A = Entry}) (ap (λ (r : RecordData). r.entries) c.self.view_is),
      entries_count 0 0 0 (lists_of i.letters.items i.came.items i.acts.items) i.slots.items,
    )

pub acts_begin-acts-requires : goal.acts_begin-acts-requires
acts_begin-acts-requires c =
    let i = c.self.inside in
    omega (
      arith,
      c.requires,
      ap (length {A = Entry}) (ap (λ (r : RecordData). r.entries) c.self.view_is),
      entries_count 0 0 0 (lists_of i.letters.items i.came.items i.acts.items) i.slots.items,
    )

pub overflow_add-result : goal.overflow_add-result
overflow_add-result c =
    let i = c.self.inside in
    omega (
      arith,
      c.requires,
      c.self.invariant.few,
      ap (length {A = Entry}) (ap (λ (r : RecordData). r.entries) c.self.view_is),
      entries_count 0 0 0 (lists_of i.letters.items i.came.items i.acts.items) i.slots.items,
    )

pub taken-requires : goal.taken-requires
taken-requires c =
    let ls = lists_of c.self.inside.letters.items c.self.inside.came.items c.self.inside.acts.items in
    let found = found_in ls c.self.inside.slots.items c.args.self.now.entries c.args.place c.index-slot.result.now (ap (λ (r : RecordData). r.entries) c.self.view_is) c.self.invariant c.requires c.index-slot.ensures in
    let k = found.kept in (
      (λ is. omega (arith, k.took.0 is, c.deref-2.ensures.value, ap (length {A = Letter}) c.deref-2.ensures.value)),
      (λ is. omega (arith, k.took.1 is, k.sent, k.sent_in, ap (length {A = Letter}) c.deref.ensures.value)),
    )

pub part-requires : goal.part-requires
part-requires c =
    let ls = lists_of c.self.inside.letters.items c.self.inside.came.items c.self.inside.acts.items in
    let found = found_in ls c.self.inside.slots.items c.args.self.now.entries c.args.place c.index-slot.result.now (ap (λ (r : RecordData). r.entries) c.self.view_is) c.self.invariant c.requires c.index-slot.ensures in
    let k = found.kept in
    let le : sent_begins c.self.inside.slots.items c.args.place ≤ c.index-slot.result.now.sent = k.sent in
    (omega (arith, le, c.sent_begins-sent.ensures), omega (arith, k.sent_in, ap (length {A = Letter}) c.deref-3.ensures.value))

pub part-requires-2 : goal.part-requires-2
part-requires-2 c =
    let ls = lists_of c.self.inside.letters.items c.self.inside.came.items c.self.inside.acts.items in
    let found = found_in ls c.self.inside.slots.items c.args.self.now.entries c.args.place c.index-slot.result.now (ap (λ (r : RecordData). r.entries) c.self.view_is) c.self.invariant c.requires c.index-slot.ensures in
    let k = found.kept in
    let le : acts_begin c.self.inside.slots.items c.args.place ≤ c.index-slot.result.now.acts = k.acts in
    (omega (arith, le, c.acts_begin-acts.ensures), omega (arith, k.acts_in, ap (length {A = Act}) c.deref-4.ensures.value))

pub invariant_of-result : goal.invariant_of-result
invariant_of-result c =
    let ls = lists_of c.self.inside.letters.items c.self.inside.came.items c.self.inside.acts.items in
    let is = ap (λ (r : RecordData). r.entries) c.self.view_is in
    let p = c.index-slot.result.now in
    let found = found_in ls c.self.inside.slots.items c.args.self.now.entries c.args.place p is c.self.invariant c.requires c.index-slot.ensures in
    let k : 0 + c.args.place ≡ c.args.place = omega arith in
    let sent = c.part.ensures ∙ (λ x. slice_range (c.deref-3.ensures.value x) (c.sent_begins-sent.ensures x) p.sent) in
    sent ∙ found.kept.ids ∙ (λ x. sealed (k x + 1) p.actor.0 0 (map outgoing_of (sym sent x)))

pub returns : goal.returns
returns c =
    let ls = lists_of c.self.inside.letters.items c.self.inside.came.items c.self.inside.acts.items in
    let found = found_in ls c.self.inside.slots.items c.args.self.now.entries c.args.place c.index-slot.result.now (ap (λ (r : RecordData). r.entries) c.self.view_is) c.self.invariant c.requires c.index-slot.ensures in
    let p = c.index-slot.result.now in
    let k : 0 + c.args.place ≡ c.args.place = omega arith in
    let took = c.taken.ensures ∙ (λ x. taken_of_slot (c.deref.ensures.value x) (c.deref-2.ensures.value x) p) in
    let sent = c.part.ensures ∙ (λ x. slice_range (c.deref-3.ensures.value x) (c.sent_begins-sent.ensures x) p.sent) in
    let acts = c.part-2.ensures ∙ (λ x. slice_range (c.deref-4.ensures.value x) (c.acts_begin-acts.ensures x) p.acts) in
    ap (λ (es : List Entry). slice_get es c.args.place) (sym (ap (λ (r : RecordData). r.entries) c.self.view_is))
    ∙ found.entry
    ∙ (λ x. Some (entry_behind (k x) p.actor (sym took x) (map outgoing_of (sym sent x)) (sym acts x)))
