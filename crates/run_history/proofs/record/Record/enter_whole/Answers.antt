use Rattle.std.proofs.Common.{◌≡◌, ◌+◌, ◌∙◌, true, [], ◌∷◌, length, ap, arith}
use Rattle.std.specs.Prelude.{get_or}
use Rattle.std.proofs.Math.Seq.{get_or-append_seam}
use Rattle.std.proofs.lemmas.List.{length-append}
use Rattle.letter_types.specs.declared.entries.Letter.{Letter}
use Rattle.letter_types.specs.Letters.{go}
use Rattle.run_history.specs.declared.record.Slot.{Slot}
use Rattle.run_history.specs.Messages.{entries_then}
use Rattle.run_history.specs.Records.{RecordData}
use Rattle.run_history.specs.inside.Slots.{lists_of}
use Rattle.run_history.proofs.Kept.{entries_count}
use Rattle.run_history.proofs.Pushed.{Pushed, pushed}
use Rattle.run_history.proofs.record.Record.enter_whole.Goals as goal

abbrev slot : goal.After-push_reserved-2 → Slot
slot c = record { took = c.len-place.result; came = true; actor = c.args.actor; sent = c.len-2.result; acts = c.len-3.result }

made : (c : goal.After-push_reserved-2) → Pushed c.args.self.now.entries
    (lists_of c.push_sent.new.letters.items c.push_reserved.new.self.items c.push_done.new.acts.items)
    c.push_reserved-2.new.self.items (slot c) c.args.sent.now c.args.acts.now
made c =
    let i = c.self.inside in
    let ls = lists_of i.letters.items i.came.items i.acts.items in
    let count = entries_count 0 0 0 ls i.slots.items in
    let view = ap (λ (r : RecordData). length r.entries) c.self.view_is in
    pushed ls i.slots.items c.push_reserved-2.new.self.items c.args.self.now.entries c.push_sent.new.letters.items
    c.push_reserved.new.self.items (c.args.took ∷ []) c.push_done.new.acts.items c.args.acts.now (slot c) (c.len.result + 1)
    c.args.sent.now (ap (λ (r : RecordData). r.entries) c.self.view_is) c.self.invariant (omega (arith, c.requires.few, count, view))
    (omega (arith, c.len.ensures)) c.push_sent.ensures.moved c.push_reserved.ensures.items c.push_done.ensures.moved
    c.push_reserved-2.ensures.items (
      (λ _. omega (arith, ap (length {A = Letter}) c.push_reserved.ensures.items, length-append i.came.items (c.args.took ∷ []), c.len-place.ensures)),
      (λ is. absurd (cc is)),
    )
    (omega (arith, c.len-2.ensures)) (omega (arith, c.len-3.ensures))

took_is : (c : goal.After-push_reserved-2) → get_or c.push_reserved.new.self.items c.len-place.result (go 0) ≡ c.args.took
took_is c =
    let came = c.self.inside.came.items in
    let place : c.len-place.result ≡ length came = omega (arith, c.len-place.ensures) in
    (λ x. get_or (c.push_reserved.ensures.items x) (place x) (go 0)) ∙ get_or-append_seam came c.args.took [] (go 0)

pub invariant_of-self : goal.invariant_of-self
invariant_of-self c = (made c).kept

pub returns-clause-entry : goal.returns-clause-entry
returns-clause-entry c =
    (made c).entries
    ∙ (λ x. entries_then c.args.self.now.entries c.args.actor (took_is c x) c.args.sent.now c.args.acts.now)
