use Rattle.std.proofs.Common.{◌≡◌, ◌+◌, ◌∙◌, false, [], length, List, sym, ap, arith}
use Rattle.std.specs.Prelude.{get_or}
use Rattle.std.proofs.lemmas.List.{append-nil, get_or_append_left}
use Rattle.letter_types.specs.declared.entries.Letter.{Letter}
use Rattle.letter_types.specs.Letters.{go, sealed}
use Rattle.run_history.specs.declared.record.Slot.{Slot}
use Rattle.run_history.specs.Messages.{entries_then}
use Rattle.run_history.specs.Records.{RecordData}
use Rattle.run_history.specs.inside.Slots.{lists_of}
use Rattle.run_history.proofs.Kept.{entries_count}
use Rattle.run_history.proofs.Pushed.{message_at, Pushed, pushed}
use Rattle.run_history.proofs.record.Record.enter.Goals as goal

abbrev slot : goal.After-push_reserved → Slot
slot c = record { took = c.args.took; came = false; actor = c.args.actor; sent = c.len-2.result; acts = c.len-3.result }

made : (c : goal.After-push_reserved) → Pushed c.args.self.now.entries
    (lists_of c.push_sent.new.letters.items c.self.inside.came.items c.push_done.new.acts.items)
    c.push_reserved.new.self.items (slot c) c.args.sent.now c.args.acts.now
made c =
    let i = c.self.inside in
    let ls = lists_of i.letters.items i.came.items i.acts.items in
    let is = ap (λ (r : RecordData). r.entries) c.self.view_is in
    let count = entries_count 0 0 0 ls i.slots.items in
    let view = ap (λ (r : RecordData). length r.entries) c.self.view_is in
    let there = message_at ls i.slots.items c.args.self.now.entries c.args.took is c.self.invariant c.requires.took in
    pushed ls i.slots.items c.push_reserved.new.self.items c.args.self.now.entries c.push_sent.new.letters.items
    i.came.items [] c.push_done.new.acts.items c.args.acts.now (slot c) (c.len.result + 1)
    c.args.sent.now is c.self.invariant (omega (arith, c.requires.room.few, count, view))
    (omega (arith, c.len.ensures)) c.push_sent.ensures.moved (sym (append-nil i.came.items)) c.push_done.ensures.moved
    c.push_reserved.ensures.items ((λ is_came. absurd (cc is_came)), (λ _. there.0))
    (omega (arith, c.len-2.ensures)) (omega (arith, c.len-3.ensures))

pub invariant_of-self : goal.invariant_of-self
invariant_of-self c = (made c).kept

pub returns-clause-entry : goal.returns-clause-entry
returns-clause-entry c =
    let i = c.self.inside in
    let ls = lists_of i.letters.items i.came.items i.acts.items in
    let is = ap (λ (r : RecordData). r.entries) c.self.view_is in
    let there = message_at ls i.slots.items c.args.self.now.entries c.args.took is c.self.invariant c.requires.took in
    let stays = get_or_append_left i.letters.items (sealed (c.len.result + 1) c.args.actor.0 0 c.args.sent.now) (go 0) c.args.took there.0 in
    let took : get_or c.push_sent.new.letters.items c.args.took (go 0) ≡ get_or i.letters.items c.args.took (go 0) =
    ap (λ (xs : List Letter). get_or xs c.args.took (go 0)) c.push_sent.ensures.moved ∙ stays in
    rw there.1 ((made c).entries
    ∙ (λ x. entries_then c.args.self.now.entries c.args.actor (took x) c.args.sent.now c.args.acts.now))
