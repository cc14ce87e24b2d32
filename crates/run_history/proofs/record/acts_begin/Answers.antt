use Rattle.std.proofs.Common.{◌≡◌, suc, ◌-◌, ◌<◌, ◌∙◌, length, sym, ap, arith}
use Rattle.run_history.specs.declared.record.Slot.{Slot}
use Rattle.run_history.specs.inside.Slots.{slot_begins}
use Rattle.run_history.proofs.Begins.{begins_first, begins_later}
use Rattle.run_history.proofs.record.acts_begin.Goals as goal

pub returns-then-place-eq0 : goal.returns-then-place-eq0
returns-then-place-eq0 c =
    let first : c.args.place ≡ 0 = c.if-place-eq0.true in
    sym (begins_first (λ (p : Slot). p.acts) 0 c.args.slots.now.items)
    ∙ ap (slot_begins (λ (p : Slot). p.acts) 0 c.args.slots.now.items) (sym first)

pub returns-else-place-eq0 : goal.returns-else-place-eq0
returns-else-place-eq0 c =
    let k = c.args.place - 1 in
    let next : suc k ≡ c.args.place = grind (arith, c.if-place-eq0.false) in
    let lt : k < length c.args.slots.now.items = omega (arith, next, c.requires) in
    ap (λ (p : Slot). p.acts) c.index.ensures
    ∙ sym (begins_later (λ (p : Slot). p.acts) 0 c.args.slots.now.items k c.index.result.now lt)
    ∙ ap (slot_begins (λ (p : Slot). p.acts) 0 c.args.slots.now.items) next
