use Rattle.std.proofs.Common.{rules, ◌∷◌, [], ◌++◌, ◌≡◌, ◌∙◌, ap, sym, append_assoc, length, length-append, List, arith}
use Rattle.letter_types.specs.declared.entries.Letter.{Letter}
use Rattle.letter_types.specs.declared.entries.Outgoing.{Outgoing}
use Rattle.letter_types.specs.Letters.{sealed}
use Rattle.run_history.proofs.Sealed.{letter_at, sealed_more}
use Rattle.run_history.proofs.pushing.move_sent.Goals as goal
use Rattle.std.specs.Vec.Iter.{drain_items}

pub loop-outgoing-preserved : goal.loop-outgoing-preserved
loop-outgoing-preserved c =
    let inv = c.loop-outgoing.invariant in
    let seen = c.loop-outgoing.yielded in
    let one = c.in-Some.outgoing in
    let stamp = c.args.stamp.0 in
    let actor = c.args.actor.0 in
    let last = letter_at stamp actor c.loop-outgoing.number one in
    let count = length-append seen (one ∷ []) in
    let rest = drain_items c.next.new.self in
    let whole : seen ++ one ∷ rest ≡ c.args.sent.now.items = search rules in
    record {
      sent = c.push_reserved.ensures.items
          ∙ ap (λ (ls : List Letter). ls ++ last ∷ []) inv.sent
          ∙ append_assoc c.args.letters.now.items (sealed stamp actor 0 seen) (last ∷ [])
          ∙ ap (λ (ls : List Letter). c.args.letters.now.items ++ ls)
          (sym (sealed_more stamp actor 0 c.loop-outgoing.number seen one (omega (arith, inv.number))));
      number = omega (arith, inv.number, c.saturating_add-number.ensures, count, c.requires.few, length-append seen (one ∷ rest), ap (length {A = Outgoing}) whole);
      whole = append_assoc seen (one ∷ []) rest ∙ whole;
      room = omega (arith, inv.room, c.push_reserved.ensures.len, c.push_reserved.ensures.capacity, count);
    }
