use Rattle.std.proofs.Common.{◌∙◌, refl, sym, take, length-take-le, ◌≤◌, length, arith}
use Rattle.letter_bag.specs.declared.blocks.TheConstants.{BLOCK}
use Rattle.letter_bag.specs.Blocks.{joined}
use Rattle.letter_bag.proofs.Joined.{one_more, one_more-length}
use Rattle.letter_bag.proofs.blocks.Blocks.cut.Goals as goal

pub returns-clause-ok : goal.returns-clause-ok
returns-clause-ok g c =
    one_more c.push_reserved.new.self.items c.reserve.new.self.items c.self.inside.blocks.items c.new.result c.args.self.now (take BLOCK c.args.queue.now.items)
    c.push_reserved.ensures.items c.reserve.ensures.items (c.new.ensures ∙ c.move_first.ensures.moved) c.self.view_is

pub invariant_of-self-2 : goal.invariant_of-self-2
invariant_of-self-2 g c =
    let queue = c.args.queue.now in
    let le : BLOCK ≤ length queue.items = omega (arith, queue.ok, c.requires.full) in
    let more = one_more c.push_reserved.new.self.items c.reserve.new.self.items c.self.inside.blocks.items c.new.result (joined c.self.inside.blocks.items) (take BLOCK queue.items)
    c.push_reserved.ensures.items c.reserve.ensures.items (c.new.ensures ∙ c.move_first.ensures.moved) refl in
    one_more-length c.push_reserved.new.self.items (joined c.self.inside.blocks.items) (take BLOCK queue.items) c.self.inside.count BLOCK c.self.invariant
    (sym (length-take-le BLOCK queue.items le)) more
