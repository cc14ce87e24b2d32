use Rattle.std.proofs.Common.{List, ◌∙◌, ap}
use Rattle.board_judge.specs.declared.rewriting.Altered.{Altered}
use Rattle.board_judge.specs.inside.Rewriting.{unaltered}
use Rattle.board_judge.proofs.Rewritten.{unaltered_more}
use Rattle.board_judge.proofs.rewriting.note_op.Goals as goal

pub returns-clause-back : goal.returns-clause-back
returns-clause-back c =
    unaltered_more c.reserve.new.self.items c.push.new.self.items (record { item = c.args.op.now.item; change = c.in_ok-change.change })
    c.args.kept.now.worths.items c.note_deed.new.worths.items c.in_ok-push.ensures.items c.in_ok-change.ensures.back
    ∙ ap (λ (trail : List Altered). unaltered trail c.args.kept.now.worths.items) c.reserve.ensures.items
