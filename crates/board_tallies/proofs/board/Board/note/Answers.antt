use Rattle.std.proofs.Common.{List, ap, subst, ◌∙◌}
use Rattle.std.specs.Option.{option_map}
use Rattle.tv_base.specs.declared.numbers.TreeNo.{TreeNo}
use Rattle.script_parts.specs.declared.parts.Tree.{Tree}
use Rattle.board_tallies.specs.inside.Noting.{IsNoted, closed_by}
use Rattle.board_tallies.proofs.Nexts.{board_next, closed_next}
use Rattle.board_tallies.proofs.board.Board.note.Goals as goal

pub returns-clause-noted : goal.returns-clause-noted
returns-clause-noted c =
    λ before xs board move.
    board_next c.args.script.now before xs c.args.node.0 c.args.act.now c.args.self.now c.note_act.new.self
    c.trees-trees.ensures.valid board move
    (subst (λ (ts : List Tree). IsNoted ts c.args.node.0 c.args.act.now c.args.self.now c.note_act.new.self) c.trees-trees.ensures.trees
    c.in_ok-noted.ensures.noted)

pub returns-clause-closed : goal.returns-clause-closed
returns-clause-closed c =
    λ before xs board move.
    ap (option_map (λ (t : TreeNo). t.0))
    (c.in_ok-noted.ensures.closed
    ∙ ap (λ (ts : List Tree). closed_by ts c.note_act.new.self.trees c.args.act.now) c.trees-trees.ensures.trees)
    ∙ closed_next c.args.script.now before xs c.args.node.0 c.args.act.now c.args.self.now c.note_act.new.self
    c.trees-trees.ensures.valid board move
    (subst (λ (ts : List Tree). IsNoted ts c.args.node.0 c.args.act.now c.args.self.now c.note_act.new.self) c.trees-trees.ensures.trees
    c.in_ok-noted.ensures.noted)
