use Rattle.std.proofs.Common.{[], sym, subst, ◌∙◌, length}
use Rattle.board_tallies.specs.Board.{BoardData, IsBoardOf}
use Rattle.board_tallies.specs.inside.Noting.{first_board}
use Rattle.board_tallies.proofs.Started.{started}
use Rattle.board_tallies.proofs.board.Board.new.Goals as goal

pub returns : goal.returns
returns c =
    subst (λ (b : BoardData). IsBoardOf c.args.script.now [] b)
    (sym (c.in_ok-board.ensures
    ∙ (λ i. first_board (c.nodes-nodes.ensures.nodes i) (length (c.trees.ensures.trees i)))))
    (started c.args.script.now)
