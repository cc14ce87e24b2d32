use Rattle.std.proofs.Common.{sym, subst}
use Rattle.board_tallies.specs.Board.{BoardData, IsBoardOf}
use Rattle.board_tallies.proofs.Nexts.{board_settled}
use Rattle.board_tallies.proofs.board.Board.settle.Goals as goal

pub returns : goal.returns
returns c =
    λ s xs board. subst (λ (b : BoardData). IsBoardOf s xs b) (sym c.drop_zeros.ensures) (board_settled s xs c.args.self.now board)
