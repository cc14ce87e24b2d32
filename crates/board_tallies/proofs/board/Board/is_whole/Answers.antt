use Rattle.std.proofs.Common.{ap, ◌∙◌}
use Rattle.board_tallies.specs.Board.{BoardData, whole_at}
use Rattle.board_tallies.proofs.Standing.{whole_any}
use Rattle.board_tallies.proofs.board.Board.is_whole.Goals as goal

pub returns : goal.returns
returns c =
    λ xs board.
    c.whole_at.ensures
    ∙ (λ i. whole_at (c.trees.ensures.trees i) ((c.deref.ensures.value ∙ ap (λ (b : BoardData). b.trees) c.self.view_is) i) c.args.tree.0)
    ∙ whole_any c.args.script.now xs c.args.self.now.trees c.args.tree.0 board.trees (board.states c.args.tree.0)
