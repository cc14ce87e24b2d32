use Rattle.std.specs.Prelude.{reverse}
use Rattle.board_rules.proofs.Judging.{all_rules}
use Rattle.headline.proofs.BoardRuns.{board_run}
use Rattle.headline.proofs.Fitting.{fits_run}
use Rattle.run_laws.proofs.keeping.AtOnce.{all_at_once}
use Rattle.run_laws.proofs.worth.Right.{right_run}
use Rattle.headline.proofs.board.every_run_is_accepted.Goals as goal

pub returns : goal.returns
returns c = λ s past valid run.
    (all_rules s (reverse past)).1
    (board_run s past valid run, fits_run s past valid run, right_run s past valid run, all_at_once s past valid run)
