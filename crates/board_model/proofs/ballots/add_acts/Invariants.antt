use Rattle.std.proofs.Common.{◌≡◌, drop}
use Rattle.board_model.specs.inside.Ballots.{ballots_after}
use Rattle.board_model.proofs.ballots.add_acts.Given as goal

abbrev pub invariant-loop-act : goal.invariant-loop-act
invariant-loop-act l = ballots_after (drop l.act-index l.acts) l.rows.items ≡ ballots_after l.acts l.initial.rows.items
