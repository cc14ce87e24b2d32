use Rattle.std.proofs.Common.{◌≡◌, map, drop}
use Rattle.board_rules.specs.Outcomes.{decision_in}
use Rattle.board_model.proofs.ballots.Ballot.decision.Given as goal

abbrev pub invariant-loop-act : goal.invariant-loop-act
invariant-loop-act l = decision_in l.tree.0 (map (λ a. a.now) (drop l.act-index l.act-items)) ≡ decision_in l.tree.0 l.self
