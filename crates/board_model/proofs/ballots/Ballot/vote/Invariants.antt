use Rattle.std.proofs.Common.{◌≡◌, map, drop}
use Rattle.board_rules.specs.Outcomes.{vote_in}
use Rattle.board_model.proofs.ballots.Ballot.vote.Given as goal

abbrev pub invariant-loop-act : goal.invariant-loop-act
invariant-loop-act l = vote_in l.tree.0 l.sub.0 (map (λ a. a.now) (drop l.act-index l.act-items)) ≡ vote_in l.tree.0 l.sub.0 l.self
