use Rattle.std.proofs.Common.{◌≡◌, drop}
use Rattle.board_rules.specs.Outcomes.{cause_from}
use Rattle.report_text.proofs.outcomes.first_cause.Given as goal

abbrev pub invariant-loop-k : goal.invariant-loop-k
invariant-loop-k l =
    cause_from l.voters.ballot.now l.voters.number.0 l.k (drop l.k l.subs)
    ≡ cause_from l.voters.ballot.now l.voters.number.0 0 l.subs
