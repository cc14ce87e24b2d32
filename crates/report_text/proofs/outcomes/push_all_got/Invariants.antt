use Rattle.std.proofs.Common.{◌≡◌, ◌++◌, drop}
use Rattle.history_text.specs.TreeNames.{got_text}
use Rattle.board_rules.specs.Outcomes.{got_from}
use Rattle.report_text.proofs.outcomes.push_all_got.Given as goal

abbrev pub invariant-loop-k : goal.invariant-loop-k
invariant-loop-k l =
    l.text ++ got_text l.script (got_from l.voters.ballot.now l.voters.number.0 l.k (drop l.k l.subs))
    ≡ l.initial.text ++ got_text l.script (got_from l.voters.ballot.now l.voters.number.0 0 l.subs)
