use Rattle.std.proofs.Common.{rules, ◌≡◌, Some}
use Rattle.std.specs.Prelude.{slice_get}
use Rattle.phase_out.proofs.Verdicts.{verdict-missing, verdict-differs}
use Rattle.phase_out.proofs.With.{own-verdict}
use Rattle.phase_out.proofs.round.Round.verdict.Goals as goal

pub returns-in-Some-Some-clause-missing : goal.returns-in-Some-Some-clause-missing
returns-in-Some-Some-clause-missing c =
    let first : slice_get c.args.self.now.askeds 0 ≡ Some (Some c.in-Some-Some.row) = search rules in
    rw (c.verdict_with.ensures, own-verdict c.args.self.now c.in-Some-Some.row first) (verdict-missing c.args.self.now)

pub returns-in-Some-Some-clause-differs : goal.returns-in-Some-Some-clause-differs
returns-in-Some-Some-clause-differs c =
    let first : slice_get c.args.self.now.askeds 0 ≡ Some (Some c.in-Some-Some.row) = search rules in
    rw (c.verdict_with.ensures, own-verdict c.args.self.now c.in-Some-Some.row first) (verdict-differs c.args.self.now)
