use Rattle.std.proofs.Common.{◌≤◌, ◌-◌, length}
use Rattle.report_text.specs.inside.Served.{IsServedIn}
use Rattle.report_text.proofs.served.serve_to.Given as goal

abbrev pub invariant-loop-now : goal.invariant-loop-now
invariant-loop-now l = record {
  served : IsServedIn l.pass.run l.pass.asks.now l.reads l.now;
  later : l.now.carried.version.0 ≤ l.version.0;
}

abbrev pub decreases-loop-now : goal.decreases-loop-now
decreases-loop-now l = length l.list - l.now.place
