use Rattle.std.proofs.Common.{◌-◌, length}
use Rattle.report_text.specs.inside.Served.{IsServedIn}
use Rattle.report_text.proofs.served.serve_rest.Given as goal

abbrev pub invariant-loop-now : goal.invariant-loop-now
invariant-loop-now l = record {
  served : IsServedIn l.pass.run l.pass.asks.now l.reads l.now;
}

abbrev pub decreases-loop-now : goal.decreases-loop-now
decreases-loop-now l = length l.list - l.now.place
