use Rattle.std.proofs.Common.{◌≡◌, ◌++◌, drop}
use Rattle.report_text.specs.inside.Served.{asks_from}
use Rattle.report_text.proofs.served.asks_of.Given as goal

abbrev pub invariant-loop-t : goal.invariant-loop-t
invariant-loop-t l = l.asks ++ asks_from l.t (drop l.t l.trees) (drop l.t l.standings) ≡ asks_from 0 l.trees l.standings
