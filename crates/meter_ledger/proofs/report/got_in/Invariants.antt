use Rattle.std.proofs.Common.{◌≡◌, false, take}
use Rattle.std.specs.List.{list_any}
use Rattle.board_rules.specs.Histories.{does}
use Rattle.meter_ledger.proofs.report.got_in.Given as goal

abbrev pub invariant-loop-act : goal.invariant-loop-act
invariant-loop-act l = list_any (does l.tree.0 l.sub.0) (take l.act-index l.acts) ≡ false
