use Rattle.std.proofs.Common.{◌≡◌, drop}
use Rattle.std.specs.List.{list_any}
use Rattle.board_rules.specs.Histories.{does}
use Rattle.board_judge.proofs.at_once.any_does.Given as goal

abbrev pub invariant-loop-act : goal.invariant-loop-act
invariant-loop-act l = list_any (does l.asked.tree.0 l.asked.sub.0) (drop l.act-index l.acts) ≡ list_any (does l.asked.tree.0 l.asked.sub.0) l.acts
