use Rattle.std.proofs.Common.{◌≡◌, drop}
use Rattle.std.specs.List.{list_any}
use Rattle.board_judge.specs.inside.Asking.{parks_this}
use Rattle.board_judge.proofs.at_once.any_parks.Given as goal

abbrev pub invariant-loop-act : goal.invariant-loop-act
invariant-loop-act l = list_any (parks_this l.asked.tree l.asked.sub l.way.item l.way.holder) (drop l.act-index l.acts) ≡ list_any (parks_this l.asked.tree l.asked.sub l.way.item l.way.holder) l.acts
