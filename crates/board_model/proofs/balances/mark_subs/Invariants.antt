use Rattle.std.proofs.Common.{◌≡◌, drop}
use Rattle.board_model.specs.inside.Balances.{mark_subs}
use Rattle.board_model.proofs.balances.mark_subs.Given as goal

abbrev pub invariant-loop-sub : goal.invariant-loop-sub
invariant-loop-sub l = mark_subs (drop l.sub-index l.subs) l.marks ≡ mark_subs l.subs l.initial.marks
