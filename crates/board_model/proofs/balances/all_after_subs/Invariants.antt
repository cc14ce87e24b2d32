use Rattle.std.proofs.Common.{◌≡◌, drop, IsTrue}
use Rattle.board_model.specs.inside.May.{all_subs_may}
use Rattle.board_model.specs.Balances.{all_after_subs}
use Rattle.board_model.proofs.balances.all_after_subs.Given as goal

abbrev pub invariant-loop-sub : goal.invariant-loop-sub
invariant-loop-sub l = record {
  values : all_after_subs (drop l.sub-index l.subs) l.values ≡ all_after_subs l.subs l.initial.values;
  may : IsTrue (all_subs_may (drop l.sub-index l.subs) l.values);
}
