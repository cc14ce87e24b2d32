use Rattle.std.proofs.Common.{◌≡◌, ◌+◌, ◌*◌, ◌≤◌, ◌^◌, take}
use Rattle.tv_base.specs.Digits.{decimal_value}
use Rattle.tv_base.proofs.digits.number_of.Given as goal

abbrev pub invariant-loop-b : goal.invariant-loop-b
invariant-loop-b l = record {
  so_far : l.value ≡ decimal_value (take l.b-index l.digits);
  small : l.value + 23 ≤ 23 * 10 ^ l.b-index;
}
