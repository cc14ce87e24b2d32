use Rattle.std.proofs.Common.{◌≡◌, ◌+◌, ◌*◌, ◌≤◌, ◌^◌, drop, take}
use Rattle.std.specs.Char.{is_ascii_digit}
use Rattle.std.specs.List.{list_all}
use Rattle.tv_base.specs.Digits.{decimal_value}
use Rattle.script_reader.proofs.numbers.short_number.Given as goal

abbrev pub invariant-loop-b : goal.invariant-loop-b
invariant-loop-b l = record {
  so_far : l.value ≡ decimal_value (take l.b-index l.bytes);
  rest : list_all is_ascii_digit (drop l.b-index l.bytes) ≡ list_all is_ascii_digit l.bytes;
  small : l.value + 23 ≤ 23 * 10 ^ l.b-index;
}
