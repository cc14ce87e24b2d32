-- Numbers as their digits.
use Rattle.std.specs.Prelude.{ℕ, Bool, ◌&&◌, nat_le, List, length, Option, Some, None, if◌then◌else◌}
use Rattle.std.specs.Char.{is_ascii_digit}
use Rattle.std.specs.List.{list_all}
use Rattle.tv_base.specs.Digits.{decimal_value}

-- 1 to 20 decimal digits
abbrev pub is_option_number : List ℕ → Bool
is_option_number bytes = nat_le 1 (length bytes) && nat_le (length bytes) 20 && list_all is_ascii_digit bytes

-- their number
abbrev pub option_number : List ℕ → Option ℕ
option_number bytes = if is_option_number bytes then Some (decimal_value bytes) else None
