-- Numbers and amounts as their digits. These are the definitions that private code alone cites.
use Rattle.std.specs.Prelude.{ℕ, ◌<◌, ◌^◌, ℤ}
use Rattle.std.specs.Prelude.{List, Option, Some, None, if◌then◌else◌, slice_index}
use Rattle.script_reader.specs.Numbers.{amount_value, is_amount, is_number}
use Rattle.tv_base.specs.Digits.{decimal_value}

-- the number that bytes spell, if they do
abbrev pub number_spelled : List ℕ → Option ℕ
number_spelled bytes = if is_number bytes then Some (decimal_value bytes) else None

-- the amount that bytes spell, if they do
abbrev pub amount_of : List ℕ → Option ℤ
amount_of bytes = if is_amount bytes then Some (amount_value bytes) else None

-- numbers of 32 bits
abbrev pub AreOf32Bits : List ℕ → Type 0
AreOf32Bits ks = (i : ℕ) → slice_index ks i < 2 ^ 32
