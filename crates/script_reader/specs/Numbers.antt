-- Numbers and amounts as their digits.
use Rattle.std.specs.Prelude.{ℕ, Bool, false, ◌&&◌, ◌==◌, nat_le, ℤ, pos, ◌-ℤ◌}
use Rattle.std.specs.Prelude.{List, [], ◌∷◌, length, if◌then◌else◌}
use Rattle.std.specs.Char.{is_ascii_digit}
use Rattle.std.specs.List.{list_all}
use Rattle.tv_base.specs.Digits.{decimal_value}

-- 1 to 32 decimal digits
abbrev pub is_number : List ℕ → Bool
is_number bytes = nat_le 1 (length bytes) && nat_le (length bytes) 32 && list_all is_ascii_digit bytes

-- an amount begins with a minus sign, which is the byte 45, or with its digits
abbrev pub is_negative : List ℕ → Bool
is_negative [] = false
is_negative (b ∷ bs) = b == 45

-- what comes after the minus sign, if there is one
abbrev pub digits_of : List ℕ → List ℕ
digits_of [] = []
digits_of (b ∷ bs) = if b == 45 then bs else b ∷ bs

-- 1 to 32 decimal digits, with or without a minus sign
abbrev pub is_amount : List ℕ → Bool
is_amount bytes = is_number (digits_of bytes)

-- the magnitude of an amount
abbrev pub size_of : List ℕ → ℕ
size_of bytes = decimal_value (digits_of bytes)

-- a magnitude with its sign
abbrev pub signed : Bool → ℕ → ℤ
signed negative size = if negative then pos 0 -ℤ pos size else pos size

-- the value of an amount
abbrev pub amount_value : List ℕ → ℤ
amount_value bytes = signed (is_negative bytes) (size_of bytes)
