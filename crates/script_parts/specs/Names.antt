-- What a name is: 1 to 32 bytes of ASCII letters, digits, `_`, `-`, `.`.
use Rattle.std.specs.Prelude.{ℕ, Bool, ◌==◌, ◌&&◌, ◌||◌, nat_le, List, length}
use Rattle.std.specs.List.{list_all}

-- an ASCII letter, a digit, `_`, `-` or `.`
abbrev pub is_name_byte : ℕ → Bool
is_name_byte b =
    ((nat_le 65 b && nat_le b 90) || (nat_le 97 b && nat_le b 122))
    || (nat_le 48 b && nat_le b 57) || (b == 95) || (b == 45) || (b == 46)

-- whether these bytes are no more and no fewer than a name has
abbrev pub has_name_len : List ℕ → Bool
has_name_len bytes = nat_le 1 (length bytes) && nat_le (length bytes) 32

abbrev pub is_name : List ℕ → Bool
is_name bytes = has_name_len bytes && list_all is_name_byte bytes
