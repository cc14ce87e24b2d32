-- What is written in decimal after a letter is a name, and other numbers have other names.
use Rattle.std.proofs.Common.{◌≡◌, ◌<◌, ◌≤◌, ◌∙◌, ◌∷◌, [], List, true, ℕ, length, refl, sym, ap, arith}
use Rattle.std.specs.Prelude.{decimal, nat_le}
use Rattle.std.specs.List.{list_all}
use Rattle.std.specs.Str.{bytes_eq}
use Rattle.std.proofs.lemmas.Bool.{and_from, le-leb}
use Rattle.std.proofs.lemmas.Bool.Decides.{nat_tests}
use Rattle.std.proofs.lemmas.Fmt.{length-decimal-le_wide}
use Rattle.std.proofs.lemmas.Slice.Eq.{bytes_eq-Decides}
use Rattle.std.specs.Char.{is_ascii_digit}
use Rattle.tv_base.proofs.Truths.{left_true, right_true}
use Rattle.tv_base.specs.Digits.{decimal_value}
use Rattle.tv_base.proofs.Decimals.{spells}
use Rattle.tx_trees.specs.Names.{is_name, is_name_byte}

-- digits are bytes of a name
plain_digits : (ds : List ℕ) → list_all is_ascii_digit ds ≡ true → list_all is_name_byte ds ≡ true
plain_digits [] all = refl
plain_digits (b ∷ bs) all =
    and_from (is_name_byte b) (list_all is_name_byte bs) (plain b (left_true (is_ascii_digit b) (list_all is_ascii_digit bs) all))
    (plain_digits bs (right_true (is_ascii_digit b) (list_all is_ascii_digit bs) all)) where
      plain : (b : ℕ) → is_ascii_digit b ≡ true → is_name_byte b ≡ true
      plain b is = grind (arith, nat_tests)

-- a number of up to five digits
pub short_number : (n : ℕ) → n < 100000 → length (decimal n) ≤ 5
short_number n h = length-decimal-le_wide 5 n (omega arith) h (omega arith)

pub ruleset naming = (short_number)

-- a letter and a number are a name
pub name_plain : (b n : ℕ) → is_name_byte b ≡ true → n < 100000 → is_name (b ∷ decimal n) ≡ true
name_plain b n letter h =
    let short : length (b ∷ decimal n) ≤ 32 = omega (arith, short_number n h) in
    let low : nat_le 1 (length (b ∷ decimal n)) ≡ true = le-leb 1 (length (b ∷ decimal n)) (omega arith) in
    let high : nat_le (length (b ∷ decimal n)) 32 ≡ true = le-leb (length (b ∷ decimal n)) 32 short in
    rw (low, high, letter, plain_digits (decimal n) (spells n (omega arith)).digits) refl

same_rest : (b : ℕ) (xs ys : List ℕ) → b ∷ xs ≡ b ∷ ys → xs ≡ ys
same_rest b xs ys e = cc e

-- other numbers have other names
pub names_apart : (b m n : ℕ) → m < 100000 → n < 100000 → bytes_eq (b ∷ decimal m) (b ∷ decimal n) ≡ true → m ≡ n
names_apart b m n small less e =
    let same : decimal m ≡ decimal n = same_rest b (decimal m) (decimal n) ((bytes_eq-Decides (b ∷ decimal m) (b ∷ decimal n)).0 e) in
    sym (spells m (omega arith)).value ∙ ap decimal_value same ∙ (spells n (omega arith)).value
