-- Texts in which a byte doesn't stand.
use Rattle.std.proofs.Common.{◌≡◌, ◌<◌, ◌^◌, ◌∙◌, ◌∷◌, [], List, Bool, true, false, ℕ, suc, refl, sym, ap, arith}
use Rattle.std.specs.Prelude.{◌==◌, not, decimal, ℤ, pos, negsuc, IsTrue}
use Rattle.std.specs.Fmt.{signed_decimal}
use Rattle.std.specs.Char.{is_ascii_digit}
use Rattle.std.specs.List.{list_all}
use Rattle.std.proofs.lemmas.Bool.{eqb-true}
use Rattle.tv_base.proofs.Decimals.{spells}
use Rattle.tv_base.proofs.Truths.{left_true, right_true}
use Rattle.tx_trees.specs.Names.{has_name_len, is_name, is_name_byte}
use Rattle.history_text.specs.Printable.{IsAmount}
use Rattle.history_text.specs.Parts.{lacks}

-- where a test fails for a byte, and holds for another one, that is another one
unlike : (p : ℕ → Bool) (b x : ℕ) → p b ≡ false → p x ≡ true → not (x == b) ≡ true
unlike p b x out here = by (x == b) refl
  where
    by : (t : Bool) → (x == b) ≡ t → not t ≡ true
    by false is = refl
    by true is =
        let same : x ≡ b = eqb-true x b is in
        let both : p b ≡ true = ap p (sym same) ∙ here in
        cc

-- bytes that all pass a test that a byte fails
pub all_lack : (p : ℕ → Bool) (b : ℕ) (xs : List ℕ) → p b ≡ false → list_all p xs ≡ true → lacks b xs ≡ true
all_lack p b [] out h = refl
all_lack p b (x ∷ xs) out h =
    rw (unlike p b x out (left_true (p x) (list_all p xs) h)) (all_lack p b xs out (right_true (p x) (list_all p xs) h))

-- a name without the byte =
pub name_lacks : (b : ℕ) (name : List ℕ) → is_name_byte b ≡ false → IsTrue (is_name name) → lacks b name ≡ true
name_lacks b name out h = all_lack is_name_byte b name out (right_true (has_name_len name) (list_all is_name_byte name) h)

pub decimal_lacks : (b n : ℕ) → is_ascii_digit b ≡ false → n < 10 ^ 64 → lacks b (decimal n) ≡ true
decimal_lacks b n out h = all_lack is_ascii_digit b (decimal n) out (spells n h).digits

-- an amount without a byte that is no digit and no minus
pub amount_lacks : (b : ℕ) (n : ℤ) → is_ascii_digit b ≡ false → (45 == b) ≡ false → IsAmount n → lacks b (signed_decimal n) ≡ true
amount_lacks b (pos n) out minus may = decimal_lacks b n out (omega arith)
amount_lacks b (negsuc n) out minus may = rw minus (decimal_lacks b (suc n) out (omega arith))
