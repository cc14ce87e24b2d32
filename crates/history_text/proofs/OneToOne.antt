-- Prints of different values differ.
use Rattle.std.proofs.Common.{◌≡◌, ◌<◌, ◌∙◌, ◌∷◌, [], List, ℕ, zero, suc, length, get_or, map, sym, ap, arith}
use Rattle.std.specs.Prelude.{decimal, ℤ, pos, negsuc, slice_get, Some}
use Rattle.std.specs.Fmt.{signed_decimal}
use Rattle.std.specs.List.{AllPairs, IsDistinct}
use Rattle.std.specs.Str.{bytes_eq}
use Rattle.std.proofs.lemmas.List.{length-map}
use Rattle.std.proofs.lemmas.Map.Made.{AllPairs-from_IsDistinct}
use Rattle.std.proofs.lemmas.Slice.Eq.{bytes_eq-Decides}
use Rattle.tx_trees.specs.ScriptData.{ScriptData}
use Rattle.tx_trees.specs.Valid.{IsValid}
use Rattle.tx_trees.specs.declared.parts.ItemRow.{ItemRow}
use Rattle.tx_trees.specs.declared.parts.Tree.{Tree}
use Rattle.history_text.specs.TreeNames.{item_text, tree_text}
use Rattle.history_text.specs.Printable.{IsAmount}
use Rattle.history_text.proofs.Digits.{decimal_one}
use Rattle.history_text.proofs.Named.{item_there, tree_there}
use Rattle.history_text.proofs.Readings.{no_minus}

pub signed_one : (m n : ℤ) → signed_decimal m ≡ signed_decimal n → IsAmount m → IsAmount n → m ≡ n
signed_one (pos m) (pos n) is hm hn = ap (λ (k : ℕ). pos k) (decimal_one m n (omega arith) (omega arith) is)
signed_one (pos m) (negsuc n) is hm hn = absurd (no_minus m (decimal (suc n)) (omega arith) (sym is))
signed_one (negsuc m) (pos n) is hm hn = absurd (no_minus n (decimal (suc m)) (omega arith) is)
signed_one (negsuc m) (negsuc n) is hm hn =
    let tails : decimal (suc m) ≡ decimal (suc n) = cc in
    let same : suc m ≡ suc n = decimal_one (suc m) (suc n) (omega arith) (omega arith) tails in
    let less : m ≡ n = omega (arith, same) in
    ap (λ (k : ℕ). negsuc k) less

-- what is at a place of the names
named_at : {X : Type 0} (f : X → List ℕ) (xs : List X) (k : ℕ) (x : X) → slice_get xs k ≡ Some x → (get_or (map f xs) k [] ≡ f x) × (k < length xs)
named_at f [] k x is = cc
named_at f (y ∷ xs) zero x is =
    let same : y ≡ x = cc in
    (ap f same, omega arith)
named_at f (y ∷ xs) (suc k) x is =
    let more = named_at f xs k x is in
    (more.0, omega (arith, more.1))

-- names that are equal stand at one place
one_place : {X : Type 0} (f : X → List ℕ) (xs : List X) (j k : ℕ) (x y : X) → IsDistinct bytes_eq (map f xs) → slice_get xs j ≡ Some x → slice_get xs k ≡ Some y → f x ≡ f y → j ≡ k
one_place f xs j k x y apart jx ky same =
    let at_j = named_at f xs j x jx in
    let at_k = named_at f xs k y ky in
    let len : length (map f xs) ≡ length xs = length-map xs f in
    let pairs : AllPairs (λ a b. a ≡ b → ⊥) (map f xs) = AllPairs-from_IsDistinct bytes_eq-Decides (map f xs) apart in
    let left : (j < k) → ⊥ = λ h. pairs j k [] h (omega (arith, len, at_k.1)) (at_j.0 ∙ same ∙ sym at_k.0) in
    let right : (k < j) → ⊥ = λ h. pairs k j [] h (omega (arith, len, at_j.1)) (at_k.0 ∙ sym same ∙ sym at_j.0) in
    omega (arith, left, right)

pub tree_one : (s : ScriptData) (t u : ℕ) → IsValid s → t < length s.trees → u < length s.trees → tree_text s t ≡ tree_text s u → t ≡ u
tree_one s t u valid ht hu same =
    let (x, atx, textx, namex) = tree_there s t valid ht in
    let (y, aty, texty, namey) = tree_there s u valid hu in
    one_place (λ (r : Tree). r.name) s.trees t u x y valid.distinct_trees atx aty (sym textx ∙ same ∙ texty)

pub item_one : (s : ScriptData) (t u : ℕ) → IsValid s → t < length s.items → u < length s.items → item_text s t ≡ item_text s u → t ≡ u
item_one s t u valid ht hu same =
    let (x, atx, textx, namex) = item_there s t valid ht in
    let (y, aty, texty, namey) = item_there s u valid hu in
    one_place (λ (r : ItemRow). r.name) s.items t u x y valid.distinct_items atx aty (sym textx ∙ same ∙ texty)
