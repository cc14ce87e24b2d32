-- One turn of each loop over the subtransactions of a transaction that is compensated.
use Rattle.std.proofs.Common.{◌≡◌, ◌+◌, ◌<◌, ◌∙◌, ◌∷◌, ◌++◌, [], ℕ, suc, Bool, List, length, drop, get_or, sym, ap, arith, append_assoc, add-one, drop-cons, ◌≤◌}
use Rattle.tx_trees.specs.declared.parts.Sub.{Sub}
use Rattle.tx_trees.proofs.UndoneTrees.{marks_len}
use Rattle.tx_trees.specs.Undone.{each_from, goes_from, goes_next, stays, undoes}

-- the rest of a list, from one of its places on
rest_is : (xs : List Sub) (i : ℕ) (x : Sub) → i < length xs → x ≡ get_or xs i x → drop i xs ≡ x ∷ drop (i + 1) xs
rest_is xs i x lt here = rw add-one (drop-cons xs i x lt ∙ ap (λ (y : Sub). y ∷ drop (suc i) xs) (sym here))

-- one mark more
pub marked : (failed : ℕ) (goes more all : List Bool) (xs : List Sub) (i : ℕ) (x : Sub) → i < length xs → x ≡ get_or xs i x → more ≡ goes ++ goes_next failed goes x ∷ []
    → goes_from failed goes (drop i xs) ≡ all → goes_from failed more (drop (i + 1) xs) ≡ all
marked failed goes more all xs i x lt here is so_far =
    ap (λ (g : List Bool). goes_from failed g (drop (i + 1) xs)) is ∙ sym (ap (goes_from failed goes) (rest_is xs i x lt here)) ∙ so_far

-- one more that stays, or doesn't
pub stayed : (failed : ℕ) (goes : List Bool) (out new all xs : List Sub) (i : ℕ) (x : Sub) → i < length xs → x ≡ get_or xs i x → new ≡ out ++ stays failed goes i x
    → out ++ each_from (stays failed goes) i (drop i xs) ≡ all → new ++ each_from (stays failed goes) (i + 1) (drop (i + 1) xs) ≡ all
stayed failed goes out new all xs i x lt here is so_far =
    ap (λ (y : List Sub). y ++ each_from (stays failed goes) (i + 1) (drop (i + 1) xs)) is
    ∙ append_assoc out (stays failed goes i x) (each_from (stays failed goes) (i + 1) (drop (i + 1) xs))
    ∙ sym (ap (λ (y : List Sub). out ++ each_from (stays failed goes) i y) (rest_is xs i x lt here))
    ∙ so_far

-- one more that is undone, or isn't
pub undid : (failed : ℕ) (goes : List Bool) (out new all xs : List Sub) (i : ℕ) (x : Sub) → i < length xs → x ≡ get_or xs i x → new ≡ out ++ undoes failed goes i x
    → out ++ each_from (undoes failed goes) i (drop i xs) ≡ all → new ++ each_from (undoes failed goes) (i + 1) (drop (i + 1) xs) ≡ all
undid failed goes out new all xs i x lt here is so_far =
    ap (λ (y : List Sub). y ++ each_from (undoes failed goes) (i + 1) (drop (i + 1) xs)) is
    ∙ append_assoc out (undoes failed goes i x) (each_from (undoes failed goes) (i + 1) (drop (i + 1) xs))
    ∙ sym (ap (λ (y : List Sub). out ++ each_from (undoes failed goes) i y) (rest_is xs i x lt here))
    ∙ so_far

pub few_marks : (failed : ℕ) (goes marks : List Bool) (xs ss : List Sub) → goes ≡ marks → marks ≡ goes_from failed [] xs → xs ≡ ss → length ss ≤ 64 → length goes ≤ 64
few_marks failed goes marks xs ss is made same few = omega (arith, ap length is, ap length made, marks_len failed [] xs, ap length same)
