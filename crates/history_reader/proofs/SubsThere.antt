-- Subtransactions of a tree, by their numbers.
use Rattle.std.proofs.Common.{◌≡◌, ◌<◌, ◌^◌, ◌∙◌, ◌∷◌, [], List, Bool, true, false, ℕ, zero, suc, length, get_or, sym, ap, arith}
use Rattle.std.specs.Prelude.{decimal, nat_lt, is_some, IsTrue, Some, None, slice_get}
use Rattle.std.proofs.lemmas.Bool.{lt-ltb, ltb-true, le-ltb}
use Rattle.std.proofs.lemmas.Option.{slice_get-get_or}
use Rattle.tv_base.specs.declared.numbers.SubNo.{SubNo}
use Rattle.tv_base.specs.declared.numbers.TreeNo.{TreeNo}
use Rattle.tx_trees.specs.ScriptData.{ScriptData, sub_at, subs_at}
use Rattle.tx_trees.specs.Valid.{IsValid}
use Rattle.tx_trees.specs.declared.parts.Sub.{Sub}
use Rattle.tx_trees.specs.declared.parts.Tree.{Tree}
use Rattle.tx_trees.proofs.SubsOf.{few_subs, found_subs}
use Rattle.history_text.specs.Printable.{IsHalfWord, IsSubOf}
use Rattle.history_text.specs.Words.{HasTree, name_of_tree}
use Rattle.history_text.proofs.Digits.{decimal_one}
use Rattle.history_text.proofs.OneToOne.{tree_one}

-- what is at a place, by the length
is_there : {X : Type 0} (xs : List X) (k : ℕ) → nat_lt k (length xs) ≡ is_some (slice_get xs k)
is_there [] k = le-ltb k 0 (omega arith)
is_there (x ∷ xs) zero = lt-ltb 0 (length (x ∷ xs)) (omega arith)
is_there (x ∷ xs) (suc k) = grind (arith, is_there xs k)

there_by : {X : Type 0} (xs : List X) (k : ℕ) → IsTrue (is_some (slice_get xs k)) → k < length xs
there_by xs k h = ltb-true k (length xs) (is_there xs k ∙ h)

pub sub_there : (s : ScriptData) (t k : ℕ) (tree : Tree) (b : Bool) → t < length s.trees → tree ≡ get_or s.trees t tree → b ≡ nat_lt k (length tree.subs) → b ≡ is_some (sub_at s t k)
sub_there s t k tree b less at is =
    let here : slice_get s.trees t ≡ Some tree = slice_get-get_or s.trees t tree less ∙ ap (λ (r : Tree). Some r) (sym at) in
    is ∙ is_there tree.subs k ∙ ap (λ (subs : List Sub). is_some (slice_get subs k)) (sym (found_subs s t tree here))

-- a tree with a subtransaction is there
pub tree_of_sub : (s : ScriptData) (t k : ℕ) → IsSubOf s t k → t < length s.trees
tree_of_sub s t k h = by s.trees t h
  where
    by : (trees : List Tree) (t : ℕ) → IsTrue (is_some (slice_get (elim (slice_get trees t) [ Some tree ↦ tree.subs | None ↦ [] ]) k)) → t < length trees
    by [] t h = cc
    by (x ∷ xs) zero h = omega arith
    by (x ∷ xs) (suc t) h = omega (arith, by xs t h)

pub small_sub : (s : ScriptData) (t k : ℕ) → IsValid s → IsSubOf s t k → k < 2 ^ 32
small_sub s t k valid h = omega (arith, there_by (subs_at s t) k h, few_subs s t valid)

pub no_half : (s : ScriptData) (ws more : List (List ℕ)) (u : TreeNo) → IsValid s → ws ≡ name_of_tree s u ∷ more → ((n : ℕ) (rest : List (List ℕ)) → more ≡ decimal n ∷ rest → IsHalfWord n → ⊥)
    → (t : TreeNo) (k : SubNo) (rest : List (List ℕ)) → ws ≡ name_of_tree s t ∷ decimal k.0 ∷ rest → IsSubOf s t.0 k.0 → ⊥
no_half s ws more u valid is only t k rest same may =
    let tails : more ≡ decimal k.0 ∷ rest = cc in
    only k.0 rest tails (small_sub s t.0 k.0 valid may)

pub not_there : (s : ScriptData) (ws more : List (List ℕ)) (u : TreeNo) (n : ℕ) → IsValid s → HasTree s u → ws ≡ name_of_tree s u ∷ decimal n ∷ more → IsHalfWord n → is_some (sub_at s u.0 n) ≡ false
    → (t : TreeNo) (k : SubNo) (rest : List (List ℕ)) → ws ≡ name_of_tree s t ∷ decimal k.0 ∷ rest → IsSubOf s t.0 k.0 → ⊥
not_there s ws more u n valid there is half none t k rest same may =
    let names : name_of_tree s t ≡ name_of_tree s u = cc in
    let numbers : decimal k.0 ≡ decimal n = cc in
    let trees : t.0 ≡ u.0 = tree_one s t.0 u.0 valid (tree_of_sub s t.0 k.0 may) there names in
    let subs : k.0 ≡ n = decimal_one k.0 n (omega (arith, small_sub s t.0 k.0 valid may)) (omega arith) numbers in
    let some : is_some (sub_at s u.0 n) ≡ true = ap (λ (x : ℕ). is_some (sub_at s x n)) (sym trees) ∙ ap (λ (y : ℕ). is_some (sub_at s t.0 y)) (sym subs) ∙ may in
    cc
