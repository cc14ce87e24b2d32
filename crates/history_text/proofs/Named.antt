-- A search by name finds what has this name.
use Rattle.std.proofs.Common.{◌≡◌, ◌+◌, ◌<◌, ◌≤◌, ◌∙◌, ◌∷◌, [], List, Bool, true, false, ℕ, zero, suc, length, get_or, refl, sym, ap, subst, arith, rules}
use Rattle.std.specs.Prelude.{◌⊎◌, not, cond, nat_lt, Option, Some, None, slice_get, position, IfSome, IsNone, IsTrue}
use Rattle.std.specs.List.{position_or_len}
use Rattle.std.specs.Str.{bytes_eq}
use Rattle.std.proofs.lemmas.Bool.{leb-true, lt-ltb}
use Rattle.std.proofs.lemmas.List.Quantifiers.{position-Some}
use Rattle.std.proofs.lemmas.Option.{slice_get-get_or}
use Rattle.std.proofs.lemmas.Slice.Eq.{bytes_eq-Decides}
use Rattle.tv_base.specs.declared.numbers.ItemNo.{ItemNo}
use Rattle.tv_base.specs.declared.numbers.TreeNo.{TreeNo}
use Rattle.tv_base.proofs.Truths.{left_true, right_true}
use Rattle.tv_base.proofs.ByPlace.{get_some}
use Rattle.tx_trees.specs.Adding.{place_of}
use Rattle.tx_trees.specs.Names.{has_name_len, is_name}
use Rattle.tx_trees.specs.ScriptData.{ScriptData}
use Rattle.tx_trees.specs.Valid.{IsItem, IsTree, IsValid}
use Rattle.tx_trees.specs.declared.parts.ItemRow.{ItemRow}
use Rattle.tx_trees.specs.declared.parts.Tree.{Tree}
use Rattle.tx_trees.proofs.SubsOf.{all_at}
use Rattle.tx_trees.specs.Found.{tree_place}
use Rattle.history_text.specs.TreeNames.{item_text, tree_text}
use Rattle.history_text.specs.Exact.{IsReadBack}
use Rattle.history_text.specs.Printable.{HasStrictness}
use Rattle.history_text.specs.Words.{HasItem, HasTree, name_of_item, name_of_tree}

-- what passes a test is behind the first that does, or is it
comes_by : {X : Type 0} (p : X → Bool) (xs : List X) (k : ℕ) (x : X) → slice_get xs k ≡ Some x → p x ≡ true → position_or_len p xs < length xs
comes_by p [] k x is passes = cc
comes_by p (y ∷ xs) zero x is passes =
    let same : y ≡ x = cc in
    let first : p y ≡ true = ap p same ∙ passes in
    subst (λ (b : Bool). cond (not b) (1 + position_or_len p xs) 0 < length (y ∷ xs)) (sym first) (omega arith)
comes_by p (y ∷ xs) (suc k) x is passes = by (p y) (comes_by p xs k x is passes)
  where
    by : (b : Bool) → position_or_len p xs < length xs → cond (not b) (1 + position_or_len p xs) 0 < length (y ∷ xs)
    by true h = omega arith
    by false h = omega arith

-- so a search for it doesn't fail
not_none : {X : Type 0} (p : X → Bool) (xs : List X) (k : ℕ) (x : X) → slice_get xs k ≡ Some x → p x ≡ true → position p xs ≡ None → ⊥
not_none p xs k x is passes none =
    let less : nat_lt (position_or_len p xs) (length xs) ≡ true = lt-ltb (position_or_len p xs) (length xs) (comes_by p xs k x is passes) in
    let some : position p xs ≡ Some (position_or_len p xs) = ap (λ (b : Bool). let o : Option ℕ = cond b (Some (position_or_len p xs)) None in o) less in
    cc

-- a search that doesn't fail
some_there : {X : Type 0} (p : X → Bool) (xs : List X) (k : ℕ) → position p xs ≡ Some k → (k < length xs) × ((x : X) × (slice_get xs k ≡ Some x) × (p x ≡ true))
some_there p [] k is = cc
some_there p (d ∷ xs) k is =
    let (less, passes, first) = position-Some p (d ∷ xs) k d is in
    (less, (get_or (d ∷ xs) k d, slice_get-get_or (d ∷ xs) k d less, passes))

-- the length of a name
pub name_len : (name : List ℕ) → IsTrue (is_name name) → (1 ≤ length name) × (length name ≤ 32)
name_len name h =
    let both = left_true (has_name_len name) _ h in
    (leb-true 1 (length name) (left_true _ _ both), leb-true (length name) 32 (right_true _ _ both))

-- a tree that is strict or isn't is there
pub strictness_there : (trees : List Tree) (t : ℕ) (b : Bool) → HasStrictness b (slice_get trees t) → t < length trees
strictness_there [] t b is = absurd is
strictness_there (x ∷ trees) zero b is = omega arith
strictness_there (x ∷ trees) (suc t) b is = omega (arith, strictness_there trees t b is)

-- the tree at a place that is there
pub tree_there : (s : ScriptData) (t : ℕ) → IsValid s → t < length s.trees → (tree : Tree) × (slice_get s.trees t ≡ Some tree) × (tree_text s t ≡ tree.name) × IsTrue (is_name tree.name)
tree_there s t valid h =
    let (tree, is) = get_some s.trees t h in
    (tree, is, rw (is, tree_text) refl, (all_at (IsTree s.nodes s.items) s.trees t tree valid.trees is).name)

pub item_there : (s : ScriptData) (x : ℕ) → IsValid s → x < length s.items → (row : ItemRow) × (slice_get s.items x ≡ Some row) × (item_text s x ≡ row.name) × IsTrue (is_name row.name)
item_there s x valid h =
    let (row, is) = get_some s.items x h in
    (row, is, rw (is, item_text) refl, (all_at (IsItem s.nodes) s.items x row valid.items is).name)

same_bytes : (xs ys : List ℕ) → xs ≡ ys → bytes_eq xs ys ≡ true
same_bytes xs ys is = (bytes_eq-Decides xs ys).1 is

-- what is too short or too long for a name names no tree
pub no_tree_name : (s : ScriptData) (field : List ℕ) (r : Option TreeNo) → r ≡ None → IsValid s → (length field ≡ 0) ⊎ (32 < length field) → IsReadBack (name_of_tree s) (HasTree s) field r
no_tree_name s field r none valid long = rw none (λ t is may. by t is may)
  where
    by : (t : TreeNo) → field ≡ name_of_tree s t → HasTree s t → ⊥
    by t is may =
        let (tree, at, text, name) = tree_there s t.0 valid may in
        let size = name_len tree.name name in
        let len : length field ≡ length tree.name = ap length (is ∙ text) in
        omega arith

pub no_item_name : (s : ScriptData) (field : List ℕ) (r : Option ItemNo) → r ≡ None → IsValid s → (length field ≡ 0) ⊎ (32 < length field) → IsReadBack (name_of_item s) (HasItem s) field r
no_item_name s field r none valid long = rw none (λ x is may. by x is may)
  where
    by : (x : ItemNo) → field ≡ name_of_item s x → HasItem s x → ⊥
    by x is may =
        let (row, at, text, name) = item_there s x.0 valid may in
        let size = name_len row.name name in
        let len : length field ≡ length row.name = ap length (is ∙ text) in
        omega arith

-- a search by the name of a tree that is there finds a tree
misses_tree : (s : ScriptData) (field : List ℕ) (t : TreeNo) → IsValid s → tree_place field s.trees ≡ None → field ≡ name_of_tree s t → HasTree s t → ⊥
misses_tree s field t valid none is may =
    let (tree, at, text, name) = tree_there s t.0 valid may in
    not_none (λ (x : Tree). bytes_eq x.name field) s.trees t.0 tree at (same_bytes tree.name field (sym (is ∙ text))) none

misses_item : (s : ScriptData) (field : List ℕ) (x : ItemNo) → IsValid s → place_of field s.items ≡ None → field ≡ name_of_item s x → HasItem s x → ⊥
misses_item s field x valid none is may =
    let (row, at, text, name) = item_there s x.0 valid may in
    not_none (λ (r : ItemRow). bytes_eq r.name field) s.items x.0 row at (same_bytes row.name field (sym (is ∙ text))) none

-- a tree that is found has the name
finds_tree : (s : ScriptData) (field : List ℕ) (t : TreeNo) → tree_place field s.trees ≡ Some t.0 → (field ≡ name_of_tree s t) × HasTree s t
finds_tree s field t found =
    let (less, (tree, at, passes)) = some_there (λ (x : Tree). bytes_eq x.name field) s.trees t.0 found in
    let text : tree_text s t.0 ≡ tree.name = rw (at, tree_text) refl in
    (sym (text ∙ (bytes_eq-Decides tree.name field).0 passes), less)

finds_item : (s : ScriptData) (field : List ℕ) (x : ItemNo) → place_of field s.items ≡ Some x.0 → (field ≡ name_of_item s x) × HasItem s x
finds_item s field x found =
    let (less, (row, at, passes)) = some_there (λ (r : ItemRow). bytes_eq r.name field) s.items x.0 found in
    let text : item_text s x.0 ≡ row.name = rw (at, item_text) refl in
    (sym (text ∙ (bytes_eq-Decides row.name field).0 passes), less)

-- so the search is exact
pub tree_found : (s : ScriptData) (name field : List ℕ) (r : Option TreeNo) → IsValid s → name ≡ field → IfSome r (λ t. tree_place name s.trees ≡ Some t.0) → (IsNone r → tree_place name s.trees ≡ None) → IsReadBack (name_of_tree s) (HasTree s) field r
tree_found s name field (Some t) valid same some none = finds_tree s field t (ap (λ (n : List ℕ). tree_place n s.trees) (sym same) ∙ some)
tree_found s name field None valid same some none = λ t is may. misses_tree s field t valid (ap (λ (n : List ℕ). tree_place n s.trees) (sym same) ∙ none (search rules)) is may

pub item_found : (s : ScriptData) (name field : List ℕ) (r : Option ItemNo) → IsValid s → name ≡ field → IfSome r (λ x. place_of name s.items ≡ Some x.0) → (IsNone r → place_of name s.items ≡ None) → IsReadBack (name_of_item s) (HasItem s) field r
item_found s name field (Some x) valid same some none = finds_item s field x (ap (λ (n : List ℕ). place_of n s.items) (sym same) ∙ some)
item_found s name field None valid same some none = λ x is may. misses_item s field x valid (ap (λ (n : List ℕ). place_of n s.items) (sym same) ∙ none (search rules)) is may
