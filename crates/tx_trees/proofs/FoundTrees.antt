-- A search by name over transactions finds what the search over the transactions' names finds.
use Rattle.std.proofs.Common.{◌≡◌, ◌+◌, ℕ, Bool, true, false, List, length, refl, ap, ◌∙◌}
use Rattle.std.specs.Prelude.{cond, not, nat_lt, Some, None, position}
use Rattle.std.specs.List.{position_or_len}
use Rattle.std.specs.Str.{bytes_eq}
use Rattle.std.proofs.lemmas.List.{length-map}
use Rattle.std.proofs.lemmas.List.Recursion.{is_position_or_len}
use Rattle.std.proofs.lemmas.Cmp.{nat_list_eq_equiv}
use Rattle.script_parts.specs.Valid.{tree_names}
use Rattle.script_parts.specs.declared.parts.Tree.{Tree}
use Rattle.tx_trees.specs.Found.{tree_place}

-- a test turned round
other_way : (b : Bool) (n : ℕ) → cond (not b) (1 + n) 0 ≡ cond b 0 (1 + n)
other_way true n = refl
other_way false n = refl

-- the first tree of this name is where its name comes first
first_name : (name : List ℕ) (ts : List Tree) → position_or_len (bytes_eq name) (tree_names ts) ≡ position_or_len (λ (t : Tree). bytes_eq t.name name) ts
first_name name =
    is_position_or_len (λ (ts : List Tree). position_or_len (bytes_eq name) (tree_names ts)) (λ (t : Tree). bytes_eq t.name name) refl
    (λ t ts. other_way (bytes_eq name t.name) (position_or_len (bytes_eq name) (tree_names ts))
    ∙ ap (λ b. cond b 0 (1 + position_or_len (bytes_eq name) (tree_names ts))) (nat_list_eq_equiv.symm name t.name))

pub tree_place_is : (name : List ℕ) (ts : List Tree) → position (bytes_eq name) (tree_names ts) ≡ tree_place name ts
tree_place_is name ts =
    let p = bytes_eq name in
    let q : Tree → Bool = λ t. bytes_eq t.name name in
    ap (λ n. cond (nat_lt n (length (tree_names ts))) (Some n) None) (first_name name ts)
    ∙ ap (λ m. cond (nat_lt (position_or_len q ts) m) (Some (position_or_len q ts)) None) (length-map ts (λ (t : Tree). t.name))
