-- A search by name over parts finds what the search over the parts' names finds.
use Rattle.std.proofs.Common.{◌≡◌, ◌+◌, ℕ, Bool, true, false, List, [], ◌∷◌, length, suc, arith, refl, sym, ap, ◌∙◌, map}
use Rattle.std.specs.Prelude.{cond, not, nat_lt, ◌||◌, Option, Some, None, is_some, position}
use Rattle.std.specs.List.{list_any, position_or_len}
use Rattle.std.specs.Str.{bytes_eq}
use Rattle.std.proofs.lemmas.List.{length-map}
use Rattle.std.proofs.lemmas.Grind.{common_steps}
use Rattle.std.proofs.lemmas.Bool.{lt-ltb}
use Rattle.std.proofs.lemmas.Cmp.{nat_list_eq_equiv}
use Rattle.script_parts.specs.declared.parts.ItemRow.{ItemRow}
use Rattle.script_parts.specs.declared.parts.Tree.{Tree}
use Rattle.script_parts.specs.Adding.{names_tree, place_of}
use Rattle.script_parts.specs.Valid.{item_names, tree_names}

module _ {X Y : Type 0} (p : Y → Bool) (f : X → Y) (q : X → Bool) (same : (x : X) → p (f x) ≡ q x) where
  len-map : (xs : List X) → position_or_len p (map f xs) ≡ position_or_len q xs
  len-map [] = refl
  len-map (x ∷ xs) = ap (λ b. cond (not b) (1 + position_or_len p (map f xs)) 0) (same x) ∙ ap (λ n. cond (not (q x)) (1 + n) 0) (len-map xs)

  position-map : (xs : List X) → position p (map f xs) ≡ position q xs
  position-map xs =
      ap (λ n. cond (nat_lt n (length (map f xs))) (Some n) None) (len-map xs) ∙ ap (λ m. cond (nat_lt (position_or_len q xs) m) (Some (position_or_len q xs)) None) (length-map xs f)

  pub any-map : (xs : List X) → list_any p (map f xs) ≡ list_any q xs
  any-map [] = refl
  any-map (x ∷ xs) = ap (λ b. b || list_any p (map f xs)) (same x) ∙ ap (λ b. q x || b) (any-map xs)

suc_lt : (a b : ℕ) → nat_lt (suc a) (suc b) ≡ nat_lt a b
suc_lt a b = grind (arith, common_steps)

found_within : {X : Type 0} (q : X → Bool) (xs : List X) → nat_lt (position_or_len q xs) (length xs) ≡ list_any q xs
found_within q [] = refl
found_within q (x ∷ xs) = by (q x) (found_within q xs)
  where
    by : (b : Bool) → nat_lt (position_or_len q xs) (length xs) ≡ list_any q xs → nat_lt (cond (not b) (1 + position_or_len q xs) 0) (length (x ∷ xs)) ≡ (b || list_any q xs)
    by true h = lt-ltb 0 (length (x ∷ xs)) (omega arith)
    by false h =
        let more : 1 + position_or_len q xs ≡ suc (position_or_len q xs) = omega arith in
        ap (λ n. nat_lt n (length (x ∷ xs))) more ∙ suc_lt (position_or_len q xs) (length xs) ∙ h

is_some_cond : (b : Bool) (k : ℕ) → is_some (let o : Option ℕ = cond b (Some k) None in o) ≡ b
is_some_cond true k = refl
is_some_cond false k = refl

pub place_is : (name : List ℕ) (items : List ItemRow) → position (bytes_eq name) (item_names items) ≡ place_of name items
place_is name items = position-map (bytes_eq name) (λ (r : ItemRow). r.name) (λ r. bytes_eq r.name name) (λ r. nat_list_eq_equiv.symm name r.name) items

pub has_item : (name : List ℕ) (items : List ItemRow) → list_any (bytes_eq name) (item_names items) ≡ is_some (place_of name items)
has_item name items =
    any-map (bytes_eq name) (λ (r : ItemRow). r.name) (λ r. bytes_eq r.name name) (λ r. nat_list_eq_equiv.symm name r.name) items
    ∙ sym (found_within (λ (r : ItemRow). bytes_eq r.name name) items)
    ∙ sym (is_some_cond (nat_lt (position_or_len (λ (r : ItemRow). bytes_eq r.name name) items) (length items)) (position_or_len (λ (r : ItemRow). bytes_eq r.name name) items))

pub has_tree : (name : List ℕ) (ts : List Tree) → list_any (bytes_eq name) (tree_names ts) ≡ names_tree name ts
has_tree name ts = any-map (bytes_eq name) (λ (t : Tree). t.name) (λ t. bytes_eq t.name name) (λ t. nat_list_eq_equiv.symm name t.name) ts
