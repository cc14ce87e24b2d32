-- All items are taken, and each is found by its name. There are 32, so it is computed for each of them.
use Rattle.std.proofs.Common.{◌≡◌, ◌<◌, ◌%◌, Bool, true, false, ℕ, length, refl, ap, arith}
use Rattle.std.specs.Prelude.{◌&&◌, ◌==◌, not, nat_le, Option, Some, None, is_some}
use Rattle.std.specs.Fmt.{digits}
use Rattle.std.proofs.lemmas.Bool.Decides.{nat_tests}
use Rattle.std.proofs.lemmas.Bool.{agree_below, agree_below_at, not-true}
use Rattle.tv_base.proofs.Truths.{left_true, right_true}
use Rattle.tx_trees.specs.Adding.{place_of}
use Rattle.tx_trees.specs.Names.{is_name}
use Rattle.tx_trees.specs.Passing.{MayAddItem}
use Rattle.tx_trees.specs.Ranges.{may_start}
use Rattle.tx_trees.specs.declared.parts.Form.TheVariants as forms
use Rattle.script_gen.specs.Generated.{generated_item_name, generated_item_row, items_up_to}
use Rattle.script_gen.specs.inside.Within.{with_items}

-- what is opposed to nothing
abbrev passes : ℕ → Bool
passes k =
    not (nat_le 4 (k % 4)) && (may_start forms.One (generated_item_row k).kind (generated_item_row k).initial && (is_name (generated_item_name k)
    && (not (is_some (place_of (generated_item_name k) (items_up_to k))) && not (nat_le 10000 (length (items_up_to k))))))

abbrev is_at : Option ℕ → ℕ → Bool
is_at None k = false
is_at (Some x) k = x == k

at_is : (o : Option ℕ) (k : ℕ) → is_at o k ≡ true → o ≡ Some k
at_is None k e = absurd (cc e)
at_is (Some x) k e = let same : x ≡ k = grind (arith, nat_tests) in ap Some same

-- where its name, its node, its kind and its first value are
abbrev stands : ℕ → Bool
stands k = is_at (place_of (generated_item_name k) (items_up_to 32)) k

all_pass : agree_below passes (λ k. true) 32 ≡ true
unfolding digits
all_pass = refl

all_stand : agree_below stands (λ k. true) 32 ≡ true
unfolding digits
all_stand = refl

-- item k is taken after those before it
pub item_may : (k : ℕ) → k < 32 → MayAddItem (with_items k) (generated_item_row k)
item_may k lt =
    let all = agree_below_at passes (λ k. true) 32 k all_pass lt in
    let a : Bool = not (nat_le 4 (k % 4)) in
    let b : Bool = may_start forms.One (generated_item_row k).kind (generated_item_row k).initial in
    let c : Bool = is_name (generated_item_name k) in
    let d : Bool = not (is_some (place_of (generated_item_name k) (items_up_to k))) in
    let e : Bool = not (nat_le 10000 (length (items_up_to k))) in
    let after_a = right_true a (b && (c && (d && e))) all in
    let after_b = right_true b (c && (d && e)) after_a in
    let after_c = right_true c (d && e) after_b in
    record {
      place = not-true (nat_le 4 (k % 4)) (left_true a (b && (c && (d && e))) all);
      start = left_true b (c && (d && e)) after_a;
      plain = left_true c (d && e) after_b;
      free = not-true (is_some (place_of (generated_item_name k) (items_up_to k))) (left_true d e after_c);
      room = not-true (nat_le 10000 (length (items_up_to k))) (right_true d e after_c);
    }

-- item k is found by its name
pub item_found : (k : ℕ) → k < 32 → place_of (generated_item_name k) (items_up_to 32) ≡ Some k
item_found k lt = at_is (place_of (generated_item_name k) (items_up_to 32)) k (agree_below_at stands (λ k. true) 32 k all_stand lt)
