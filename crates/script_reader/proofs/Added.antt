-- What a call on a script made, if it took the record.
use Rattle.std.proofs.Common.{◌≡◌, ◌∷◌, [], ℕ, Bool, true, false, List, Option, Some, None, Result, Ok, Err, refl, arith}
use Rattle.std.specs.Prelude.{if◌then◌else◌, nat_le, not}
use Rattle.tv_base.specs.declared.numbers.NodeNo.{NodeNo}
use Rattle.tx_trees.specs.Adding.{adds_advance, adds_fail, are_crowded, is_heavy, taken_unless, last_may_fail, last_subs, with_failed, adds_item, adds_lose, adds_op, adds_op_at, adds_settle, adds_sub, adds_tree, place_of, with_item, with_op, with_row, with_sub, with_tree}
use Rattle.tx_trees.specs.Ranges.{is_in_range}
use Rattle.tx_trees.specs.ScriptData.{ScriptData}
use Rattle.tx_trees.specs.declared.parts.Deed.{Deed}
use Rattle.tx_trees.specs.declared.parts.ItemRow.{ItemRow}
use Rattle.tx_trees.specs.declared.parts.ScriptRow.TheVariants as rows
use Rattle.tx_trees.specs.declared.parts.TreeKind.{TreeKind}
use Rattle.tx_trees.specs.declared.why.Why.{Why}
use Rattle.tx_trees.specs.declared.why.Why.TheVariants as why

-- an item that was taken is last
pub item_is : (s t : ScriptData) (r : ItemRow) → adds_item s r ≡ Ok t → with_item s r ≡ t
item_is s t r is = grind arith

-- a tree that was taken is last
pub tree_is : (s t : ScriptData) (name : List ℕ) (kind : TreeKind) (node : NodeNo) → adds_tree s name kind node ≡ Ok t → with_tree s name kind node ≡ t
tree_is s t name kind node is = grind arith

-- a subtransaction that was taken is last in the last tree
pub sub_is : (s t : ScriptData) (parent : ℕ) (node : NodeNo) → adds_sub s parent node ≡ Ok t → with_sub s parent node ≡ t
sub_is s t parent node is = grind arith

-- an operation that was taken is last in the last subtransaction
pub op_at_is : (s t : ScriptData) (k : ℕ) (deed : Deed) → adds_op_at s (Some k) deed ≡ Ok t → with_op s k deed ≡ t
op_at_is s t k deed is = grind arith

-- what met no condition
first_passes : {A : Type 0} (b : Bool) (w : Why) (cs : List (Bool × Why)) (new t : A) → taken_unless ((b, w) ∷ cs) new ≡ Ok t → taken_unless cs new ≡ Ok t
first_passes true w cs new t is = absurd (cc is)
first_passes false w cs new t is = is

ok_same : (a b : ScriptData) → (let r : Result ScriptData Why = Ok a in r ≡ Ok b) → a ≡ b
ok_same a b e = cc e

-- a tree that was taken as failing is undone
pub fail_is : (s t : ScriptData) (k : ℕ) → adds_fail s k ≡ Ok t → with_failed s k ≡ t
fail_is s t k is =
    let last : List (Bool × Why) = (is_heavy (with_failed s k), why.TooMuch) ∷ [] in
    let fourth : List (Bool × Why) = (are_crowded (with_failed s k).trees, why.TooMany) ∷ last in
    let third : List (Bool × Why) = (not (last_may_fail s.trees), why.WrongKind) ∷ fourth in
    let second : List (Bool × Why) = (nat_le (last_subs s.trees) k, why.BadParent) ∷ third in
    let a = first_passes (not s.begun) why.NoTree second (with_failed s k) t is in
    let b = first_passes (nat_le (last_subs s.trees) k) why.BadParent third (with_failed s k) t a in
    let c = first_passes (not (last_may_fail s.trees)) why.WrongKind fourth (with_failed s k) t b in
    let d = first_passes (are_crowded (with_failed s k).trees) why.TooMany last (with_failed s k) t c in
    let e = first_passes (is_heavy (with_failed s k)) why.TooMuch [] (with_failed s k) t d in
    ok_same (with_failed s k) t e

-- a row that waits is last
pub advance_is : (s t : ScriptData) → adds_advance s ≡ Ok t → with_row s rows.Advance ≡ t
advance_is s t is = grind arith

pub lose_is : (s t : ScriptData) → adds_lose s ≡ Ok t → with_row s rows.Lose ≡ t
lose_is s t is = grind arith

pub settle_is : (s t : ScriptData) → adds_settle s ≡ Ok t → with_row s rows.Settle ≡ t
settle_is s t is = cc is

-- an operation that was taken is on an item
pub record TakesOp (s t : ScriptData) (deed : Deed) : Type 0 where
  pub item : ℕ
  pub is : with_op s item deed ≡ t

-- only an operation on an item is taken
op_at_taken : (s t : ScriptData) (place : Option ℕ) (deed : Deed) → adds_op_at s place deed ≡ Ok t → TakesOp s t deed
op_at_taken s t None deed is = absurd (cc is)
op_at_taken s t (Some k) deed is = record { item = k; is = op_at_is s t k deed is }

-- what was taken met the condition
if_taken : {A : Type 0} (b : Bool) (r : Result A Why) (w : Why) (t : A) → (if b then r else Err w) ≡ Ok t → r ≡ Ok t
if_taken true r w t is = is
if_taken false r w t is = absurd (cc is)

-- what was taken met the test
test_met : {A : Type 0} (b : Bool) (r : Result A Why) (w : Why) (t : A) → (if b then r else Err w) ≡ Ok t → b ≡ true
test_met true r w t is = refl
test_met false r w t is = absurd (cc is)

-- an operation that was taken has an amount in the form's range
pub op_in_range : (s t : ScriptData) (name : List ℕ) (deed : Deed) → adds_op s name deed ≡ Ok t → is_in_range s.form deed ≡ true
op_in_range s t name deed is = test_met (is_in_range s.form deed) _ _ t is

-- an operation that was taken, by the name of its item
pub op_taken : (s t : ScriptData) (name : List ℕ) (deed : Deed) → adds_op s name deed ≡ Ok t → TakesOp s t deed
op_taken s t name deed is = op_at_taken s t (place_of name s.items) deed (if_taken (is_in_range s.form deed) _ _ t is)
