-- From one stage of a generated transaction to the next, by what the code has for its kind, its nodes and its draws.
use Rattle.std.proofs.Common.{◌≡◌, ◌/◌, ◌%◌, ◌<◌, ◌≤◌, ◌∙◌, List, ℕ, suc, sym, ap, subst}
use Rattle.std.specs.Prelude.{Some}
use Rattle.tv_base.specs.declared.numbers.NodeNo.{NodeNo}
use Rattle.tx_trees.specs.Adding.{place_of, with_op, with_sub, with_tree}
use Rattle.tx_trees.specs.Passing.{MayAddOp, MayAddSub, MayAddTree}
use Rattle.tx_trees.specs.ScriptData.{ScriptData}
use Rattle.tx_trees.specs.declared.parts.ItemRow.{ItemRow}
use Rattle.tx_trees.specs.declared.parts.TreeKind.{TreeKind}
use Rattle.script_gen.specs.Draws.{after_draws}
use Rattle.tv_base.specs.Draws.{next_draw, upper_bits}
use Rattle.script_gen.specs.Generated.{amount_by, deed_by, home_by, item_by, generated_item_name, kind_by, node_by, own_draw, parent_by, tree_name, tree_with}
use Rattle.script_gen.specs.inside.Within.{HasRoomForTree, bare_tree, with_begun}
use Rattle.script_gen.proofs.Items.{item_found}
use Rattle.script_gen.proofs.Trees.{item_less, next_op_may, next_sub_may, node_is, op_added, parent_is, sub_added, tree_begun, tree_may}

abbrev at_node : ℕ → NodeNo
at_node n = record { 0 = n }

pub begin_may : (s : ScriptData) (j x home : ℕ) (kind : TreeKind) → HasRoomForTree j s → kind ≡ kind_by (own_draw x) → home ≡ home_by (own_draw x)
    → MayAddTree s (tree_name j) kind (at_node home)
begin_may s j x home kind room is at =
    subst (λ (k : TreeKind). MayAddTree s (tree_name j) k (at_node home)) (sym is)
    (subst (λ (n : ℕ). MayAddTree s (tree_name j) (kind_by (own_draw x)) (at_node n)) (sym at) (tree_may s j (own_draw x) room))

pub begun : (s now : ScriptData) (j x home : ℕ) (kind : TreeKind) → HasRoomForTree j s → kind ≡ kind_by (own_draw x) → home ≡ home_by (own_draw x)
    → now ≡ with_tree s (tree_name j) kind (at_node home) → now ≡ with_begun s j (bare_tree j x 0)
begun s now j x home kind room is at made =
    made
    ∙ ap (λ (k : TreeKind). with_tree s (tree_name j) k (at_node home)) is
    ∙ ap (λ (n : ℕ). with_tree s (tree_name j) (kind_by (own_draw x)) (at_node n)) at
    ∙ tree_begun s j x room

pub op_may_now : (s now : ScriptData) (j x n node e : ℕ) (kind : TreeKind) → HasRoomForTree j s → n ≤ 3 → now ≡ with_begun s j (bare_tree j x n)
    → kind ≡ kind_by (own_draw x) → node ≡ node_by (home_by (own_draw x)) n e → e ≡ upper_bits (after_draws (suc n) (next_draw x))
    → MayAddOp now (item_by node e) (deed_by kind (item_by node e) (amount_by e))
op_may_now s now j x n node e kind room few made is at drawn =
    subst (λ (t : ScriptData). MayAddOp t (item_by node e) (deed_by kind (item_by node e) (amount_by e))) (sym made)
    (subst (λ (k : TreeKind). MayAddOp (with_begun s j (bare_tree j x n)) (item_by node e) (deed_by k (item_by node e) (amount_by e))) (sym is)
    (subst (λ (m : ℕ). MayAddOp (with_begun s j (bare_tree j x n)) (item_by m e) (deed_by (kind_by (own_draw x)) (item_by m e) (amount_by e))) (sym at)
    (next_op_may s j x n e room few drawn)))

pub op_named : (s now : ScriptData) (j x n node e : ℕ) → HasRoomForTree j s → now ≡ with_begun s j (bare_tree j x n) → node ≡ node_by (home_by (own_draw x)) n e
    → place_of (generated_item_name (item_by node e)) now.items ≡ Some (item_by node e)
op_named s now j x n node e room made at =
    ap (λ (t : ScriptData). place_of (generated_item_name (item_by node e)) t.items) made
    ∙ ap (λ (is : List ItemRow). place_of (generated_item_name (item_by node e)) is) room.items
    ∙ item_found (item_by node e) (subst (λ (m : ℕ). item_by m e < 32) (sym at) (item_less (own_draw x) n e))

pub op_made : (s now new : ScriptData) (j x n node e : ℕ) (kind : TreeKind) → now ≡ with_begun s j (bare_tree j x n) → kind ≡ kind_by (own_draw x)
    → node ≡ node_by (home_by (own_draw x)) n e → e ≡ upper_bits (after_draws (suc n) (next_draw x))
    → new ≡ with_op now (item_by node e) (deed_by kind (item_by node e) (amount_by e)) → new ≡ with_begun s j (tree_with j x (suc n))
op_made s now new j x n node e kind made is at drawn added =
    added
    ∙ ap (λ (t : ScriptData). with_op t (item_by node e) (deed_by kind (item_by node e) (amount_by e))) made
    ∙ ap (λ (k : TreeKind). with_op (with_begun s j (bare_tree j x n)) (item_by node e) (deed_by k (item_by node e) (amount_by e))) is
    ∙ ap (λ (m : ℕ). with_op (with_begun s j (bare_tree j x n)) (item_by m e) (deed_by (kind_by (own_draw x)) (item_by m e) (amount_by e))) at
    ∙ op_added s j x n e drawn

pub sub_may_now : (s now : ScriptData) (j x n node e : ℕ) → HasRoomForTree j s → 0 < n → n ≤ 3 → now ≡ with_begun s j (tree_with j x n) → node ≡ e / 64 % 4
    → MayAddSub now (e % n) (at_node node)
sub_may_now s now j x n node e room some few made at =
    subst (λ (t : ScriptData). MayAddSub t (e % n) (at_node node)) (sym made)
    (subst (λ (p : ℕ). MayAddSub (with_begun s j (tree_with j x n)) p (at_node node)) (sym (parent_is n e some))
    (subst (λ (m : ℕ). MayAddSub (with_begun s j (tree_with j x n)) (parent_by n e) (at_node m)) (sym (at ∙ node_is (home_by (own_draw x)) n e some))
    (next_sub_may s j x n e room some few)))

pub sub_made : (s now new : ScriptData) (j x n node e : ℕ) → 0 < n → now ≡ with_begun s j (tree_with j x n) → node ≡ e / 64 % 4
    → e ≡ upper_bits (after_draws (suc n) (next_draw x)) → new ≡ with_sub now (e % n) (at_node node) → new ≡ with_begun s j (bare_tree j x n)
sub_made s now new j x n node e some made at drawn added =
    added
    ∙ ap (λ (t : ScriptData). with_sub t (e % n) (at_node node)) made
    ∙ ap (λ (p : ℕ). with_sub (with_begun s j (tree_with j x n)) p (at_node node)) (parent_is n e some)
    ∙ ap (λ (m : ℕ). with_sub (with_begun s j (tree_with j x n)) (parent_by n e) (at_node m)) (at ∙ node_is (home_by (own_draw x)) n e some)
    ∙ ap (λ (g : ℕ). with_sub (with_begun s j (tree_with j x n)) (parent_by n g) (at_node (node_by (home_by (own_draw x)) n g))) drawn
    ∙ sub_added s j x n
