-- Whether an act may come, by the tallies.
use Rattle.std.specs.Prelude.{if◌then◌else◌, ℕ, Bool, true, false, not, ◌+◌, ◌==◌, ◌&&◌, ◌||◌, nat_le, nat_lt, List, length, get_or, Option, Some, None, is_none, is_some, slice_get}
use Rattle.std.specs.List.{list_all}
use Rattle.tv_base.specs.declared.numbers.ItemNo.{ItemNo}
use Rattle.tv_base.specs.declared.numbers.TreeNo.{TreeNo}
use Rattle.commute_ops.specs.declared.value.Value.{Value}
use Rattle.letter_types.specs.declared.acts.Act.{Act}
use Rattle.letter_types.specs.declared.acts.Act.TheVariants.{Born, Did, Turned, Showed, Swept, Finished, Waits, Voted, Freed, Decided, Applied}
use Rattle.script_parts.specs.ScriptData.{is_strict, is_update, visits}
use Rattle.script_parts.specs.declared.parts.Sub.{Sub}
use Rattle.script_parts.specs.declared.parts.Tree.{Tree}
use Rattle.script_parts.specs.declared.parts.TreeKind.{TreeKind}
use Rattle.script_parts.specs.declared.parts.TreeKind.TheVariants as kinds
use Rattle.board_tallies.specs.Board.{BoardData, is_whole_by, marked_to, numbers_at}
use Rattle.board_tallies.specs.inside.Pending.{none_to}
use Rattle.board_tallies.specs.declared.numbers.Numbers.{Numbers}
use Rattle.board_tallies.specs.declared.pending.Pending.{Pending}
use Rattle.board_tallies.specs.declared.states.TreeState.{TreeState}

-- subtransaction k is there, at node p
abbrev pub runs_at : List Sub → ℕ → ℕ → Bool
runs_at subs k p = elim (slice_get subs k) [ Some sub ↦ sub.node.0 == p | None ↦ false ]

-- subtransaction k is there, at node p, and may have its turn: it hasn't had it, and it is the root or its parent has
abbrev pub takes_turn : List Sub → List Bool → ℕ → ℕ → Bool
takes_turn subs had k p =
    elim (slice_get subs k) [
      | Some sub ↦ (sub.node.0 == p) && ((k == 0) || get_or had sub.parent.0 false) && not (get_or had k false)
      | None ↦ false
    ]

-- the version that a transaction of this kind takes at a node of these numbers
abbrev pub takes_version : TreeKind → Numbers → ℕ → Bool
takes_version kinds.Update n v = v == n.update.0
takes_version kinds.Read n v = v == n.read.0
takes_version kinds.Strict n v = (v == n.update.0) && (v == n.read.0 + 1)

-- the tests of acts at node p, whose numbers are n, that are of a transaction in this state: it isn't born, and its
-- home is the node
abbrev pub may_begin : Tree → TreeState → ℕ → Bool
may_begin tree st p = runs_at tree.subs 0 p && is_none st.born

abbrev pub may_bear : Tree → TreeState → Numbers → ℕ → ℕ → Bool
may_bear tree st n p v = may_begin tree st p && takes_version tree.kind n v

-- its update and read versions are these, and not one after the other
abbrev pub are_apart : Numbers → ℕ → ℕ → Bool
are_apart n u r = (u == n.update.0) && (r == n.read.0) && not (u == r + 1)

abbrev pub may_wait : Tree → TreeState → Numbers → ℕ → ℕ → ℕ → Bool
may_wait tree st n p u r =
    is_strict tree.kind && may_begin tree st p && are_apart n u r

abbrev pub may_do : Tree → TreeState → ℕ → ℕ → List (ItemNo × Value) → Bool
may_do tree st p k given =
    not (is_strict tree.kind) && is_some st.born && takes_turn tree.subs st.done k p
    && (not (is_update tree.kind) || (length given == 0))

abbrev pub may_vote : Tree → TreeState → ℕ → ℕ → Bool
may_vote tree st p k = is_strict tree.kind && is_some st.born && takes_turn tree.subs st.voted k p

abbrev pub may_free : Tree → TreeState → ℕ → Bool
may_free tree st p =
    is_update tree.kind && visits tree.subs p && is_whole_by tree st && not (get_or st.freed p false)

abbrev pub may_decide : Tree → TreeState → ℕ → Bool → Bool
may_decide tree st p commit =
    is_strict tree.kind && runs_at tree.subs 0 p && marked_to (length tree.subs) st.voted
    && not (st.committed || st.aborted)
    && (if commit then marked_to (length tree.subs) st.yes else not (marked_to (length tree.subs) st.yes))

abbrev pub may_apply_at : Tree → TreeState → ℕ → Bool → Bool
may_apply_at tree st p commit =
    is_strict tree.kind && visits tree.subs p && (if commit then st.committed else st.aborted)
    && not (get_or st.applied p false)

abbrev pub may_by_tree : Tree → TreeState → Numbers → ℕ → Act → Bool
may_by_tree tree st n p (Born t v) = may_bear tree st n p v.0
may_by_tree tree st n p (Waits t u r) = may_wait tree st n p u.0 r.0
may_by_tree tree st n p (Did t k values) = may_do tree st p k.0 values
may_by_tree tree st n p (Voted t k vote) = may_vote tree st p k.0
may_by_tree tree st n p (Freed t) = may_free tree st p
may_by_tree tree st n p (Decided t commit) = may_decide tree st p commit
may_by_tree tree st n p (Applied t commit) = may_apply_at tree st p commit
may_by_tree tree st n p Finished = false
may_by_tree tree st n p _ = false

-- the tests of acts that raise a number of node p
abbrev pub may_turn : List Numbers → ℕ → ℕ → Bool
may_turn nodes p v =
    nat_lt p (length nodes) && (v == (numbers_at nodes p).update.0 + 1)
    && list_all (λ (n : Numbers). nat_le v (n.low.0 + 2)) nodes

abbrev pub may_show : List Numbers → List Pending → ℕ → ℕ → Bool
may_show nodes ps p v =
    nat_lt p (length nodes) && (v == (numbers_at nodes p).read.0 + 1)
    && list_all (λ (n : Numbers). nat_lt v n.update.0) nodes && none_to false v ps

abbrev pub may_sweep : List Numbers → List Pending → ℕ → ℕ → Bool
may_sweep nodes ps p v =
    nat_lt p (length nodes) && (v == (numbers_at nodes p).low.0 + 1)
    && list_all (λ (n : Numbers). nat_le v n.read.0) nodes && none_to true (numbers_at nodes p).low.0 ps

-- the others may always come
abbrev pub may_by_node : List Numbers → List Pending → ℕ → Act → Bool
may_by_node nodes ps p (Turned v) = may_turn nodes p v.0
may_by_node nodes ps p (Showed v) = may_show nodes ps p v.0
may_by_node nodes ps p (Swept v) = may_sweep nodes ps p v.0
may_by_node nodes ps p Finished = true
may_by_node nodes ps p _ = true

-- the transaction whose state has a say in the act
abbrev pub tree_of : Act → Option TreeNo
tree_of (Born t v) = Some t
tree_of (Waits t u r) = Some t
tree_of (Did t k values) = Some t
tree_of (Voted t k vote) = Some t
tree_of (Freed t) = Some t
tree_of (Decided t commit) = Some t
tree_of (Applied t commit) = Some t
tree_of Finished = None
tree_of _ = None

abbrev pub may_with : Option Tree → Option TreeState → Numbers → ℕ → Act → Bool
may_with None st n p act = false
may_with (Some tree) None n p act = false
may_with (Some tree) (Some st) n p act = may_by_tree tree st n p act

-- the act of node p may come
abbrev pub may_come : List Tree → BoardData → ℕ → Act → Bool
may_come ts b p act =
    elim (tree_of act) [
      | Some t ↦ may_with (slice_get ts t.0) (slice_get b.trees t.0) (numbers_at b.nodes p) p act
      | None ↦ may_by_node b.nodes b.pending p act
    ]
