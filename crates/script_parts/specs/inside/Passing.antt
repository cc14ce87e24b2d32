-- What a record that is taken meets: none of the conditions under which it is refused. These are the definitions that
-- private code alone cites.
use Rattle.std.specs.Prelude.{ℕ, true, false, ◌≡◌, ◌<◌, ◌+◌, ◌==◌, List, length, is_some, nat_le, nat_lt}
use Rattle.tv_base.specs.declared.numbers.NodeNo.{NodeNo}
use Rattle.script_parts.specs.Adding.{are_crowded, has_no_op_left, has_no_sub_left, has_no_tree_left, has_touched, is_heavy, item_kind_at, last_kind, last_may_fail, last_node, last_subs, last_tree_subs, names_tree, node_at, place_of, with_failed}
use Rattle.script_parts.specs.Amounts.{magnitude}
use Rattle.script_parts.specs.Forms.{most_amount}
use Rattle.script_parts.specs.Names.{is_name}
use Rattle.script_parts.specs.Ranges.{is_in_range, may_start}
use Rattle.script_parts.specs.ScriptData.{ScriptData}
use Rattle.script_parts.specs.Undone.{undone}
use Rattle.script_parts.specs.Valid.{deed_fits, load}
use Rattle.script_parts.specs.declared.parts.Deed.{Deed}
use Rattle.script_parts.specs.declared.parts.Form.TheVariants as forms
use Rattle.script_parts.specs.declared.parts.ItemRow.{ItemRow}
use Rattle.script_parts.specs.declared.parts.Sub.{Sub}
use Rattle.script_parts.specs.declared.parts.TreeKind.{TreeKind}

pub record MayAddItem (s : ScriptData) (row : ItemRow) : Type 0 where
  pub place : nat_le s.nodes row.node.0 ≡ false
  pub start : may_start s.form row.kind row.initial ≡ true
  pub plain : is_name row.name ≡ true
  pub free : is_some (place_of row.name s.items) ≡ false
  pub room : nat_le 10000 (length s.items) ≡ false

pub record MayAddTree (s : ScriptData) (name : List ℕ) (kind : TreeKind) (node : NodeNo) : Type 0 where
  pub place : nat_le s.nodes node.0 ≡ false
  pub plain : is_name name ≡ true
  pub free : names_tree name s.trees ≡ false
  pub room : has_no_tree_left s.nodes kind s.trees ≡ false

pub record MayAddSub (s : ScriptData) (parent : ℕ) (node : NodeNo) : Type 0 where
  pub place : nat_le s.nodes node.0 ≡ false
  pub begun : s.begun ≡ true
  pub earlier : nat_le (last_subs s.trees) parent ≡ false
  pub room : has_no_sub_left s.trees ≡ false

-- the last transaction may be compensated, and no number but its weight is against it
pub record MayUndo (s : ScriptData) (k : ℕ) (expanded : List Sub) : Type 0 where
  pub second : s.form ≡ forms.Two
  pub begun : s.begun ≡ true
  pub earlier : k < last_subs s.trees
  pub adds : last_may_fail s.trees ≡ true
  pub room : are_crowded (with_failed s k).trees ≡ false
  pub undone : expanded ≡ undone (last_tree_subs s.trees) k

pub record MayFail (s : ScriptData) (k : ℕ) : Type 0 where
  pub second : s.form ≡ forms.Two
  pub begun : s.begun ≡ true
  pub earlier : k < last_subs s.trees
  pub adds : last_may_fail s.trees ≡ true
  pub room : are_crowded (with_failed s k).trees ≡ false
  pub light : is_heavy (with_failed s k) ≡ false

pub record MayAddOp (s : ScriptData) (k : ℕ) (deed : Deed) : Type 0 where
  pub range : is_in_range s.form deed ≡ true
  pub item : k < length s.items
  pub begun : s.begun ≡ true
  pub node : (node_at k s.items == last_node s.trees) ≡ true
  pub kind : deed_fits (last_kind s.trees) (item_kind_at k s.items) deed ≡ true
  pub room : has_no_op_left k deed s.trees ≡ false
  pub load : nat_lt (most_amount s.form) (load k s + magnitude deed) ≡ false
  pub once : has_touched k s.trees ≡ false
