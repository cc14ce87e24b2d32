-- A record that meets no condition of refusal is taken.
use Rattle.std.proofs.Common.{◌≡◌, ◌<◌, ℕ, true, false, List, refl}
use Rattle.std.specs.Prelude.{Some, Ok}
use Rattle.std.proofs.lemmas.Bool.{lt-leb}
use Rattle.tv_base.specs.declared.numbers.NodeNo.{NodeNo}
use Rattle.script_parts.specs.Adding.{adds_fail, are_crowded, is_heavy, last_may_fail, last_subs, with_failed, adds_item, adds_op, adds_sub, adds_tree, place_of, with_item, with_op, with_sub, with_tree}
use Rattle.script_parts.specs.inside.Passing.{MayAddItem, MayAddOp, MayAddSub, MayAddTree}
use Rattle.script_parts.specs.ScriptData.{ScriptData}
use Rattle.script_parts.specs.declared.parts.Deed.{Deed}
use Rattle.script_parts.specs.declared.parts.ItemRow.{ItemRow}
use Rattle.script_parts.specs.declared.parts.TreeKind.{TreeKind}

pub item_passes : (s : ScriptData) (r : ItemRow) → MayAddItem s r → adds_item s r ≡ Ok (with_item s r)
item_passes s r m = rw (m.place, m.start, m.plain, m.free, m.room) refl

pub tree_passes : (s : ScriptData) (name : List ℕ) (kind : TreeKind) (node : NodeNo) → MayAddTree s name kind node → adds_tree s name kind node ≡ Ok (with_tree s name kind node)
tree_passes s name kind node m = rw (m.place, m.plain, m.free, m.room) refl

pub sub_passes : (s : ScriptData) (parent : ℕ) (node : NodeNo) → MayAddSub s parent node → adds_sub s parent node ≡ Ok (with_sub s parent node)
sub_passes s parent node m = rw (m.place, m.begun, m.earlier, m.room) refl

pub fail_passes : (s : ScriptData) (k : ℕ) → s.begun ≡ true → k < last_subs s.trees → last_may_fail s.trees ≡ true → are_crowded (with_failed s k).trees ≡ false → is_heavy (with_failed s k) ≡ false
    → adds_fail s k ≡ Ok (with_failed s k)
fail_passes s k begun earlier adds room light = rw (begun, lt-leb (last_subs s.trees) k earlier, adds, room, light) refl

pub op_passes : (s : ScriptData) (name : List ℕ) (k : ℕ) (deed : Deed) → place_of name s.items ≡ Some k → MayAddOp s k deed → adds_op s name deed ≡ Ok (with_op s k deed)
op_passes s name k deed place m = rw (m.range, place, m.begun, m.node, m.kind, m.room, m.load, m.once) refl
